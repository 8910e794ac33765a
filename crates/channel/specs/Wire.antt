-- A wire: 32 places, and its first item is always ready. Its state is its items.
use Rattle.std.specs.Prelude.{ℕ, false, not, List, length, nat_lt}
use Rattle.ring.specs.Queue.{pushed, tail, empty}
use Rattle.symbol.specs.declared.Item.{Item}
use Rattle.channel.specs.Calls.{Calls}

abbrev pub wire_places : ℕ
wire_places = 32

abbrev pub wire : Calls (List Item)
wire = record {
  known = λ c. record { items = c; ready = not (empty c); space = nat_lt (length c) wire_places };
  loses = λ c i. false;
  put = pushed wire_places;
  take = tail;
  step = λ c. c;
}
