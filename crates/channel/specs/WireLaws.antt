-- A wire keeps the laws of a channel.
use Rattle.std.specs.Prelude.{◌≡◌, false, not, List, [], ◌∷◌, refl}
use Rattle.std.proofs.Common.{ap}
use Rattle.std.proofs.lemmas.Bool.{cond-true, cond-false, true≢false, not-true}
use Rattle.channel.specs.Calls.{Lawful}
use Rattle.ring.specs.Queue.{empty, tail}
use Rattle.channel.specs.Wire.{wire, wire_places}
use Rattle.symbol.specs.declared.Item.{Item}
use Rattle.channel.specs.Queues.{aged_same, empty_idle, pushed_some}

take_empty : (c : List Item) → not (empty c) ≡ false → tail c ≡ c
take_empty [] e = refl
take_empty (x ∷ xs) e = absurd (true≢false e)

pub wire_lawful : (c : List Item) → Lawful wire c
wire_lawful c = record {
  put_full = λ i e. cond-false _ _ _ e;
  put_last = λ i e. cond-true _ _ _ e;
  put_ready = λ i e. ap not (pushed_some wire_places c i (not-true (empty c) e));
  take_none = take_empty c;
  take_first = λ e. refl;
  step_items = aged_same c;
  step_ready = λ e. e;
  ready_some = λ e. not-true (empty c) e;
  idle_space = empty_idle wire_places c refl;
}
