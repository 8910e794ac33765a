-- Scripted loss: a layer over any channel that notes the puts lost which its script names.
use Rattle.std.specs.Prelude.{Bool, cond, ◌||◌, List}
use Rattle.symbol.specs.Symbols.{kind_of, noted_lost}
use Rattle.symbol.specs.declared.Item.{Item}
use Rattle.channel.specs.Calls.{Calls}
use Rattle.loss.specs.Counts.{counted, next, nothing_counted}
use Rattle.loss.specs.Script.{names}
use Rattle.loss.specs.declared.counts.PutCounts.{PutCounts}
use Rattle.loss.specs.declared.script.LossEntry.{LossEntry}

-- the channel below, the entries of the script, and the counts of accepted puts
pub record Lossy (C : Type 0) : Type 0 where
  pub below : C
  pub entries : List LossEntry
  pub counts : PutCounts

-- a layer that has counted no put yet
abbrev pub started : {C : Type 0} → C → List LossEntry → Lossy C
started b es = record { below = b; entries = es; counts = nothing_counted }

abbrev pub with_below : {C : Type 0} → Lossy C → C → Lossy C
with_below c b = record { below = b; entries = c.entries; counts = c.counts }

-- the script names the next put of the item's letter
abbrev pub named : {C : Type 0} → Lossy C → Item → Bool
named c i = names c.entries (kind_of i.symbol) (next c.counts (kind_of i.symbol))

-- the item that the channel below is given
abbrev pub given : {C : Type 0} → Lossy C → Item → Item
given c i = cond (named c i) (noted_lost i) i

-- all calls are those of the channel below, but for what a put gives it and counts when accepted
abbrev pub lossy : {C : Type 0} → Calls C → Calls (Lossy C)
lossy m = record {
  known = λ c. m.known c.below;
  loses = λ c i. named c i || m.loses c.below (given c i);
  put = λ c i. record {
    below = m.put c.below (given c i);
    entries = c.entries;
    counts = cond (m.known c.below).space (counted c.counts (kind_of i.symbol)) c.counts;
  };
  take = λ c. with_below c (m.take c.below);
  step = λ c. with_below c (m.step c.below);
}
