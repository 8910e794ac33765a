-- A gate: one item at a time, ready after a step, which notes every second item lost.
use Rattle.std.specs.Prelude.{Bool, true, false, cond, not, List, [], ◌∷◌}
use Rattle.symbol.specs.Symbols.{noted_lost}
use Rattle.symbol.specs.declared.Item.{Item}
use Rattle.channel.specs.Calls.{Calls}
use Rattle.gate.specs.declared.Gate.{Gate}
use Rattle.gate.specs.declared.Passage.{Passage}
use Rattle.gate.specs.declared.Passage.TheVariants.{Free, Entered, Through}

abbrev pub items : Passage → List Item
items Free = []
items (Entered i) = i ∷ []
items (Through i) = i ∷ []

abbrev pub is_free : Passage → Bool
is_free Free = true
is_free (Entered i) = false
is_free (Through i) = false

abbrev pub is_through : Passage → Bool
is_through Free = false
is_through (Entered i) = false
is_through (Through i) = true

-- an item enters a free gate
abbrev pub entered : Passage → Bool → Item → Gate
entered Free s i = record { passage = Entered i; second = not s }
entered (Entered j) s i = record { passage = Entered j; second = s }
entered (Through j) s i = record { passage = Through j; second = s }

-- an item that is through leaves
abbrev pub left : Passage → Passage
left Free = Free
left (Entered i) = Entered i
left (Through i) = Free

-- an item that entered comes through, and a second one is noted lost
abbrev pub passed : Passage → Bool → Passage
passed Free s = Free
passed (Entered i) s = Through (cond s (noted_lost i) i)
passed (Through i) s = Through i

abbrev pub open_gate : Gate
open_gate = record { passage = Free; second = true }

abbrev pub gate : Calls Gate
gate = record {
  known = λ g. record { items = items g.passage; ready = is_through g.passage; space = is_free g.passage };
  loses = λ g i. false;
  put = λ g i. entered g.passage g.second i;
  take = λ g. record { passage = left g.passage; second = g.second };
  step = λ g. record { passage = passed g.passage g.second; second = g.second };
}
