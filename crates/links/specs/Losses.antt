-- Loss scripts by the number of their direction.
use Rattle.std.specs.Prelude.{ℕ, Bool, ◌&&◌, List, [], map, length, nat_lt, slice_index_or, slice_set}
use Rattle.ring.specs.Queue.{pushed}
use Rattle.loss.specs.Script.{entries_kept}
use Rattle.loss.specs.States.{script_state}
use Rattle.loss.specs.declared.script.LossEntry.{LossEntry}
use Rattle.links.specs.declared.losses.Losses.{Losses}

-- as many as the longest chain has
abbrev pub directions_scripted : ℕ
directions_scripted = 6

abbrev pub losses_state : Losses → List (List LossEntry)
losses_state l = map script_state l.scripts

-- the entries for a direction
abbrev pub script_at : List (List LossEntry) → ℕ → List LossEntry
script_at ss d = slice_index_or ss d []

-- one more entry for a direction, if its script keeps it; nothing where there is no such direction
abbrev pub with_loss : List (List LossEntry) → ℕ → LossEntry → List (List LossEntry)
with_loss ss d e = slice_set ss d (pushed entries_kept (script_at ss d) e)

-- the direction's script keeps one more entry
abbrev pub keeps_loss : List (List LossEntry) → ℕ → Bool
keeps_loss ss d = nat_lt d directions_scripted && nat_lt (length (script_at ss d)) entries_kept
