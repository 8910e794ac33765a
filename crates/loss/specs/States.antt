-- The state of a loss script and of a layer, as the code keeps it.
use Rattle.std.specs.Prelude.{List}
use Rattle.ring.specs.Contents.{contents}
use Rattle.loss.specs.Loss.{Lossy}
use Rattle.loss.specs.declared.ScriptedLoss.{ScriptedLoss}
use Rattle.loss.specs.declared.script.LossEntry.{LossEntry}
use Rattle.loss.specs.declared.script.LossScript.{LossScript}

abbrev pub script_state : LossScript → List LossEntry
script_state s = contents s.entries

-- a layer, by the state of the channel below
abbrev pub lossy_state : {C M : Type 0} → (C → M) → ScriptedLoss C → Lossy M
lossy_state f l = record { below = f l.below; entries = script_state l.script; counts = l.counts }
