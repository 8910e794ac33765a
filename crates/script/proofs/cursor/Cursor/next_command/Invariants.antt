use Rattle.std.proofs.Common.{◌≡◌, length}
use Rattle.script.specs.Script.{next, state}
use Rattle.script.proofs.cursor.Cursor.next_command.Given as goal

abbrev pub invariant-lines : goal.invariant-lines
invariant-lines l = next (state l.self) ≡ next (state l.initial.self)

abbrev pub decreases-lines : goal.decreases-lines
decreases-lines l = length (state l.self).ahead
