use Rattle.std.proofs.Common.{◌≡◌, length}
use Rattle.script.specs.Script.{state, started, commands, ends}
use Rattle.script.proofs.reading.check.Given as goal

abbrev pub invariant-commands : goal.invariant-commands
invariant-commands l = ends (commands (state l.cursor)) ≡ ends (commands (started l.script))

abbrev pub decreases-commands : goal.decreases-commands
decreases-commands l = length (state l.cursor).ahead
