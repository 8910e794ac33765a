use Rattle.ring.proofs.Rings.{Passed}
use Rattle.ring.proofs.Ring.update.Given as goal

abbrev pub invariant-loop-i : goal.invariant-loop-i
invariant-loop-i g l = Passed (g.C.Change.changed l.change) l.initial.self l.i l.self
