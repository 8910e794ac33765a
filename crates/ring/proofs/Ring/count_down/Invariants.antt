use Rattle.ring.proofs.Rings.{Passed}
use Rattle.ring.proofs.Ring.count_down.Given as goal

abbrev pub invariant-loop-i : goal.invariant-loop-i
invariant-loop-i g l = Passed g.T.Countdown.counted l.initial.self l.i l.self
