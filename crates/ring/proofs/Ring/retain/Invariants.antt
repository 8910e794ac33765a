use Rattle.std.proofs.Common.{◌≡◌, ◌++◌, take, drop}
use Rattle.std.specs.List.{filter}
use Rattle.ring.specs.Contents.{contents}
use Rattle.ring.proofs.Ring.retain.Given as goal

abbrev pub invariant-loop-turn : goal.invariant-loop-turn
invariant-loop-turn g l =
    let old = contents l.initial.self in
    contents l.self ≡ drop l._turn old ++ filter (g.Q.Test.passes l.test) (take l._turn old)
