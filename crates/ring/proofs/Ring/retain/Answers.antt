use Rattle.std.proofs.Common.{◌<◌, ◌≤◌, length, sym, ap, ◌∙◌, arith}
use Rattle.ring.specs.Contents.{contents}
use Rattle.ring.specs.Queue.{pushed}
use Rattle.ring.proofs.Rings.{ring_length}
use Rattle.ring.proofs.Turns.{turn_kept, turn_dropped, turn_some, turns_all}
use Rattle.ring.proofs.Ring.retain.Goals as goal
use Rattle.ring.proofs.Ring.retain.Goals.{in-Some+then-passes, in-Some+else-passes, in_default}

pub returns : goal.returns
returns g c =
    let p = g.Q.Test.passes c.args.test.now in
    let old = contents c.args.self.now in
    c.loop-turn.invariant
    ∙ turns_all p old c.loop-turn._turn (omega (arith, ring_length c.args.self.now))

pub loop-turn-preserved : goal.loop-turn-preserved
loop-turn-preserved g c =
    let p = g.Q.Test.passes c.args.test.now in
    let old = contents c.args.self.now in
    let now = contents c.loop-turn.self in
    let k = c.loop-turn._turn in
    let inv = c.loop-turn.invariant in
    let l : k < length old = omega (arith, ring_length c.args.self.now) in
    let size : length now ≤ g.row.N = omega (arith, ring_length c.loop-turn.self) in
    let first = sym c.pop.ensures.answer in
    elim c.match-pop.branch [
      | in-Some+then-passes w ↦
          ap contents w.self-is
          ∙ w.push.ensures.state
          ∙ ap (λ xs. pushed g.row.N xs w.in-Some.oldest) c.pop.ensures.state
          ∙ turn_kept p old now k l inv g.row.N w.in-Some.oldest size (first ∙ w.in-Some.is)
          (sym w.passes.ensures ∙ w.if-passes.true)
      | in-Some+else-passes w ↦
          ap contents w.self-is
          ∙ c.pop.ensures.state
          ∙ turn_dropped p old now k l inv w.in-Some.oldest (first ∙ w.in-Some.is)
          (sym w.passes.ensures ∙ w.if-passes.false)
      | in_default w ↦ absurd (turn_some p old now k l inv (first ∙ w.in_default.is))
    ]
