use Rattle.ring.proofs.Rings.{ring_rest}
use Rattle.ring.proofs.Ring.pop.Goals as goal

pub returns-then-self-gt0-clause-state : goal.returns-then-self-gt0-clause-state
returns-then-self-gt0-clause-state g c =
    ring_rest c.args.self.now c.place-self.result c.if-self-gt0.true c.place-self.ensures
