use Rattle.model.proofs.Laws.{step_continues}
use Rattle.chain.proofs.states.Chain.step.Goals as goal

pub returns-clause-run : goal.returns-clause-run
returns-clause-run g c =
    step_continues g.B.Bank.calls g.met.B.Bank.lawful g.S.Moving.moving _ _ _ c.step.ensures.state
