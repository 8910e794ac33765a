use Rattle.model.proofs.Laws.{collect_continues}
use Rattle.chain.proofs.states.Chain.collect.Goals as goal

pub returns-clause-run : goal.returns-clause-run
returns-clause-run g c =
    collect_continues g.B.Bank.calls g.met.B.Bank.lawful g.S.Moving.moving _ _ _ _ c.collect.ensures.state
