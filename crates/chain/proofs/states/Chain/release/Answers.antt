use Rattle.model.proofs.Laws.{release_continues}
use Rattle.chain.proofs.states.Chain.release.Goals as goal

pub returns-clause-run : goal.returns-clause-run
returns-clause-run g c =
    release_continues g.B.Bank.calls g.met.B.Bank.lawful g.S.Moving.moving _ _ _ _ _ c.release.ensures.state
