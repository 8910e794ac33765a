use Rattle.model.proofs.Laws.{inject_continues}
use Rattle.chain.proofs.running.Chain+B+Running.inject.Goals as goal

pub returns-clause-run : goal.returns-clause-run
returns-clause-run g c =
    inject_continues g.B.Bank.calls g.met.B.Bank.lawful _ _ _ _ c.inject.ensures.state
