use Rattle.std.proofs.Common.{ap}
use Rattle.model.proofs.Laws.{start_continues}
use Rattle.chain.specs.View.{chain_of}
use Rattle.chain.proofs.cabling.Chain+B+Cabled.start.Goals as goal

pub returns-clause-run : goal.returns-clause-run
returns-clause-run g c = start_continues g.B.Bank.calls g.met.B.Bank.lawful _ _
    (ap (chain_of g.B.Bank.model) c.in_state.ensures)
