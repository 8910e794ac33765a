use Rattle.model.proofs.Laws.{every_run}
use Rattle.chain.proofs.cabling.cable.Goals as goal

pub returns-clause-laws : goal.returns-clause-laws
returns-clause-laws g c = every_run g.B.Bank.calls g.met.B.Bank.lawful (g.B.Bank.model c.args.bank)
