use Rattle.model.proofs.Laws.{every_run}
use Rattle.model.proofs.promises.laws_of_every_run.Goals as goal

pub returns : goal.returns
returns g c = every_run g.B.Bank.calls g.met.B.Bank.lawful (g.B.Bank.model c.args.bank.now)
