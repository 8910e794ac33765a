use Rattle.model.proofs.Sizes.{calls_fit}
use Rattle.model.proofs.promises.calls_fit.Goals as goal

pub returns : goal.returns
returns g c = calls_fit g.B.Bank.calls
