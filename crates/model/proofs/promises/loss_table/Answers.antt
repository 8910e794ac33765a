use Rattle.model.proofs.Computed.{loss_table}
use Rattle.model.proofs.promises.loss_table.Goals as goal

pub returns : goal.returns
returns c = loss_table
