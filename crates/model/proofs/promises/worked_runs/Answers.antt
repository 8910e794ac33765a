use Rattle.model.proofs.Computed.{six_steps_out, three_made_good, sixteen_missing}
use Rattle.model.proofs.promises.worked_runs.Goals as goal

pub returns : goal.returns
returns c = record { six_steps = six_steps_out; three = three_made_good; sixteen = sixteen_missing }
