use Rattle.script.specs.Script.{state}
use Rattle.script.proofs.Parts.{lined}
use Rattle.script.proofs.cursor.Cursor.new.Goals as goal

pub returns : goal.returns
unfolding state
returns c = record { start = rw c.new.ensures; law = lined c.args.script.now }
