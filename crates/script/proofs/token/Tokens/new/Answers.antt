use Rattle.std.proofs.Common.{refl}
use Rattle.script.specs.Tokens.{left}
use Rattle.script.proofs.Parts.{parted}
use Rattle.script.proofs.token.Tokens.new.Goals as goal

pub returns : goal.returns
unfolding left
returns c = record { tokens = refl; law = parted 1 c.args.text.now }
