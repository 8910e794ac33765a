use Rattle.std.proofs.Common.{codes, arith, rules}
use Rattle.std.proofs.lemmas.Slice.Eq.{text_from_reads}
use Rattle.script.proofs.command.KeywordTryFromRefSliceU8.try_from.Goals as goal

pub returns-in-inject : goal.returns-in-inject
returns-in-inject c = rw (text_from_reads c.args.text.now (codes "inject") (omega arith) (search rules))

pub returns-in-collect : goal.returns-in-collect
returns-in-collect c = rw (text_from_reads c.args.text.now (codes "collect") (omega arith) (search rules))
