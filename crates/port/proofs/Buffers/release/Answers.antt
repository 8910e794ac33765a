use Rattle.std.proofs.Common.{length, sym, ap, ◌∙◌, arith, rules}
use Rattle.ring.specs.Contents.{contents}
use Rattle.port.proofs.Numbers.{fewer_without, retained}
use Rattle.port.proofs.Buffers.release.Goals as goal

pub invariant_of-self-clause-kept : goal.invariant_of-self-clause-kept
invariant_of-self-clause-kept c =
    let k = c.args.number in
    let out = contents c.args.self.now.out in
    let is = c.retain.ensures ∙ retained k out in
    omega (arith, ap length is, fewer_without k out (sym c.if-is_out.ensures))

pub returns-then-is_out : goal.returns-then-is_out
returns-then-is_out c =
    let k = c.args.number in
    let is = c.retain.ensures ∙ retained k (contents c.args.self.now.out) in
    search (rules, is)
