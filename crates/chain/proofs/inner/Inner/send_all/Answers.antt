use Rattle.std.proofs.Common.{ap, ◌∙◌, arith}
use Rattle.model.specs.Chain.{sends}
use Rattle.model.proofs.Links.{each_still, sends_still}
use Rattle.chain.specs.View.{chain_of}
use Rattle.chain.proofs.Acts.{each_more}
use Rattle.chain.proofs.inner.Inner.send_all.Goals as goal

pub loop-number-preserved : goal.loop-number-preserved
loop-number-preserved g c =
    each_more (sends g.B.Bank.calls) _ _ _ _ _ _ c.loop-number.number c.loop-number.invariant c.send.ensures

pub send-requires : goal.send-requires
send-requires g c =
    let M = g.B.Bank.calls in
    let start = chain_of g.B.Bank.model c.args.self.now in
    let links = ap (λ x. x.links) c.loop-number.invariant.state
    ∙ (each_still (sends M) (sends_still M) start c.loop-number.number).links in
    omega (arith, links)
