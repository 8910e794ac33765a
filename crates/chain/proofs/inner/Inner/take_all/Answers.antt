use Rattle.model.specs.Chain.{takes}
use Rattle.chain.proofs.Acts.{each_more}
use Rattle.chain.proofs.inner.Inner.take_all.Goals as goal

pub loop-number-preserved : goal.loop-number-preserved
loop-number-preserved g c =
    each_more (takes g.B.Bank.calls) _ _ _ _ _ _ c.loop-number.number c.loop-number.invariant c.take.ensures
