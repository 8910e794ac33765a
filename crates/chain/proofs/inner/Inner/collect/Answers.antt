use Rattle.std.proofs.Common.{refl, arith, rules}
use Rattle.chain.proofs.Called.{made_collect}
use Rattle.chain.proofs.inner.Inner.collect.Goals as goal

pub returns : goal.returns
returns g c =
    made_collect g.B.Bank.calls _ _ _ _ _ _ _ _ (rw c.room.ensures at c.in_ok-frame.ensures.value)
    (omega (arith, c.in_ok-frame.ensures.fits, c.room.ensures)) (search rules) (search rules) refl
