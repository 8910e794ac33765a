use Rattle.std.proofs.Common.{refl, arith, rules}
use Rattle.model.specs.Chain.{answer}
use Rattle.chain.proofs.Called.{made_call}
use Rattle.chain.proofs.inner.Inner.inject.Goals as goal

pub returns : goal.returns
returns g c =
    let asked = c.in_ok-check_inject.ensures.fits in
    made_call _ _ (λ o. answer o (tt {0})) _ _ _ _ _ (rw c.room.ensures at c.in_ok-check_inject.ensures.value)
    (omega (arith, asked, c.room.ensures)) (omega (arith, asked, c.room.ensures)) (search rules) (search rules) refl
