use Rattle.std.proofs.Common.{◌≤◌, length, Err, refl, ap, ◌∙◌, arith}
use Rattle.std.proofs.lemmas.Result.{err_from_is_err_and}
use Rattle.eventlog.specs.Format.{encode_all}
use Rattle.eventlog.specs.Sheet.{room}
use Rattle.model.specs.Chain.{answer, stepped}
use Rattle.model.proofs.Sizes.{step_fits}
use Rattle.chain.specs.View.{chain_of}
use Rattle.chain.proofs.Called.{refused_call, made_call}
use Rattle.chain.proofs.inner.Inner.step.Goals as goal

pub returns-in_err-check_step : goal.returns-in_err-check_step
returns-in_err-check_step g c =
    let p = err_from_is_err_and c.from_residual.result c.from_residual.ensures.1 in
    refused_call _ _ (λ o. answer o (tt {0})) _ _ _ _ (rw c.room.ensures at c.in_err-check_step.ensures.value)
    (p.1 ∙ ap Err p.2)

pub returns : goal.returns
returns g c =
    let M = g.B.Bank.calls in
    let self = chain_of g.B.Bank.model c.args.self.now in
    let asked = c.in_ok-check_step.ensures.fits in
    let left : length (encode_all (stepped M self).events) ≤ room c.args.sheet.now =
    omega (arith, step_fits M self, asked, c.room.ensures) in
    made_call _ _ (λ o. answer o (tt {0})) _ _ _ _ _ (rw c.room.ensures at c.in_ok-check_step.ensures.value) left
    (omega (arith, asked, c.room.ensures)) c.step_all.ensures.state c.step_all.ensures.log refl
