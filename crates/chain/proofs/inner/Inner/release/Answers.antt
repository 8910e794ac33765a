use Rattle.std.proofs.Common.{ℕ, Result, refl, ap, ◌∙◌, arith, rules}
use Rattle.bank.specs.Bank.{BankCalls}
use Rattle.model.specs.Chain.{Chain, answer, release_refusal}
use Rattle.model.specs.declared.Refusal.{Refusal}
use Rattle.chain.specs.Calls.{handed_back}
use Rattle.chain.specs.View.{chain_of}
use Rattle.chain.specs.declared.token.Token.{Token}
use Rattle.chain.proofs.Called.{refused_call, made_call}
use Rattle.chain.proofs.inner.Inner.release.Goals as goal

-- what the check answers of a token, by the bytes left
abbrev checked : {B : Type 0} → BankCalls B → Chain B → Token → ℕ → Result (Unit {0}) Refusal
checked M c t n = answer (release_refusal M c t.end t.frame.number n) (tt {0})

pub returns-in-Err : goal.returns-in-Err
returns-in-Err g c =
    let t = c.args.token in
    let of_room = ap (checked g.B.Bank.calls (chain_of g.B.Bank.model c.args.self.now) t) c.room.ensures in
    refused_call _ _ (handed_back t) _ _ _ _ (c.in-Err.ensures.value ∙ of_room) refl

pub returns : goal.returns
returns g c =
    let t = c.args.token in
    let of_room = ap (checked g.B.Bank.calls (chain_of g.B.Bank.model c.args.self.now) t) c.room.ensures in
    let asked = c.in_default.ensures.fits in
    made_call _ _ (handed_back t) _ _ _ _ _ (c.in_default.ensures.value ∙ of_room)
    (omega (arith, asked, c.room.ensures)) (omega (arith, asked, c.room.ensures)) (search rules) (search rules) refl
