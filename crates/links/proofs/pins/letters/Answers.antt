use Rattle.std.proofs.Common.{ap₂, rules}
use Rattle.bank.specs.States.{both}
use Rattle.bank.specs.Bank.{letter_at}
use Rattle.links.proofs.Letters.{made}
use Rattle.links.proofs.pins.letters.Goals as goal

pub returns : goal.returns
returns g c =
    let b = g.B.Bank.model c.args.bank.now in
    let at = letter_at g.B.Bank.calls b in
    let m =
    made _ _ at g.row.N (λ i y q l k. search rules) c.from_fn.result 0 c.from_fn.ensures.items in
    ap₂ both c.count.ensures m
