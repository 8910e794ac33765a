use Rattle.std.proofs.Common.{refl, ◌∙◌, arith, rules}
use Rattle.std.proofs.lemmas.Iterator.{YieldsList-from_range}
use Rattle.std.proofs.lemmas.Iterator.Search.{all_from_yields_List}
use Rattle.channel.specs.Calls.{idle}
use Rattle.chain.proofs.Called.{all_idle_is}
use Rattle.chain.proofs.cabling.all_idle.Goals as goal

pub returns : goal.returns
returns g c =
    let M = g.B.Bank.calls in
    let bank = g.B.Bank.model c.args.bank.now in
    all_from_yields_List (λ d. idle (M.known bank d)) _ _ _ c.all.ensures.ran
    (YieldsList-from_range 0 c.args.count c.args.count refl (omega arith))
    (λ d b q e. (search rules, search rules))
    ∙ all_idle_is M bank c.args.count
