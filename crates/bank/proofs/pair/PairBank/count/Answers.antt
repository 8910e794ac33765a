use Rattle.std.proofs.Common.{arith}
use Rattle.bank.specs.Routes.{pair_count}
use Rattle.bank.proofs.pair.PairBank.count.Goals as goal

pub returns : goal.returns
returns g c =
    let a = g.P.Bank.model c.args.self.now.first in
    let b = g.Q.Bank.model c.args.self.now.second in
    omega (arith, pair_count (g.P.Bank.calls.letters a) (g.Q.Bank.calls.letters b))
