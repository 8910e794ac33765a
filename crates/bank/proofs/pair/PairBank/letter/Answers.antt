use Rattle.std.proofs.Common.{refl}
use Rattle.bank.specs.Routes.{pair_letter}
use Rattle.bank.proofs.pair.PairBank.letter.Goals as goal

pub returns-in-First : goal.returns-in-First
returns-in-First g c =
    let a = g.P.Bank.model c.args.self.now.first in
    let b = g.Q.Bank.model c.args.self.now.second in
    pair_letter g.P.Bank.calls g.Q.Bank.calls a b _ _ _ (g.met.P.Bank.lawful a).most
    c.in-First.ensures c.letter.ensures

pub returns-in-Second : goal.returns-in-Second
returns-in-Second g c =
    let a = g.P.Bank.model c.args.self.now.first in
    let b = g.Q.Bank.model c.args.self.now.second in
    pair_letter g.P.Bank.calls g.Q.Bank.calls a b _ _ _ (g.met.P.Bank.lawful a).most
    c.in-Second.ensures c.letter-in-Second.ensures

pub returns-in-Nowhere : goal.returns-in-Nowhere
returns-in-Nowhere g c =
    let a = g.P.Bank.model c.args.self.now.first in
    let b = g.Q.Bank.model c.args.self.now.second in
    pair_letter g.P.Bank.calls g.Q.Bank.calls a b _ _ _ (g.met.P.Bank.lawful a).most
    c.in-Nowhere.ensures refl
