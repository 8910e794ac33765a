use Rattle.model.proofs.Laws.{login_continues}
use Rattle.chain.proofs.cabling.Chain+B+Cabled.login.Goals as goal

pub returns-clause-run : goal.returns-clause-run
returns-clause-run g c =
    let l = c.args.login in
    login_continues g.B.Bank.calls g.met.B.Bank.lawful _ _ l.link l.west l.east l.west_n l.east_n c.login.ensures.state
