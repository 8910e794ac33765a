use Rattle.model.specs.Chain.{each_port, sends}
use Rattle.chain.specs.Acts.{Acted}
use Rattle.chain.specs.View.{chain_of}
use Rattle.chain.proofs.inner.Inner.send_all.Given as goal

-- the ports below this number have had their turn
abbrev pub invariant-loop-number : goal.invariant-loop-number
invariant-loop-number g l =
    Acted (each_port (sends g.B.Bank.calls) l.number (chain_of g.B.Bank.model l.initial.self)) l.initial.sheet
    (chain_of g.B.Bank.model l.self) l.sheet
