use Rattle.std.proofs.Common.{[], ◌∷◌, subst}
use Rattle.eventlog.specs.Sheet.{Logs}
use Rattle.eventlog.specs.declared.event.Event.TheVariants.{Tick}
use Rattle.model.specs.Chain.{Chain}
use Rattle.chain.proofs.Acts.{step_acted}
use Rattle.chain.proofs.inner.Inner.step_all.Goals as goal

pub returns : goal.returns
returns g c =
    let P : Chain g.B.Bank.Model → Type 0 = λ w. Logs c.args.sheet.now (Tick w.tick ∷ []) c.write.new.self in
    step_acted g.B.Bank.calls _ _ _ _ _ _ _ _
    (record { state = c.next_tick.ensures; log = subst P c.next_tick.ensures c.write.ensures })
    c.take_all.ensures c.send_all.ensures
