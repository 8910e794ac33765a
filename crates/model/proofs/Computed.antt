-- The worked runs, computed.
use Rattle.std.proofs.Common.{ℕ, zero, suc, refl}
use Rattle.bank.specs.Bank.{BankCalls}
use Rattle.links.specs.Links.{one_link, three_links}
use Rattle.port.specs.Port.{Turn}
use Rattle.symbol.specs.declared.end.End.TheVariants.{West}
use Rattle.model.specs.Chain.{Chain}
use Rattle.model.specs.Run.{Run, is_running, runs, new, login, start, inject, step}
use Rattle.model.specs.Worked.{room, injecting, stepping, one_lost, some_lost, over_three, LossTable, SixSteps}
use Rattle.model.specs.Worked.{ThreeMadeGood, SixteenMissing}

module _ {B : Type 0} (M : BankCalls B) (b : B) where
  -- a turn whose records are the log of a run so far
  abbrev IsRun : Turn (Chain B) → Type 0
  IsRun t = Run M b is_running t.state t.events

  injecting_runs : (n : ℕ) (t : Turn (Chain B)) → IsRun t → IsRun (injecting M n t)
  injecting_runs zero t r = r
  injecting_runs (suc n) t r = inject West room (injecting_runs n t r)

  stepping_runs : (n : ℕ) (t : Turn (Chain B)) → IsRun t → IsRun (stepping M n t)
  stepping_runs zero t r = r
  stepping_runs (suc n) t r = step runs room (stepping_runs n t r)

pub loss_table : LossTable
loss_table = (refl, refl, refl, refl, refl)

pub six_steps_out : SixSteps
six_steps_out = record {
  run = stepping_runs one_link one_lost 6 _ (injecting_runs one_link one_lost 3 _ (start (login 0 2 2 1 1 new)));
  port_0 = refl;
  port_1 = refl;
  east = refl;
  west = refl;
  tick_4 = refl;
}

three_runs : (first count frames ticks : ℕ)
    → Run three_links (some_lost first count) is_running (over_three first count frames ticks).state
    (over_three first count frames ticks).events
three_runs first count frames ticks =
    stepping_runs three_links (some_lost first count) ticks _
    (injecting_runs three_links (some_lost first count) frames _
    (start (login 2 32 32 4 4 (login 1 32 32 4 4 (login 0 32 32 4 4 new)))))

pub three_made_good : ThreeMadeGood
three_made_good = record { run = three_runs 5 3 16 45; stretch = refl; port_2 = refl; port_3 = refl }

pub sixteen_missing : SixteenMissing
sixteen_missing = record {
  run = three_runs 17 16 32 60;
  stretch = refl;
  missing_16 = refl;
  port_2 = refl;
  port_3 = refl;
}
