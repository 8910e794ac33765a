-- The runs of a chain.
use Rattle.std.specs.Prelude.{ℕ, List, [], ◌++◌}
use Rattle.eventlog.specs.declared.event.Event.{Event}
use Rattle.bank.specs.Bank.{BankCalls}
use Rattle.symbol.specs.declared.end.End.{End}
use Rattle.model.specs.Chain.{Chain, cabled, logins, injects, steps, collects, releases}

abbrev pub Log : Type 0
Log = List Event

-- what a chain is: first cabled, then running, then draining
pub data Phase : Type 0 where
  is_cabled : Phase
  is_running : Phase
  is_draining : Phase

-- the phases in which a chain steps, collects and releases
pub data Moving : Phase → Type 0 where
  runs : Moving is_running
  drains : Moving is_draining

module _ {B : Type 0} (M : BankCalls B) where
  -- the chains that calls lead to from a new cabling over bank b, each with the log of its run; a call may be refused,
  -- and `room` is the bytes that it finds left on its sheet
  pub data Run (b : B) : Phase → Chain B → Log → Type 0 where
    new : Run b is_cabled (cabled M b) []
    login : {c : Chain B} {l : Log} → (k x y m n : ℕ) →
        Run b is_cabled c l → Run b is_cabled (logins M c k x y m n).state l
    start : {c : Chain B} {l : Log} → Run b is_cabled c l → Run b is_running c l
    step : {ph : Phase} {c : Chain B} {l : Log} → Moving ph → (room : ℕ) →
        Run b ph c l → Run b ph (steps M c room).state (l ++ (steps M c room).events)
    inject : {c : Chain B} {l : Log} → (e : End) (room : ℕ) →
        Run b is_running c l → Run b is_running (injects M c e room).state (l ++ (injects M c e room).events)
    collect : {ph : Phase} {c : Chain B} {l : Log} → Moving ph → (e : End) (room : ℕ) →
        Run b ph c l → Run b ph (collects M c e room).state (l ++ (collects M c e room).events)
    release : {ph : Phase} {c : Chain B} {l : Log} → Moving ph → (e : End) (k room : ℕ) →
        Run b ph c l → Run b ph (releases M c e k room).state (l ++ (releases M c e k room).events)
    drain : {c : Chain B} {l : Log} → Run b is_running c l → Run b is_draining c l
