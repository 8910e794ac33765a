-- The bytes that the records of a call take.
use Rattle.std.specs.Prelude.{◌≡◌, ℕ, ◌≤◌, length, Ok}
use Rattle.symbol.specs.declared.Frame.{Frame}
use Rattle.eventlog.specs.Format.{encode_all}
use Rattle.bank.specs.Bank.{BankCalls}
use Rattle.port.specs.Port.{Turn}
use Rattle.symbol.specs.declared.end.End.{End}
use Rattle.model.specs.Chain.{Chain, stepped, injected, collects_by, released_at, step_bytes, call_bytes}

abbrev pub bytes_of : {S : Type 0} → Turn S → ℕ
bytes_of t = length (encode_all t.events)

-- an accepted call writes no more bytes than it asks for
module _ {B : Type 0} (M : BankCalls B) where
  pub record CallsFit : Type 0 where
    pub step_fits : (c : Chain B) → bytes_of (stepped M c) ≤ step_bytes c.links
    pub inject_fits : (c : Chain B) (e : End) → bytes_of (injected M c e) ≡ call_bytes
    pub collect_fits : (c : Chain B) (e : End) (f : Frame) → bytes_of (collects_by M c e (Ok f)) ≡ call_bytes
    pub release_fits : (c : Chain B) (e : End) (k : ℕ) → bytes_of (released_at M c e k) ≡ call_bytes
