-- No act of a port changes the links or the tick.
use Rattle.std.proofs.Common.{◌≡◌, ℕ, zero, suc, refl, ◌∙◌}
use Rattle.std.proofs.Common.{arith}
use Rattle.std.proofs.lemmas.Bool.Decides.{nat_tests}
use Rattle.bank.specs.Bank.{BankCalls}
use Rattle.port.specs.Port.{Turn}
use Rattle.model.specs.Chain.{Chain, each_port, takes, sends}

pub record Still {B : Type 0} (c d : Chain B) : Type 0 where
  pub links : d.links ≡ c.links
  pub tick : d.tick ≡ c.tick

module _ {B : Type 0} (M : BankCalls B) where
  pub takes_still : (c : Chain B) (p : ℕ) → Still c (takes M c p).state
  takes_still c p = grind arith

  pub sends_still : (c : Chain B) (p : ℕ) → Still c (sends M c p).state
  sends_still c p = grind (arith, nat_tests)

pub each_still : {B : Type 0} (f : Chain B → ℕ → Turn (Chain B)) → ((c : Chain B) (p : ℕ) → Still c (f c p).state)
    → (c : Chain B) (k : ℕ) → Still c (each_port f k c).state
each_still f keeps c zero = record { links = refl; tick = refl }
each_still f keeps c (suc k) =
    let now = keeps (each_port f k c).state k in
    let before = each_still f keeps c k in
    record { links = now.links ∙ before.links; tick = now.tick ∙ before.tick }
