-- The numbers of the refusals, and a fault at a place.
use Rattle.std.specs.Prelude.{ℕ, Ok, Err, Result}
use Rattle.script.specs.declared.fault.Fault.{Fault}
use Rattle.script.specs.declared.fault.Place.{Place}
use Rattle.script.specs.declared.fault.Refusal.{Refusal}
use Rattle.script.specs.declared.fault.Refusal.TheVariants as refusal

abbrev pub number : Refusal → ℕ
number refusal.TooLong = 14
number refusal.LongLine = 15
number refusal.UnknownCommand = 16
number refusal.NotNumber = 17
number refusal.WordCount = 18
number refusal.OutOfRange = 19
number refusal.OutOfOrder = 20
number refusal.TooManyLoses = 21

abbrev pub fault_at : Refusal → Place → Fault
fault_at r p = record { refusal = r; place = p }

abbrev pub fault : {A : Type 0} → Refusal → Place → Result A Fault
fault r p = Err (fault_at r p)

-- the first fault counts
abbrev pub then : {A B : Type 0} → Result A Fault → (A → Result B Fault) → Result B Fault
then (Ok x) f = f x
then (Err e) f = Err e
