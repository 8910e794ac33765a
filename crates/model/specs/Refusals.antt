-- The numbers of a chain's refusals.
use Rattle.std.specs.Prelude.{ℕ}
use Rattle.model.specs.declared.Refusal.{Refusal}
use Rattle.model.specs.declared.Refusal.TheVariants as refusal

abbrev pub refusal_number : Refusal → ℕ
refusal_number refusal.NoLinks = 1
refusal_number refusal.BadBuffers = 2
refusal_number refusal.BadN = 3
refusal_number refusal.OtherN = 4
refusal_number refusal.LastTick = 5
refusal_number refusal.OutboxFull = 6
refusal_number refusal.NoFrame = 7
refusal_number refusal.NotHandedOut = 8
refusal_number refusal.SheetFull = 9
