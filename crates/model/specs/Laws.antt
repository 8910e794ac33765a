-- The four laws of every run.
use Rattle.std.specs.Prelude.{◌++◌}
use Rattle.bank.specs.Bank.{BankCalls}
use Rattle.model.specs.Chain.{Chain}
use Rattle.model.specs.Run.{Log, Phase, Run}
use Rattle.model.specs.CreditSum.{CreditSum}
use Rattle.model.specs.WholeParts.{WholeParts}
use Rattle.model.specs.OnePlace.{OnePlace}
use Rattle.model.specs.RecordsTell.{RecordsTell}

module _ {B : Type 0} (M : BankCalls B) where
  -- the laws hold of a chain and the log of its run
  pub record Holds (c : Chain B) (l : Log) : Type 0 where
    pub credit_sum : CreditSum M c l
    pub whole_parts : WholeParts M c l
    pub one_place : OnePlace M c l
    pub records_tell : RecordsTell c l

  -- they hold of every run from a cabling over bank b, with any calls
  abbrev pub EveryRun : B → Type 0
  EveryRun b = (ph : Phase) (c : Chain B) (l : Log) → Run M b ph c l → Holds c l

  -- a call that leads from c to c' and writes es continues every run that led to c, and the laws hold of where it leads
  abbrev pub Continues : Phase → Phase → Chain B → Chain B → Log → Type 0
  Continues ph ph' c c' es =
      (b : B) (l : Log) → Run M b ph c l → Run M b ph' c' (l ++ es) × Holds c' (l ++ es)
