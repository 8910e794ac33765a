-- What is known of every script that was judged.
use Rattle.std.proofs.Common.{◌≡◌, ℕ, ◌≤◌, Bool, true, false, cond, ltb, List, length, Ok, Err, Result, refl, ap, ◌∙◌}
use Rattle.std.proofs.Common.{inl, inr}
use Rattle.std.proofs.lemmas.Bool.{ltb-true, le-ltb}
use Rattle.script.specs.declared.command.Placed.{Placed}
use Rattle.script.specs.declared.fault.Fault.{Fault}
use Rattle.script.specs.declared.fault.Refusal.TheVariants.{TooLong}
use Rattle.script.specs.Faults.{fault}
use Rattle.script.specs.Judged.{Judged}
use Rattle.script.specs.Order.{nothing_read}
use Rattle.script.specs.Script.{started, commands, script_commands, ends, verdict}
use Rattle.script.specs.Text.{lines}
use Rattle.script.proofs.FirstFaults.{first_fault}
use Rattle.script.proofs.Orderly.{orderly}

-- a script that is not too long, by its commands
short_by : (bs : List ℕ) (r : Result (List Placed) Fault) → script_commands bs ≡ commands (started bs)
    → commands (started bs) ≡ r → Judged bs (ends r)
short_by bs (Ok cs) short is = (cs, (short ∙ is, orderly (lines bs) cs is))
short_by bs (Err f) short is = inr (first_fault 0 nothing_read (lines bs) f is)

judged_by : (bs : List ℕ) (v : Bool) → ltb 16384 (length bs) ≡ v → Judged bs (verdict bs)
judged_by bs true long = rw long (inl (ltb-true 16384 (length bs) long, refl))
judged_by bs false long =
    let short : script_commands bs ≡ commands (started bs) =
    ap (λ (v : Bool). cond v (fault TooLong (record { line = 0; byte = 0 })) (commands (started bs))) long in
    rw short (short_by bs (commands (started bs)) short refl)

-- the verdict on a script that is not too long is that on its commands
pub verdict_short : (bs : List ℕ) → length bs ≤ 16384 → ends (commands (started bs)) ≡ verdict bs
verdict_short bs h = rw (le-ltb 16384 (length bs))

pub judged : (bs : List ℕ) → Judged bs (verdict bs)
judged bs = judged_by bs (ltb 16384 (length bs)) refl
