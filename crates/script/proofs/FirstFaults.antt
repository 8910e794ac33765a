-- The first line at fault is the one told.
use Rattle.std.proofs.Common.{◌≡◌, ℕ, ◌+◌, List, [], ◌∷◌, length, Some, None, Ok, Err, Option, Result, refl, ap, ◌∙◌}
use Rattle.std.proofs.Common.{subst, arith}
use Rattle.script.specs.declared.command.Placed.{Placed}
use Rattle.script.specs.declared.fault.Fault.{Fault}
use Rattle.script.specs.declared.line.Read.{Read}
use Rattle.script.specs.declared.order.Progress.{Progress}
use Rattle.script.specs.Faults.{then}
use Rattle.script.specs.Judged.{passed, FirstFault}
use Rattle.script.specs.Line.{read_line}
use Rattle.script.specs.Script.{commands_by, progress_by, commands_from}
use Rattle.script.proofs.Places.{line_told}

-- a line at fault is the first
here : (n : ℕ) (p : Progress) (l : List ℕ) (ls : List (List ℕ)) (f : Fault) → read_line (n + 1) p l ≡ Err f
    → FirstFault n p (l ∷ ls) f
here n p l ls f e =
    let k : n + 1 ≡ n + 0 + 1 = omega arith in
    record {
      earlier = [];
      line = l;
      later = ls;
      lines_are = refl;
      progress = p;
      sound = refl;
      at_fault = subst (λ (i : ℕ). read_line i p l ≡ Err f) k e;
      told = line_told (n + 1) p l f e ∙ k;
    }

-- one line more that is not at fault
later_on : (n : ℕ) (p : Progress) (l : List ℕ) (ls : List (List ℕ)) (f : Fault) (x : Option Read)
    → read_line (n + 1) p l ≡ Ok x → FirstFault (n + 1) (progress_by p x) ls f → FirstFault n p (l ∷ ls) f
later_on n p l ls f x e h =
    let k : n + 1 + length h.earlier + 1 ≡ n + length (l ∷ h.earlier) + 1 = omega arith in
    let at = λ (r : Result (Option Read) Fault). then r (λ y. passed (n + 1) (progress_by p y) h.earlier) in
    record {
      earlier = l ∷ h.earlier;
      line = h.line;
      later = h.later;
      lines_are = ap (λ (x : List (List ℕ)). l ∷ x) h.lines_are;
      progress = h.progress;
      sound = ap at e ∙ h.sound;
      at_fault = subst (λ (i : ℕ). read_line i h.progress h.line ≡ Err f) k h.at_fault;
      told = h.told ∙ k;
    }

by_fault : (x : Option Read) (r : Result (List Placed) Fault) (f : Fault) → commands_by x r ≡ Err f → r ≡ Err f
by_fault None r f h = h
by_fault (Some x) (Ok cs) f h = absurd (cc)
by_fault (Some x) (Err e) f h = h

first_fault_by : (n : ℕ) (p : Progress) (l : List ℕ) (ls : List (List ℕ)) (f : Fault) (r : Result (Option Read) Fault)
    → read_line (n + 1) p l ≡ r → then r (λ x. commands_by x (commands_from (n + 1) (progress_by p x) ls)) ≡ Err f
    → ((q : Progress) → commands_from (n + 1) q ls ≡ Err f → FirstFault (n + 1) q ls f) → FirstFault n p (l ∷ ls) f
first_fault_by n p l ls f (Err e) is h more = let same : e ≡ f = cc in here n p l ls f (is ∙ ap Err same)
first_fault_by n p l ls f (Ok x) is h more =
    later_on n p l ls f x is (more (progress_by p x) (by_fault x (commands_from (n + 1) (progress_by p x) ls) f h))

pub first_fault : (n : ℕ) (p : Progress) (ls : List (List ℕ)) (f : Fault) → commands_from n p ls ≡ Err f
    → FirstFault n p ls f
first_fault n p [] f h = absurd (cc)
first_fault n p (l ∷ ls) f h =
    first_fault_by n p l ls f (read_line (n + 1) p l) refl h (λ q e. first_fault (n + 1) q ls f e)
