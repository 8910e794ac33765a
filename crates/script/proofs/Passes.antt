-- A pass over the lines of a script.
use Rattle.std.proofs.Common.{◌≡◌, ℕ, ◌+◌, ◌<◌, true, false, List, [], ◌∷◌, length, is_some, Some, None, Ok, Err}
use Rattle.std.proofs.Common.{Option, Result, unwrap_or, sym, refl, ap, ◌∙◌, arith}
use Rattle.script.specs.declared.command.Placed.{Placed}
use Rattle.script.specs.declared.fault.Fault.{Fault}
use Rattle.script.specs.declared.line.Read.{Read}
use Rattle.script.specs.declared.order.Progress.{Progress}
use Rattle.script.specs.Faults.{then}
use Rattle.script.specs.Line.{read_line}
use Rattle.script.specs.Script.{State, Stepped, line_by, next_line, past_line, next_from, next}
use Rattle.script.specs.Script.{commands_by, progress_by, commands_from, commands, first_then, ends}

line_read_by : (s t : State) (ls : List (List ℕ)) (l : List ℕ) (r : Result (Option Read) Fault)
    → (Some l, t) ≡ line_by s ls → r ≡ read_line t.done t.progress l
    → past_line t r (next t) ≡ next_from s.done s.progress ls
line_read_by s t [] l r h e = let z = ap (λ p. is_some p.0) h in absurd (grind arith)
line_read_by s t (x ∷ xs) l r h e =
    let line : l ≡ x = ap (λ p. unwrap_or p.0 []) h in
    let past = ap (λ p. p.1) h in
    rw (e, line, past)

-- the next command by the next line, where r is what the line commands
pub line_read : (s t : State) (l : List ℕ) (r : Result (Option Read) Fault)
    → (Some l, t) ≡ next_line s → r ≡ read_line t.done t.progress l → past_line t r (next t) ≡ next s
line_read s t l r h e = line_read_by s t s.ahead l r h e

no_line_by : (s t : State) (ls : List (List ℕ)) → ls ≡ s.ahead → (None, t) ≡ line_by s ls
    → ◌≡◌ {A = Stepped} (Ok None, t) (next_from s.done s.progress ls)
no_line_by s t [] e h =
    ap (λ p. (Ok None, p.1)) h
    ∙ ap (λ (ls : List (List ℕ)). (Ok None, record { done = s.done; progress = s.progress; ahead = ls })) (sym e)
no_line_by s t (x ∷ xs) e h = let z = ap (λ p. is_some p.0) h in absurd (grind arith)

-- past the last line
pub no_line : (s t : State) → (None, t) ≡ next_line s → ◌≡◌ {A = Stepped} (Ok None, t) (next s)
no_line s t h = no_line_by s t s.ahead refl h

-- the commands to come are the next one and those behind it
commands_past : (t : State) (r : Result (Option Read) Fault) (onward : Stepped)
    → commands_from t.done t.progress t.ahead ≡ first_then onward.0 (commands onward.1)
    → then r (λ x. commands_by x (commands_from t.done (progress_by t.progress x) t.ahead))
    ≡ first_then (past_line t r onward).0 (commands (past_line t r onward).1)
commands_past t (Err e) onward h = refl
commands_past t (Ok None) onward h = h
commands_past t (Ok (Some x)) onward h = refl

commands_next_from : (n : ℕ) (p : Progress) (ls : List (List ℕ))
    → commands_from n p ls ≡ first_then (next_from n p ls).0 (commands (next_from n p ls).1)
commands_next_from n p [] = refl
commands_next_from n p (l ∷ ls) =
    commands_past (record { done = n + 1; progress = p; ahead = ls }) (read_line (n + 1) p l) (next_from (n + 1) p ls)
    (commands_next_from (n + 1) p ls)

pub commands_next : (s : State) → commands s ≡ first_then (next s).0 (commands (next s).1)
commands_next s = commands_next_from s.done s.progress s.ahead

-- the lines of a command are no more ahead
abbrev Fewer : ℕ → Stepped → Type 0
Fewer k s = (c : Placed) → s.0 ≡ Ok (Some c) → length s.1.ahead < k

fewer_past : (t : State) (r : Result (Option Read) Fault) (onward : Stepped) (k : ℕ)
    → length t.ahead < k → Fewer k onward → Fewer k (past_line t r onward)
fewer_past t (Err e) onward k h more c q = absurd (cc)
fewer_past t (Ok None) onward k h more c q = more c q
fewer_past t (Ok (Some x)) onward k h more c q = h

fewer_from : (n : ℕ) (p : Progress) (ls : List (List ℕ)) → Fewer (length ls) (next_from n p ls)
fewer_from n p [] c q = absurd (cc)
fewer_from n p (l ∷ ls) c q =
    fewer_past (record { done = n + 1; progress = p; ahead = ls }) (read_line (n + 1) p l) (next_from (n + 1) p ls)
    (length (l ∷ ls)) (omega arith) (λ d e. let f = fewer_from (n + 1) p ls d e in omega arith) c q

pub fewer : (s t : State) (o : Option Placed) → ◌≡◌ {A = Stepped} (Ok o, t) (next s) → is_some o ≡ true
    → length t.ahead < length s.ahead
fewer s t None h e = absurd (cc)
fewer s t (Some c) h e =
    let first : (next s).0 ≡ Ok (Some c) = ap (λ p. p.0) (sym h) in
    let last : t.ahead ≡ (next s).1.ahead = ap (λ p. p.1.ahead) h in
    let f = fewer_from s.done s.progress s.ahead c first in
    rw last f

-- what one step of a cursor says of all commands to come
pub passes : (s t : State) (r : Result (Option Placed) Fault) → ◌≡◌ {A = Stepped} (r, t) (next s)
    → commands s ≡ first_then r (commands t)
passes s t r h = commands_next s ∙ ap (λ p. first_then p.0 (commands p.1)) (sym h)

-- where no command is left
pub ends_none : (s t : State) (o : Option Placed) → commands s ≡ first_then (Ok o) (commands t) → is_some o ≡ false
    → Ok tt ≡ ends (commands s)
ends_none s t None h e = sym (ap ends h)
ends_none s t (Some c) h e = absurd (cc)
