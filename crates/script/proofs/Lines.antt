-- How the lines of a script begin.
use Rattle.std.proofs.Common.{◌≡◌, ℕ, ◌+◌, ◌<◌, Bool, true, false, eqb, List, [], ◌∷◌, ◌++◌, length, take, drop}
use Rattle.std.proofs.Common.{refl, ap, ◌∙◌, add-one, one-add, arith}
use Rattle.std.specs.List.{prefix_len, take_while}
use Rattle.std.proofs.lemmas.List.{drop-drop}
use Rattle.script.specs.Text.{in_line, lines, onto}
use Rattle.script.proofs.Words.{run_is}

-- the first line, and those after the byte that ends it
abbrev line_first : List ℕ → List (List ℕ)
line_first bs = take (prefix_len in_line bs) bs ∷ lines (drop (prefix_len in_line bs + 1) bs)

line_end : (b : ℕ) (v : Bool) → eqb b 10 ≡ v → lines (b ∷ []) ≡ line_first (b ∷ [])
line_end b true e = simp e
line_end b false e = simp e

line_step : (b c : ℕ) (cs : List ℕ) (v : Bool) → eqb b 10 ≡ v → lines (c ∷ cs) ≡ line_first (c ∷ cs)
    → lines (b ∷ c ∷ cs) ≡ line_first (b ∷ c ∷ cs)
line_step b c cs true e more = simp e
line_step b c cs false e more =
    let joins : lines (b ∷ c ∷ cs) ≡ onto b (lines (c ∷ cs)) = simp e in
    joins ∙ ap (onto b) more ∙ simp (e, one-add, add-one)

at_line : (bs : List ℕ) → 0 < length bs → lines bs ≡ line_first bs
at_line [] h = absurd (omega arith)
at_line (b ∷ []) h = line_end b (eqb b 10) refl
at_line (b ∷ c ∷ cs) h = line_step b c cs (eqb b 10) refl (at_line (c ∷ cs) (omega arith))

-- the line at the front, where what is behind it begins with the 0A that ends it
pub first_line : (bs line ended rest : List ℕ) → 0 < length bs → line ≡ take_while in_line bs → bs ≡ line ++ ended
    → rest ≡ drop 1 ended → lines bs ≡ line ∷ lines rest
first_line bs line ended rest some is whole next =
    let run = run_is in_line bs line ended is whole in
    let n = run.0 in
    let back = run.1 in
    let past : drop 1 (drop (length line) bs) ≡ drop (length line + 1) bs = drop-drop 1 (length line) bs in
    at_line bs some ∙ rw (← is, ← n, ← past, ← back, ← next)

pub no_line : (bs : List ℕ) → length bs ≡ 0 → lines bs ≡ []
no_line [] h = refl
no_line (b ∷ bs) h = absurd (omega arith)
