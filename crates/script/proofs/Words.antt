-- How the words of a line begin, gap by gap and word by word.
use Rattle.std.proofs.Common.{◌≡◌, ℕ, suc, ◌+◌, ◌<◌, ◌≤◌, Bool, true, false, eqb, List, [], ◌∷◌, ◌++◌, length}
use Rattle.std.proofs.Common.{take, drop, sym, refl, ap, ◌∙◌, add-zero, add-suc, suc-add, add-one, one-add}
use Rattle.std.proofs.Common.{arith}
use Rattle.std.specs.List.{prefix_len, take_while}
use Rattle.std.proofs.Math.Seq.{drop-append_seam}
use Rattle.std.proofs.lemmas.List.Folds.{length-prefix_len}
use Rattle.script.specs.Text.{in_gap, in_word, Word, words, goes_on, attached}
use Rattle.script.specs.Tokens.{placed}

-- a run at the front, and what is behind it
pub run_is : (p : ℕ → Bool) (bs front back : List ℕ) → front ≡ take_while p bs → bs ≡ front ++ back
    → (length front ≡ prefix_len p bs) × (back ≡ drop (length front) bs)
run_is p bs front back is whole = (
  ap length is ∙ length-prefix_len p bs,
  sym (ap (drop (length front)) whole ∙ drop-append_seam front back),
)

-- the words after a gap are the words
gap_step : (at b : ℕ) (bs : List ℕ) (v : Bool) → eqb b 32 ≡ v
    → words (suc at) bs ≡ words (suc at + prefix_len in_gap bs) (drop (prefix_len in_gap bs) bs)
    → words at (b ∷ bs)
    ≡ words (at + prefix_len in_gap (b ∷ bs)) (drop (prefix_len in_gap (b ∷ bs)) (b ∷ bs))
gap_step at b bs true e h = rw (e, one-add) (h ∙ rw (suc-add, add-suc))
gap_step at b bs false e h = rw (e, add-zero) (rw e)

after_gap : (at : ℕ) (bs : List ℕ)
    → words at bs ≡ words (at + prefix_len in_gap bs) (drop (prefix_len in_gap bs) bs)
after_gap at [] = refl
after_gap at (b ∷ bs) = gap_step at b bs (eqb b 32) refl (after_gap (suc at) bs)

-- the words at a word: that word, and those after it
abbrev word_first : ℕ → List ℕ → List Word
word_first at bs =
    let n = prefix_len in_word bs in
    record { byte = at; text = take n bs } ∷ words (at + n) (drop n bs)

word_step : (at b c : ℕ) (cs : List ℕ) (v : Bool) → eqb b 32 ≡ false → eqb c 32 ≡ v
    → (eqb c 32 ≡ false → words (suc at) (c ∷ cs) ≡ word_first (suc at) (c ∷ cs))
    → words at (b ∷ c ∷ cs) ≡ word_first at (b ∷ c ∷ cs)
word_step at b c cs true h e more = simp (h, e, one-add, add-one)
word_step at b c cs false h e more =
    let joins : words at (b ∷ c ∷ cs) ≡ attached at b true (words (suc at) (c ∷ cs)) = simp (h, e) in
    joins ∙ ap (attached at b true) (more e) ∙ simp (h, e, one-add, suc-add, add-suc)

at_word : (at b : ℕ) (bs : List ℕ) → eqb b 32 ≡ false → words at (b ∷ bs) ≡ word_first at (b ∷ bs)
at_word at b [] h = simp h
at_word at b (c ∷ cs) h = word_step at b c cs (eqb c 32) h refl (at_word (suc at) c cs)

-- no gap stands before the bytes
abbrev InkFirst : List ℕ → Type 0
InkFirst [] = Unit {0}
InkFirst (b ∷ bs) = eqb b 32 ≡ false

ink_step : (b : ℕ) (bs : List ℕ) (v : Bool) → eqb b 32 ≡ v → InkFirst (drop (prefix_len in_gap bs) bs)
    → InkFirst (drop (prefix_len in_gap (b ∷ bs)) (b ∷ bs))
ink_step b bs true e h = rw (e, one-add) h
ink_step b bs false e h = rw e e

past_gap : (bs : List ℕ) → InkFirst (drop (prefix_len in_gap bs) bs)
past_gap [] = tt
past_gap (b ∷ bs) = ink_step b bs (eqb b 32) refl (past_gap bs)

at_ink : (at : ℕ) (bs : List ℕ) → InkFirst bs → 0 < prefix_len in_word bs
    → words at bs ≡ word_first at bs
at_ink at [] ink h = absurd (omega arith)
at_ink at (b ∷ bs) ink h = at_word at b bs ink

no_ink : (bs : List ℕ) → InkFirst bs → prefix_len in_word bs ≡ 0 → bs ≡ []
no_ink [] ink h = refl
no_ink (b ∷ bs) ink h = let k = rw (ink, one-add) at h in absurd (omega arith)

-- bytes cut into a gap, a word behind it, and what is left
pub record Cut (bs gap word left : List ℕ) : Type 0 where
  pub behind : List ℕ
  pub gap_is : gap ≡ take_while in_gap bs
  pub whole : bs ≡ gap ++ behind
  pub word_is : word ≡ take_while in_word behind
  pub behind_is : behind ≡ word ++ left

module _ (at : ℕ) (bs gap word left : List ℕ) (cut : Cut bs gap word left) where
  to_behind : (words (at + 1) bs ≡ words (at + length gap + 1) cut.behind) × InkFirst cut.behind
  to_behind =
      let run = run_is in_gap bs gap cut.behind cut.gap_is cut.whole in
      let n = run.0 in
      let rest = run.1 in
      let start : at + 1 + length gap ≡ at + length gap + 1 = omega arith in
      (after_gap (at + 1) bs ∙ rw (← n, start, ← rest), rw (rest, n) (past_gap bs))

  -- past the last word
  pub no_word : length word ≡ 0 → (words (at + 1) bs ≡ []) × (left ≡ [])
  no_word none =
      let run = run_is in_word cut.behind word left cut.word_is cut.behind_is in
      let empty : cut.behind ≡ [] = no_ink cut.behind to_behind.1 (sym run.0 ∙ none) in
      (to_behind.0 ∙ ap (words (at + length gap + 1)) empty, run.1 ∙ rw (none, empty))

  -- the word behind the gap is the first
  pub first_word : 0 < length word
      → words (at + 1) bs
      ≡ record { byte = at + length gap + 1; text = word } ∷ words (at + length gap + length word + 1) left
  first_word some =
      let run = run_is in_word cut.behind word left cut.word_is cut.behind_is in
      let n = run.0 in
      let rest = run.1 in
      let is = cut.word_is in
      let end : at + length gap + 1 + length word ≡ at + length gap + length word + 1 = omega arith in
      to_behind.0 ∙ at_ink (at + length gap + 1) cut.behind to_behind.1 (omega arith)
      ∙ rw (← is, ← n, end, ← rest)

-- no more words than bytes
attached_few : (at b : ℕ) (g : Bool) (ws : List Word) → length (attached at b g ws) ≤ length ws + 1
attached_few at b false ws = omega arith
attached_few at b true [] = omega arith
attached_few at b true (w ∷ ws) = omega arith

few_by : (at b : ℕ) (bs : List ℕ) (v : Bool) → eqb b 32 ≡ v → length (words (suc at) bs) ≤ length bs
    → length (words at (b ∷ bs)) ≤ length (b ∷ bs)
few_by at b bs true e h = rw e (omega arith)
few_by at b bs false e h = let few = attached_few at b (goes_on bs) (words (suc at) bs) in rw e (omega arith)

pub words_few : (at : ℕ) (bs : List ℕ) → length (words at bs) ≤ length bs
words_few at [] = omega arith
words_few at (b ∷ bs) = few_by at b bs (eqb b 32) refl (words_few (suc at) bs)

pub length-placed : (line : ℕ) (ws : List Word) → length (placed line ws) ≡ length ws
length-placed line [] = refl
length-placed line (w ∷ ws) = ap suc (length-placed line ws)
