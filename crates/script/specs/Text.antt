-- The bytes of a script: its lines, their words, and numbers.
use Rattle.std.specs.Prelude.{◌≡◌, ℕ, suc, ◌+◌, ◌-◌, ◌*◌, Bool, true, false, cond, not, ◌&&◌, List, [], ◌∷◌, length}
use Rattle.std.specs.Prelude.{Some, None, Option, ◌==◌, nat_le, nat_lt}
use Rattle.std.specs.Str.{all_ascii_digits}

-- a gap is spaces, a word any other bytes, and byte 0A ends a line
abbrev pub in_gap : ℕ → Bool
in_gap b = b == 32

abbrev pub in_word : ℕ → Bool
in_word b = not (b == 32)

abbrev pub in_line : ℕ → Bool
in_line b = not (b == 10)

-- what a call may answer for a byte is what p answers
abbrev pub Computes : (ℕ → Bool → Type 0) → (ℕ → Bool) → Type 0
Computes answers p = (b : ℕ) (r : Bool) → answers b r → r ≡ p b

-- a byte before the lines that follow it
abbrev pub onto : ℕ → List (List ℕ) → List (List ℕ)
onto b [] = (b ∷ []) ∷ []
onto b (l ∷ ls) = (b ∷ l) ∷ ls

-- byte 0A ends a line, and the last may lack it
abbrev pub lines : List ℕ → List (List ℕ)
lines [] = []
lines (b ∷ bs) = cond (b == 10) ([] ∷ lines bs) (onto b (lines bs))

-- a word: the number of its first byte in the line, and its bytes
pub record Word : Type 0 where
  pub byte : ℕ
  pub text : List ℕ

-- whether some bytes begin with a word
abbrev pub goes_on : List ℕ → Bool
goes_on [] = false
goes_on (b ∷ bs) = in_word b

-- byte b at place `at` before the words that follow: a word of its own, or the first byte of the next
abbrev pub attached : ℕ → ℕ → Bool → List Word → List Word
attached at b false ws = record { byte = at; text = b ∷ [] } ∷ ws
attached at b true [] = []
attached at b true (w ∷ ws) = record { byte = at; text = b ∷ w.text } ∷ ws

-- the words of bytes of which the first has the number `at`
abbrev pub words : ℕ → List ℕ → List Word
words at [] = []
words at (b ∷ bs) = cond (b == 32) (words (suc at) bs) (attached at b (goes_on bs) (words (suc at) bs))

-- the number that digits write after a value read so far
abbrev pub value_on : ℕ → List ℕ → ℕ
value_on v [] = v
value_on v (b ∷ bs) = value_on (v * 10 + (b - 48)) bs

-- a number is 1 to 8 digits
abbrev pub is_number : List ℕ → Bool
is_number bs = nat_lt 0 (length bs) && (nat_le (length bs) 8 && all_ascii_digits bs)

abbrev pub number_of : List ℕ → Option ℕ
number_of bs = cond (is_number bs) (Some (value_on 0 bs)) None
