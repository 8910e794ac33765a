-- What lines and words are, by the bytes that they are made of.
use Rattle.std.specs.Prelude.{◌≡◌, ℕ, ◌+◌, ◌<◌, ◌⊎◌, List, [], ◌∷◌, ◌++◌, length, ◌≢◌}
use Rattle.std.specs.List.{AllByRecursion}
use Rattle.script.specs.Text.{Word}

-- the last line, which lacks its 0A
pub record LastLine (bs line : List ℕ) (later : List (List ℕ)) : Type 0 where
  pub bytes_are : bs ≡ line
  pub some : 0 < length line
  pub none_later : later ≡ []

-- joined, each with its 0A but for a last one that lacks it, the lines are the bytes; no line holds a 0A
abbrev pub Lined : List ℕ → List (List ℕ) → Type 0
Lined bs [] = bs ≡ []
Lined bs (l ∷ ls) =
    AllByRecursion (λ b. b ≢ 10) l × (LastLine bs l ls ⊎ ((rest : List ℕ) × ((bs ≡ l ++ (10 ∷ rest)) × Lined rest ls)))

-- no byte, or a space
abbrev pub Apart : List ℕ → Type 0
Apart [] = Unit {0}
Apart (b ∷ bs) = b ≡ 32

-- a word and its place, where the first byte has the number `at`: spaces stand before it, none is in it, and one is
-- behind it where there is a byte
pub record FirstWord (at : ℕ) (bs : List ℕ) (w : Word) : Type 0 where
  pub gap : List ℕ
  pub rest : List ℕ
  pub bytes_are : bs ≡ gap ++ (w.text ++ rest)
  pub spaces : AllByRecursion (λ b. b ≡ 32) gap
  pub some : 0 < length w.text
  pub whole : AllByRecursion (λ b. b ≢ 32) w.text
  pub apart : Apart rest
  pub place : w.byte ≡ at + length gap

-- the words are exactly the longest runs without spaces, each with its place
abbrev pub Parted : ℕ → List ℕ → List Word → Type 0
Parted at bs [] = AllByRecursion (λ b. b ≡ 32) bs
Parted at bs (w ∷ ws) = (first : FirstWord at bs w) × Parted (w.byte + length w.text) first.rest ws
