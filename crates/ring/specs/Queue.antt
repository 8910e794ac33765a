-- Lists as queues, oldest first.
use Rattle.std.specs.Prelude.{ℕ, Bool, true, false, cond, ◌||◌, List, [], ◌∷◌, ◌++◌, length, Some, None, Option, nat_lt}

-- a queue of at most `cap` values after a push: the value is last, or a full queue is as it was
abbrev pub pushed : {X : Type 0} → ℕ → List X → X → List X
pushed cap xs x = cond (nat_lt (length xs) cap) (xs ++ (x ∷ [])) xs

abbrev pub head? : {X : Type 0} → List X → Option X
head? [] = None
head? (x ∷ xs) = Some x

abbrev pub tail : {X : Type 0} → List X → List X
tail [] = []
tail (x ∷ xs) = xs

abbrev pub empty : {X : Type 0} → List X → Bool
empty [] = true
empty (x ∷ xs) = false

-- some value passes the test
abbrev pub any : {X : Type 0} → (X → Bool) → List X → Bool
any p [] = false
any p (x ∷ xs) = p x || any p xs
