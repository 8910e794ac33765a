-- The numbers of the frames that are handed out.
use Rattle.std.proofs.Common.{◌≡◌, ℕ, ◌<◌, ◌≤◌, true, not, eqb, List, [], ◌∷◌, length, refl, arith}
use Rattle.std.specs.List.{filter}
use Rattle.std.proofs.lemmas.Grind.{common_steps}
use Rattle.port.specs.Port.{among, without}

pub retained : (k : ℕ) (xs : List ℕ) → filter (λ x. not (eqb x k)) xs ≡ without k xs
retained k [] = refl
retained k (x ∷ xs) = grind (arith, common_steps, retained k xs)

length_without : (k : ℕ) (xs : List ℕ) → length (without k xs) ≤ length xs
length_without k [] = omega arith
length_without k (x ∷ xs) = grind (arith, common_steps, length_without k xs)

-- a number that is handed out makes the list shorter as it is taken out
pub fewer_without : (k : ℕ) (xs : List ℕ) → among k xs ≡ true → length (without k xs) < length xs
fewer_without k [] is = cc
fewer_without k (x ∷ xs) is = grind (arith, common_steps, length_without k xs, fewer_without k xs)
