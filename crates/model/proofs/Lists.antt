-- The first of a list.
use Rattle.std.proofs.Common.{◌≡◌, List, [], ◌∷◌, Some}
use Rattle.ring.specs.Queue.{head?, tail}

pub first_is : {A : Type 0} (xs : List A) (x : A) → head? xs ≡ Some x → xs ≡ x ∷ tail xs
first_is [] x e = cc
first_is (y ∷ ys) x e = cc
