-- Lists as queues, and what a step may make of one.
use Rattle.std.specs.Prelude.{◌≡◌, ℕ, true, false, List, [], ◌∷◌, ◌++◌, map, length, nat_lt, refl}
use Rattle.std.proofs.lemmas.Bool.{cond_both, false≢true, true≢false}
use Rattle.channel.specs.Calls.{Aged, none, kept}
use Rattle.ring.specs.Queue.{pushed, empty, tail}
use Rattle.symbol.specs.declared.Item.{Item}

pub aged_same : (xs : List Item) → Aged xs xs
aged_same [] = none
aged_same (i ∷ xs) = kept (aged_same xs)

pub empty_idle : {X : Type 0} (n : ℕ) (xs : List X) → nat_lt 0 n ≡ true → empty xs ≡ true → nat_lt (length xs) n ≡ true
empty_idle n [] l e = l
empty_idle n (x ∷ xs) l e = absurd (false≢true e)

pub pushed_some : {X : Type 0} (n : ℕ) (xs : List X) (x : X) → empty xs ≡ false → empty (pushed n xs x) ≡ false
pushed_some n [] x e = absurd (true≢false e)
pushed_some n (y ∷ xs) x e =
    cond_both (nat_lt (length (y ∷ xs)) n) ((y ∷ xs) ++ (x ∷ [])) (y ∷ xs) (λ ys. empty ys ≡ false) (λ _. refl)
    (λ _. refl)

pub map_empty : {X Y : Type 0} (f : X → Y) (xs : List X) → empty (map f xs) ≡ empty xs
map_empty f [] = refl
map_empty f (x ∷ xs) = refl

pub map_tail : {X Y : Type 0} (f : X → Y) (xs : List X) → map f (tail xs) ≡ tail (map f xs)
map_tail f [] = refl
map_tail f (x ∷ xs) = refl
