-- What a ring holds, by its places: its fields keep what the lemmas on windows ask.
use Rattle.std.proofs.Common.{◌≡◌, ℕ, ◌+◌, ◌-◌, ◌<◌, ◌≤◌, Bool, ◌||◌, List, [], ◌∷◌, ◌++◌, map, length, get_or, take}
use Rattle.std.proofs.Common.{drop, set, refl, sym, ap, ◌∙◌, arith}
use Rattle.std.specs.List.{list_any}
use Rattle.std.proofs.lemmas.List.Edits.{map_over_more}
use Rattle.std.proofs.lemmas.List.{take_all, drop_all, append-nil}
use Rattle.ring.specs.Contents.{contents, place, window}
use Rattle.ring.specs.Queue.{any, tail}
use Rattle.ring.specs.declared.Ring.{Ring}
use Rattle.ring.proofs.Windows.{length_window, window_at, window_set, window_push, window_rest}

module _ {T : Type 0} {n : ℕ} (r : Ring T n) where
  pub ring_length : length (contents r) ≡ r.len
  ring_length = length_window r.places n r.head r.long r.head_in r.len r.len_in

  -- the k-th value stands at its place
  ring_at : (k at : ℕ) (d : T) → k < r.len → at ≡ place n r.head k → get_or (contents r) k d ≡ get_or r.places at d
  ring_at k at d l e =
      window_at r.places n r.head r.long r.head_in r.len k d r.len_in l
      ∙ ap (λ i. get_or r.places i d) (sym e)

  ring_set : (k at : ℕ) (x : T) → k < r.len → at ≡ place n r.head k →
      window (set r.places at x) r.head r.len ≡ set (contents r) k x
  ring_set k at x l e =
      ap (λ i. window (set r.places i x) r.head r.len) e
      ∙ window_set r.places n r.head r.long r.head_in r.len k x r.len_in l

  pub ring_push : (at : ℕ) (x : T) → r.len < n → at ≡ place n r.head r.len →
      window (set r.places at x) r.head (r.len + 1) ≡ contents r ++ (x ∷ [])
  ring_push at x l e =
      ap (λ i. window (set r.places i x) r.head (r.len + 1)) e
      ∙ window_push r.places n r.head r.long r.head_in r.len x l

  pub ring_rest : (head : ℕ) → 0 < r.len → head ≡ place n r.head 1
      → window r.places head (r.len - 1) ≡ tail (contents r)
  ring_rest head l e =
      ap (λ h. window r.places h (r.len - 1)) e
      ∙ window_rest r.places n r.head r.long r.head_in r.len r.len_in l

module _ {T : Type 0} {n : ℕ} (r : Ring T n) (k at : ℕ) (x : T) (l : k < r.len) (e : at ≡ place n r.head k) where
  -- a pass over the values, one further
  pub mapped_more : (f : T → T) (old : List T) (y : T) → length old ≡ r.len
      → contents r ≡ map f (take k old) ++ drop k old →
      x ≡ get_or r.places at x → y ≡ f (get_or r.places at x) →
      window (set r.places at y) r.head r.len ≡ map f (take (k + 1) old) ++ drop (k + 1) old
  mapped_more f old y size inv is new =
      ring_set r k at y l e
      ∙ ap (set (contents r) k) (new ∙ ap f (sym is))
      ∙ map_over_more f old (contents r) k x (omega arith) inv (is ∙ sym (ring_at r k at x l e))

pub mapped_all : {T : Type 0} (f : T → T) (k : ℕ) (old : List T) → length old ≤ k
    → map f (take k old) ++ drop k old ≡ map f old
mapped_all f k old l =
    ap (λ xs. map f xs ++ drop k old) (take_all k old l)
    ∙ ap (λ ys. map f old ++ ys) (drop_all k old l)
    ∙ append-nil (map f old)

-- after k turns of a pass over the values of `old`, f has changed the first k
abbrev pub Passed : {T : Type 0} {n : ℕ} → (T → T) → Ring T n → ℕ → Ring T n → Type 0
Passed f old k r = (contents r ≡ map f (take k (contents old)) ++ drop k (contents old)) × (r.len ≡ old.len)

module _ {T : Type 0} {n : ℕ} (f : T → T) (old r : Ring T n) (k : ℕ) (inv : Passed f old k r) where
  pub passed_more : (at : ℕ) (x y : T) → k < r.len → at ≡ place n r.head k →
      x ≡ get_or r.places at x → y ≡ f (get_or r.places at x) →
      (window (set r.places at y) r.head r.len ≡ map f (take (k + 1) (contents old)) ++ drop (k + 1) (contents old))
      × (r.len ≡ old.len)
  passed_more at x y l e is new =
      (mapped_more r k at x l e f (contents old) y (ring_length old ∙ sym inv.1) inv.0 is new, inv.1)

  pub passed_all : old.len ≤ k → contents r ≡ map f (contents old)
  passed_all l = inv.0 ∙ mapped_all f k (contents old) (omega (arith, ring_length old))

pub any_same : {X : Type 0} (p : X → Bool) (xs : List X) → list_any p xs ≡ any p xs
any_same p [] = refl
any_same p (x ∷ xs) = ap (λ b. p x || b) (any_same p xs)
