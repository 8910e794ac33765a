-- A pass over a queue: each value in turn comes out, and goes in again as the last if it is kept.
use Rattle.std.proofs.Common.{◌≡◌, ℕ, ◌+◌, ◌<◌, ◌≤◌, Bool, true, false, cond, List, [], ◌∷◌, ◌++◌, length, get_or}
use Rattle.std.proofs.Common.{take, drop, Some, None, sym, ap, ◌∙◌, append_assoc, arith}
use Rattle.std.specs.List.{filter}
use Rattle.std.proofs.lemmas.Bool.{lt-ltb, cond-true}
use Rattle.std.proofs.lemmas.List.{drop_more, take_all, drop_all, append-nil, length-append, length-drop}
use Rattle.std.proofs.lemmas.List.Elements.{filter_more}
use Rattle.ring.specs.Queue.{head?, tail, pushed}

module _ {X : Type 0} (p : X → Bool) (old now : List X) (k : ℕ) (l : k < length old)
    (inv : now ≡ drop k old ++ filter p (take k old)) where
  turn : (d : X) → now ≡ get_or old k d ∷ (drop (k + 1) old ++ filter p (take k old))
  turn d = inv ∙ ap (λ xs. xs ++ filter p (take k old)) (drop_more old k d l)

  -- the filter past one more value
  more : (x : X) (b : Bool) → head? now ≡ Some x → p x ≡ b →
      filter p (take (k + 1) old) ≡ filter p (take k old) ++ cond b (x ∷ []) []
  more x b e is =
      let f = filter p (take k old) in
      let here : get_or old k x ≡ x = cc (ap head? (turn x)) in
      filter_more p old k x l
      ∙ ap (λ y. f ++ cond (p y) (y ∷ []) []) here
      ∙ ap (λ c. f ++ cond c (x ∷ []) []) is

  pub turn_kept : (cap : ℕ) (x : X) → length now ≤ cap → head? now ≡ Some x → p x ≡ true →
      pushed cap (tail now) x ≡ drop (k + 1) old ++ filter p (take (k + 1) old)
  turn_kept cap x small e is =
      let rest = drop (k + 1) old in
      let f = filter p (take k old) in
      let less : length (tail now) < cap = omega (arith, ap length (turn x), ap length (ap tail (turn x))) in
      cond-true _ _ _ (lt-ltb (length (tail now)) cap less)
      ∙ ap (λ xs. xs ++ (x ∷ [])) (ap tail (turn x))
      ∙ append_assoc rest f (x ∷ [])
      ∙ ap (λ xs. rest ++ xs) (sym (more x true e is))

  pub turn_dropped : (x : X) → head? now ≡ Some x → p x ≡ false →
      tail now ≡ drop (k + 1) old ++ filter p (take (k + 1) old)
  turn_dropped x e is =
      let rest = drop (k + 1) old in
      ap tail (turn x)
      ∙ ap (λ xs. rest ++ xs) (sym (append-nil (filter p (take k old))) ∙ sym (more x false e is))

  -- a value is left to come out
  pub turn_some : head? now ≡ None → ⊥
  turn_some e =
      let f = filter p (take k old) in
      headless now e (omega (arith, ap length inv, length-append (drop k old) f, length-drop k old))
    where
      headless : (xs : List X) → head? xs ≡ None → 0 < length xs → ⊥
      headless [] n h = omega arith
      headless (x ∷ xs) n h = cc

pub turns_all : {X : Type 0} (p : X → Bool) (old : List X) (k : ℕ) → length old ≤ k →
    drop k old ++ filter p (take k old) ≡ filter p old
turns_all p old k l = ap (λ xs. xs ++ filter p (take k old)) (drop_all k old l) ∙ ap (filter p) (take_all k old l)
