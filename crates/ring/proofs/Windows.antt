-- A window of a list that is read as a ring, by its places.
use Rattle.std.proofs.Common.{◌≡◌, ℕ, ◌+◌, ◌-◌, ◌<◌, ◌≤◌, ltb, ◌≢◌, List, [], ◌∷◌, ◌++◌, length, get_or, drop, set, sym}
use Rattle.std.proofs.Common.{refl, ap, ap₂, ◌∙◌, ⊎_elim, min, take, arith}
use Rattle.std.proofs.Math.Seq.{take-append-add}
use Rattle.std.proofs.lemmas.List.{get_or-take, get_or-drop, get_or_append_left, get_or-append_right, get_or-set_same}
use Rattle.std.proofs.lemmas.List.{get_or-set_other, length-take, length-drop, length-append, length-set, same_lists}
use Rattle.std.proofs.lemmas.List.{take_all, take-take, take_more_set, take-append-le, drop-append-le, append-nil}
use Rattle.std.proofs.lemmas.Bool.{cases_lt, cases_eq, lt-ltb, le-ltb, cond-true, cond-false}
use Rattle.std.proofs.lemmas.Bool.Decides.{nat_tests}
use Rattle.ring.specs.Contents.{window, place}
use Rattle.ring.specs.Queue.{tail}

place_ne : (cap h j k : ℕ) → h ≤ cap → j < cap → k < cap → j ≢ k → place cap h j ≢ place cap h k
place_ne cap h j k a l m ne = grind (arith, nat_tests)

place_less : (cap h k : ℕ) → h ≤ cap → k < cap → place cap h k < cap
place_less cap h k a l = grind (arith, nat_tests)

place_le : (cap h k : ℕ) → h ≤ cap → k ≤ cap → place cap h k ≤ cap
place_le cap h k a l = grind (arith, nat_tests)

place_next : (cap h k : ℕ) → h ≤ cap → 1 + k < cap → place cap (place cap h 1) k ≡ place cap h (1 + k)
place_next cap h k a l = grind (arith, nat_tests)

tail_drop : {X : Type 0} (xs : List X) → tail xs ≡ drop 1 xs
tail_drop [] = refl
tail_drop (x ∷ xs) = refl

module _ {X : Type 0} (xs : List X) (cap h : ℕ) (long : length xs ≡ cap) (within : h ≤ cap) where
  pub length_window : (n : ℕ) → n ≤ cap → length (window xs h n) ≡ n
  length_window n b = simp (length-take, length-drop, length-append) (omega arith)

  pub window_at : (n k : ℕ) (d : X) → n ≤ cap → k < n → get_or (window xs h n) k d ≡ get_or xs (place cap h k) d
  window_at n k d b l =
      get_or-take n (drop h (xs ++ xs)) k d l ∙ get_or-drop h (xs ++ xs) k d ∙ ⊎_elim below past (cases_lt k (cap - h))
    where
      below : k < cap - h → get_or (xs ++ xs) (h + k) d ≡ get_or xs (place cap h k) d
      below e =
          get_or_append_left xs xs d (h + k) (omega arith)
          ∙ ap (λ i. get_or xs i d) (sym (cond-true (ltb k (cap - h)) (h + k) (k - (cap - h)) (lt-ltb k (cap - h) e)))

      past : cap - h ≤ k → get_or (xs ++ xs) (h + k) d ≡ get_or xs (place cap h k) d
      past e =
          get_or-append_right xs xs cap (h + k) d long (omega arith)
          ∙ ap (λ i. get_or xs i d)
          (omega (arith, cond-false (ltb k (cap - h)) (h + k) (k - (cap - h)) (le-ltb k (cap - h) e)))

module _ {X : Type 0} (xs : List X) (cap h : ℕ) (long : length xs ≡ cap) (within : h ≤ cap) where
  -- a write at the place of the k-th value
  pub window_set : (n k : ℕ) (x : X) → n ≤ cap → k < n → window (set xs (place cap h k) x) h n ≡ set (window xs h n) k x
  window_set n k x b l = same_lists _ _ lengths each
    where
      at : ℕ
      at = place cap h k

      long' : length (set xs (place cap h k) x) ≡ cap
      long' = length-set xs (place cap h k) x ∙ long

      size : length (window xs h n) ≡ n
      size = length_window xs cap h long within n b

      lengths : length (window (set xs (place cap h k) x) h n) ≡ length (set (window xs h n) k x)
      lengths = length_window (set xs (place cap h k) x) cap h long' within n b ∙ sym size
          ∙ sym (length-set (window xs h n) k x)

      each : (j : ℕ) (d : X) → j < length (window (set xs (place cap h k) x) h n) →
          get_or (window (set xs (place cap h k) x) h n) j d ≡ get_or (set (window xs h n) k x) j d
      each j d m =
          let m' : j < n = omega (arith, length_window (set xs (place cap h k) x) cap h long' within n b) in
          window_at (set xs (place cap h k) x) cap h long' within n j d b m' ∙ ⊎_elim here elsewhere (cases_eq j k)
        where
          here : j ≡ k → get_or (set xs (place cap h k) x) (place cap h j) d ≡ get_or (set (window xs h n) k x) j d
          here e =
              ap (λ i. get_or (set xs (place cap h k) x) (place cap h i) d) e
              ∙ get_or-set_same xs (place cap h k) x d (omega (arith, place_less cap h k within (omega arith)))
              ∙ sym (get_or-set_same (window xs h n) k x d (omega (arith, size)))
              ∙ ap (λ i. get_or (set (window xs h n) k x) i d) (sym e)

          elsewhere : j ≢ k → get_or (set xs (place cap h k) x) (place cap h j) d ≡ get_or (set (window xs h n) k x) j d
          elsewhere ne =
              let m' : j < n = omega (arith, length_window (set xs (place cap h k) x) cap h long' within n b) in
              get_or-set_other xs (place cap h k) (place cap h j) x d
              (place_ne cap h j k within (omega arith) (omega arith) ne)
              ∙ sym (window_at xs cap h long within n j d b m')
              ∙ sym (get_or-set_other (window xs h n) k j x d ne)

module _ {X : Type 0} (xs : List X) (cap h : ℕ) (long : length xs ≡ cap) (within : h ≤ cap) where
  -- a write at the place after the last value, which becomes the last
  pub window_push : (n : ℕ) (x : X) → n < cap → window (set xs (place cap h n) x) h (n + 1) ≡ window xs h n ++ (x ∷ [])
  window_push n x b =
      let w = window xs h (n + 1) in
      let size = length_window xs cap h long within (n + 1) (omega arith) in
      window_set xs cap h long within (n + 1) n x (omega arith) (omega arith)
      ∙ sym (take_all (n + 1) (set w n x) (omega (arith, size, length-set w n x)))
      ∙ take_more_set w n x (omega (arith, size))
      ∙ ap (λ ys. ys ++ (x ∷ [])) (take-take n (n + 1) (drop h (xs ++ xs)) (omega arith))

  -- the values after the first
  pub window_rest : (n : ℕ) → n ≤ cap → 0 < n → window xs (place cap h 1) (n - 1) ≡ tail (window xs h n)
  window_rest n b l = same_lists _ _ lengths each ∙ sym (tail_drop (window xs h n))
    where
      within' : place cap h 1 ≤ cap
      within' = place_le cap h 1 within (omega arith)

      size : length (window xs (place cap h 1) (n - 1)) ≡ n - 1
      size = length_window xs cap (place cap h 1) long within' (n - 1) (omega arith)

      lengths : length (window xs (place cap h 1) (n - 1)) ≡ length (drop 1 (window xs h n))
      lengths = omega (arith, size, length-drop 1 (window xs h n), length_window xs cap h long within n b)

      each : (k : ℕ) (d : X) → k < length (window xs (place cap h 1) (n - 1)) →
          get_or (window xs (place cap h 1) (n - 1)) k d ≡ get_or (drop 1 (window xs h n)) k d
      each k d e =
          let e' : k < n - 1 = omega (arith, size) in
          window_at xs cap (place cap h 1) long within' (n - 1) k d (omega arith) e'
          ∙ ap (λ i. get_or xs i d) (place_next cap h k within (omega arith))
          ∙ sym (window_at xs cap h long within n (1 + k) d b (omega arith))
          ∙ sym (get_or-drop 1 (window xs h n) k d)

  -- the values up to the end of the list, and then those from its start on
  pub window_halves : (n k : ℕ) → n ≤ cap → k ≡ min n (cap - h) →
      take k (drop h xs) ++ take (n - k) (take h xs) ≡ window xs h n
  window_halves n k b e =
      ap (λ ys. take k (drop h xs) ++ ys) (take-take (n - k) h xs (omega arith))
      ∙ ⊎_elim wrapped whole (cases_lt (cap - h) n)
      ∙ ap (take n) (sym (drop-append-le h xs xs (omega arith)))
    where
      size : length (drop h xs) ≡ cap - h
      size = omega (arith, length-drop h xs)

      whole : n ≤ cap - h → take k (drop h xs) ++ take (n - k) xs ≡ take n (drop h xs ++ xs)
      whole l =
          let all : k ≡ n = omega arith in
          let none : n - k ≡ 0 = omega arith in
          ap₂ (λ i j. take i (drop h xs) ++ take j xs) all none
          ∙ append-nil (take n (drop h xs))
          ∙ sym (take-append-le n (drop h xs) xs (omega (arith, size)))

      wrapped : cap - h < n → take k (drop h xs) ++ take (n - k) xs ≡ take n (drop h xs ++ xs)
      wrapped l =
          let more : length (drop h xs) + (n - k) ≡ n = omega (arith, size) in
          ap (λ ys. ys ++ take (n - k) xs) (take_all k (drop h xs) (omega (arith, size)))
          ∙ sym (take-append-add (drop h xs) xs (n - k))
          ∙ ap (λ i. take i (drop h xs ++ xs)) more
