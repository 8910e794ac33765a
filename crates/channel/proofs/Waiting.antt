-- No item of a delay ring waits longer than its delay, or comes to.
use Rattle.std.proofs.Common.{◌≡◌, ℕ, ◌-◌, ◌≤◌, true, ltb, leb, List, [], ◌∷◌, ◌++◌, map, length, refl, arith}
use Rattle.std.proofs.lemmas.Bool.{cond_both, and_parts, and_from, leb-true, le-leb}
use Rattle.ring.specs.Queue.{pushed}
use Rattle.channel.specs.Timed.{nearer, within}
use Rattle.channel.specs.declared.timed.Timed.{Timed}

module _ (n : ℕ) where
  within_last : (ts : List Timed) (t : Timed) → within n ts ≡ true → t.wait ≤ n → within n (ts ++ (t ∷ [])) ≡ true
  within_last [] t e l = and_from (leb t.wait n) true (le-leb t.wait n l) refl
  within_last (u ∷ ts) t e l =
      let h = and_parts (leb u.wait n) (within n ts) e in
      and_from (leb u.wait n) (within n (ts ++ (t ∷ []))) h.0 (within_last ts t h.1 l)

  pub within_pushed : (cap : ℕ) (ts : List Timed) (t : Timed) → within n ts ≡ true → t.wait ≤ n
      → within n (pushed cap ts t) ≡ true
  within_pushed cap ts t e l =
      cond_both (ltb (length ts) cap) (ts ++ (t ∷ [])) ts (λ us. within n us ≡ true) (λ _. within_last ts t e l)
      (λ _. e)

  pub within_nearer : (ts : List Timed) → within n ts ≡ true → within n (map nearer ts) ≡ true
  within_nearer [] e = refl
  within_nearer (t ∷ ts) e =
      let h = and_parts (leb t.wait n) (within n ts) e in
      let less : t.wait - 1 ≤ n = omega (arith, leb-true t.wait n h.0) in
      and_from (leb (t.wait - 1) n) (within n (map nearer ts)) (le-leb (t.wait - 1) n less) (within_nearer ts h.1)
