-- An array that a closure made, by what the closure gives at each index.
use Rattle.std.proofs.Common.{◌≡◌, ℕ, ◌+◌, ◌<◌, List, get_or, map, zero, suc, refl, arith, subst, sym, ap, ◌∙◌}
use Rattle.std.specs.Array.{IsFromFnResult, IsFromFnResultFrom}
use Rattle.std.specs.Fn.{Called, Mut}
use Rattle.std.specs.List.{range_with_len}
use Rattle.std.proofs.lemmas.List.FromFn.{fill_by_all}

module _ {F Y : Type 0} (g : Mut F (ℕ × Unit {0}) Y) (f : F) (h : ℕ → Y) (n : ℕ)
    (says : (i : ℕ) (y : Y) (q : F) → i < n → Called g f (i, tt) y q → (y ≡ h i) × (q ≡ f)) (ys : List Y) where
  each : (m i : ℕ) (p : F) → i + m ≡ n → p ≡ f → IsFromFnResultFrom g p ys i m → (k j : ℕ) (d : Y) → k < m → j ≡ i + k
      → get_or ys j d ≡ h j
  each zero i p size same t k j d l e = absurd (omega arith)
  each (suc m) i p size same t k j d l e =
      let here = says i t.1 t.0 (omega arith) (subst (λ s. Called g s (i, tt) t.1 t.0) same t.3) in
      elim k as (λ k. k < suc m → j ≡ i + k → get_or ys j d ≡ h j) [
        | zero ↦ λ l e.
            let at : j ≡ i = omega arith in
            ap (λ a. get_or ys a d) at ∙ t.2.1 d ∙ here.0 ∙ ap h (sym at)
        | suc k ↦ λ l e. each m (i + 1) t.0 (omega arith) here.1 t.4 k j d (omega arith) (omega arith)
      ] l e

  pub made : (d : Y) → IsFromFnResult g f ys n → ys ≡ map h (range_with_len 0 n)
  made d m = fill_by_all h ys n d m.long (λ k l. each n 0 f (omega arith) refl m.each k k d l (omega arith))
