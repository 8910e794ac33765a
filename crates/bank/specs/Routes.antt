-- Where the numbers of a pair lead.
use Rattle.std.specs.Prelude.{◌≡◌, ℕ, ◌+◌, ◌-◌, ◌<◌, ◌≤◌, min, List, ◌++◌, length, take, nat_lt, refl}
use Rattle.std.proofs.Common.{⊎_elim, sym, ap, subst, ◌∙◌, arith}
use Rattle.std.proofs.lemmas.List.{length-take, length-append}
use Rattle.std.proofs.lemmas.List.{get_or-take, get_or_append_left, get_or-append_right, get_or_past}
use Rattle.std.proofs.lemmas.Bool.{cond-true, cond-false, lt-ltb, le-ltb, cases_lt}
use Rattle.bank.specs.Bank.{BankCalls, count, letter_at, most_channels}
use Rattle.bank.specs.Banks.{pair, route, routed}
use Rattle.bank.specs.declared.pair.Route.{Route}
use Rattle.bank.specs.declared.pair.Route.TheVariants.{First, Second, Nowhere}

module _ (n k : ℕ) where
  pub route_first : k < n → route n k ≡ First k
  route_first l = cond-true (nat_lt k n) _ _ (lt-ltb k n l)

  pub route_second : n ≤ k → k < most_channels → route n k ≡ Second (k - n)
  route_second l s = cond-false (nat_lt k n) _ _ (le-ltb k n l)
      ∙ cond-true (nat_lt k most_channels) _ _ (lt-ltb k most_channels s)

  pub route_nowhere : n ≤ k → most_channels ≤ k → route n k ≡ Nowhere
  route_nowhere l s = cond-false (nat_lt k n) _ _ (le-ltb k n l)
      ∙ cond-false (nat_lt k most_channels) _ _ (le-ltb k most_channels s)

  -- by where the number leads
  pub by_route : (P : Route → Type 0) → (k < n → P (First k)) → (n ≤ k → k < most_channels → P (Second (k - n))) →
      (n ≤ k → most_channels ≤ k → P Nowhere) → P (route n k)
  by_route P f s o = ⊎_elim first (λ l. ⊎_elim (second l) (nowhere l) (cases_lt k most_channels)) (cases_lt k n)
    where
      first : k < n → P (route n k)
      first l = subst P (sym (route_first l)) (f l)

      second : n ≤ k → k < most_channels → P (route n k)
      second l h = subst P (sym (route_second l h)) (s l h)

      nowhere : n ≤ k → most_channels ≤ k → P (route n k)
      nowhere l h = subst P (sym (route_nowhere l h)) (o l h)

pub pair_count : (xs ys : List ℕ) → length (take most_channels (xs ++ ys)) ≡ min most_channels (length xs + length ys)
pair_count xs ys = simp (length-take, length-append)

-- the letter that a route leads to
pub pair_letter : {B C : Type 0} (m : BankCalls B) (n : BankCalls C) (a : B) (b : C) (k x : ℕ) (r : Route) →
    count m a ≤ most_channels → r ≡ route (count m a) k → x ≡ routed r (letter_at m a) (letter_at n b) 45 →
    x ≡ letter_at (pair m n) (a, b) k
pair_letter m n a b k x r most e h = h ∙ ap (λ t. routed t (letter_at m a) (letter_at n b) 45) e ∙ sym letters
  where
    letters : letter_at (pair m n) (a, b) k ≡ routed (route (count m a) k) (letter_at m a) (letter_at n b) 45
    letters =
        let xs = m.letters a in
        let ys = n.letters b in
        by_route (count m a) k (λ t. letter_at (pair m n) (a, b) k ≡ routed t (letter_at m a) (letter_at n b) 45)
        (λ l. get_or-take most_channels (xs ++ ys) k 45 (omega arith) ∙ get_or_append_left xs ys 45 k l)
        (λ l s. get_or-take most_channels (xs ++ ys) k 45 s ∙ get_or-append_right xs ys (length xs) k 45 refl l)
        (λ l s. get_or_past (take most_channels (xs ++ ys)) k 45 (omega (arith, pair_count xs ys)))
