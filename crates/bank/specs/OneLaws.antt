-- A bank of one channel keeps the laws of a bank.
use Rattle.std.specs.Prelude.{◌≡◌, ℕ, cond, ◌≢◌, ◌==◌, refl}
use Rattle.std.proofs.Common.{⊎_elim, sym, ap, subst, ◌∙◌, arith}
use Rattle.std.proofs.lemmas.Bool.{cond-false, ne_eqb, cases_eq}
use Rattle.channel.specs.Calls.{Calls, Lawful}
use Rattle.bank.specs.Bank.{LawfulBank, channel_at, absent}
use Rattle.bank.specs.Banks.{one}

module _ {C : Type 0} (l : ℕ) (m : Calls C) (c : C) where
  other : {X : Type 0} (k : ℕ) (x y : X) → k ≢ 0 → cond (k == 0) x y ≡ y
  other k x y ne = cond-false (k == 0) x y (ne_eqb k 0 ne)

  -- a change at the number k shows at no other
  others : (c' : C) (k j : ℕ) → j ≢ k → (one l m).known (cond (k == 0) c' c) j ≡ (one l m).known c j
  others c' k j ne = ⊎_elim at_zero elsewhere (cases_eq k 0)
    where
      at_zero : k ≡ 0 → (one l m).known (cond (k == 0) c' c) j ≡ (one l m).known c j
      at_zero e =
          let ne' : j ≢ 0 = omega arith in
          other j (m.known (cond (k == 0) c' c)) absent ne' ∙ sym (other j (m.known c) absent ne')

      elsewhere : k ≢ 0 → (one l m).known (cond (k == 0) c' c) j ≡ (one l m).known c j
      elsewhere e = ap (λ x. (one l m).known x j) (other k c' c e)

  pub one_lawful : Lawful m c → LawfulBank (one l m) c
  one_lawful law = record {
    channels = λ k b. subst (λ j. Lawful (channel_at (one l m) j) c) (let e : 0 ≡ k = omega arith in e) law;
    most = omega arith;
    put_others = λ k j i. others (m.put c i) k j;
    take_others = λ k j. others (m.take c) k j;
    put_letters = λ k i. refl;
    take_letters = λ k. refl;
    step_letters = refl;
    beyond = λ k b. other k (m.known c) absent (omega arith);
    put_beyond = λ k i b. other k (m.put c i) c (omega arith);
    take_beyond = λ k b. other k (m.take c) c (omega arith);
  }
