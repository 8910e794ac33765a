-- The two forms of a bank: one channel, and a pair of banks.
use Rattle.std.specs.Prelude.{◌≡◌, ℕ, ◌-◌, ◌<◌, ◌≤◌, false, cond, [], ◌∷◌, ◌++◌, take, ◌==◌, nat_lt}
use Rattle.symbol.specs.declared.Item.{Item}
use Rattle.channel.specs.Calls.{Calls}
use Rattle.bank.specs.Bank.{BankCalls, absent, count, most_channels}
use Rattle.bank.specs.declared.pair.Route.{Route}
use Rattle.bank.specs.declared.pair.Route.TheVariants.{First, Second, Nowhere}

-- a bank of one channel, with its letter
abbrev pub one : {C : Type 0} → ℕ → Calls C → BankCalls C
one l m = record {
  letters = λ c. l ∷ [];
  known = λ c k. cond (k == 0) (m.known c) absent;
  loses = λ c k i. cond (k == 0) (m.loses c i) false;
  put = λ c k i. cond (k == 0) (m.put c i) c;
  take = λ c k. cond (k == 0) (m.take c) c;
  step = m.step;
}

-- where a number of a pair leads: the first n are the first bank's, and the others, as far as they reach, the second's
abbrev pub route : ℕ → ℕ → Route
route n k = cond (nat_lt k n) (First k) (cond (nat_lt k most_channels) (Second (k - n)) Nowhere)

abbrev pub routed : {X : Type 0} → Route → (ℕ → X) → (ℕ → X) → X → X
routed (First k) f g x = f k
routed (Second k) f g x = g k
routed Nowhere f g x = x

-- a pair of banks, the first one's numbers first
abbrev pub pair : {B C : Type 0} → BankCalls B → BankCalls C → BankCalls (B × C)
pair m n = record {
  letters = λ p. take most_channels (m.letters p.0 ++ n.letters p.1);
  known = λ p k. routed (route (count m p.0) k) (m.known p.0) (n.known p.1) absent;
  loses = λ p k i.
      routed (route (count m p.0) k) (λ j. m.loses p.0 j i) (λ j. n.loses p.1 j i) false;
  put = λ p k i.
      routed (route (count m p.0) k) (λ j. (m.put p.0 j i, p.1)) (λ j. (p.0, n.put p.1 j i)) p;
  take = λ p k.
      routed (route (count m p.0) k) (λ j. (m.take p.0 j, p.1)) (λ j. (p.0, n.take p.1 j)) p;
  step = λ p. (m.step p.0, n.step p.1);
}

-- a call of a pair is the call of one of its banks, and leaves the whole state of the other
pub record Apart {B C : Type 0} (m : BankCalls B) (n : BankCalls C) (p : B × C) (k : ℕ) : Type 0 where
  pub put_first : (i : Item) → k < count m p.0 → (pair m n).put p k i ≡ (m.put p.0 k i, p.1)
  pub put_second : (i : Item) → count m p.0 ≤ k → k < most_channels →
      (pair m n).put p k i ≡ (p.0, n.put p.1 (k - count m p.0) i)
  pub take_first : k < count m p.0 → (pair m n).take p k ≡ (m.take p.0 k, p.1)
  pub take_second : count m p.0 ≤ k → k < most_channels →
      (pair m n).take p k ≡ (p.0, n.take p.1 (k - count m p.0))

abbrev pub KeptApart : {B C : Type 0} → BankCalls B → BankCalls C → Type 0
KeptApart {B} {C} m n = (p : B × C) (k : ℕ) → Apart m n p k
