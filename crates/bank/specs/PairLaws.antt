-- A pair of banks keeps the laws of a bank, and keeps its two banks apart.
use Rattle.std.specs.Prelude.{◌≡◌, ℕ, ◌-◌, ◌<◌, ◌≤◌, Bool, false, ◌≢◌, ◌++◌, length, take, refl}
use Rattle.std.proofs.Common.{ap, ap₂, ◌∙◌, arith}
use Rattle.symbol.specs.declared.Item.{Item}
use Rattle.channel.specs.Calls.{Lawful}
use Rattle.bank.specs.Bank.{BankCalls, LawfulBank, channel_at, absent, count, most_channels}
use Rattle.bank.specs.Banks.{Apart, pair, route, routed}
use Rattle.bank.specs.declared.pair.Route.{Route}
use Rattle.bank.specs.Carried.{Carries, carried}
use Rattle.bank.specs.Routes.{route_first, route_second, by_route, pair_count}

module _ {B C : Type 0} (m : BankCalls B) (n : BankCalls C) where
  -- a put or a take along a route: f of the first bank or g of the second
  abbrev moved : B → C → (ℕ → B) → (ℕ → C) → Route → B × C
  moved a b f g r = routed r (λ j. (f j, b)) (λ j. (a, g j)) (a, b)

  abbrev put_by : B → C → Item → Route → B × C
  put_by a b i = moved a b (λ j. m.put a j i) (λ j. n.put b j i)

  abbrev taken_by : B → C → Route → B × C
  taken_by a b = moved a b (m.take a) (n.take b)

  abbrev loses_by : B → C → Item → Route → Bool
  loses_by a b i r = routed r (λ j. m.loses a j i) (λ j. n.loses b j i) false

  known_first : (a : B) (b : C) (k : ℕ) → k < count m a → (pair m n).known (a, b) k ≡ m.known a k
  known_first a b k l = ap (λ r. routed r (m.known a) (n.known b) absent) (route_first (count m a) k l)

  known_second : (a : B) (b : C) (k : ℕ) → count m a ≤ k → k < most_channels →
      (pair m n).known (a, b) k ≡ n.known b (k - count m a)
  known_second a b k l s = ap (λ r. routed r (m.known a) (n.known b) absent) (route_second (count m a) k l s)

  -- a change of one of the two banks that keeps the letters shows only at the numbers that lead to it
  changed_first : (a a' : B) (b : C) (j : ℕ) → m.letters a' ≡ m.letters a → m.known a' j ≡ m.known a j →
      (pair m n).known (a', b) j ≡ (pair m n).known (a, b) j
  changed_first a a' b j e h =
      ap (λ xs. routed (route (length xs) j) (m.known a') (n.known b) absent) e
      ∙ by_route (count m a) j
      (λ r. routed r (m.known a') (n.known b) absent ≡ routed r (m.known a) (n.known b) absent)
      (λ _. h)
      (λ _ _. refl)
      (λ _ _. refl)

  changed_second : (a : B) (b b' : C) (j : ℕ)
      → (count m a ≤ j → n.known b' (j - count m a) ≡ n.known b (j - count m a)) →
      (pair m n).known (a, b') j ≡ (pair m n).known (a, b) j
  changed_second a b b' j h =
      by_route (count m a) j
      (λ r. routed r (m.known a) (n.known b') absent ≡ routed r (m.known a) (n.known b) absent)
      (λ _. refl)
      (λ l _. h l)
      (λ _ _. refl)

  pub pair_apart : (p : B × C) (k : ℕ) → Apart m n p k
  pair_apart p k = record {
    put_first = λ i l. ap (put_by p.0 p.1 i) (route_first (count m p.0) k l);
    put_second = λ i l s. ap (put_by p.0 p.1 i) (route_second (count m p.0) k l s);
    take_first = λ l. ap (taken_by p.0 p.1) (route_first (count m p.0) k l);
    take_second = λ l s. ap (taken_by p.0 p.1) (route_second (count m p.0) k l s);
  }

module _ {B C : Type 0} (m : BankCalls B) (n : BankCalls C) (a : B) (b : C) (la : LawfulBank m a)
    (lb : LawfulBank n b) where
  moved_others : (f : ℕ → B) (g : ℕ → C) (k j : ℕ) → j ≢ k →
      ((i : ℕ) → m.letters (f i) ≡ m.letters a) →
      ((i h : ℕ) → h ≢ i → m.known (f i) h ≡ m.known a h) →
      ((i h : ℕ) → h ≢ i → n.known (g i) h ≡ n.known b h) →
      (pair m n).known (moved m n a b f g (route (count m a) k)) j ≡ (pair m n).known (a, b) j
  moved_others f g k j ne e hf hg =
      by_route (count m a) k (λ r. (pair m n).known (moved m n a b f g r) j ≡ (pair m n).known (a, b) j)
      (λ l. changed_first m n a (f k) b j (e k) (hf k j ne))
      (λ l s. changed_second m n a b (g (k - count m a)) j (λ l'. hg (k - count m a) (j - count m a) (omega arith)))
      (λ l s. refl)

  moved_letters : (f : ℕ → B) (g : ℕ → C) (k : ℕ) →
      ((i : ℕ) → m.letters (f i) ≡ m.letters a) → ((i : ℕ) → n.letters (g i) ≡ n.letters b) →
      (pair m n).letters (moved m n a b f g (route (count m a) k)) ≡ (pair m n).letters (a, b)
  moved_letters f g k hf hg =
      by_route (count m a) k (λ r. (pair m n).letters (moved m n a b f g r) ≡ (pair m n).letters (a, b))
      (λ l. ap (λ xs. take most_channels (xs ++ n.letters b)) (hf k))
      (λ l s. ap (λ ys. take most_channels (m.letters a ++ ys)) (hg (k - count m a)))
      (λ l s. refl)

  moved_beyond : (f : ℕ → B) (g : ℕ → C) (k : ℕ) → count (pair m n) (a, b) ≤ k →
      ((j : ℕ) → count n b ≤ j → g j ≡ b) → moved m n a b f g (route (count m a) k) ≡ (a, b)
  moved_beyond f g k past h =
      let size = pair_count (m.letters a) (n.letters b) in
      by_route (count m a) k (λ r. moved m n a b f g r ≡ (a, b))
      (λ l. absurd (omega (arith, size, la.most)))
      (λ l s. ap (λ y. (a, y)) (h (k - count m a) (omega (arith, size))))
      (λ l s. refl)

  in_first : (k : ℕ) → k < count m a → Carries (channel_at m k) (channel_at (pair m n) k) a (a, b)
  in_first k l =
      let at = route_first (count m a) k l in
      let kept : (a' : B) → m.letters a' ≡ m.letters a → k < count m a' = λ a' e. omega (arith, ap length e) in
      let apart = pair_apart m n (a, b) k in
      record {
        known_here = known_first m n a b k l;
        loses_here = λ i. ap (loses_by m n a b i) at;
        known_put = λ i.
            ap (λ p. (pair m n).known p k) (apart.put_first i l)
            ∙ known_first m n (m.put a k i) b k (kept (m.put a k i) (la.put_letters k i));
        known_take =
            ap (λ p. (pair m n).known p k) (apart.take_first l)
            ∙ known_first m n (m.take a k) b k (kept (m.take a k) (la.take_letters k));
        known_step = known_first m n (m.step a) (n.step b) k (kept (m.step a) la.step_letters);
        put_back = λ i e. apart.put_first i l ∙ ap (λ x. (x, b)) e;
        take_back = λ e. apart.take_first l ∙ ap (λ x. (x, b)) e;
      }

  in_second : (k : ℕ) → count m a ≤ k → k < most_channels →
      Carries (channel_at n (k - count m a)) (channel_at (pair m n) k) b (a, b)
  in_second k l s =
      let at = route_second (count m a) k l s in
      let j = k - count m a in
      let apart = pair_apart m n (a, b) k in
      record {
        known_here = known_second m n a b k l s;
        loses_here = λ i. ap (loses_by m n a b i) at;
        known_put = λ i. ap (λ p. (pair m n).known p k) (apart.put_second i l s)
            ∙ known_second m n a (n.put b j i) k l s;
        known_take = ap (λ p. (pair m n).known p k) (apart.take_second l s) ∙ known_second m n a (n.take b j) k l s;
        known_step =
            known_second m n (m.step a) (n.step b) k (omega (arith, ap length la.step_letters)) s
            ∙ ap (λ xs. n.known (n.step b) (k - length xs)) la.step_letters;
        put_back = λ i e. apart.put_second i l s ∙ ap (λ y. (a, y)) e;
        take_back = λ e. apart.take_second l s ∙ ap (λ y. (a, y)) e;
      }

  in_pair : (k : ℕ) → k < count (pair m n) (a, b) → Lawful (channel_at (pair m n) k) (a, b)
  in_pair k l =
      let size = pair_count (m.letters a) (n.letters b) in
      by_route (count m a) k (λ _. Lawful (channel_at (pair m n) k) (a, b))
      (λ f. carried (channel_at m k) (channel_at (pair m n) k) a (a, b) (in_first k f) (la.channels k f))
      (λ f s.
      carried (channel_at n (k - count m a)) (channel_at (pair m n) k) b (a, b) (in_second k f s)
      (lb.channels (k - count m a) (omega (arith, size))))
      (λ f s. absurd (omega (arith, size)))

  past_pair : (k : ℕ) → count (pair m n) (a, b) ≤ k → (pair m n).known (a, b) k ≡ absent
  past_pair k past =
      let size = pair_count (m.letters a) (n.letters b) in
      by_route (count m a) k (λ r. routed r (m.known a) (n.known b) absent ≡ absent)
      (λ l. absurd (omega (arith, size, la.most)))
      (λ l s. lb.beyond (k - count m a) (omega (arith, size)))
      (λ l s. refl)

  pub pair_lawful : LawfulBank (pair m n) (a, b)
  pair_lawful = record {
    channels = in_pair;
    most = omega (arith, pair_count (m.letters a) (n.letters b));
    put_others = λ k j i ne.
        moved_others (λ h. m.put a h i) (λ h. n.put b h i) k j ne (λ h. la.put_letters h i)
        (λ h g. la.put_others h g i) (λ h g. lb.put_others h g i);
    take_others =
        λ k j ne. moved_others (m.take a) (n.take b) k j ne la.take_letters la.take_others lb.take_others;
    put_letters =
        λ k i. moved_letters (λ h. m.put a h i) (λ h. n.put b h i) k (λ h. la.put_letters h i)
        (λ h. lb.put_letters h i);
    take_letters = λ k. moved_letters (m.take a) (n.take b) k la.take_letters lb.take_letters;
    step_letters = ap₂ (λ xs ys. take most_channels (xs ++ ys)) la.step_letters lb.step_letters;
    beyond = past_pair;
    put_beyond = λ k i past. moved_beyond (λ h. m.put a h i) (λ h. n.put b h i) k past (λ h. lb.put_beyond h i);
    take_beyond = λ k past. moved_beyond (m.take a) (n.take b) k past lb.take_beyond;
  }
