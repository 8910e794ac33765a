-- A counted stream: its sender, the symbols on its way, and its receiver keep in step.
use Rattle.std.proofs.Common.{◌≡◌, ℕ, suc, ◌+◌, ◌-◌, ◌%◌, ◌^◌, ◌<◌, ◌≤◌, true, false, ◌&&◌, ◌||◌, eqb, ltb, List}
use Rattle.std.proofs.Common.{[], ◌∷◌, ◌++◌, sym, refl, ap, ◌∙◌, mod-lt, mod-eq_of_lt, arith, pow_pos}
use native.Mathlib.Nat.{mod-le, mod-add-mod, add-mod-mod, add-mod_left, mod-add-div, zero-mod}
use Rattle.std.proofs.lemmas.Bool.Decides.{nat_tests}
use Rattle.std.specs.List.{AllByRecursion}
use Rattle.port.specs.Port.{Outflow, lost_of}
use Rattle.model.specs.Figures.{Role, counted, mark, other, one_counted, counted_in}
use Rattle.model.specs.Stretches.{lost_among, lost_in, good_among}
use Rattle.model.specs.WholeParts.{WholePart}
use Rattle.model.proofs.Accounts.{Losses, with_got, with_lost, with_mark}

-- the losses of the open stretch
abbrev pub open_lost : Losses → ℕ
open_lost x = lost_among x.cut.still_open

-- each ended stretch has left a whole part, every loss is in one or in the open one, and all made good is in one
pub record Wholes (n : ℕ) (x : Losses) : Type 0 where
  pub each : AllByRecursion (WholePart n) x.cut.ended
  pub all_lost : x.lost ≡ open_lost x + lost_in x.cut.ended
  pub all_good : x.good ≡ good_among x.cut.ended

-- a mark stands where the count is whole
abbrev pub AtMark : Role → ℕ → ℕ → Type 0
AtMark counted m x = Unit {0}
AtMark mark m x = x % m ≡ 0
AtMark other m x = Unit {0}

abbrev pub Marks : ℕ → ℕ → List Role → Type 0
Marks m x [] = Unit {0}
Marks m x (r ∷ rs) = AtMark r m x × Marks m (x + one_counted r) rs

pub record InStep (n : ℕ) (out : Outflow) (got : ℕ) (rs : List Role) (x : Losses) : Type 0 where
  pub sent_is : out.sent ≡ (got + open_lost x + counted_in rs) % 2 ^ n
  pub due_is : out.due ≡ true → out.sent ≡ 0
  pub marks : Marks (2 ^ n) (got + open_lost x) rs
  pub below : got < 2 ^ n
  pub good : x.good + open_lost x ≤ x.lost
  pub ended : Wholes n x

pub counted-snoc : (rs : List Role) (r : Role) → counted_in (rs ++ (r ∷ [])) ≡ counted_in rs + one_counted r
counted-snoc [] r = omega arith
counted-snoc (x ∷ xs) r = omega (arith, counted-snoc xs r)

marks-snoc : (m x : ℕ) (rs : List Role) (r : Role) → Marks m x rs → AtMark r m (x + counted_in rs)
    → Marks m x (rs ++ (r ∷ []))
marks-snoc m x [] r h a = grind arith
marks-snoc m x (y ∷ ys) r h a = grind (arith, marks-snoc m (x + one_counted y) ys r)

-- marks look at the count modulo m only
add_mod_eq : (m x y k : ℕ) → x % m ≡ y % m → (x + k) % m ≡ (y + k) % m
add_mod_eq m x y k e = sym (mod-add-mod x m k) ∙ ap (λ (z : ℕ). (z + k) % m) e ∙ mod-add-mod y m k

marks_mod : (m x y : ℕ) (rs : List Role) → x % m ≡ y % m → Marks m x rs → Marks m y rs
marks_mod m x y [] e h = tt
marks_mod m x y (r ∷ rs) e h =
    grind (
      arith,
      add_mod_eq m x y (one_counted r) e,
      marks_mod m (x + one_counted r) (y + one_counted r) rs,
    )

module _ (n : ℕ) (out : Outflow) (got : ℕ) (x : Losses) where
  -- one more is put, which leaves the sender's count at o
  put_more : (r : Role) (o : Outflow) (rs : List Role)
      → (out.sent ≡ (got + open_lost x + counted_in rs) % 2 ^ n
      → o.sent ≡ (got + open_lost x + (counted_in rs + one_counted r)) % 2 ^ n)
      → (o.due ≡ true → o.sent ≡ 0)
      → AtMark r (2 ^ n) (got + open_lost x + counted_in rs)
      → InStep n out got rs x → InStep n o got (rs ++ (r ∷ [])) x
  put_more r o rs sent due at h = record {
    sent_is = sent h.sent_is ∙ ap (λ (z : ℕ). (got + open_lost x + z) % 2 ^ n) (sym (counted-snoc rs r));
    due_is = due;
    marks = marks-snoc _ _ rs r h.marks at;
    below = h.below;
    good = h.good;
    ended = h.ended;
  }

  pub put_counted : (rs : List Role) → out.due ≡ false → InStep n out got rs x
      → InStep n (record {
        sent = (out.sent + 1) % 2 ^ n;
        due = out.due || (eqb ((out.sent + 1) % 2 ^ n) 0 && ltb 0 n);
      }) got (rs ++ (counted ∷ [])) x
  put_counted rs off h =
      put_more counted _ rs
      (λ e. ap (λ (z : ℕ). (z + 1) % 2 ^ n) e ∙ mod-add-mod (got + open_lost x + counted_in rs) (2 ^ n) 1
      ∙ ap (λ (z : ℕ). z % 2 ^ n) (omega arith))
      (λ d. grind (arith, nat_tests)) tt h

  pub put_mark : (rs : List Role) → out.due ≡ true → InStep n out got rs x → InStep n (record {
    sent = out.sent;
    due = false;
  }) got (rs ++ (mark ∷ [])) x
  put_mark rs d h =
      put_more mark _ rs (λ e. grind arith) (λ e. h.due_is d) (sym h.sent_is ∙ h.due_is d) h

  pub put_other : (rs : List Role) → InStep n out got rs x → InStep n out got (rs ++ (other ∷ [])) x
  put_other rs h = put_more other _ rs (λ e. grind arith) h.due_is tt h

  -- what is not counted is taken
  take_uncounted : (r : Role) (rs : List Role) → one_counted r ≡ 0 → InStep n out got (r ∷ rs) x → InStep n out got rs x
  take_uncounted r rs z h = record {
    sent_is = grind (arith, h.sent_is);
    due_is = h.due_is;
    marks = marks_mod _ _ _ rs (grind arith) h.marks.1;
    below = h.below;
    good = h.good;
    ended = h.ended;
  }

  pub take_other : (rs : List Role) → InStep n out got (other ∷ rs) x → InStep n out got rs x
  take_other rs = take_uncounted other rs refl

  pub lose_mark : (rs : List Role) → InStep n out got (mark ∷ rs) x → InStep n out got rs x
  lose_mark rs = take_uncounted mark rs refl

  pub lose_counted : (rs : List Role) → InStep n out got (counted ∷ rs) x
      → InStep n out got rs (with_lost x)
  lose_counted rs h = record {
    sent_is = grind (arith, h.sent_is);
    due_is = h.due_is;
    marks = marks_mod _ _ _ rs (grind arith) h.marks.1;
    below = h.below;
    good = omega (arith, h.good);
    ended = record {
      each = h.ended.each;
      all_lost = omega (arith, h.ended.all_lost);
      all_good = h.ended.all_good;
    };
  }

  got_more : (k : ℕ) → ((got + 1) % 2 ^ n + open_lost x + k) % 2 ^ n ≡ (got + open_lost x + suc k) % 2 ^ n
  got_more k = grind (arith, mod-add-mod (got + 1) (2 ^ n) (open_lost x + k))

  pub get_counted : (rs : List Role) → InStep n out got (counted ∷ rs) x
      → InStep n out ((got + 1) % 2 ^ n) rs (with_got x)
  get_counted rs h = record {
    sent_is = grind (arith, h.sent_is, got_more (counted_in rs));
    due_is = h.due_is;
    marks = marks_mod _ _ _ rs (grind (arith, got_more 0)) h.marks.1;
    below = mod-lt (got + 1) (pow_pos n);
    good = omega (arith, h.good);
    ended = record {
      each = h.ended.each;
      all_lost = omega (arith, h.ended.all_lost);
      all_good = h.ended.all_good;
    };
  }

  -- what a sound mark finds lost is what was lost since the last, modulo 2^n
  pub found : (rs : List Role) → InStep n out got (mark ∷ rs) x → lost_of n got ≡ open_lost x % 2 ^ n
  found rs h =
      grind (
        arith,
        h.marks.0,
        h.below,
        add-mod-mod (2 ^ n - got) (got + open_lost x) (2 ^ n),
        add-mod_left (2 ^ n) (open_lost x),
      )

  pub get_mark : (rs : List Role) → InStep n out got (mark ∷ rs) x
      → InStep n out 0 rs (with_mark x (x.good + lost_of n got) (lost_of n got))
  get_mark rs h = record {
    sent_is =
        grind (
          arith,
          h.sent_is,
          add_mod_eq (2 ^ n) (got + open_lost x) 0 (counted_in rs) (h.marks.0 ∙ sym (zero-mod (2 ^ n))),
        );
    due_is = h.due_is;
    marks = marks_mod _ _ _ rs (grind (arith, h.marks.0, zero-mod (2 ^ n))) h.marks.1;
    below = pow_pos n;
    good = omega (arith, found rs h, mod-le (open_lost x) (2 ^ n), h.good);
    ended = record {
      each = (
        record {
          at_most = omega (arith, found rs h, mod-le (open_lost x) (2 ^ n));
          whole = omega (arith, found rs h, mod-add-div (open_lost x) (2 ^ n));
          few = λ z. omega (arith, found rs h, mod-eq_of_lt z);
        },
        h.ended.each,
      );
      all_lost = omega (arith, h.ended.all_lost);
      all_good = omega (arith, h.ended.all_good);
    };
  }
