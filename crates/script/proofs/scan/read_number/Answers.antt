use Rattle.std.proofs.Common.{◌≡◌, ℕ, ◌+◌, ◌-◌, ◌*◌, ◌^◌, ◌<◌, ◌≤◌, Bool, true, false, ◌&&◌, List, length, get_or, drop}
use Rattle.std.proofs.Common.{sym, refl, ◌∙◌, pow-suc, add-one, arith}
use native.Mathlib.Nat.{pow-le-pow_right}
use Rattle.std.specs.Char.{digit_value, is_ascii_digit}
use Rattle.std.specs.Int.{IsInRange}
use Rattle.std.specs.Str.{all_ascii_digits}
use Rattle.std.proofs.lemmas.List.{at_drop_more, at_drop_all}
use Rattle.std.proofs.lemmas.Str.{digit_value_digit}
use Rattle.std.proofs.lemmas.Str.Parse.{digit_from_value}
use Rattle.std.proofs.lemmas.Bool.Decides.{nat_tests}
use Rattle.script.specs.Text.{value_on}
use Rattle.script.proofs.scan.read_number.Goals as goal

-- a further digit
grown : (v k d : ℕ) → v < 10 ^ k → d ≤ 9 → v * 10 + d < 10 ^ (k + 1)
grown v k d h small = rw (add-one, pow-suc) (omega arith)

-- seven digits and fewer
short : (v k : ℕ) → v < 10 ^ k → k < 8 → v < 10 ^ 7
short v k h few = let p = pow-le-pow_right {n = 10} (omega arith) {i = k} {j = 7} (omega arith) in omega arith

-- a byte with a digit's value is a digit
a_digit : (b : ℕ) → digit_value b < 10 → (is_ascii_digit b ≡ true) × (digit_value b ≡ b - 48)
a_digit b h =
    let in_range = digit_from_value b h in
    let value = digit_value_digit b in_range in
    (grind (arith, nat_tests), omega arith)

no_digit : (b : ℕ) (v : Bool) → is_ascii_digit b ≡ v → (digit_value b < 10 → ⊥) → v ≡ false
no_digit b true is h =
    let in_range : IsInRange 48 57 b = grind (arith, nat_tests) in
    let value = digit_value_digit b in_range in
    absurd (h (omega arith))
no_digit b false is h = refl

-- the digits that are left, at a byte that is or is not one
digits_on : (bs : List ℕ) (i : ℕ) (r : Bool) → i < length bs → is_ascii_digit (get_or bs i 0) ≡ r
    → all_ascii_digits (drop i bs) ≡ (r && all_ascii_digits (drop (i + 1) bs))
digits_on bs i r h e = at_drop_more all_ascii_digits bs i 0 h ∙ rw e

pub returns-in_err-value : goal.returns-in_err-value
returns-in_err-value c =
    let b = get_or c.args.text.now c.loop-b.b-index 0 in
    let same : c.from.result ≡ b = c.from.ensures in
    let none =
    digits_on c.args.text.now c.loop-b.b-index false (omega arith)
    (no_digit b (is_ascii_digit b) refl (rw same at c.in_err-value.ensures.value)) in
    let all : all_ascii_digits c.args.text.now ≡ false = sym c.loop-b.invariant.2 ∙ none in
    rw c.from_residual.ensures (grind (arith, nat_tests))

pub overflow_mul-value : goal.overflow_mul-value
overflow_mul-value c = let s = short c.loop-b.value c.loop-b.b-index c.loop-b.invariant.0 (omega arith) in omega arith

pub overflow_add-value : goal.overflow_add-value
overflow_add-value c =
    let s = short c.loop-b.value c.loop-b.b-index c.loop-b.invariant.0 (omega arith) in
    let digit = c.in_ok-value.ensures.value in
    omega arith

pub loop-b-preserved : goal.loop-b-preserved
loop-b-preserved c =
    let b = get_or c.args.text.now c.loop-b.b-index 0 in
    let same : c.from.result ≡ b = c.from.ensures in
    let told = rw same at c.in_ok-value.ensures.value in
    let digit = a_digit b told.0 in
    let all = digits_on c.args.text.now c.loop-b.b-index true (omega arith) digit.0 in
    let value = at_drop_more (value_on c.loop-b.value) c.args.text.now c.loop-b.b-index 0 (omega arith) in (
      grown c.loop-b.value c.loop-b.b-index c.in_ok-value.field-0 c.loop-b.invariant.0 (omega arith),
      rw (told.1, digit.1) (sym value ∙ c.loop-b.invariant.1),
      sym all ∙ c.loop-b.invariant.2,
    )

pub returns : goal.returns
returns c =
    let value : c.loop-b.value ≡ value_on 0 c.args.text.now =
    sym (at_drop_all (value_on c.loop-b.value) c.args.text.now c.loop-b.b-index (omega arith))
    ∙ c.loop-b.invariant.1 in
    let all : all_ascii_digits c.args.text.now ≡ true =
    sym c.loop-b.invariant.2 ∙ at_drop_all all_ascii_digits c.args.text.now c.loop-b.b-index (omega arith) in
    grind (arith, nat_tests)
