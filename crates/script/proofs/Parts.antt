-- Lines and words are parts of the bytes that they are read from.
use Rattle.std.proofs.Common.{◌≡◌, ℕ, suc, ◌+◌, Bool, true, false, not, eqb, List, [], ◌∷◌, ◌++◌, length, sym, refl}
use Rattle.std.proofs.Common.{ap, ◌∙◌, subst, inl, inr, arith}
use Rattle.std.proofs.lemmas.Bool.{eqb-true, eqb-false}
use Rattle.std.specs.List.{AllByRecursion}
use Rattle.script.specs.Laws.{Lined, Apart, Parted}
use Rattle.script.specs.Text.{Word, onto, lines, goes_on, attached, words}

-- one byte more before the first line
lined_onto : (b : ℕ) (bs : List ℕ) (ls : List (List ℕ)) → (b ≡ 10 → ⊥) → Lined bs ls → Lined (b ∷ bs) (onto b ls)
lined_onto b bs [] other h =
    ((other, tt), inl (record { bytes_are = ap (λ (l : List ℕ). b ∷ l) h; some = omega arith; none_later = refl }))
lined_onto b bs (l ∷ ls) other (h, inl last) =
    let bytes = ap (λ (x : List ℕ). b ∷ x) last.bytes_are in
    ((other, h), inl (record { bytes_are = bytes; some = omega arith; none_later = last.none_later }))
lined_onto b bs (l ∷ ls) other (h, inr more) =
    ((other, h), inr (more.0, (ap (λ (x : List ℕ). b ∷ x) more.1.0, more.1.1)))

lined_by : (b : ℕ) (bs : List ℕ) (v : Bool) → eqb b 10 ≡ v → Lined bs (lines bs) → Lined (b ∷ bs) (lines (b ∷ bs))
lined_by b bs true e h = rw e (tt, inr (bs, (ap (λ (x : ℕ). x ∷ bs) (eqb-true b 10 e), h)))
lined_by b bs false e h = rw e (lined_onto b bs (lines bs) (eqb-false b 10 e) h)

pub lined : (bs : List ℕ) → Lined bs (lines bs)
lined [] = refl
lined (b ∷ bs) = lined_by b bs (eqb b 10) refl (lined bs)

-- one space more before the words
parted_space : (at b : ℕ) (bs : List ℕ) (ws : List Word) → b ≡ 32 → Parted (suc at) bs ws → Parted at (b ∷ bs) ws
parted_space at b bs [] e h = (e, h)
parted_space at b bs (w ∷ ws) e (f, h) =
    let place = f.place in (
      record {
        gap = b ∷ f.gap;
        rest = f.rest;
        bytes_are = ap (λ (x : List ℕ). b ∷ x) f.bytes_are;
        spaces = (e, f.spaces);
        some = f.some;
        whole = f.whole;
        apart = f.apart;
        place = omega arith;
      },
      h,
    )

apart_by : (b : ℕ) (v : Bool) → eqb b 32 ≡ v → not v ≡ false → b ≡ 32
apart_by b true e h = eqb-true b 32 e
apart_by b false e h = absurd (cc)

-- bytes that do not go on with a word
apart_from : (bs : List ℕ) → goes_on bs ≡ false → Apart bs
apart_from [] h = tt
apart_from (b ∷ bs) h = apart_by b (eqb b 32) refl h

ink_by : (b : ℕ) (v : Bool) → eqb b 32 ≡ v → not v ≡ true → b ≡ 32 → ⊥
ink_by b true e h = absurd (cc)
ink_by b false e h = eqb-false b 32 e

-- where bytes go on with a word, no gap stands before it
no_spaces : (bs : List ℕ) → goes_on bs ≡ true → AllByRecursion (λ b. b ≡ 32) bs → ⊥
no_spaces [] g h = absurd (cc)
no_spaces (b ∷ bs) g h = ink_by b (eqb b 32) refl g h.0

no_gap : (bs gap more : List ℕ) → goes_on bs ≡ true → bs ≡ gap ++ more → AllByRecursion (λ b. b ≡ 32) gap → gap ≡ []
no_gap bs [] more g e h = refl
no_gap bs (b ∷ gap) more g e h = absurd (ink_by b (eqb b 32) refl (sym (ap goes_on e) ∙ g) h.0)

-- one byte more of a word
parted_attached : (at b : ℕ) (bs : List ℕ) (g : Bool) (ws : List Word) → (b ≡ 32 → ⊥) → goes_on bs ≡ g
    → Parted (suc at) bs ws → Parted at (b ∷ bs) (attached at b g ws)
parted_attached at b bs false ws ink e h =
    let next : suc at ≡ at + 1 = omega arith in (
      record {
        gap = [];
        rest = bs;
        bytes_are = refl;
        spaces = tt;
        some = omega arith;
        whole = (ink, tt);
        apart = apart_from bs e;
        place = omega arith;
      },
      subst (λ (k : ℕ). Parted k bs ws) next h,
    )
parted_attached at b bs true [] ink e h = absurd (no_spaces bs e h)
parted_attached at b bs true (w ∷ ws) ink e (f, h) =
    let none : f.gap ≡ [] = no_gap bs f.gap (w.text ++ f.rest) e f.bytes_are f.spaces in
    let short : length f.gap ≡ 0 = ap length none in
    let place = f.place in
    let next : w.byte + length w.text ≡ at + length (b ∷ w.text) = omega arith in (
      record {
        gap = [];
        rest = f.rest;
        bytes_are = ap (λ (x : List ℕ). b ∷ x) (f.bytes_are ∙ ap (λ (x : List ℕ). x ++ (w.text ++ f.rest)) none);
        spaces = tt;
        some = omega arith;
        whole = (ink, f.whole);
        apart = f.apart;
        place = omega arith;
      },
      subst (λ (k : ℕ). Parted k f.rest ws) next h,
    )

parted_by : (at b : ℕ) (bs : List ℕ) (v : Bool) → eqb b 32 ≡ v → Parted (suc at) bs (words (suc at) bs)
    → Parted at (b ∷ bs) (words at (b ∷ bs))
parted_by at b bs true e h = rw e (parted_space at b bs (words (suc at) bs) (eqb-true b 32 e) h)
parted_by at b bs false e h =
    rw e (parted_attached at b bs (goes_on bs) (words (suc at) bs) (eqb-false b 32 e) refl h)

pub parted : (at : ℕ) (bs : List ℕ) → Parted at bs (words at bs)
parted at [] = tt
parted at (b ∷ bs) = parted_by at b bs (eqb b 32) refl (parted (suc at) bs)
