-- The stretches of an account are those of what its port has taken.
use Rattle.std.proofs.Common.{◌≡◌, ℕ, List, [], ◌∷◌, ◌++◌, refl, ap, ◌∙◌, subst, arith}
use Rattle.symbol.specs.declared.Symbol.{Symbol}
use Rattle.model.specs.Figures.{Stream, Frames, RRdys, role}
use Rattle.model.specs.Stretches.{Fate, Arrived, UnderWay, more_good, Passage, last_good, Stretches, and_one, cut}
use Rattle.model.specs.Stretches.{nothing_put, paired, taken_symbols, lost_among}
use Rattle.model.proofs.Accounts.{Account}

cut-append : (k : Stream) (x : Stretches) (ts us : List Passage) → cut k x (ts ++ us) ≡ cut k (cut k x ts) us
cut-append k x [] us = refl
cut-append k x (t ∷ ts) us = cut-append k (and_one x (role k t.symbol) t.fate) ts us

pub last_good-snoc : (k : ℕ) (ts : List Passage) (t : Passage)
    → last_good k (ts ++ (t ∷ [])) ≡ ts ++ (record { symbol = t.symbol; fate = more_good k t.fate } ∷ [])
last_good-snoc k [] t = refl
last_good-snoc k (x ∷ []) t = refl
last_good-snoc k (x ∷ y ∷ ts) t = ap {B = List Passage} (λ z. x ∷ z) (last_good-snoc k (y ∷ ts) t)

-- the stretches of both streams in what was taken are x and y
pub record CutInto (ts : List Passage) (x y : Stretches) : Type 0 where
  pub frames : cut Frames nothing_put ts ≡ x
  pub rrdys : cut RRdys nothing_put ts ≡ y

abbrev pub Cut : Account → Type 0
Cut a = CutInto a.takes a.frames.losses.cut a.rrdys.losses.cut

module _ (ts : List Passage) (x y : Stretches) (h : CutInto ts x y) (s : Symbol) where
  -- one more is taken
  pub cut_more : (f : Fate)
      → CutInto (ts ++ (record { symbol = s; fate = f } ∷ [])) (and_one x (role Frames s) f)
      (and_one y (role RRdys s) f)
  cut_more f =
      let one : List Passage = record { symbol = s; fate = f } ∷ [] in
      record { frames = cc (cut-append Frames nothing_put ts one); rrdys = cc (cut-append RRdys nothing_put ts one) }

  -- and a made good record follows
  pub cut_good : (k : ℕ)
      → CutInto (last_good k (ts ++ (record { symbol = s; fate = Arrived 0 } ∷ [])))
      (and_one x (role Frames s) (more_good k (Arrived 0))) (and_one y (role RRdys s) (more_good k (Arrived 0)))
  cut_good k = let e = last_good-snoc k ts (record {
    symbol = s;
    fate = Arrived 0;
  }) in let m = cut_more (more_good k (Arrived 0)) in record {
    frames = ap (cut Frames nothing_put) e ∙ m.frames;
    rrdys = ap (cut RRdys nothing_put) e ∙ m.rrdys;
  }

-- symbols that are under way
abbrev all_under_way : List Symbol → List Passage
all_under_way [] = []
all_under_way (s ∷ ss) = record { symbol = s; fate = UnderWay } ∷ all_under_way ss

paired_rest : (ss : List Symbol) → paired ss [] ≡ all_under_way ss
paired_rest [] = refl
paired_rest (s ∷ ss) = ap {B = List Passage} (λ z. record { symbol = s; fate = UnderWay } ∷ z) (paired_rest ss)

paired_taken : (ts : List Passage) (ss : List Symbol) → paired (taken_symbols ts ++ ss) ts ≡ ts ++ all_under_way ss
paired_taken [] ss = paired_rest ss
paired_taken (t ∷ ts) ss = ap {B = List Passage} (λ z. t ∷ z) (paired_taken ts ss)

-- what is under way ends no stretch and is not lost
pub record SameLosses (x y : Stretches) : Type 0 where
  pub ended : y.ended ≡ x.ended
  pub lost : lost_among y.still_open ≡ lost_among x.still_open

all_on_the_way : (k : Stream) (x y : Stretches) (ss : List Symbol) → SameLosses x y
    → SameLosses x (cut k y (all_under_way ss))
all_on_the_way k x y [] h = h
all_on_the_way k x y (s ∷ ss) h =
    all_on_the_way k x (and_one y (role k s) UnderWay) ss (grind (arith, h))

-- the stretches of what was put are those of what was taken
pub put_stretches : (k : Stream) (ps : List Symbol) (ts : List Passage) (ss : List Symbol) (x : Stretches)
    → ps ≡ taken_symbols ts ++ ss → cut k nothing_put ts ≡ x → SameLosses x (cut k nothing_put (paired ps ts))
put_stretches k ps ts ss x e f =
    subst (SameLosses x)
    (cc (paired_taken ts ss, cut-append k nothing_put ts (all_under_way ss)))
    (all_on_the_way k x x ss (record { ended = refl; lost = refl }))
