-- The stretches of a counted stream, cut out of what was put on a direction.
use Rattle.std.specs.Prelude.{ℕ, ◌+◌, ◌-◌, List, [], ◌∷◌, ◌++◌}
use Rattle.symbol.specs.declared.Symbol.{Symbol}
use Rattle.eventlog.specs.declared.event.Event.{Event}
use Rattle.eventlog.specs.declared.event.Event.TheVariants as event
use Rattle.eventlog.specs.declared.event.ItemKind.TheVariants.{Put, Got, Lost}
use Rattle.model.specs.Chain.{facing}
use Rattle.model.specs.Run.{Log}
use Rattle.model.specs.Figures.{Stream, Role, counted, mark, other, role, records, puts}

-- what became of a symbol that was put: it arrived sound, and as a mark made so many good; it was reported lost; or it
-- is still under way
pub data Fate : Type 0 where
  Arrived : ℕ → Fate
  WasLost : Fate
  UnderWay : Fate

pub record Passage : Type 0 where
  pub symbol : Symbol
  pub fate : Fate

-- a made good record belongs to the item taken last
abbrev pub more_good : ℕ → Fate → Fate
more_good n (Arrived g) = Arrived (g + n)
more_good n WasLost = WasLost
more_good n UnderWay = UnderWay

abbrev pub last_good : ℕ → List Passage → List Passage
last_good n [] = []
last_good n (t ∷ []) = record { symbol = t.symbol; fate = more_good n t.fate } ∷ []
last_good n (t ∷ u ∷ ts) = t ∷ last_good n (u ∷ ts)

-- what a port has taken, after one more of its records
abbrev pub took : List Passage → Event → List Passage
took ts (event.Tick t) = ts
took ts (event.Item Put q s) = ts
took ts (event.Item Got q s) = ts ++ (record { symbol = s; fate = Arrived 0 } ∷ [])
took ts (event.Item Lost q s) = ts ++ (record { symbol = s; fate = WasLost } ∷ [])
took ts (event.Frame kind q f) = ts
took ts (event.MadeGood q m n) = last_good n ts

abbrev pub took_all : List Passage → Log → List Passage
took_all ts [] = ts
took_all ts (e ∷ es) = took_all (took ts e) es

-- what port p has taken, in order
abbrev pub taken : ℕ → Log → List Passage
taken p l = took_all [] (records p l)

-- the symbols taken
abbrev pub taken_symbols : List Passage → List Symbol
taken_symbols [] = []
taken_symbols (t ∷ ts) = t.symbol ∷ taken_symbols ts

-- the n-th put is the n-th taken; what is not taken yet is under way
abbrev pub paired : List Symbol → List Passage → List Passage
paired [] ts = []
paired (s ∷ ss) [] = record { symbol = s; fate = UnderWay } ∷ paired ss []
paired (s ∷ ss) (t ∷ ts) = record { symbol = s; fate = t.fate } ∷ paired ss ts

-- all that port p has put on its direction, with what became of each
abbrev pub passages : ℕ → Log → List Passage
passages p l = paired (puts p l) (taken (facing p) l)

-- a stretch that a mark has ended: what became of each frame, or R_RDY, put in it, the newest first, and what the mark
-- made good
pub record Stretch : Type 0 where
  pub fates : List Fate
  pub good : ℕ

-- the ended stretches of a stream, the newest first, and the one that is open
pub record Stretches : Type 0 where
  pub ended : List Stretch
  pub still_open : List Fate

-- one more that was put: a counted one is in the open stretch, and a mark that arrived sound ends it
abbrev pub and_one : Stretches → Role → Fate → Stretches
and_one x counted f = record { ended = x.ended; still_open = f ∷ x.still_open }
and_one x mark (Arrived n) = record { ended = record { fates = x.still_open; good = n } ∷ x.ended; still_open = [] }
and_one x mark WasLost = x
and_one x mark UnderWay = x
and_one x other f = x

abbrev pub cut : Stream → Stretches → List Passage → Stretches
cut k x [] = x
cut k x (t ∷ ts) = cut k (and_one x (role k t.symbol) t.fate) ts

abbrev pub nothing_put : Stretches
nothing_put = record { ended = []; still_open = [] }

-- the stretches of frames, or of R_RDYs, on the direction of port p
abbrev pub stretches : Stream → ℕ → Log → Stretches
stretches k p l = cut k nothing_put (passages p l)

-- how many were reported lost
abbrev pub one_lost : Fate → ℕ
one_lost (Arrived n) = 0
one_lost WasLost = 1
one_lost UnderWay = 0

abbrev pub lost_among : List Fate → ℕ
lost_among [] = 0
lost_among (f ∷ fs) = one_lost f + lost_among fs

abbrev pub losses : Stretch → ℕ
losses s = lost_among s.fates

-- what a stretch has left missing: its reported losses less what the mark that ends it made good
abbrev pub left_missing : Stretch → ℕ
left_missing s = losses s - s.good

abbrev pub lost_in : List Stretch → ℕ
lost_in [] = 0
lost_in (s ∷ ss) = losses s + lost_in ss

abbrev pub good_among : List Stretch → ℕ
good_among [] = 0
good_among (s ∷ ss) = s.good + good_among ss
