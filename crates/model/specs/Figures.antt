-- What the records of a log add up to, port by port.
use Rattle.std.specs.Prelude.{ℕ, ◌+◌, ◌-◌, Bool, false, cond, List, [], ◌∷◌, ◌++◌, length, ◌==◌}
use Rattle.std.specs.List.{flat_map}
use Rattle.symbol.specs.declared.Frame.{Frame}
use Rattle.symbol.specs.declared.Mark.TheVariants.{BbScS, BbScR}
use Rattle.symbol.specs.declared.Symbol.{Symbol}
use Rattle.symbol.specs.declared.Symbol.TheVariants as symbol
use Rattle.eventlog.specs.Format.{frame_kind, item_kind}
use Rattle.eventlog.specs.declared.event.Event.{Event}
use Rattle.eventlog.specs.declared.event.Event.TheVariants as event
use Rattle.eventlog.specs.declared.event.FrameKind.{FrameKind}
use Rattle.eventlog.specs.declared.event.FrameKind.TheVariants.{Freed, Injected, Collected}
use Rattle.eventlog.specs.declared.event.ItemKind.{ItemKind}
use Rattle.eventlog.specs.declared.event.ItemKind.TheVariants.{Put, Got, Lost}
use Rattle.model.specs.Run.{Log}

-- the counted streams: frames, with their mark BB_SCs, and R_RDYs, with their mark BB_SCr
pub data Stream : Type 0 where
  Frames : Stream
  RRdys : Stream

-- what a symbol is to a stream: one of those counted, the mark that follows them, or neither
pub data Role : Type 0 where
  counted : Role
  mark : Role
  other : Role

abbrev pub role : Stream → Symbol → Role
role Frames (symbol.Frame f) = counted
role Frames symbol.RRdy = other
role Frames (symbol.Mark BbScS) = mark
role Frames (symbol.Mark BbScR) = other
role RRdys (symbol.Frame f) = other
role RRdys symbol.RRdy = counted
role RRdys (symbol.Mark BbScS) = other
role RRdys (symbol.Mark BbScR) = mark

abbrev pub roles : Stream → List Symbol → List Role
roles k [] = []
roles k (s ∷ ss) = role k s ∷ roles k ss

abbrev pub one_counted : Role → ℕ
one_counted counted = 1
one_counted mark = 0
one_counted other = 0

abbrev pub counted_in : List Role → ℕ
counted_in [] = 0
counted_in (r ∷ rs) = one_counted r + counted_in rs

-- how many of the symbols a stream counts: the frames, or the R_RDYs
abbrev pub how_many : Stream → List Symbol → ℕ
how_many k ss = counted_in (roles k ss)

-- the frames among symbols
abbrev pub frame_first : Symbol → List Frame → List Frame
frame_first (symbol.Frame f) fs = f ∷ fs
frame_first symbol.RRdy fs = fs
frame_first (symbol.Mark m) fs = fs

abbrev pub frames_among : List Symbol → List Frame
frames_among [] = []
frames_among (s ∷ ss) = frame_first s (frames_among ss)

-- whether a record is one of port p
abbrev pub is_at : ℕ → Event → Bool
is_at p (event.Tick t) = false
is_at p (event.Item kind q s) = p == q
is_at p (event.Frame kind q f) = p == q
is_at p (event.MadeGood q m n) = p == q

-- the records of port p, in order
abbrev pub records : ℕ → Log → Log
records p [] = []
records p (e ∷ es) = cond (is_at p e) (e ∷ []) [] ++ records p es

-- the symbol of a put, got or lost record, and the frame of a freed, injected or collected one
abbrev pub symbol_in : ItemKind → Event → List Symbol
symbol_in kind (event.Tick t) = []
symbol_in kind (event.Item k q s) = cond (item_kind kind == item_kind k) (s ∷ []) []
symbol_in kind (event.Frame k q f) = []
symbol_in kind (event.MadeGood q m n) = []

abbrev pub frame_in : FrameKind → Event → List Frame
frame_in kind (event.Tick t) = []
frame_in kind (event.Item k q s) = []
frame_in kind (event.Frame k q f) = cond (frame_kind kind == frame_kind k) (f ∷ []) []
frame_in kind (event.MadeGood q m n) = []

-- the symbols, and the frames, that port p has logged under a kind, in order
abbrev pub symbols_logged : ItemKind → ℕ → Log → List Symbol
symbols_logged kind p l = flat_map (symbol_in kind) (records p l)

abbrev pub frames_logged : FrameKind → ℕ → Log → List Frame
frames_logged kind p l = flat_map (frame_in kind) (records p l)

-- what port p has put on its direction
abbrev pub puts : ℕ → Log → List Symbol
puts p l = symbols_logged Put p l

-- how many frames, or R_RDYs, port p has put, got sound, and reported lost
abbrev pub put_count : Stream → ℕ → Log → ℕ
put_count k p l = how_many k (puts p l)

abbrev pub got_count : Stream → ℕ → Log → ℕ
got_count k p l = how_many k (symbols_logged Got p l)

abbrev pub reported_lost : Stream → ℕ → Log → ℕ
reported_lost k p l = how_many k (symbols_logged Lost p l)

-- what a made good record of the stream's mark says
abbrev pub good_of_role : Role → ℕ → ℕ
good_of_role counted n = 0
good_of_role mark n = n
good_of_role other n = 0

abbrev pub good_in : Stream → Event → ℕ
good_in k (event.Tick t) = 0
good_in k (event.Item kind q s) = 0
good_in k (event.Frame kind q f) = 0
good_in k (event.MadeGood q m n) = good_of_role (role k (symbol.Mark m)) n

-- the sum of a number over records
abbrev pub total : (Event → ℕ) → Log → ℕ
total f [] = 0
total f (e ∷ es) = f e + total f es

-- the sum of the counts in the made good records of port p
abbrev pub made_good : Stream → ℕ → Log → ℕ
made_good k p l = total (good_in k) (records p l)

-- the losses that port p has reported and not made good
abbrev pub missing : Stream → ℕ → Log → ℕ
missing k p l = reported_lost k p l - made_good k p l

-- the frames that port p has reported lost
abbrev pub lost_frames : ℕ → Log → List Frame
lost_frames p l = frames_among (symbols_logged Lost p l)

-- the frames injected and collected at port p, and the buffers freed there
abbrev pub injected : ℕ → Log → List Frame
injected p l = frames_logged Injected p l

abbrev pub collected : ℕ → Log → List Frame
collected p l = frames_logged Collected p l

abbrev pub freed : ℕ → Log → ℕ
freed p l = length (frames_logged Freed p l)

-- what port p holds and owes, and its credit in use, by its records
abbrev pub held : ℕ → Log → ℕ
held p l = got_count Frames p l - freed p l

abbrev pub owed : ℕ → Log → ℕ
owed p l = freed p l + made_good Frames p l - put_count RRdys p l

abbrev pub credit_in_use : ℕ → Log → ℕ
credit_in_use p l = put_count Frames p l - (got_count RRdys p l + made_good RRdys p l)

-- the ticks that the log has
abbrev pub tick_in : Event → ℕ
tick_in (event.Tick t) = 1
tick_in (event.Item kind q s) = 0
tick_in (event.Frame kind q f) = 0
tick_in (event.MadeGood q m n) = 0

abbrev pub ticks : Log → ℕ
ticks l = total tick_in l
