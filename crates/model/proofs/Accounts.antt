-- The records of one port, added up one by one: a device of the proofs, whose numbers are those of the figures.
use Rattle.std.proofs.Common.{ℕ, ◌+◌, ◌-◌, List, [], ◌∷◌, ◌++◌}
use Rattle.symbol.specs.declared.Frame.{Frame}
use Rattle.symbol.specs.declared.Symbol.{Symbol}
use Rattle.symbol.specs.declared.Symbol.TheVariants as symbol
use Rattle.eventlog.specs.declared.event.Event.{Event}
use Rattle.eventlog.specs.declared.event.Event.TheVariants as event
use Rattle.eventlog.specs.declared.event.FrameKind.TheVariants.{Freed, Injected, Collected}
use Rattle.eventlog.specs.declared.event.ItemKind.TheVariants.{Put, Got, Lost as Missed}
use Rattle.model.specs.Run.{Log}
use Rattle.model.specs.Figures.{Stream, Frames, RRdys, Role, counted, mark, other, role, records}
use Rattle.model.specs.Stretches.{Passage, Arrived, WasLost, took, Stretch, Stretches, nothing_put}

-- the losses of a stream at its receiver: all reported, all made good, and the stretches so far
pub record Losses : Type 0 where
  pub lost : ℕ
  pub good : ℕ
  pub cut : Stretches

pub record Tally : Type 0 where
  pub put : ℕ
  pub got : ℕ
  pub losses : Losses

-- what the records of one port say: of each stream; how many buffers were freed; the symbols put and taken, and what
-- was taken with its fate; and the frames got, lost, injected and collected, all in order
pub record Account : Type 0 where
  pub frames : Tally
  pub rrdys : Tally
  pub freed : ℕ
  pub puts : List Symbol
  pub taken : List Symbol
  pub takes : List Passage
  pub got : List Frame
  pub lost : List Frame
  pub injected : List Frame
  pub collected : List Frame

-- frames with that of one more symbol
abbrev pub frame_last : List Frame → Symbol → List Frame
frame_last fs (symbol.Frame f) = fs ++ (f ∷ [])
frame_last fs symbol.RRdy = fs
frame_last fs (symbol.Mark m) = fs

-- the losses after one more counted got, one more lost, and a sound mark that makes k good
abbrev pub with_got : Losses → Losses
with_got x = record {
  lost = x.lost;
  good = x.good;
  cut = record { ended = x.cut.ended; still_open = Arrived 0 ∷ x.cut.still_open };
}

abbrev pub with_lost : Losses → Losses
with_lost x = record {
  lost = x.lost + 1;
  good = x.good;
  cut = record { ended = x.cut.ended; still_open = WasLost ∷ x.cut.still_open };
}

abbrev pub with_mark : Losses → ℕ → ℕ → Losses
with_mark x good k = record {
  lost = x.lost;
  good = good;
  cut = record { ended = record { fates = x.cut.still_open; good = k } ∷ x.cut.ended; still_open = [] };
}

abbrev pub one_put : Role → Tally → Tally
one_put counted t = record { put = t.put + 1; got = t.got; losses = t.losses }
one_put mark t = t
one_put other t = t

abbrev pub one_got : Role → Tally → Tally
one_got counted t = record { put = t.put; got = t.got + 1; losses = with_got t.losses }
one_got mark t = record { put = t.put; got = t.got; losses = with_mark t.losses t.losses.good 0 }
one_got other t = t

abbrev pub one_missed : Role → Tally → Tally
one_missed counted t = record { put = t.put; got = t.got; losses = with_lost t.losses }
one_missed mark t = t
one_missed other t = t

-- a made good record belongs to the stretch that ended last
abbrev pub newest_good : ℕ → List Stretch → List Stretch
newest_good k [] = []
newest_good k (s ∷ ss) = record { fates = s.fates; good = s.good + k } ∷ ss

abbrev pub some_good : Role → ℕ → Tally → Tally
some_good counted k t = t
some_good mark k t = record {
  put = t.put;
  got = t.got;
  losses = record {
    lost = t.losses.lost;
    good = t.losses.good + k;
    cut = record { ended = newest_good k t.losses.cut.ended; still_open = t.losses.cut.still_open };
  };
}
some_good other k t = t

-- each part of an account, after one more record
abbrev pub tally_after : Stream → Tally → Event → Tally
tally_after k t (event.Tick n) = t
tally_after k t (event.Item Put q s) = one_put (role k s) t
tally_after k t (event.Item Got q s) = one_got (role k s) t
tally_after k t (event.Item Missed q s) = one_missed (role k s) t
tally_after k t (event.Frame kind q f) = t
tally_after k t (event.MadeGood q m n) = some_good (role k (symbol.Mark m)) n t

-- by what a put, got or lost record makes of it, and by what a freed, injected or collected one does
abbrev pub by_item : {X : Type 0} → (X → Symbol → X) → (X → Symbol → X) → (X → Symbol → X) → X → Event → X
by_item put got lost x (event.Tick t) = x
by_item put got lost x (event.Item Put q s) = put x s
by_item put got lost x (event.Item Got q s) = got x s
by_item put got lost x (event.Item Missed q s) = lost x s
by_item put got lost x (event.Frame kind q f) = x
by_item put got lost x (event.MadeGood q m n) = x

abbrev pub by_frame : {X : Type 0} → (X → Frame → X) → (X → Frame → X) → (X → Frame → X) → X → Event → X
by_frame freed injected collected x (event.Tick t) = x
by_frame freed injected collected x (event.Item kind q s) = x
by_frame freed injected collected x (event.Frame Freed q f) = freed x f
by_frame freed injected collected x (event.Frame Injected q f) = injected x f
by_frame freed injected collected x (event.Frame Collected q f) = collected x f
by_frame freed injected collected x (event.MadeGood q m n) = x

abbrev pub as_it_was : {X Y : Type 0} → X → Y → X
as_it_was x y = x

abbrev pub last : {X : Type 0} → List X → X → List X
last xs x = xs ++ (x ∷ [])

abbrev pub one_freed : ℕ → Frame → ℕ
one_freed n f = n + 1

abbrev pub noted : Account → Event → Account
noted a e = record {
  frames = tally_after Frames a.frames e;
  rrdys = tally_after RRdys a.rrdys e;
  freed = by_frame one_freed as_it_was as_it_was a.freed e;
  puts = by_item last as_it_was as_it_was a.puts e;
  taken = by_item as_it_was last last a.taken e;
  takes = took a.takes e;
  got = by_item as_it_was frame_last as_it_was a.got e;
  lost = by_item as_it_was as_it_was frame_last a.lost e;
  injected = by_frame as_it_was last as_it_was a.injected e;
  collected = by_frame as_it_was as_it_was last a.collected e;
}

abbrev pub noted_all : Account → Log → Account
noted_all a [] = a
noted_all a (e ∷ es) = noted_all (noted a e) es

abbrev pub no_tally : Tally
no_tally = record { put = 0; got = 0; losses = record { lost = 0; good = 0; cut = nothing_put } }

abbrev pub no_account : Account
no_account = record {
  frames = no_tally;
  rrdys = no_tally;
  freed = 0;
  puts = [];
  taken = [];
  takes = [];
  got = [];
  lost = [];
  injected = [];
  collected = [];
}

abbrev pub account : ℕ → Log → Account
account p l = noted_all no_account (records p l)

-- an account with these tallies, one more symbol taken, and these takes
abbrev pub with_tallies : Account → Tally → Tally → Symbol → List Passage → Account
with_tallies a frames rrdys s ts = record {
  frames = frames;
  rrdys = rrdys;
  freed = a.freed;
  puts = a.puts;
  taken = a.taken ++ (s ∷ []);
  takes = ts;
  got = a.got;
  lost = a.lost;
  injected = a.injected;
  collected = a.collected;
}

-- by a port's account: its buffers that hold a frame or owe an R_RDY, and its credit in use.
abbrev pub buffers_in_use : Account → ℕ
buffers_in_use a = (a.frames.got - a.freed) + (a.freed + a.frames.losses.good - a.rrdys.put)

abbrev pub credit_used : Account → ℕ
credit_used a = a.frames.put - (a.rrdys.got + a.rrdys.losses.good)
