-- One port: its credit, its buffers and its counted streams, and what it does with what it takes and sends.
use Rattle.std.specs.Prelude.{ℕ, ◌+◌, ◌-◌, ◌%◌, ◌^◌, min, max, Bool, false, cond, ◌&&◌, ◌||◌, List, [], ◌∷◌, ◌++◌}
use Rattle.std.specs.Prelude.{length, Some, None, Option, ◌==◌, nat_eq, nat_le, nat_lt}
use Rattle.ring.specs.Queue.{any, tail}
use Rattle.symbol.specs.declared.Frame.{Frame}
use Rattle.symbol.specs.declared.Mark.TheVariants.{BbScS, BbScR}
use Rattle.symbol.specs.declared.Note.{Note}
use Rattle.symbol.specs.declared.Note.TheVariants.{Sound, Lost}
use Rattle.symbol.specs.declared.Symbol.{Symbol}
use Rattle.symbol.specs.declared.Symbol.TheVariants as symbol
use Rattle.eventlog.specs.declared.event.Event.{Event}
use Rattle.eventlog.specs.declared.event.Event.TheVariants as event
use Rattle.eventlog.specs.declared.event.ItemKind.TheVariants.{Got, Lost as Missed}

-- a counted stream, as its sender keeps it: how many were sent modulo 2^N, and whether its mark is due
pub record Outflow : Type 0 where
  pub sent : ℕ
  pub due : Bool

-- a counted stream, as its receiver keeps it: how many were got modulo 2^N since the last mark, and, for the page, how
-- many were lost and made good in all
pub record Inflow : Type 0 where
  pub got : ℕ
  pub lost : ℕ
  pub good : ℕ

-- the credit that a port has towards the other end of its link: how much there is, and how much is in use
pub record Credit : Type 0 where
  pub limit : ℕ
  pub used : ℕ

-- the buffers of a port: how many there are, hold a frame, and owe an R_RDY; the frames that wait, the oldest first;
-- the numbers of those handed out and not released; and how many were ever handed out
pub record Buffers : Type 0 where
  pub all : ℕ
  pub held : ℕ
  pub owed : ℕ
  pub waiting : List Frame
  pub out : List ℕ
  pub handed : ℕ

-- the frames that wait to be sent at an end, the oldest first, and how many were ever injected there
pub record Outbox : Type 0 where
  pub frames : List Frame
  pub injected : ℕ

pub record Port : Type 0 where
  pub n : ℕ
  pub credit : Credit
  pub buffers : Buffers
  pub frames_out : Outflow
  pub rrdys_out : Outflow
  pub frames_in : Inflow
  pub rrdys_in : Inflow
  pub outbox : Outbox

-- a state after some acts, and their records
pub record Turn (S : Type 0) : Type 0 where
  pub state : S
  pub events : List Event

module _ {S : Type 0} where
  abbrev pub no_act : S → Turn S
  no_act s = record { state = s; events = [] }

  -- one act, and then another
  abbrev pub and_then : Turn S → (S → Turn S) → Turn S
  and_then t f = record { state = (f t.state).state; events = t.events ++ (f t.state).events }

-- a total of the page stops at the largest that its field holds
abbrev pub tallied : ℕ → ℕ → ℕ
tallied x k = min (x + k) (2 ^ 32 - 1)

-- one more, modulo 2^N
abbrev pub counted : ℕ → ℕ → ℕ
counted n x = (x + 1) % 2 ^ n

-- how many of a stream were lost before its mark, by the receiver's count
abbrev pub lost_of : ℕ → ℕ → ℕ
lost_of n got = (2 ^ n - got) % 2 ^ n

-- one more credit in use
abbrev pub spent : Credit → Credit
spent c = record { limit = c.limit; used = c.used + 1 }

-- k credits back
abbrev pub given_back : Credit → ℕ → Credit
given_back c k = record { limit = c.limit; used = c.used - k }

abbrev pub is_full : Buffers → Bool
is_full b = b.held + b.owed == b.all

-- the buffers that neither hold a frame nor owe an R_RDY
abbrev pub free : Buffers → ℕ
free b = b.all - (b.held + b.owed)

-- the buffers, by what they hold and owe and what waits in them
abbrev pub holding : Buffers → ℕ → ℕ → List Frame → Buffers
holding b held owed waiting = record {
  all = b.all;
  held = held;
  owed = owed;
  waiting = waiting;
  out = b.out;
  handed = b.handed;
}

-- one more frame waits
abbrev pub filled : Buffers → Frame → Buffers
filled b f = holding b (b.held + 1) b.owed (b.waiting ++ (f ∷ []))

-- k more R_RDYs owed
abbrev pub owing : Buffers → ℕ → Buffers
owing b k = holding b b.held (b.owed + k) b.waiting

-- one R_RDY was sent
abbrev pub answered : Buffers → Buffers
answered b = holding b b.held (b.owed - 1) b.waiting

-- by what waits: the oldest frame has been sent on, and its buffer is free
abbrev pub emptied : Buffers → List Frame → Buffers
emptied b [] = b
emptied b (f ∷ fs) = holding b (b.held - 1) (b.owed + 1) fs

-- by what waits: the oldest frame was handed out, and its buffer stays held
abbrev pub lent_out : Buffers → List Frame → Buffers
lent_out b [] = b
lent_out b (f ∷ fs) = record {
  all = b.all;
  held = b.held;
  owed = b.owed;
  waiting = fs;
  out = b.out ++ (f.number ∷ []);
  handed = tallied b.handed 1;
}

-- whether a number is in a list
abbrev pub among : ℕ → List ℕ → Bool
among k xs = any (λ x. nat_eq x k) xs

-- a list without a number
abbrev pub without : ℕ → List ℕ → List ℕ
without k [] = []
without k (x ∷ xs) = cond (x == k) (without k xs) (x ∷ without k xs)

-- the buffer of frame k is free, and its number no longer handed out
abbrev pub freed_of : Buffers → ℕ → Buffers
freed_of b k = record {
  all = b.all;
  held = b.held - 1;
  owed = b.owed + 1;
  waiting = b.waiting;
  out = without k b.out;
  handed = b.handed;
}

-- so, if frame k is handed out
abbrev pub returned : Buffers → ℕ → Buffers
returned b k = cond (among k b.out) (freed_of b k) b

abbrev pub one_more_lost : Inflow → Inflow
one_more_lost f = record { got = f.got; lost = tallied f.lost 1; good = f.good }

abbrev pub one_more_got : ℕ → Inflow → Inflow
one_more_got n f = record { got = counted n f.got; lost = f.lost; good = f.good }

-- a sent count that returns to 0 makes its mark due, where N is above 0
abbrev pub one_more_sent : ℕ → Outflow → Outflow
one_more_sent n f = record {
  sent = counted n f.sent;
  due = f.due || (counted n f.sent == 0 && nat_lt 0 n);
}

abbrev pub mark_sent : Outflow → Outflow
mark_sent f = record { sent = f.sent; due = false }

-- the count goes to 0, and the correction is noted
abbrev pub corrected : Inflow → ℕ → Inflow
corrected f k = record { got = 0; lost = f.lost; good = tallied f.good k }

-- a port of these parts, and a port with one part of it changed
abbrev pub port : ℕ → Credit → Buffers → Outflow → Outflow → Inflow → Inflow → Outbox → Port
port n credit buffers frames_out rrdys_out frames_in rrdys_in outbox = record {
  n = n;
  credit = credit;
  buffers = buffers;
  frames_out = frames_out;
  rrdys_out = rrdys_out;
  frames_in = frames_in;
  rrdys_in = rrdys_in;
  outbox = outbox;
}

abbrev pub with_credit : Port → Credit → Port
with_credit p x =
    port p.n x p.buffers p.frames_out p.rrdys_out p.frames_in p.rrdys_in p.outbox

abbrev pub with_buffers : Port → Buffers → Port
with_buffers p x =
    port p.n p.credit x p.frames_out p.rrdys_out p.frames_in p.rrdys_in p.outbox

abbrev pub with_frames_out : Port → Outflow → Port
with_frames_out p x =
    port p.n p.credit p.buffers x p.rrdys_out p.frames_in p.rrdys_in p.outbox

abbrev pub with_rrdys_out : Port → Outflow → Port
with_rrdys_out p x =
    port p.n p.credit p.buffers p.frames_out x p.frames_in p.rrdys_in p.outbox

abbrev pub with_frames_in : Port → Inflow → Port
with_frames_in p x =
    port p.n p.credit p.buffers p.frames_out p.rrdys_out x p.rrdys_in p.outbox

abbrev pub with_rrdys_in : Port → Inflow → Port
with_rrdys_in p x =
    port p.n p.credit p.buffers p.frames_out p.rrdys_out p.frames_in x p.outbox

abbrev pub with_outbox : Port → Outbox → Port
with_outbox p x =
    port p.n p.credit p.buffers p.frames_out p.rrdys_out p.frames_in p.rrdys_in x

-- a lost item changes nothing but the totals of the page
abbrev pub missed : Port → Symbol → Port
missed p (symbol.Frame f) = with_frames_in p (one_more_lost p.frames_in)
missed p symbol.RRdy = with_rrdys_in p (one_more_lost p.rrdys_in)
missed p (symbol.Mark m) = p

-- a frame waits in a buffer
abbrev pub frame_held : Port → Frame → Port
frame_held p f = with_frames_in (with_buffers p (filled p.buffers f)) (one_more_got p.n p.frames_in)

-- a credit is back
abbrev pub credit_back : Port → Port
credit_back p = with_rrdys_in (with_credit p (given_back p.credit 1)) (one_more_got p.n p.rrdys_in)

-- a sound frame, which a full port drops
abbrev pub frame_arrived : Port → Frame → Port
frame_arrived p f = cond (is_full p.buffers) p (frame_held p f)

-- a sound R_RDY, which does nothing where no credit is in use
abbrev pub rrdy_arrived : Port → Port
rrdy_arrived p = cond (p.credit.used == 0) p (credit_back p)

-- what a mark makes good: what it finds lost, cut at the port's bounds
abbrev pub frames_found : Port → ℕ
frames_found p = min (lost_of p.n p.frames_in.got) (free p.buffers)

abbrev pub rrdys_found : Port → ℕ
rrdys_found p = min (lost_of p.n p.rrdys_in.got) p.credit.used

-- k frames made good: as many R_RDYs more are owed
abbrev pub frames_made_good : Port → ℕ → Port
frames_made_good p k = with_frames_in (with_buffers p (owing p.buffers k)) (corrected p.frames_in k)

-- k R_RDYs made good: as many credits are back
abbrev pub rrdys_made_good : Port → ℕ → Port
rrdys_made_good p k = with_rrdys_in (with_credit p (given_back p.credit k)) (corrected p.rrdys_in k)

-- a sound BB_SCs, and a sound BB_SCr
abbrev pub frames_corrected : Port → Port
frames_corrected p = frames_made_good p (frames_found p)

abbrev pub rrdys_corrected : Port → Port
rrdys_corrected p = rrdys_made_good p (rrdys_found p)

abbrev pub arrived : Port → Symbol → Port
arrived p (symbol.Frame f) = frame_arrived p f
arrived p symbol.RRdy = rrdy_arrived p
arrived p (symbol.Mark BbScS) = frames_corrected p
arrived p (symbol.Mark BbScR) = rrdys_corrected p

-- the port after it took an item
abbrev pub received : Port → Note → Symbol → Port
received p Sound s = arrived p s
received p Lost s = missed p s

-- what a mark that arrives makes good
abbrev pub found : Port → Symbol → ℕ
found p (symbol.Frame f) = 0
found p symbol.RRdy = 0
found p (symbol.Mark BbScS) = frames_found p
found p (symbol.Mark BbScR) = rrdys_found p

-- what a taken item makes good
abbrev pub correction : Port → Note → Symbol → ℕ
correction p Sound s = found p s
correction p Lost s = 0

abbrev pub good_event : ℕ → Symbol → ℕ → List Event
good_event at (symbol.Frame f) x = []
good_event at symbol.RRdy x = []
good_event at (symbol.Mark m) x = event.MadeGood at m x ∷ []

-- a made good record stands only where something was made good
abbrev pub good_events : ℕ → Symbol → ℕ → List Event
good_events at s x = cond (x == 0) [] (good_event at s x)

-- what port `at` logs of an item that it took, where a mark made x good
abbrev pub receive_events : ℕ → Note → Symbol → ℕ → List Event
receive_events at Sound s x = event.Item Got at s ∷ good_events at s x
receive_events at Lost s x = event.Item Missed at s ∷ []

abbrev pub frame_of : Option Frame → Option Symbol
frame_of None = None
frame_of (Some f) = Some (symbol.Frame f)

-- what a port would send, if anything; `source` is the oldest frame that waits for it
abbrev pub choice : Port → Option Frame → Option Symbol
choice p source =
    cond p.frames_out.due (Some (symbol.Mark BbScS))
    (cond p.rrdys_out.due (Some (symbol.Mark BbScR))
    (cond (nat_lt 0 p.buffers.owed) (Some symbol.RRdy)
    (cond (nat_lt p.credit.used p.credit.limit) (frame_of source) None)))

-- the sender after its put
abbrev pub has_sent : Port → Symbol → Port
has_sent p (symbol.Frame f) =
    with_frames_out (with_credit p (spent p.credit)) (one_more_sent p.n p.frames_out)
has_sent p symbol.RRdy =
    with_rrdys_out (with_buffers p (answered p.buffers)) (one_more_sent p.n p.rrdys_out)
has_sent p (symbol.Mark BbScS) = with_frames_out p (mark_sent p.frames_out)
has_sent p (symbol.Mark BbScR) = with_rrdys_out p (mark_sent p.rrdys_out)

abbrev pub after_send : Port → Option Symbol → Port
after_send p None = p
after_send p (Some s) = has_sent p s

-- its oldest waiting frame has been sent on by the next port
abbrev pub sent_on : Port → Port
sent_on p = with_buffers p (emptied p.buffers p.buffers.waiting)

-- its oldest waiting frame was handed out
abbrev pub handed_out : Port → Port
handed_out p = with_buffers p (lent_out p.buffers p.buffers.waiting)

-- frame k, which was handed out, is released
abbrev pub released : Port → ℕ → Port
released p k = with_buffers p (returned p.buffers k)

-- the oldest frame of an outbox has been sent
abbrev pub box_unsent : Outbox → Outbox
box_unsent o = record { frames = tail o.frames; injected = o.injected }

-- an outbox holds 32 frames
abbrev pub box_full : Outbox → Bool
box_full o = nat_le 32 (length o.frames)

-- the number of the next frame that is injected; no run comes to the largest
abbrev pub box_number : Outbox → ℕ
box_number o = tallied o.injected 1

abbrev pub box_frame : Outbox → Frame
box_frame o = record { number = box_number o }

-- one more frame is in the outbox
abbrev pub box_injected : Outbox → Outbox
box_injected o = record { frames = o.frames ++ (box_frame o ∷ []); injected = box_number o }

abbrev pub unsent : Port → Port
unsent p = with_outbox p (box_unsent p.outbox)

abbrev pub next_frame : Port → Frame
next_frame p = box_frame p.outbox

abbrev pub injected_at : Port → Port
injected_at p = with_outbox p (box_injected p.outbox)

-- one more frame, unless the outbox is full
abbrev pub injects_at : Port → Port
injects_at p = cond (box_full p.outbox) p (injected_at p)

abbrev pub injected_frame : Port → Option Frame
injected_frame p = cond (box_full p.outbox) None (Some (next_frame p))

-- a port with so many buffers, facing one with so many others
abbrev pub logged_in : ℕ → ℕ → ℕ → Port
logged_in own other n = record {
  n = n;
  credit = record { limit = other; used = 0 };
  buffers = record { all = own; held = 0; owed = 0; waiting = []; out = []; handed = 0 };
  frames_out = record { sent = 0; due = false };
  rrdys_out = record { sent = 0; due = false };
  frames_in = record { got = 0; lost = 0; good = 0 };
  rrdys_in = record { got = 0; lost = 0; good = 0 };
  outbox = record { frames = []; injected = 0 };
}

-- buffers of 1 to 32 and an N of at most 15: any other number goes to the nearer end
abbrev pub some_buffers : ℕ → ℕ
some_buffers k = max 1 (min k 32)

abbrev pub some_n : ℕ → ℕ
some_n k = min k 15

-- before login: one buffer, and no recovery
abbrev pub new_port : Port
new_port = logged_in 1 1 0
