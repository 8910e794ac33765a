-- One loop of credit: the port that sends frames, the port that takes them and sends R_RDYs, and what is under way
-- between them.
use Rattle.std.proofs.Common.{◌≡◌, ℕ, ◌+◌, ◌%◌, ◌^◌, ◌<◌, ◌≤◌, min, Bool, true, false, cond, ◌&&◌, ◌||◌, eqb, ltb}
use Rattle.std.proofs.Common.{List, [], ◌∷◌, ◌++◌, sym, refl, ap, ◌∙◌, subst, append_assoc, arith}
use native.Mathlib.Nat.{mod-le}
use Rattle.std.proofs.lemmas.Bool.Decides.{nat_tests}
use Rattle.std.proofs.lemmas.Bool.{cond-false, ne_eqb}
use Rattle.symbol.specs.declared.Frame.{Frame}
use Rattle.symbol.specs.declared.Mark.TheVariants.{BbScS, BbScR}
use Rattle.symbol.specs.declared.Note.{Note}
use Rattle.symbol.specs.declared.Note.TheVariants.{Sound, Lost}
use Rattle.symbol.specs.declared.Symbol.{Symbol}
use Rattle.symbol.specs.declared.Symbol.TheVariants as symbol
use Rattle.eventlog.specs.declared.event.Event.TheVariants as event
use Rattle.eventlog.specs.declared.event.FrameKind.TheVariants.{Freed}
use Rattle.eventlog.specs.declared.event.ItemKind.TheVariants.{Put, Got, Lost as Missed}
use Rattle.port.specs.Port.{Port, Outflow, lost_of, missed, arrived, received, receive_events, correction, has_sent}
use Rattle.port.specs.Port.{frame_held, is_full, credit_back, frames_found, rrdys_found, frames_corrected}
use Rattle.port.specs.Port.{rrdys_corrected, frames_made_good, rrdys_made_good, with_buffers, emptied}
use Rattle.model.specs.Run.{Log}
use Rattle.model.specs.Figures.{Stream, Frames, RRdys, Role, counted, role, roles, counted_in, one_counted, how_many}
use Rattle.model.specs.Stretches.{Passage, Arrived}
use Rattle.model.proofs.Accounts.{Losses, Tally, Account, noted, noted_all, with_tallies, buffers_in_use}
use Rattle.model.proofs.Accounts.{credit_used, with_got, with_mark}
use Rattle.model.proofs.Cuts.{last_good-snoc}
use Rattle.model.proofs.InStep.{InStep, open_lost, found, counted-snoc, put_counted, put_mark}
use Rattle.model.proofs.InStep.{put_other, take_other, lose_mark, lose_counted, get_counted, get_mark}

-- what port p, at place `at`, logs of an item that it takes
abbrev pub taken_events : ℕ → Port → Note → Symbol → Log
taken_events at p v y = receive_events at v y (correction p v y)

-- what a port and its records are to the loop in which it sends frames
pub record Sender : Type 0 where
  pub n : ℕ
  pub limit : ℕ
  pub used : ℕ
  pub out : Outflow
  pub got : ℕ
  pub frames_put : ℕ
  pub rrdys_got : ℕ
  pub lost : ℕ
  pub good : ℕ
  pub losses : Losses
  pub puts : List Symbol

abbrev pub sender : Port → Account → Sender
sender s a = record {
  n = s.n;
  limit = s.credit.limit;
  used = s.credit.used;
  out = s.frames_out;
  got = s.rrdys_in.got;
  frames_put = a.frames.put;
  rrdys_got = a.rrdys.got;
  lost = s.rrdys_in.lost;
  good = s.rrdys_in.good;
  losses = a.rrdys.losses;
  puts = a.puts;
}

-- what a port and its records are to the loop in which it takes frames
pub record Receiver : Type 0 where
  pub n : ℕ
  pub all : ℕ
  pub held : ℕ
  pub owed : ℕ
  pub out : Outflow
  pub got : ℕ
  pub freed : ℕ
  pub frames_got : ℕ
  pub rrdys_put : ℕ
  pub lost : ℕ
  pub good : ℕ
  pub losses : Losses
  pub taken : List Symbol

abbrev pub receiver : Port → Account → Receiver
receiver r a = record {
  n = r.n;
  all = r.buffers.all;
  held = r.buffers.held;
  owed = r.buffers.owed;
  out = r.rrdys_out;
  got = r.frames_in.got;
  freed = a.freed;
  frames_got = a.frames.got;
  rrdys_put = a.rrdys.put;
  lost = r.frames_in.lost;
  good = r.frames_in.good;
  losses = a.frames.losses;
  taken = a.taken;
}

-- the figures of a loop with `f` frames and `r` R_RDYs under way
pub record Figures (S : Sender) (R : Receiver) (f r : ℕ) : Type 0 where
  pub same_n : S.n ≡ R.n
  pub limit_is : S.limit ≡ R.all
  pub within : S.used ≤ S.limit
  pub sum : S.used + R.losses.good + S.losses.good ≡ f + r + R.held + R.owed + R.losses.lost + S.losses.lost
  pub held_is : R.held + R.freed ≡ R.frames_got
  pub owed_is : R.owed + R.rrdys_put ≡ R.freed + R.losses.good
  pub frames_lost : R.lost ≡ min R.losses.lost 4294967295
  pub frames_good : R.good ≡ min R.losses.good 4294967295
  pub rrdys_lost : S.lost ≡ min S.losses.lost 4294967295
  pub rrdys_good : S.good ≡ min S.losses.good 4294967295
  pub used_is : S.used + S.rrdys_got + S.losses.good ≡ S.frames_put

pub record LoopOf (S : Sender) (R : Receiver) (fwd : List Symbol) (back : List Role) : Type 0 where
  pub figures : Figures S R (how_many Frames fwd) (counted_in back)
  pub frames : InStep S.n S.out R.got (roles Frames fwd) R.losses
  pub rrdys : InStep S.n R.out S.got back S.losses
  pub order : S.puts ≡ R.taken ++ fwd

loop_by : {S : Sender} {R : Receiver} {fwd : List Symbol} {back : List Role}
    → Figures S R (how_many Frames fwd) (counted_in back)
    → InStep S.n S.out R.got (roles Frames fwd) R.losses
    → InStep S.n R.out S.got back S.losses
    → S.puts ≡ R.taken ++ fwd
    → LoopOf S R fwd back
loop_by figures frames rrdys order = record { figures = figures; frames = frames; rrdys = rrdys; order = order }

abbrev pub Loop : Port → Port → List Symbol → List Symbol → Account → Account → Type 0
Loop s r fwd back a b = LoopOf (sender s a) (receiver r b) fwd (roles RRdys back)

pub roles-snoc : (k : Stream) (xs : List Symbol) (y : Symbol) → roles k (xs ++ (y ∷ [])) ≡ roles k xs ++ (role k y ∷ [])
roles-snoc k [] y = refl
roles-snoc k (x ∷ xs) y = ap {B = List Role} (λ r. role k x ∷ r) (roles-snoc k xs y)

-- one more put goes last
put_on : (k : Stream) (xs : List Symbol) (y : Symbol) {n g : ℕ} {o : Outflow} {x : Losses}
    → InStep n o g (roles k xs ++ (role k y ∷ [])) x → InStep n o g (roles k (xs ++ (y ∷ []))) x
put_on k xs y {n} {g} {o} {x} h = subst (λ (z : List Role). InStep n o g z x) (sym (roles-snoc k xs y)) h

how_many-snoc : (k : Stream) (xs : List Symbol) (y : Symbol)
    → how_many k (xs ++ (y ∷ [])) ≡ how_many k xs + one_counted (role k y)
how_many-snoc k xs y = ap counted_in (roles-snoc k xs y) ∙ counted-snoc (roles k xs) (role k y)

taken_next : (xs : List Symbol) (y : Symbol) (ys zs : List Symbol) → zs ≡ xs ++ (y ∷ ys) → zs ≡ xs ++ (y ∷ []) ++ ys
taken_next xs y ys zs e = grind (arith, append_assoc xs (y ∷ []) ys)

puts_next : (xs ys zs : List Symbol) (y : Symbol) → zs ≡ xs ++ ys → zs ++ (y ∷ []) ≡ xs ++ (ys ++ (y ∷ []))
puts_next xs ys zs y e = grind (arith, append_assoc xs ys (y ∷ []))

-- a stream's tally after a sound mark: g made good in all, k of them by this mark
abbrev marked : Tally → ℕ → ℕ → Tally
marked t g k = record { put = t.put; got = t.got; losses = with_mark t.losses g k }

abbrev frames_marked : Account → ℕ → ℕ → List Passage → Account
frames_marked a g k ts = with_tallies a (marked a.frames g k) a.rrdys (symbol.Mark BbScS) ts

abbrev rrdys_marked : Account → ℕ → ℕ → List Passage → Account
rrdys_marked a g k ts = with_tallies a a.frames (marked a.rrdys g k) (symbol.Mark BbScR) ts

-- a mark taken, which made k good
abbrev mark_taken : Account → Symbol → ℕ → List Passage
mark_taken a y k = a.takes ++ (record { symbol = y; fate = Arrived k } ∷ [])

-- the records of a sound mark that makes k good come to that
frames_account : (at : ℕ) (a : Account) (k : ℕ) (t : Bool) → eqb k 0 ≡ t
    → noted_all (noted a (event.Item Got at (symbol.Mark BbScS))) (cond t [] (event.MadeGood at BbScS k ∷ []))
    ≡ frames_marked a (a.frames.losses.good + k) k (mark_taken a (symbol.Mark BbScS) k)
frames_account at a k t e = grind (arith, nat_tests, last_good-snoc k a.takes)

rrdys_account : (at : ℕ) (a : Account) (k : ℕ) (t : Bool) → eqb k 0 ≡ t
    → noted_all (noted a (event.Item Got at (symbol.Mark BbScR))) (cond t [] (event.MadeGood at BbScR k ∷ []))
    ≡ rrdys_marked a (a.rrdys.losses.good + k) k (mark_taken a (symbol.Mark BbScR) k)
rrdys_account at a k t e = grind (arith, nat_tests, last_good-snoc k a.takes)

abbrev one_more : Outflow → ℕ → Outflow
one_more o n = record { sent = (o.sent + 1) % 2 ^ n; due = o.due || (eqb ((o.sent + 1) % 2 ^ n) 0 && ltb 0 n) }

-- what is found lost, when that is what was lost modulo m and there is room for all that was lost
all_found : (l m x room : ℕ) → x ≡ l % m → l ≤ room → min x room ≡ x
all_found l m x room e h = omega (arith, mod-le l m)

-- when a port may put a symbol
abbrev pub MayPut : Port → Symbol → Type 0
MayPut p (symbol.Frame k) = (p.credit.used < p.credit.limit) × (p.frames_out.due ≡ false)
MayPut p symbol.RRdy = (0 < p.buffers.owed) × (p.rrdys_out.due ≡ false)
MayPut p (symbol.Mark BbScS) = p.frames_out.due ≡ true
MayPut p (symbol.Mark BbScR) = p.rrdys_out.due ≡ true

module _ (at : ℕ) (s r : Port) (fwd back : List Symbol) (a b : Account) where
  pub sender_misses : (y : Symbol) → Loop s r fwd (y ∷ back) a b
      → Loop (missed s y) r fwd back (noted a (event.Item Missed at y)) b
  sender_misses y h = grind (arith, h, take_other, lose_mark, lose_counted)

  pub receiver_misses : (y : Symbol) → Loop s r (y ∷ fwd) back a b
      → Loop s (missed r y) fwd back a (noted b (event.Item Missed at y))
  receiver_misses y h = grind (arith, h, take_other, lose_mark, lose_counted, append_assoc {A = Symbol})

  -- R_RDYs found lost: as many as were, and never more than the credit in use
  rrdys_found_is : Loop s r fwd (symbol.Mark BbScR ∷ back) a b → rrdys_found s ≡ lost_of s.n s.rrdys_in.got
  rrdys_found_is h = all_found _ (2 ^ s.n) _ _ (found _ _ _ _ _ h.rrdys) (omega (arith, h))

  sender_marked : (k : ℕ) → k ≡ lost_of s.n s.rrdys_in.got → k ≤ open_lost a.rrdys.losses
      → Loop s r fwd (symbol.Mark BbScR ∷ back) a b
      → Loop (rrdys_made_good s k) r fwd back (rrdys_marked a (a.rrdys.losses.good + k) k a.takes) b
  sender_marked k e m h = record {
    figures = omega (arith, h, m);
    frames = h.frames;
    rrdys =
        subst
        (λ (x : ℕ). InStep s.n r.rrdys_out 0 (roles RRdys back)
        (with_mark a.rrdys.losses (a.rrdys.losses.good + x) x)) (sym e) (get_mark _ _ _ _ _ h.rrdys);
    order = h.order;
  }

  pub sender_gets : (y : Symbol) → Loop s r fwd (y ∷ back) a b
      → Loop (arrived s y) r fwd back (noted_all a (taken_events at s Sound y)) b
  sender_gets (symbol.Frame k) h = grind (arith, nat_tests, h, take_other)
  sender_gets symbol.RRdy h =
      subst (λ (z : Port). Loop z r fwd back (noted a (event.Item Got at symbol.RRdy)) b)
      (sym (cond-false _ s (credit_back s) (ne_eqb _ _ (λ e. omega (arith, h)))))
      (loop_by (omega (arith, h)) h.frames (get_counted _ _ _ _ _ h.rrdys) h.order)
  sender_gets (symbol.Mark BbScS) h = grind (arith, nat_tests, h, take_other)
  sender_gets (symbol.Mark BbScR) h =
      subst (λ (z : Account). Loop (rrdys_corrected s) r fwd back z b)
      (sym (rrdys_account at a (rrdys_found s) (eqb (rrdys_found s) 0) refl))
      (sender_marked (rrdys_found s) (rrdys_found_is h)
      (omega (arith, rrdys_found_is h, found _ _ _ _ _ h.rrdys, mod-le (open_lost a.rrdys.losses) (2 ^ s.n))) h)

  -- frames found lost: as many as were, and never more than the free buffers
  frames_found_is : Loop s r (symbol.Mark BbScS ∷ fwd) back a b → frames_found r ≡ lost_of s.n r.frames_in.got
  frames_found_is h =
      all_found _ (2 ^ s.n) _ _
      (ap (λ (x : ℕ). lost_of x r.frames_in.got) (sym h.figures.same_n) ∙ found _ _ _ _ _ h.frames) (omega (arith, h))
      ∙ ap (λ (x : ℕ). lost_of x r.frames_in.got) (sym h.figures.same_n)

  receiver_marked : (k : ℕ) → k ≡ lost_of s.n r.frames_in.got → k ≤ open_lost b.frames.losses
      → Loop s r (symbol.Mark BbScS ∷ fwd) back a b
      → Loop s (frames_made_good r k) fwd back a (frames_marked b (b.frames.losses.good + k) k b.takes)
  receiver_marked k e m h = record {
    figures = omega (arith, h, m);
    frames =
        subst
        (λ (x : ℕ). InStep s.n s.frames_out 0 (roles Frames fwd)
        (with_mark b.frames.losses (b.frames.losses.good + x) x)) (sym e) (get_mark _ _ _ _ _ h.frames);
    rrdys = h.rrdys;
    order = taken_next _ _ _ _ h.order;
  }

  pub receiver_gets : (y : Symbol) → Loop s r (y ∷ fwd) back a b
      → Loop s (arrived r y) fwd back a (noted_all b (taken_events at r Sound y))
  receiver_gets (symbol.Frame k) h =
      subst (λ (z : Port). Loop s z fwd back a (noted b (event.Item Got at (symbol.Frame k))))
      (sym (cond-false _ r (frame_held r k) (ne_eqb _ _ (λ e. omega (arith, h)))))
      (loop_by (omega (arith, h))
      (subst
      (λ (x : ℕ). InStep s.n s.frames_out ((r.frames_in.got + 1) % 2 ^ x) (roles Frames fwd) (with_got b.frames.losses))
      h.figures.same_n (get_counted _ _ _ _ _ h.frames))
      h.rrdys (taken_next _ _ _ _ h.order))
  receiver_gets symbol.RRdy h = grind (arith, nat_tests, h, take_other, append_assoc {A = Symbol})
  receiver_gets (symbol.Mark BbScS) h =
      subst (λ (z : Account). Loop s (frames_corrected r) fwd back a z)
      (sym (frames_account at b (frames_found r) (eqb (frames_found r) 0) refl))
      (receiver_marked (frames_found r) (frames_found_is h)
      (omega
      (arith, frames_found_is h, found _ _ _ _ _ h.frames, mod-le (open_lost b.frames.losses) (2 ^ s.n))) h)
  receiver_gets (symbol.Mark BbScR) h = grind (arith, nat_tests, h, take_other, append_assoc {A = Symbol})

  -- an item taken, sound or lost
  pub sender_takes : (v : Note) (y : Symbol) → Loop s r fwd (y ∷ back) a b
      → Loop (received s v y) r fwd back (noted_all a (taken_events at s v y)) b
  sender_takes Sound y h = sender_gets y h
  sender_takes Lost y h = sender_misses y h

  pub receiver_takes : (v : Note) (y : Symbol) → Loop s r (y ∷ fwd) back a b
      → Loop s (received r v y) fwd back a (noted_all b (taken_events at r v y))
  receiver_takes Sound y h = receiver_gets y h
  receiver_takes Lost y h = receiver_misses y h

  -- a symbol put
  pub sender_puts : (y : Symbol) → MayPut s y → Loop s r fwd back a b
      → Loop (has_sent s y) r (fwd ++ (y ∷ [])) back (noted a (event.Item Put at y)) b
  sender_puts (symbol.Frame k) m h =
      loop_by (omega (arith, h, m, how_many-snoc Frames fwd (symbol.Frame k)))
      (put_on Frames fwd (symbol.Frame k) (put_counted _ _ _ _ _ m.1 h.frames)) h.rrdys
      (puts_next b.taken fwd _ _ h.order)
  sender_puts symbol.RRdy m h =
      loop_by (omega (arith, h, how_many-snoc Frames fwd symbol.RRdy))
      (put_on Frames fwd symbol.RRdy (put_other _ _ _ _ _ h.frames)) h.rrdys (puts_next b.taken fwd _ _ h.order)
  sender_puts (symbol.Mark BbScS) m h =
      loop_by (omega (arith, h, how_many-snoc Frames fwd (symbol.Mark BbScS)))
      (put_on Frames fwd (symbol.Mark BbScS) (put_mark _ _ _ _ _ m h.frames)) h.rrdys
      (puts_next b.taken fwd _ _ h.order)
  sender_puts (symbol.Mark BbScR) m h =
      loop_by (omega (arith, h, how_many-snoc Frames fwd (symbol.Mark BbScR)))
      (put_on Frames fwd (symbol.Mark BbScR) (put_other _ _ _ _ _ h.frames)) h.rrdys
      (puts_next b.taken fwd _ _ h.order)

  pub receiver_puts : (y : Symbol) → MayPut r y → Loop s r fwd back a b
      → Loop s (has_sent r y) fwd (back ++ (y ∷ [])) a (noted b (event.Item Put at y))
  receiver_puts (symbol.Frame k) m h =
      loop_by (omega (arith, h, how_many-snoc RRdys back (symbol.Frame k))) h.frames
      (put_on RRdys back (symbol.Frame k) (put_other _ _ _ _ _ h.rrdys)) h.order
  receiver_puts symbol.RRdy m h = record {
    figures = omega (arith, h, m, how_many-snoc RRdys back symbol.RRdy);
    frames = h.frames;
    rrdys =
        put_on RRdys back symbol.RRdy
        (subst
        (λ (x : ℕ). InStep s.n (one_more r.rrdys_out x) s.rrdys_in.got
        (roles RRdys back ++ (counted ∷ [])) a.rrdys.losses) h.figures.same_n (put_counted _ _ _ _ _
        m.1 h.rrdys));
    order = h.order;
  }
  receiver_puts (symbol.Mark BbScS) m h =
      loop_by (omega (arith, h, how_many-snoc RRdys back (symbol.Mark BbScS))) h.frames
      (put_on RRdys back (symbol.Mark BbScS) (put_other _ _ _ _ _ h.rrdys)) h.order
  receiver_puts (symbol.Mark BbScR) m h =
      loop_by (omega (arith, h, how_many-snoc RRdys back (symbol.Mark BbScR))) h.frames
      (put_on RRdys back (symbol.Mark BbScR) (put_mark _ _ _ _ _ m h.rrdys)) h.order

  -- a buffer freed
  pub receiver_frees : (k : Frame) (ks : List Frame) → 0 < r.buffers.held → Loop s r fwd back a b
      → Loop s (with_buffers r (emptied r.buffers (k ∷ ks))) fwd back a (noted b (event.Frame Freed at k))
  receiver_frees k ks m h = loop_by (omega (arith, h, m)) h.frames h.rrdys h.order

-- a port that takes a frame has a buffer for it
abbrev pub HasRoom : Port → Symbol → Type 0
HasRoom r (symbol.Frame k) = is_full r.buffers ≡ false
HasRoom r symbol.RRdy = Unit {0}
HasRoom r (symbol.Mark BbScS) = Unit {0}
HasRoom r (symbol.Mark BbScR) = Unit {0}

pub room : (s r : Port) (fwd back : List Symbol) (a b : Account) (y : Symbol) → Loop s r (y ∷ fwd) back a b
    → HasRoom r y
room s r fwd back a b y h = grind (arith, nat_tests, h)

-- by the records, a frame under way has a free buffer and an R_RDY under way a credit in use
pub frame_room : (s r : Port) (k : Frame) (fwd back : List Symbol) (a b : Account)
    → Loop s r (symbol.Frame k ∷ fwd) back a b → buffers_in_use b < r.buffers.all
frame_room s r k fwd back a b h = omega (arith, h)

pub rrdy_room : (s r : Port) (fwd back : List Symbol) (a b : Account) → Loop s r fwd (symbol.RRdy ∷ back) a b
    → 0 < credit_used a
rrdy_room s r fwd back a b h = omega (arith, h)
