-- What holds of a chain and the log of its run, and that each act of a port keeps it.
use Rattle.std.proofs.Common.{◌≡◌, ℕ, ◌+◌, ◌-◌, ◌*◌, ◌<◌, ◌≤◌, min, Bool, true, false, cond, eqb, ltb, ◌≢◌, ◌⊎◌, ⊎_elim}
use Rattle.std.proofs.Common.{List}
use Rattle.std.proofs.Common.{[], ◌∷◌, ◌++◌, length, set, Some, None, Option, sym, refl, ap, ◌∙◌, subst, inl, inr}
use Rattle.std.proofs.Common.{append_assoc, append-nil, arith, length-append, length-set, get_or-set_other}
use Rattle.std.proofs.Common.{get_or-set_same, set-set}
use mathlib.Core.Path.{transport}
use lib.Seq.{set-get_or, set_comm}
use Rattle.std.proofs.lemmas.Bool.{cond-false, eq-eqb, ne_eqb, cases_eq, ltb-true}
use Rattle.std.proofs.lemmas.Bool.Decides.{nat_tests}
use Rattle.ring.specs.Queue.{head?, tail}
use Rattle.symbol.specs.declared.Frame.{Frame}
use Rattle.symbol.specs.declared.Item.{Item}
use Rattle.symbol.specs.declared.Mark.TheVariants.{BbScS, BbScR}
use Rattle.symbol.specs.declared.Note.{Note}
use Rattle.symbol.specs.declared.Note.TheVariants.{Sound, Lost}
use Rattle.symbol.specs.declared.Symbol.{Symbol}
use Rattle.symbol.specs.declared.Symbol.TheVariants as symbol
use Rattle.eventlog.specs.declared.event.Event.TheVariants as event
use Rattle.eventlog.specs.declared.event.FrameKind.TheVariants.{Freed}
use Rattle.eventlog.specs.declared.event.ItemKind.TheVariants.{Put, Got}
use Rattle.bank.specs.Bank.{BankCalls, LawfulBank}
use Rattle.port.specs.Port.{Port, Outbox, Turn, new_port, with_buffers, emptied, unsent, frame_of, sent_on, received}
use Rattle.port.specs.Port.{has_sent, after_send, frame_held, credit_back, frames_found, rrdys_found}
use Rattle.port.specs.Port.{frames_corrected, rrdys_corrected}
use Rattle.symbol.specs.declared.end.End.{End}
use Rattle.model.specs.Chain.{Chain, facing, behind, port_of, with_ports, with_port, with_bank, end_port, takes_item}
use Rattle.model.specs.Chain.{takes, is_end, source, sends_symbol, sends, symbols, on, sound}
use Rattle.model.specs.Run.{Log}
use Rattle.model.specs.Figures.{frames_among, roles, Frames, RRdys}
use Rattle.model.specs.Stretches.{Arrived, WasLost, cut, nothing_put}
use Rattle.model.specs.OnePlace.{numbers, up_to}
use Rattle.model.proofs.Accounts.{Account, noted, noted_all, account}
use Rattle.model.proofs.Banks.{bank_put, bank_put_off, bank_take, bank_take_off, bank_take_none, bank_ready}
use Rattle.model.proofs.Told.{frames-append, frames_same}
use Rattle.model.proofs.Cuts.{Cut, cut_more, cut_good}
use Rattle.model.proofs.Lists.{first_is}
use Rattle.model.proofs.Loop.{taken_events, Sender, Receiver, LoopOf, Loop, sender_takes, receiver_takes, HasRoom}
use Rattle.model.proofs.Loop.{room, MayPut, sender_puts, receiver_puts, receiver_frees, frame_room, rrdy_room}
use Rattle.model.proofs.Records.{MeetsRoom, AllMeetRoom, At, account_own, account_off, account_skip, account_first}
use Rattle.model.proofs.Records.{receive_at, SameFrames, put_freed_frames, put_freed_puts, rooms_kept, receive_rooms}
use Rattle.model.proofs.Places.{facing_back, facing_below, facing_other, behind_other, behind_one, behind_below}
use Rattle.model.proofs.Places.{behind_inner, port_same, port_other, not_end, Inner}

-- every loop of credit
abbrev pub Loops : ℕ → (ℕ → Port) → (ℕ → List Symbol) → (ℕ → Account) → Type 0
Loops k port on' acc = (p q : ℕ) → p < 2 * k → facing p ≡ q → Loop (port p) (port q) (on' p) (on' q) (acc p) (acc q)

-- the buffers held are enough for the frames that wait and those handed out, and all handed out were collected
abbrev pub Stocked : Port → List Frame → Type 0
Stocked s collected =
    (length s.buffers.waiting + length s.buffers.out ≤ s.buffers.held) ×
    (s.buffers.handed ≡ min (length collected) 4294967295)

pub loop_same : {s s' r r' : Port} {f f' g g' : List Symbol} {a a' b b' : Account} → s ≡ s' → r ≡ r' → f ≡ f' → g ≡ g'
    → a ≡ a' → b ≡ b' → Loop s' r' f' g' a' b' → Loop s r f g a b
loop_same es er ef eg ea eb h =
    transport (λ i. Loop (sym es i) (sym er i) (sym ef i) (sym eg i) (sym ea i) (sym eb i)) h

-- a change at the link of x and w leaves the loops of every other link
module _ (k : ℕ) (port port' : ℕ → Port) (on' on'' : ℕ → List Symbol) (acc acc' : ℕ → Account) (x w : ℕ)
    (fx : facing x ≡ w) (same-on : (p : ℕ) → p ≢ x → p ≢ w → on'' p ≡ on' p) where
  pub link_kept : ((p : ℕ) → p ≢ x → p ≢ w → port' p ≡ port p) → ((p : ℕ) → p ≢ x → p ≢ w → acc' p ≡ acc p)
      → Loops k port on' acc
      → Loop (port' x) (port' w) (on'' x) (on'' w) (acc' x) (acc' w)
      → Loop (port' w) (port' x) (on'' w) (on'' x) (acc' w) (acc' x) → Loops k port' on'' acc'
  link_kept same-port same-acc h as-sender as-receiver p q lt f = go (cases_eq p x) (cases_eq q x)
    where
      go : (p ≡ x) ⊎ (p ≡ x → ⊥) → (q ≡ x) ⊎ (q ≡ x → ⊥) → Loop (port' p) (port' q) (on'' p) (on'' q) (acc' p) (acc' q)
      go (inl e) n =
          let qw : q ≡ w = sym f ∙ ap facing e ∙ fx in
          loop_same (ap port' e) (ap port' qw) (ap on'' e) (ap on'' qw) (ap acc' e) (ap acc' qw) as-sender
      go (inr n) (inl e) =
          let pw : p ≡ w = sym (facing_back p q f) ∙ ap facing e ∙ fx in
          loop_same (ap port' pw) (ap port' e) (ap on'' pw) (ap on'' e) (ap acc' pw) (ap acc' e) as-receiver
      go (inr n) (inr m) =
          let pw : p ≢ w = λ d. m (sym f ∙ ap facing d ∙ facing_back x w fx) in
          let qw : q ≢ w = λ d. n (sym (facing_back p q f) ∙ ap facing d ∙ facing_back x w fx) in
          loop_same (same-port p n pw) (same-port q m qw) (same-on p n pw) (same-on q m qw) (same-acc p n pw)
          (same-acc q m qw) (h p q lt f)

  -- an act of port x alone
  pub loops_kept : ((p : ℕ) → p ≢ x → port' p ≡ port p) → ((p : ℕ) → p ≢ x → acc' p ≡ acc p) → Loops k port on' acc
      → Loop (port' x) (port w) (on'' x) (on'' w) (acc' x) (acc w)
      → Loop (port w) (port' x) (on'' w) (on'' x) (acc w) (acc' x) → Loops k port' on'' acc'
  loops_kept same-port same-acc h as-sender as-receiver =
      link_kept (λ p n m. same-port p n) (λ p n m. same-acc p n) h
      (loop_same {s = port' x} {a = acc' x} refl (same-port w wx) refl refl refl (same-acc w wx) as-sender)
      (loop_same {r = port' x} {b = acc' x} (same-port w wx) refl refl refl (same-acc w wx) refl as-receiver)
    where
      wx : w ≢ x
      wx d = facing_other x w fx (sym d)

-- what an end of the chain was given is what it put and then its outbox
abbrev pub Fed : Port → Account → Type 0
Fed s a = a.injected ≡ frames_among a.puts ++ s.outbox.frames

-- what it got is what it handed out and then what waits
abbrev pub Handed : Port → Account → Type 0
Handed s a = a.got ≡ a.collected ++ s.buffers.waiting

-- what it was given has the numbers from 1 on
abbrev pub Numbered : Port → Account → Type 0
Numbered s a = numbers a.injected ≡ up_to s.outbox.injected

-- what an act of a port keeps; `inner` says that the port is no end of the chain
pub record Act (inner : Type 0) (s s' : Port) (a a' : Account) : Type 0 where
  pub all : s'.buffers.all ≡ s.buffers.all
  pub stocked : Stocked s a.collected → Stocked s' a'.collected
  pub puts : inner → frames_among a'.puts ≡ frames_among a.puts
  pub got : inner → (g : List Frame) → a.got ≡ g ++ s.buffers.waiting → a'.got ≡ g ++ s'.buffers.waiting
  pub fed : Fed s a → Fed s' a'
  pub handed : Handed s a → Handed s' a'
  pub numbered : Numbered s a → Numbered s' a'
  pub cuts : Cut a → Cut a'

pub no_change : (inner : Type 0) (s : Port) (a : Account) → Act inner s s a a
no_change inner s a = grind arith

-- an act that neither puts a frame, nor hands one out, nor is given one
pub record Quiet (s s' : Port) (a a' : Account) : Type 0 where
  pub all : s'.buffers.all ≡ s.buffers.all
  pub stocked : Stocked s a.collected → Stocked s' a'.collected
  pub puts : frames_among a'.puts ≡ frames_among a.puts
  pub got : (g : List Frame) → a.got ≡ g ++ s.buffers.waiting → a'.got ≡ g ++ s'.buffers.waiting
  pub injected : a'.injected ≡ a.injected
  pub collected : a'.collected ≡ a.collected
  pub outbox : s'.outbox ≡ s.outbox
  pub cuts : Cut a → Cut a'

pub quiet_act : (inner : Type 0) (s s' : Port) (a a' : Account) → Quiet s s' a a' → Act inner s s' a a'
quiet_act inner s s' a a' q = grind (arith, q)

on_same : {S : Sender} {R : Receiver} {f f' g g' : List Symbol} → f ≡ f' → g ≡ g' → LoopOf S R f' (roles RRdys g')
    → LoopOf S R f (roles RRdys g)
on_same {S} {R} ef eg h = transport (λ i. LoopOf S R (sym ef i) (roles RRdys (sym eg i))) h

-- where a port's frames are, by its state and its records
pub record Shelf : Type 0 where
  pub all : ℕ
  pub held : ℕ
  pub waiting : List Frame
  pub out : List ℕ
  pub handed : ℕ
  pub outbox : Outbox
  pub puts : List Frame
  pub got : List Frame
  pub injected : List Frame
  pub collected : List Frame

-- with those put
abbrev shelf_by : Port → Account → List Frame → Shelf
shelf_by s a fs = record {
  all = s.buffers.all;
  held = s.buffers.held;
  waiting = s.buffers.waiting;
  out = s.buffers.out;
  handed = s.buffers.handed;
  outbox = s.outbox;
  puts = fs;
  got = a.got;
  injected = a.injected;
  collected = a.collected;
}

abbrev shelf : Port → Account → Shelf
shelf s a = shelf_by s a (frames_among a.puts)

abbrev Stocks : Shelf → Type 0
Stocks v = (length v.waiting + length v.out ≤ v.held) × (v.handed ≡ min (length v.collected) 4294967295)

-- an act that moves no frame
unmoved : (s s' : Port) (a a' : Account) → shelf s' a' ≡ shelf s a → (Cut a → Cut a') → Quiet s s' a a'
unmoved s s' a a' e cuts = grind (arith, e, cuts)

module _ (x : ℕ) (s : Port) (a : Account) where
  quiet_credit : (t : Bool) → Quiet s (cond t s (credit_back s)) a (noted a (event.Item Got x symbol.RRdy))
  quiet_credit true = unmoved _ _ _ _ refl (λ z. cut_more _ _ _ z symbol.RRdy (Arrived 0))
  quiet_credit false = unmoved _ _ _ _ refl (λ z. cut_more _ _ _ z symbol.RRdy (Arrived 0))

  quiet_frames : (t : Bool) (k : ℕ)
      → Quiet s (frames_corrected s) a
      (noted_all (noted a (event.Item Got x (symbol.Mark BbScS))) (cond t [] (event.MadeGood x BbScS k ∷ [])))
  quiet_frames true k = unmoved _ _ _ _ refl (λ z. cut_more _ _ _ z (symbol.Mark BbScS) (Arrived 0))
  quiet_frames false k = unmoved _ _ _ _ refl (λ z. cut_good _ _ _ z (symbol.Mark BbScS) k)

  quiet_rrdys : (t : Bool) (k : ℕ)
      → Quiet s (rrdys_corrected s) a
      (noted_all (noted a (event.Item Got x (symbol.Mark BbScR))) (cond t [] (event.MadeGood x BbScR k ∷ [])))
  quiet_rrdys true k = unmoved _ _ _ _ refl (λ z. cut_more _ _ _ z (symbol.Mark BbScR) (Arrived 0))
  quiet_rrdys false k = unmoved _ _ _ _ refl (λ z. cut_good _ _ _ z (symbol.Mark BbScR) k)

  quiet_take : (v : Note) (y : Symbol) → HasRoom s y → Quiet s (received s v y) a (noted_all a (taken_events x s v y))
  quiet_take Lost (symbol.Frame k) r = unmoved _ _ _ _ refl (λ z. cut_more _ _ _ z (symbol.Frame k) WasLost)
  quiet_take Lost symbol.RRdy r = unmoved _ _ _ _ refl (λ z. cut_more _ _ _ z symbol.RRdy WasLost)
  quiet_take Lost (symbol.Mark BbScS) r = unmoved _ _ _ _ refl (λ z. cut_more _ _ _ z (symbol.Mark BbScS) WasLost)
  quiet_take Lost (symbol.Mark BbScR) r = unmoved _ _ _ _ refl (λ z. cut_more _ _ _ z (symbol.Mark BbScR) WasLost)
  quiet_take Sound (symbol.Frame k) r =
      subst (λ (z : Port). Quiet s z a (noted a (event.Item Got x (symbol.Frame k))))
      (sym (cond-false _ s (frame_held s k) r)) (record {
        all = refl;
        stocked = λ z. omega (arith, z, length-append s.buffers.waiting (k ∷ []));
        puts = refl;
        got = λ g z. ap {B = List Frame} (λ q. q ++ (k ∷ [])) z ∙ append_assoc g s.buffers.waiting (k ∷ []);
        injected = refl;
        collected = refl;
        outbox = refl;
        cuts = λ z. cut_more _ _ _ z (symbol.Frame k) (Arrived 0);
      })
  quiet_take Sound symbol.RRdy r = quiet_credit (eqb s.credit.used 0)
  quiet_take Sound (symbol.Mark BbScS) r = quiet_frames (eqb (frames_found s) 0) (frames_found s)
  quiet_take Sound (symbol.Mark BbScR) r = quiet_rrdys (eqb (rrdys_found s) 0) (rrdys_found s)

module _ {B : Type 0} (M : BankCalls B) where
  -- frames go through every place in order: what came in is what went out and then what is there
  pub record Invariant (c : Chain B) (l : Log) : Type 0 where
    pub size : 2 * c.links ≤ length c.ports
    pub loops : Loops c.links (port_of c) (on M c) (λ p. account p l)
    pub stocked : (p : ℕ) → p < 2 * c.links → Stocked (port_of c p) (account p l).collected
    pub fed : (e : End) → 0 < c.links → Fed (port_of c (end_port c e)) (account (end_port c e) l)
    pub passed_on : (p q : ℕ) → p < 2 * c.links → p ≢ 0 → p ≢ 2 * c.links - 1 → behind p ≡ q
        → (account q l).got ≡ frames_among (account p l).puts ++ (port_of c q).buffers.waiting
    pub handed : (e : End) → 0 < c.links → Handed (port_of c (end_port c e)) (account (end_port c e) l)
    pub numbered : (e : End) → 0 < c.links → Numbered (port_of c (end_port c e)) (account (end_port c e) l)
    pub cuts : (p : ℕ) → p < 2 * c.links → Cut (account p l)
    pub room : AllMeetRoom (λ p. (port_of c p).buffers.all) [] l

  -- a turn after the log l keeps it
  abbrev pub Kept : Log → Turn (Chain B) → Type 0
  Kept l t = Invariant t.state (l ++ t.events)

module _ {B : Type 0} (M : BankCalls B) (law : (b : B) → LawfulBank M b) where
  -- such an act of port x: its new state, its records, and the bank after it
  module _ (c : Chain B) (l es : Log) (x w : ℕ) (s : Port) (b : B) (h : Invariant M c l) (lt : x < 2 * c.links)
      (fx : facing x ≡ w)
      (own : (p : ℕ) (t : Bool) → eqb p x ≡ t → At p t es) where
    abbrev after : Chain B
    after = with_port (with_bank c b) x s

    acc_x : account x (l ++ es) ≡ noted_all (account x l) es
    acc_x = account_own x l es (own x true (eq-eqb x x refl))

    acc_other : (p : ℕ) → p ≢ x → account p (l ++ es) ≡ account p l
    acc_other p n = account_off p l es (own p false (ne_eqb p x n))

    now_x : port_of after x ≡ s
    now_x = port_same (with_bank c b) x s (omega (arith, h.size))

    now_other : (p : ℕ) → p ≢ x → port_of after p ≡ port_of c p
    now_other p n = port_other (with_bank c b) x p s n

    pub act_loops : ((p : ℕ) → p ≢ x → p ≢ w → symbols (M.known b p).items ≡ on M c p)
        → Loop s (port_of c w) (symbols (M.known b x).items) (symbols (M.known b w).items)
        (noted_all (account x l) es) (account w l)
        → Loop (port_of c w) s (symbols (M.known b w).items) (symbols (M.known b x).items) (account w l)
        (noted_all (account x l) es)
        → Loops c.links (port_of after) (on M after) (λ p. account p (l ++ es))
    act_loops same-on as-sender as-receiver =
        loops_kept c.links (port_of c) (port_of after) (on M c) (on M after) (λ p. account p l)
        (λ p. account p (l ++ es)) x w fx same-on now_other acc_other h.loops
        (loop_same {r = port_of c w} {b = account w l} now_x refl refl refl acc_x refl as-sender)
        (loop_same {s = port_of c w} {a = account w l} refl now_x refl refl refl acc_x as-receiver)

    -- what the act keeps, at x and elsewhere
    at_each : Act (Inner c x) (port_of c x) s (account x l) (noted_all (account x l) es) → (p : ℕ)
        → Act (Inner c p) (port_of c p) (port_of after p) (account p l) (account p (l ++ es))
    at_each here p =
        ⊎_elim
        (λ (e : p ≡ x). subst
        (λ (z : ℕ). Act (Inner c z) (port_of c z) (port_of after z) (account z l) (account z (l ++ es))) (sym e)
        (transport (λ i. Act (Inner c x) (port_of c x) (sym now_x i) (account x l) (sym acc_x i)) here))
        (λ (n : p ≢ x). transport
        (λ i. Act (Inner c p) (port_of c p) (sym (now_other p n) i) (account p l) (sym (acc_other p n) i))
        (no_change (Inner c p) (port_of c p) (account p l)))
        (cases_eq p x)

    pub act : ((p : ℕ) → p ≢ x → p ≢ w → symbols (M.known b p).items ≡ on M c p)
        → Loop s (port_of c w) (symbols (M.known b x).items) (symbols (M.known b w).items)
        (noted_all (account x l) es) (account w l)
        → Loop (port_of c w) s (symbols (M.known b w).items) (symbols (M.known b x).items) (account w l)
        (noted_all (account x l) es)
        → Act (Inner c x) (port_of c x) s (account x l) (noted_all (account x l) es)
        → AllMeetRoom (λ p. (port_of c p).buffers.all) l es
        → Invariant M after (l ++ es)
    act same-on as-sender as-receiver here new = record {
      size = subst (λ (z : ℕ). 2 * c.links ≤ z) (sym (length-set c.ports x s)) h.size;
      loops = act_loops same-on as-sender as-receiver;
      stocked = λ p z. (at_each here p).stocked (h.stocked p z);
      fed = λ e z. (at_each here (end_port c e)).fed (h.fed e z);
      passed_on =
          λ p q z n m f. (at_each here q).got (subst (Inner c) f (behind_inner c.links p z n m))
          (frames_among (account p (l ++ es)).puts)
          (h.passed_on p q z n m f
          ∙ ap {B = List Frame} (λ r. r ++ (port_of c q).buffers.waiting) (sym ((at_each here p).puts (n, m))));
      handed = λ e z. (at_each here (end_port c e)).handed (h.handed e z);
      numbered = λ e z. (at_each here (end_port c e)).numbered (h.numbered e z);
      cuts = λ p z. (at_each here p).cuts (h.cuts p z);
      room =
          rooms_kept (λ p. (port_of c p).buffers.all) (λ p. (port_of after p).buffers.all) l es
          (λ p. (at_each here p).all) h.room new;
    }

  -- port x takes the first item of the direction of w, which it faces
  module _ (c : Chain B) (l : Log) (x w : ℕ) (i : Item) (is : List Item) (h : Invariant M c l) (lt : x < 2 * c.links)
      (fx : facing x ≡ w)
      (ready : (M.known c.bank w).ready ≡ true) (items : (M.known c.bank w).items ≡ i ∷ is) where
    on_w : on M c w ≡ i.symbol ∷ symbols is
    on_w = ap symbols items

    now_w : symbols (M.known (M.take c.bank w) w).items ≡ symbols is
    now_w = ap symbols (bank_take M law c.bank w i is ready items)

    now_off : (p : ℕ) → p ≢ w → symbols (M.known (M.take c.bank w) p).items ≡ on M c p
    now_off p n = bank_take_off M law c.bank w p n

    before_sends : Loop (port_of c x) (port_of c w) (on M c x) (i.symbol ∷ symbols is) (account x l) (account w l)
    before_sends = on_same refl (sym on_w) (h.loops x w lt fx)

    before_takes : Loop (port_of c w) (port_of c x) (i.symbol ∷ symbols is) (on M c x) (account w l) (account x l)
    before_takes = on_same (sym on_w) refl (h.loops w x (facing_below c.links x w fx lt) (facing_back x w fx))

    meets : (y : Symbol) → Loop (port_of c x) (port_of c w) (on M c x) (y ∷ symbols is) (account x l) (account w l)
        → Loop (port_of c w) (port_of c x) (y ∷ symbols is) (on M c x) (account w l) (account x l)
        → MeetsRoom (λ p. (port_of c p).buffers.all) l x y
    meets y a b =
        grind (
          arith,
          frame_room (port_of c w) (port_of c x),
          rrdy_room (port_of c x) (port_of c w),
        )

    pub take_kept : Invariant M
        (with_port (with_bank c (M.take c.bank w)) x (received (port_of c x) i.note i.symbol))
        (l ++ taken_events x (port_of c x) i.note i.symbol)
    take_kept =
        act c l (taken_events x (port_of c x) i.note i.symbol) x w
        (received (port_of c x) i.note i.symbol) (M.take c.bank w) h lt fx
        (λ p t e. receive_at p x t (port_of c x) i.note i.symbol e)
        (λ p n m. now_off p m)
        (on_same (now_off x (facing_other x w fx)) now_w
        (sender_takes x (port_of c x) (port_of c w) (on M c x) (symbols is) (account x l) (account w l) i.note
        i.symbol before_sends))
        (on_same now_w (now_off x (facing_other x w fx))
        (receiver_takes x (port_of c w) (port_of c x) (symbols is) (on M c x) (account w l) (account x l) i.note
        i.symbol before_takes))
        (quiet_act (Inner c x) (port_of c x) (received (port_of c x) i.note i.symbol) (account x l)
        (noted_all (account x l) (taken_events x (port_of c x) i.note i.symbol))
        (quiet_take x (port_of c x) (account x l) i.note i.symbol
        (room (port_of c w) (port_of c x) (symbols is) (on M c x) (account w l) (account x l)
        i.symbol before_takes)))
        (receive_rooms (λ p. (port_of c p).buffers.all) l x (port_of c x) i.note i.symbol
        (meets i.symbol before_sends before_takes))

  -- port x asks its direction once
  pub takes_kept : (c : Chain B) (l : Log) (x : ℕ) → x < 2 * c.links → Invariant M c l → Kept M l (takes M c x)
  takes_kept c l x lt h = go (M.known c.bank (facing x)).ready (M.known c.bank (facing x)).items refl refl
    where
      go : (t : Bool) (xs : List Item) → (M.known c.bank (facing x)).ready ≡ t
          → (M.known c.bank (facing x)).items ≡ xs
          → Kept M l (takes_item M (with_bank c (M.take c.bank (facing x))) x (cond t (head? xs) None))
      go false xs e f =
          subst (λ (b : B). Invariant M (with_bank c b) (l ++ [])) (sym (bank_take_none M law c.bank (facing x) e))
          (subst (Invariant M c) (sym (append-nil l)) h)
      go true [] e f = absurd (bank_ready M law c.bank (facing x) e f)
      go true (i ∷ is) e f = take_kept c l x (facing x) i is h lt refl e f

  -- port x puts a symbol
  module _ (c : Chain B) (x : ℕ) (y : Symbol) (space : (M.known c.bank x).space ≡ true) where
    put_x : symbols (M.known (M.put c.bank x (sound y)) x).items ≡ on M c x ++ (y ∷ [])
    put_x = bank_put M law c.bank x y space

    put_off : (p : ℕ) → p ≢ x → symbols (M.known (M.put c.bank x (sound y)) p).items ≡ on M c p
    put_off p n = bank_put_off M law c.bank x p y n

  -- it puts y, having drawn a frame from its outbox or not: s is its state but for that
  module _ (c : Chain B) (l : Log) (x w : ℕ) (s : Port) (y : Symbol) (h : Invariant M c l) (lt : x < 2 * c.links)
      (fx : facing x ≡ w) (space : (M.known c.bank x).space ≡ true) (may : MayPut s y) where
    pub put_kept : Loop s (port_of c w) (on M c x) (on M c w) (account x l) (account w l)
        → Loop (port_of c w) s (on M c w) (on M c x) (account w l) (account x l)
        → Act (Inner c x) (port_of c x) (has_sent s y) (account x l) (noted (account x l) (event.Item Put x y))
        → Invariant M (with_port (with_bank c (M.put c.bank x (sound y))) x (has_sent s y))
        (l ++ (event.Item Put x y ∷ []))
    put_kept as-sender as-receiver here =
        act c l (event.Item Put x y ∷ []) x w (has_sent s y) (M.put c.bank x (sound y)) h lt fx (λ p t e. (e, tt))
        (λ p n m. put_off c x y space p n)
        (on_same (put_x c x y space) (put_off c x y space w (λ d. facing_other x w fx (sym d)))
        (sender_puts x s (port_of c w) (on M c x) (on M c w) (account x l) (account w l) y may as-sender))
        (on_same (put_off c x y space w (λ d. facing_other x w fx (sym d))) (put_x c x y space)
        (receiver_puts x (port_of c w) s (on M c w) (on M c x) (account w l) (account x l) y may as-receiver))
        here (tt, tt)

  -- a port puts what is no frame
  quiet_put : (x : ℕ) (s : Port) (a : Account) (y : Symbol) → frames_among (y ∷ []) ≡ []
      → Quiet s (has_sent s y) a (noted a (event.Item Put x y))
  quiet_put x s a y none = grind (arith, frames_same a.puts y none)

  -- an end puts the oldest frame of its outbox
  end_act : (x : ℕ) (inner : Type 0) (s : Port) (a : Account) (k : Frame) (ks : List Frame) → (inner → ⊥)
      → s.outbox.frames ≡ k ∷ ks
      → Act inner s (has_sent (unsent s) (symbol.Frame k)) a (noted a (event.Item Put x (symbol.Frame k)))
  end_act x inner s a k ks outer box =
      grind (
        arith,
        outer,
        box,
        frames-append a.puts (symbol.Frame k ∷ []),
        append_assoc (frames_among a.puts) (k ∷ []) ks,
      )

  -- a port that is no end puts the oldest frame that waits at z, for which it sends
  module _ (c : Chain B) (l : Log) (x w z : ℕ) (k : Frame) (ks : List Frame) (h : Invariant M c l)
      (lt : x < 2 * c.links) (fx : facing x ≡ w) (n0 : x ≢ 0) (n1 : x ≢ 2 * c.links - 1)
      (bx : behind x ≡ z) (space : (M.known c.bank x).space ≡ true) (may : MayPut (port_of c x) (symbol.Frame k))
      (queue : (port_of c z).buffers.waiting ≡ k ∷ ks) where
    abbrev freed_z : Port
    freed_z = with_buffers (port_of c z) (emptied (port_of c z).buffers (k ∷ ks))

    abbrev freed_at : Chain B
    freed_at = with_port c z freed_z

    abbrev sent_by : Chain B
    sent_by =
        with_bank (with_port freed_at x (has_sent (port_of c x) (symbol.Frame k)))
        (M.put c.bank x (sound (symbol.Frame k)))

    abbrev freed_log : Log
    freed_log = l ++ (event.Frame Freed z k ∷ [])

    abbrev both_log : Log
    both_log = l ++ (event.Item Put x (symbol.Frame k) ∷ event.Frame Freed z k ∷ [])

    z_below : z < 2 * c.links
    z_below = subst (λ (v : ℕ). v < 2 * c.links) bx (behind_below c.links x lt n0 n1)

    z_inner : (z ≢ 0) × (z ≢ 2 * c.links - 1)
    z_inner = subst (λ (v : ℕ). (v ≢ 0) × (v ≢ 2 * c.links - 1)) bx (behind_inner c.links x lt n0 n1)

    zx : z ≢ x
    zx d = behind_other x n0 (bx ∙ d)

    held_some : 0 < (port_of c z).buffers.held
    held_some = omega (arith, h.stocked z z_below, ap length queue)

    freed_own : (p : ℕ) (t : Bool) → eqb p z ≡ t → At p t (event.Frame Freed z k ∷ [])
    freed_own p t e = (e, tt)

    freed_loops : Loops c.links (port_of freed_at) (on M c) (λ p. account p freed_log)
    freed_loops =
        act_loops c l (event.Frame Freed z k ∷ []) z (facing z) freed_z c.bank h z_below refl freed_own
        (λ p n m. refl)
        (h.loops z (facing z) z_below refl)
        (receiver_frees z (port_of c (facing z)) (port_of c z) (on M c (facing z)) (on M c z) (account (facing z) l)
        (account z l) k ks held_some
        (h.loops (facing z) z (facing_below c.links z (facing z) refl z_below) (facing_back z (facing z) refl)))

    x_freed : port_of freed_at x ≡ port_of c x
    x_freed = port_other c z x freed_z (λ d. zx (sym d))

    x_now : port_of sent_by x ≡ has_sent (port_of c x) (symbol.Frame k)
    x_now =
        port_same freed_at x (has_sent (port_of c x) (symbol.Frame k))
        (omega (arith, h.size, length-set c.ports z freed_z))

    off_now : (p : ℕ) → p ≢ x → port_of sent_by p ≡ port_of freed_at p
    off_now p n = port_other freed_at x p (has_sent (port_of c x) (symbol.Frame k)) n

    z_now : port_of sent_by z ≡ freed_z
    z_now = off_now z zx ∙ port_same c z freed_z (omega (arith, h.size, z_below))

    x_account : account x both_log ≡ noted (account x freed_log) (event.Item Put x (symbol.Frame k))
    x_account =
        account_first x l (event.Frame Freed z k ∷ []) (event.Item Put x (symbol.Frame k)) (eq-eqb x x refl)
        (ne_eqb x z (λ d. zx (sym d)), tt)
        ∙ ap (λ (a : Account). noted a (event.Item Put x (symbol.Frame k)))
        (sym (account_off x l (event.Frame Freed z k ∷ []) (ne_eqb x z (λ d. zx (sym d)), tt)))

    w_off : w ≢ x
    w_off d = facing_other x w fx (sym d)

    may_freed : MayPut (port_of freed_at x) (symbol.Frame k)
    may_freed = subst (λ (s : Port). MayPut s (symbol.Frame k)) (sym x_freed) may

    sent_loops : Loops c.links (port_of sent_by) (on M sent_by) (λ p. account p both_log)
    sent_loops =
        loops_kept c.links (port_of freed_at) (port_of sent_by) (on M c) (on M sent_by) (λ p. account p freed_log)
        (λ p. account p both_log) x w fx (λ p n m. put_off c x (symbol.Frame k) space p n) off_now
        (λ p n. account_skip p l (event.Frame Freed z k ∷ []) (event.Item Put x (symbol.Frame k))
        (ne_eqb p x n)) freed_loops
        (loop_same {r = port_of freed_at w} {b = account w freed_log}
        (x_now ∙ ap (λ (s : Port). has_sent s (symbol.Frame k)) (sym x_freed)) refl (put_x c x (symbol.Frame k) space)
        (put_off c x (symbol.Frame k) space w w_off) x_account refl
        (sender_puts x (port_of freed_at x) (port_of freed_at w) (on M c x) (on M c w) (account x freed_log)
        (account w freed_log) (symbol.Frame k) may_freed (freed_loops x w lt fx)))
        (loop_same {s = port_of freed_at w} {a = account w freed_log} refl
        (x_now ∙ ap (λ (s : Port). has_sent s (symbol.Frame k)) (sym x_freed))
        (put_off c x (symbol.Frame k) space w w_off) (put_x c x (symbol.Frame k) space) refl x_account
        (receiver_puts x (port_of freed_at w) (port_of freed_at x) (on M c w) (on M c x) (account w freed_log)
        (account x freed_log) (symbol.Frame k) may_freed
        (freed_loops w x (facing_below c.links x w fx lt) (facing_back x w fx))))

    -- what is at each port now: its own at x, a frame less at z, the old state elsewhere
    at_ports : (P : ℕ → Port → Type 0) → P x (has_sent (port_of c x) (symbol.Frame k)) → P z freed_z
        → ((p : ℕ) → P p (port_of c p)) → (p : ℕ) → P p (port_of sent_by p)
    at_ports P px pz off p = go (cases_eq p x) (cases_eq p z)
      where
        go : (p ≡ x) ⊎ (p ≡ x → ⊥) → (p ≡ z) ⊎ (p ≡ z → ⊥) → P p (port_of sent_by p)
        go (inl e) n = subst (λ (v : ℕ). P v (port_of sent_by v)) (sym e) (subst (P x) (sym x_now) px)
        go (inr n) (inl e) = subst (λ (v : ℕ). P v (port_of sent_by v)) (sym e) (subst (P z) (sym z_now) pz)
        go (inr n) (inr m) = subst (P p) (sym (off_now p n ∙ port_other c z p freed_z m)) (off p)

    z_stocked : Stocked freed_z (account z l).collected
    z_stocked = omega (arith, h.stocked z z_below, ap length queue)

    still_waits : (p : ℕ) → p ≢ z → (port_of sent_by p).buffers.waiting ≡ (port_of c p).buffers.waiting
    still_waits =
        at_ports (λ p s. p ≢ z → s.buffers.waiting ≡ (port_of c p).buffers.waiting) (λ n. refl)
        (λ n. absurd (n refl)) (λ p n. refl)

    same_outbox : (p : ℕ) → (port_of sent_by p).outbox ≡ (port_of c p).outbox
    same_outbox = at_ports (λ p s. s.outbox ≡ (port_of c p).outbox) refl refl (λ p. refl)

    same_frames : (p : ℕ) → SameFrames (account p l) (account p both_log)
    same_frames p = put_freed_frames p x z k l

    same_puts : (p : ℕ) → p ≢ x → (account p both_log).puts ≡ (account p l).puts
    same_puts p n = put_freed_puts p x z k l (ne_eqb p x n)

    x_puts : frames_among (account x both_log).puts ≡ frames_among (account x l).puts ++ (k ∷ [])
    x_puts =
        ap (λ (a : Account). frames_among a.puts)
        (account_first x l (event.Frame Freed z k ∷ []) (event.Item Put x (symbol.Frame k)) (eq-eqb x x refl)
        (ne_eqb x z (λ d. zx (sym d)), tt)) ∙ frames-append (account x l).puts (symbol.Frame k ∷ [])

    x_passed : (account z both_log).got ≡ frames_among (account x both_log).puts ++ (port_of sent_by z).buffers.waiting
    x_passed =
        (same_frames z).got ∙ h.passed_on x z lt n0 n1 bx
        ∙ ap {B = List Frame} (λ r. frames_among (account x l).puts ++ r) queue
        ∙ sym (append_assoc (frames_among (account x l).puts) (k ∷ []) ks)
        ∙ sym (λ i. x_puts i ++ (z_now i).buffers.waiting)

    passed : (p q : ℕ) → p < 2 * c.links → p ≢ 0 → p ≢ 2 * c.links - 1 → behind p ≡ q
        → (account q both_log).got ≡ frames_among (account p both_log).puts ++ (port_of sent_by q).buffers.waiting
    passed p q pl m0 m1 f =
        ⊎_elim
        (λ (e : p ≡ x).
        let qz : q ≡ z = sym f ∙ ap behind e ∙ bx in
        transport
        (λ i. (account (sym qz i) both_log).got
        ≡ frames_among (account (sym e i) both_log).puts ++ (port_of sent_by
        (sym qz i)).buffers.waiting) x_passed)
        (λ (n : p ≢ x). (same_frames q).got ∙ h.passed_on p q pl m0 m1 f
        ∙ (λ i. frames_among (sym (same_puts p n) i) ++ sym
        (still_waits q (λ d. n (behind_one p x m0 n0 (f ∙ d ∙ sym bx)))) i))
        (cases_eq p x)

    pub inner_put_kept : Invariant M sent_by both_log
    inner_put_kept = record {
      size =
          omega (
            arith,
            h.size,
            length-set c.ports z freed_z,
            length-set freed_at.ports x
                (has_sent (port_of c x) (symbol.Frame k)),
          );
      loops = sent_loops;
      stocked =
          λ p lt. subst (Stocked (port_of sent_by p)) (sym (same_frames p).collected)
          (at_ports (λ p s. p < 2 * c.links → Stocked s (account p l).collected) (h.stocked x) (λ d. z_stocked)
          h.stocked p lt);
      fed = λ e d. (same_frames (end_port c e)).injected ∙ h.fed e d
          ∙ (λ i. frames_among (sym (same_puts (end_port c e) (λ q. not_end c e x n0 n1 (sym q))) i) ++ (sym
          (same_outbox (end_port c e)) i).frames);
      passed_on = passed;
      handed = λ e d. (same_frames (end_port c e)).got ∙ h.handed e d
          ∙ (λ i. sym (same_frames (end_port c e)).collected i ++ sym
          (still_waits (end_port c e) (λ q. not_end c e z z_inner.0 z_inner.1 (sym q))) i);
      numbered = λ e d. ap numbers (same_frames (end_port c e)).injected ∙ h.numbered e d
          ∙ ap (λ (o : Outbox). up_to o.injected) (sym (same_outbox (end_port c e)));
      cuts = λ p z. record {
        frames = ap (cut Frames nothing_put) (same_frames p).takes ∙ (h.cuts p z).frames
            ∙ sym (same_frames p).frames_cut;
        rrdys = ap (cut RRdys nothing_put) (same_frames p).takes ∙ (h.cuts p z).rrdys ∙ sym (same_frames p).rrdys_cut;
      };
      room =
          rooms_kept (λ p. (port_of c p).buffers.all) (λ p. (port_of sent_by p).buffers.all) l
          (event.Item Put x (symbol.Frame k) ∷ event.Frame Freed z k ∷ [])
          (at_ports (λ p s. s.buffers.all ≡ (port_of c p).buffers.all) refl refl (λ p. refl)) h.room
          (tt, (tt, tt));
    }

  outer : (c : Chain B) (x : ℕ) → is_end c.links x ≡ true → Inner c x → ⊥
  outer c x e i = grind (arith, nat_tests)

  module _ (c : Chain B) (l : Log) (x : ℕ) (h : Invariant M c l) (lt : x < 2 * c.links)
      (space : (M.known c.bank x).space ≡ true) where
    x_sends : Loop (port_of c x) (port_of c (facing x)) (on M c x) (on M c (facing x)) (account x l)
        (account (facing x) l)
    x_sends = h.loops x (facing x) lt refl

    x_takes : Loop (port_of c (facing x)) (port_of c x) (on M c (facing x)) (on M c x) (account (facing x) l)
        (account x l)
    x_takes = h.loops (facing x) x (facing_below c.links x (facing x) refl lt) (facing_back x (facing x) refl)

    quiet_kept : (y : Symbol) → MayPut (port_of c x) y → frames_among (y ∷ []) ≡ []
        → Invariant M (with_port (with_bank c (M.put c.bank x (sound y))) x (has_sent (port_of c x) y))
        (l ++ (event.Item Put x y ∷ []))
    quiet_kept y may none =
        put_kept c l x (facing x) (port_of c x) y h lt refl space may x_sends x_takes
        (quiet_act (Inner c x) (port_of c x) (has_sent (port_of c x) y) (account x l)
        (noted (account x l) (event.Item Put x y)) (quiet_put x (port_of c x) (account x l) y none))

    -- the chain after the port itself and the bank have it
    abbrev put_at : Symbol → Chain B
    put_at y = with_bank (with_port c x (has_sent (port_of c x) y)) (M.put c.bank x (sound y))

    x_put : (y : Symbol) → port_of (put_at y) x ≡ has_sent (port_of c x) y
    x_put y = get_or-set_same c.ports x (has_sent (port_of c x) y) new_port (omega (arith, h.size))

    -- it is drawn from its outbox
    end_ports : (y : Symbol)
        → set (put_at y).ports x (unsent (port_of (put_at y) x)) ≡ set c.ports x (unsent (has_sent (port_of c x) y))
    end_ports y = ap (λ (s : Port). set (put_at y).ports x (unsent s)) (x_put y)
        ∙ set-set c.ports x (has_sent (port_of c x) y) (unsent (has_sent (port_of c x) y))

    -- or from the buffer of the port behind it
    inner_ports : (y : Symbol) (k : Frame) (ks : List Frame) → behind x ≢ x
        → (port_of c (behind x)).buffers.waiting ≡ k ∷ ks
        → set (put_at y).ports (behind x) (sent_on (port_of (put_at y) (behind x)))
        ≡ set
        (set c.ports (behind x)
        (with_buffers (port_of c (behind x)) (emptied (port_of c (behind x)).buffers (k ∷ ks)))) x (has_sent
        (port_of c x) y)
    inner_ports y k ks n queue =
        ap (λ (s : Port). set (put_at y).ports (behind x) (sent_on s))
        (get_or-set_other c.ports x (behind x) (has_sent (port_of c x) y) new_port n)
        ∙ ap
        (λ (ws : List Frame). set (put_at y).ports (behind x)
        (with_buffers (port_of c (behind x)) (emptied (port_of c (behind x)).buffers ws))) queue
        ∙ set_comm c.ports x (behind x) (has_sent (port_of c x) y)
        (with_buffers (port_of c (behind x)) (emptied (port_of c (behind x)).buffers (k ∷ ks))) (λ d. n (sym d))

    frame_kept : (k : Frame) (t : Bool) → MayPut (port_of c x) (symbol.Frame k) → is_end c.links x ≡ t
        → cond t (head? (port_of c x).outbox.frames) (head? (port_of c (behind x)).buffers.waiting) ≡ Some k
        → Invariant M
        (cond t (with_port (put_at (symbol.Frame k)) x (unsent (port_of (put_at (symbol.Frame k)) x)))
        (with_port (put_at (symbol.Frame k)) (behind x) (sent_on (port_of (put_at (symbol.Frame k)) (behind x)))))
        (l ++ (event.Item Put x (symbol.Frame k) ∷ cond t [] (event.Frame Freed (behind x) k ∷ [])))
    frame_kept k true may e src =
        subst
        (λ (ps : List Port). Invariant M (with_ports (put_at (symbol.Frame k)) ps)
        (l ++ (event.Item Put x (symbol.Frame k) ∷ []))) (sym (end_ports (symbol.Frame k)))
        (put_kept c l x (facing x) (unsent (port_of c x)) (symbol.Frame k) h lt refl space may x_sends x_takes
        (end_act x (Inner c x) (port_of c x) (account x l) k (tail (port_of c x).outbox.frames) (outer c x e)
        (first_is (port_of c x).outbox.frames k src)))
    frame_kept k false may e src =
        let n : (x ≢ 0) × (x ≢ 2 * c.links - 1) = grind (arith, nat_tests) in
        let queue = first_is (port_of c (behind x)).buffers.waiting k src in
        subst
        (λ (ps : List Port). Invariant M (with_ports (put_at (symbol.Frame k)) ps)
        (l ++ (event.Item Put x (symbol.Frame k) ∷ event.Frame Freed (behind x) k ∷ []))) (sym
        (inner_ports (symbol.Frame k) k (tail (port_of c (behind x)).buffers.waiting) (behind_other x n.0) queue))
        (inner_put_kept c l x (facing x) (behind x) k (tail (port_of c (behind x)).buffers.waiting) h lt refl n.0
        n.1 refl space may queue)

  -- a port that sends nothing
  idle_kept : (c : Chain B) (l : Log) (x : ℕ) → Invariant M c l → Invariant M (with_port c x (port_of c x)) (l ++ [])
  idle_kept c l x h =
      subst (λ (ps : List Port). Invariant M (with_ports c ps) (l ++ [])) (sym (set-get_or c.ports x new_port))
      (subst (Invariant M c) (sym (append-nil l)) h)

  -- port x sends what it chose
  abbrev sends_chosen : Chain B → ℕ → Option Symbol → Turn (Chain B)
  sends_chosen c x o = sends_symbol M (with_port c x (after_send (port_of c x) o)) x o

  -- port x sends at most one symbol
  pub sends_kept : (c : Chain B) (l : Log) (x : ℕ) → x < 2 * c.links → Invariant M c l → Kept M l (sends M c x)
  sends_kept c l x lt h =
      go (M.known c.bank x).space (port_of c x).frames_out.due (port_of c x).rrdys_out.due
      (ltb 0 (port_of c x).buffers.owed) (ltb (port_of c x).credit.used (port_of c x).credit.limit)
      (source M c x) refl refl refl refl refl refl
    where
      go : (t d₁ d₂ o u : Bool) (src : Option Frame) → (M.known c.bank x).space ≡ t
          → (port_of c x).frames_out.due ≡ d₁ → (port_of c x).rrdys_out.due ≡ d₂
          → ltb 0 (port_of c x).buffers.owed ≡ o
          → ltb (port_of c x).credit.used (port_of c x).credit.limit ≡ u → source M c x ≡ src
          → Kept M l
          (sends_chosen c x
          (cond t
          (cond d₁ (Some (symbol.Mark BbScS))
          (cond d₂ (Some (symbol.Mark BbScR)) (cond o (Some symbol.RRdy) (cond u (frame_of src) None)))) None))
      go false d₁ d₂ o u src e₀ e₁ e₂ e₃ e₄ e₅ = idle_kept c l x h
      go true true d₂ o u src e₀ e₁ e₂ e₃ e₄ e₅ =
          quiet_kept c l x h lt e₀ (symbol.Mark BbScS) e₁ refl
      go true false true o u src e₀ e₁ e₂ e₃ e₄ e₅ =
          quiet_kept c l x h lt e₀ (symbol.Mark BbScR) e₂ refl
      go true false false true u src e₀ e₁ e₂ e₃ e₄ e₅ =
          quiet_kept c l x h lt e₀ symbol.RRdy (ltb-true 0 (port_of c x).buffers.owed e₃, e₂) refl
      go true false false false true None e₀ e₁ e₂ e₃ e₄ e₅ = idle_kept c l x h
      go true false false false true (Some k) e₀ e₁ e₂ e₃ e₄ e₅ =
          frame_kept c l x h lt e₀ k (is_end c.links x)
          (ltb-true (port_of c x).credit.used (port_of c x).credit.limit e₄, e₁) refl e₅
      go true false false false false src e₀ e₁ e₂ e₃ e₄ e₅ = idle_kept c l x h
