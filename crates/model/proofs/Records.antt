-- The records of one port in a log that grows.
use Rattle.std.proofs.Common.{◌≡◌, ℕ, ◌<◌, Bool, true, false, cond, eqb, [], ◌∷◌, ◌++◌, sym, refl, ap, ◌∙◌}
use Rattle.std.proofs.Common.{subst, append_assoc, append-nil, arith}
use mathlib.Core.Path.{fun_ext}
use Rattle.std.proofs.lemmas.Bool.Decides.{nat_tests}
use Rattle.std.specs.List.{AllByRecursion}
use Rattle.symbol.specs.declared.Frame.{Frame}
use Rattle.symbol.specs.declared.Note.{Note}
use Rattle.symbol.specs.declared.Symbol.{Symbol}
use Rattle.symbol.specs.declared.Symbol.TheVariants as symbol
use Rattle.eventlog.specs.declared.event.Event.{Event}
use Rattle.eventlog.specs.declared.event.Event.TheVariants as event
use Rattle.eventlog.specs.declared.event.FrameKind.TheVariants.{Freed}
use Rattle.eventlog.specs.declared.event.ItemKind.TheVariants.{Put, Got, Lost as Missed}
use Rattle.port.specs.Port.{Port}
use Rattle.model.specs.Run.{Log}
use Rattle.model.specs.Figures.{is_at, records}
use Rattle.model.proofs.Accounts.{Account, noted, noted_all, account, no_account, buffers_in_use, credit_used}
use Rattle.model.proofs.Loop.{taken_events}

of_port-append : (p : ℕ) (l es : Log) → records p (l ++ es) ≡ records p l ++ records p es
of_port-append p [] es = refl
of_port-append p (e ∷ l) es = ap {B = Log} (λ z. cond (is_at p e) (e ∷ []) [] ++ z) (of_port-append p l es)
    ∙ sym (append_assoc (cond (is_at p e) (e ∷ []) []) (records p l) (records p es))

noted_all-append : (a : Account) (l es : Log) → noted_all a (l ++ es) ≡ noted_all (noted_all a l) es
noted_all-append a [] es = refl
noted_all-append a (e ∷ l) es = noted_all-append (noted a e) l es

pub account-append : (p : ℕ) (l es : Log) → account p (l ++ es) ≡ noted_all (account p l) (records p es)
account-append p l es = ap (noted_all no_account) (of_port-append p l es)
    ∙ noted_all-append no_account (records p l) (records p es)

-- records that are all the port's, and records of which none is
abbrev pub At : ℕ → Bool → Log → Type 0
At p t es = AllByRecursion (λ (e : Event). is_at p e ≡ t) es

of_port_own : (p : ℕ) (es : Log) → At p true es → records p es ≡ es
of_port_own p [] h = refl
of_port_own p (e ∷ es) h = grind (arith, nat_tests, of_port_own p es h.1, h.0)

of_port_off : (p : ℕ) (es : Log) → At p false es → records p es ≡ []
of_port_off p [] h = refl
of_port_off p (e ∷ es) h = grind (arith, nat_tests, of_port_off p es h.1, h.0)

pub account_own : (p : ℕ) (l es : Log) → At p true es → account p (l ++ es) ≡ noted_all (account p l) es
account_own p l es h = cc (account-append p l es, of_port_own p es h)

pub account_off : (p : ℕ) (l es : Log) → At p false es → account p (l ++ es) ≡ account p l
account_off p l es h = account-append p l es ∙ ap (noted_all (account p l)) (of_port_off p es h)

-- what a port writes of an item it takes is its own
pub receive_at : (p x : ℕ) (t : Bool) (s : Port) (v : Note) (y : Symbol) → eqb p x ≡ t → At p t (taken_events x s v y)
receive_at p x t s v y h = grind (arith, nat_tests)

pub account_skip : (p : ℕ) (l es : Log) (e : Event) → is_at p e ≡ false
    → account p (l ++ (e ∷ es)) ≡ account p (l ++ es)
account_skip p l es e h = grind (arith, nat_tests, account-append p l (e ∷ es), account-append p l es)

pub account_first : (p : ℕ) (l es : Log) (e : Event) → is_at p e ≡ true → At p false es
    → account p (l ++ (e ∷ es)) ≡ noted (account p l) e
account_first p l es e h off = grind (arith, nat_tests, account-append p l (e ∷ es), of_port_off p es off)

-- what a frame that is put and a freed buffer leave of an account
pub record SameFrames (a a' : Account) : Type 0 where
  pub got : a'.got ≡ a.got
  pub injected : a'.injected ≡ a.injected
  pub collected : a'.collected ≡ a.collected
  pub frames_cut : a'.frames.losses.cut ≡ a.frames.losses.cut
  pub rrdys_cut : a'.rrdys.losses.cut ≡ a.rrdys.losses.cut
  pub takes : a'.takes ≡ a.takes

module _ (p x z : ℕ) (f : Frame) (l : Log) where
  abbrev both : Log
  both = event.Item Put x (symbol.Frame f) ∷ event.Frame Freed z f ∷ []

  pub put_freed_frames : SameFrames (account p l) (account p (l ++ both))
  put_freed_frames = grind (arith, account-append p l both)

  pub put_freed_puts : eqb p x ≡ false → (account p (l ++ both)).puts ≡ (account p l).puts
  put_freed_puts e = grind (arith, nat_tests, account-append p l both)

-- a frame that arrives finds a free buffer, and an R_RDY a credit in use, by the records before it; `all` has the
-- buffers of each port
abbrev pub MeetsRoom : (ℕ → ℕ) → Log → ℕ → Symbol → Type 0
MeetsRoom all before p (symbol.Frame f) = buffers_in_use (account p before) < all p
MeetsRoom all before p symbol.RRdy = 0 < credit_used (account p before)
MeetsRoom all before p (symbol.Mark m) = Unit {0}

abbrev pub RecordMeetsRoom : (ℕ → ℕ) → Log → Event → Type 0
RecordMeetsRoom all before (event.Tick t) = Unit {0}
RecordMeetsRoom all before (event.Item Put p s) = Unit {0}
RecordMeetsRoom all before (event.Item Got p s) = MeetsRoom all before p s
RecordMeetsRoom all before (event.Item Missed p s) = Unit {0}
RecordMeetsRoom all before (event.Frame kind p f) = Unit {0}
RecordMeetsRoom all before (event.MadeGood p m n) = Unit {0}

-- so at each record of `l`, which follows those of `before`
abbrev pub AllMeetRoom : (ℕ → ℕ) → Log → Log → Type 0
AllMeetRoom all before [] = Unit {0}
AllMeetRoom all before (e ∷ es) = RecordMeetsRoom all before e × AllMeetRoom all (before ++ (e ∷ [])) es

-- and so at a record in the middle
pub room_at : (all : ℕ → ℕ) (before l es : Log) (e : Event) → AllMeetRoom all before (l ++ (e ∷ es))
    → RecordMeetsRoom all (before ++ l) e
room_at all before [] es e h = subst (λ (z : Log). RecordMeetsRoom all z e) (sym (append-nil before)) h.0
room_at all before (x ∷ l) es e h =
    subst (λ (z : Log). RecordMeetsRoom all z e) (append_assoc before (x ∷ []) l)
    (room_at all (before ++ (x ∷ [])) l es e h.1)

rooms_more : (all : ℕ → ℕ) (before l es : Log) → AllMeetRoom all before l → AllMeetRoom all (before ++ l) es
    → AllMeetRoom all before (l ++ es)
rooms_more all before [] es h k = subst (λ (z : Log). AllMeetRoom all z es) (append-nil before) k
rooms_more all before (e ∷ l) es h k = (
  h.0,
  rooms_more all (before ++ (e ∷ [])) l es h.1
      (subst (λ (z : Log). AllMeetRoom all z es) (sym (append_assoc before (e ∷ []) l)) k),
)

-- a log that grows by records that meet room, while no port changes its buffers
pub rooms_kept : (all all' : ℕ → ℕ) (l es : Log) → ((p : ℕ) → all' p ≡ all p) → AllMeetRoom all [] l
    → AllMeetRoom all l es → AllMeetRoom all' [] (l ++ es)
rooms_kept all all' l es same h k =
    subst (λ (f : ℕ → ℕ). AllMeetRoom f [] (l ++ es)) (sym (fun_ext same)) (rooms_more all [] l es h k)

pub receive_rooms : (all : ℕ → ℕ) (l : Log) (x : ℕ) (s : Port) (v : Note) (y : Symbol) → MeetsRoom all l x y
    → AllMeetRoom all l (taken_events x s v y)
receive_rooms all l x s v y m = grind (arith, nat_tests)
