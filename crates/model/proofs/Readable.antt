-- Every record of a run is well-formed, so its log reads back as its events.
use Rattle.std.proofs.Common.{◌≡◌, ℕ, zero, suc, ◌+◌, ◌-◌, ◌*◌, ◌^◌, ◌<◌, ◌≤◌, Bool, true, false, cond, ◌&&◌}
use Rattle.std.proofs.Common.{eqb, ◌≢◌, ⊎_elim, List, [], ◌∷◌, ◌++◌, Some, None, Option, sym, refl, subst}
use Rattle.std.proofs.Common.{mod-lt, arith, pow_pos, pow_mono}
use Rattle.std.proofs.ByRecursion.{All-append}
use Rattle.std.proofs.lemmas.Bool.Decides.{nat_tests}
use Rattle.std.proofs.lemmas.Bool.{cond_both, lt-ltb, cases_eq, false≢true}
use Rattle.std.specs.List.{AllByRecursion}
use Rattle.ring.specs.Queue.{head?}
use Rattle.symbol.specs.declared.Frame.{Frame}
use Rattle.symbol.specs.declared.Item.{Item}
use Rattle.symbol.specs.declared.Mark.{Mark}
use Rattle.symbol.specs.declared.Mark.TheVariants.{BbScS, BbScR}
use Rattle.symbol.specs.declared.Note.{Note}
use Rattle.symbol.specs.declared.Note.TheVariants.{Sound, Lost}
use Rattle.symbol.specs.declared.Symbol.{Symbol}
use Rattle.symbol.specs.declared.Symbol.TheVariants as symbol
use Rattle.eventlog.specs.declared.event.Event.TheVariants as event
use Rattle.eventlog.specs.declared.event.FrameKind.{FrameKind}
use Rattle.eventlog.specs.declared.event.FrameKind.TheVariants.{Freed}
use Rattle.eventlog.specs.declared.event.ItemKind.{ItemKind}
use Rattle.eventlog.specs.declared.event.ItemKind.TheVariants.{Put}
use Rattle.reader.specs.Reading.{WellFormed}
use Rattle.bank.specs.Bank.{BankCalls, LawfulBank}
use Rattle.port.specs.Port.{Port, Turn, and_then, logged_in, lost_of, frames_found, rrdys_found, correction, is_full}
use Rattle.port.specs.Port.{frame_held, credit_back, received, receive_events, choice, after_send}
use Rattle.port.specs.Port.{sent_on, unsent, handed_out, among, without, released}
use Rattle.port.specs.Port.{next_frame, injected_at}
use Rattle.model.specs.Chain.{Chain, facing, behind, freed_events, sound, symbols, port_of, with_port}
use Rattle.model.specs.Chain.{with_bank, on, each_port, takes_item, takes, source, drawn, sends_symbol, sends, ticked}
use Rattle.model.specs.Chain.{stepped, last_tick}
use Rattle.model.specs.Run.{Log}
use Rattle.model.proofs.Banks.{bank_put, bank_put_off, bank_take, bank_take_off, bank_take_none, bank_ready}
use Rattle.model.proofs.Banks.{bank_step}
use Rattle.model.proofs.Links.{Still, takes_still, sends_still, each_still}
use Rattle.model.proofs.Places.{behind_below, facing_below}
use Rattle.model.proofs.Bounds.{at_port}

-- a frame's number as a record has it: from 1 on, and in four bytes
abbrev pub FineNumber : ℕ → Type 0
FineNumber k = (0 < k) × (k < 4294967296)

abbrev pub FineFrames : List Frame → Type 0
FineFrames fs = AllByRecursion (λ f. FineNumber f.number) fs

abbrev FineSymbol : Symbol → Type 0
FineSymbol (symbol.Frame f) = FineNumber f.number
FineSymbol symbol.RRdy = Unit {0}
FineSymbol (symbol.Mark m) = Unit {0}

abbrev pub FineSymbols : List Symbol → Type 0
FineSymbols ss = AllByRecursion FineSymbol ss

-- the frames of a port are fine, and what its marks make good fits
pub record FineParts (n : ℕ) (outbox waiting : List Frame) (out : List ℕ) : Type 0 where
  pub small : n ≤ 15
  pub boxed : FineFrames outbox
  pub wait : FineFrames waiting
  pub outside : AllByRecursion FineNumber out

abbrev pub FinePort : Port → Type 0
FinePort s = FineParts s.n s.outbox.frames s.buffers.waiting s.buffers.out

pub fresh_fine : (a b n : ℕ) → n ≤ 15 → FinePort (logged_in a b n)
fresh_fine a b n h = record { small = h; boxed = tt; wait = tt; outside = tt }

-- records that are well-formed
well_item : (kind : ItemKind) (p : ℕ) (y : Symbol) → p < 16 → FineSymbol y → WellFormed (event.Item kind p y)
well_item kind p y h z = grind (arith, nat_tests)

pub well_frame : (kind : FrameKind) (p : ℕ) (f : Frame) → p < 16 → FineNumber f.number
    → WellFormed (event.Frame kind p f)
well_frame kind p f h z = ((λ i. lt-ltb p 16 h i && lt-ltb 0 f.number z.0 i), z.1)

well_good : (p : ℕ) (m : Mark) (x : ℕ) → p < 16 → 0 < x → x < 65536 → WellFormed (event.MadeGood p m x)
well_good p m x h some few = ((λ i. lt-ltb p 16 h i && lt-ltb 0 x some i), few)

received_well : (p x : ℕ) (v : Note) (y : Symbol) → p < 16 → x < 65536 → FineSymbol y
    → AllByRecursion WellFormed (receive_events p v y x)
received_well p x v y h few z = grind (arith, nat_tests, well_item, well_good)

-- what a mark makes good fits in two bytes
found_small : (n got x : ℕ) → n ≤ 15 → x ≤ lost_of n got → x < 65536
found_small n got x h z =
    let below : lost_of n got < 2 ^ n = mod-lt (2 ^ n - got) (pow_pos n) in
    let top : 2 ^ n ≤ 32768 = pow_mono h in
    omega (arith, below, top, z)

correction_small : (s : Port) (v : Note) (y : Symbol) → s.n ≤ 15 → correction s v y < 65536
correction_small s v y h =
    grind (
      arith,
      nat_tests,
      found_small s.n s.frames_in.got (frames_found s),
      found_small s.n s.rrdys_in.got (rrdys_found s),
    )

-- a port stays fine
module _ (s : Port) (h : FinePort s) where
  received_fine : (v : Note) (y : Symbol) → FineSymbol y → FinePort (received s v y)
  received_fine Lost (symbol.Frame f) z = h
  received_fine Lost symbol.RRdy z = h
  received_fine Lost (symbol.Mark m) z = h
  received_fine Sound (symbol.Frame f) z =
      cond_both (is_full s.buffers) s (frame_held s f) FinePort (λ e. h) (λ e. record {
        small = h.small;
        boxed = h.boxed;
        wait = All-append (λ g. FineNumber g.number) s.buffers.waiting (f ∷ []) h.wait (z, tt);
        outside = h.outside;
      })
  received_fine Sound symbol.RRdy z = cond_both (eqb s.credit.used 0) s (credit_back s) FinePort (λ e. h) (λ e. h)
  received_fine Sound (symbol.Mark BbScS) z = h
  received_fine Sound (symbol.Mark BbScR) z = h

  sent_fine : (o : Option Symbol) → FinePort (after_send s o)
  sent_fine o = grind (arith, h)

  unsent_fine : FinePort (unsent s)
  unsent_fine = grind (arith, h)

  sent_on_fine : FinePort (sent_on s)
  sent_on_fine = grind (arith, h)

  pub handed_out_fine : FinePort (handed_out s)
  handed_out_fine = grind (arith, h, All-append FineNumber s.buffers.out)

  without_fine : (k : ℕ) (ks : List ℕ) → AllByRecursion FineNumber ks → AllByRecursion FineNumber (without k ks)
  without_fine k [] z = tt
  without_fine k (x ∷ xs) z = grind (arith, nat_tests, without_fine k xs)

  pub released_fine : (k : ℕ) → FinePort (released s k)
  released_fine k = grind (arith, nat_tests, h, without_fine k s.buffers.out)

  pub next_fine : FineNumber (next_frame s).number
  next_fine = (omega arith, omega arith)

  pub injected_fine : FinePort (injected_at s)
  injected_fine = grind (arith, h, next_fine, All-append (λ (g : Frame). FineNumber g.number) s.outbox.frames)

-- what a port chooses to send is fine
abbrev pub FineOldest : Option Frame → Type 0
FineOldest None = Unit {0}
FineOldest (Some f) = FineNumber f.number

abbrev FineChoice : Option Symbol → Type 0
FineChoice None = Unit {0}
FineChoice (Some y) = FineSymbol y

pub oldest_fine : (fs : List Frame) → FineFrames fs → FineOldest (head? fs)
oldest_fine fs z = grind arith

choice_fine : (s : Port) (o : Option Frame) → FineOldest o → FineChoice (choice s o)
choice_fine s o z = grind (arith, nat_tests)

-- a number that is among fine ones is fine
pub number_found : (k : ℕ) (xs : List ℕ) → among k xs ≡ true → AllByRecursion FineNumber xs → FineNumber k
number_found k [] e z = absurd (false≢true e)
number_found k (x ∷ xs) e z = grind (arith, nat_tests, number_found k xs)

module _ {B : Type 0} (M : BankCalls B) where
  pub record Fine (c : Chain B) : Type 0 where
    pub links : c.links ≤ 8
    pub ports : (p : ℕ) → FinePort (port_of c p)
    pub channels : (d : ℕ) → d < 2 * c.links → FineSymbols (on M c d)

  -- a chain and its new records
  pub record FineTurn (t : Turn (Chain B)) : Type 0 where
    pub state : Fine t.state
    pub events : AllByRecursion WellFormed t.events

  -- a chain and the log of its run
  pub record FineRun (c : Chain B) (l : Log) : Type 0 where
    pub state : Fine c
    pub log : AllByRecursion WellFormed l

  pub fine_more : (c : Chain B) (l : Log) (t : Turn (Chain B)) → FineRun c l → FineTurn t
      → FineRun t.state (l ++ t.events)
  fine_more c l t h k = record { state = k.state; log = All-append WellFormed l t.events h.log k.events }

  pub fine_port : (c : Chain B) (p : ℕ) (s : Port) → Fine c → FinePort s → Fine (with_port c p s)
  fine_port c p s h z = record {
    links = h.links;
    ports = λ q. at_port FinePort c.ports p q s (λ e. z) (h.ports q);
    channels = h.channels;
  }

  -- a bank changed at one direction
  fine_bank : (c : Chain B) (b : B) (p : ℕ) → Fine c → FineSymbols (symbols (M.known b p).items)
      → ((d : ℕ) → d ≢ p → symbols (M.known b d).items ≡ on M c d) → Fine (with_bank c b)
  fine_bank c b p h here off = record {
    links = h.links;
    ports = h.ports;
    channels =
        λ d z. ⊎_elim
        (λ (q : d ≡ p). subst (λ (v : ℕ). FineSymbols (symbols (M.known b v).items)) (sym q) here)
        (λ (n : d ≢ p). subst FineSymbols (sym (off d n)) (h.channels d z)) (cases_eq d p);
  }

  fine_then : (t : Turn (Chain B)) (f : Chain B → Turn (Chain B)) → FineTurn t → FineTurn (f t.state)
      → FineTurn (and_then t f)
  fine_then t f h k = record {
    state = k.state;
    events = All-append WellFormed t.events (f t.state).events h.events k.events;
  }

  module _ (law : (b : B) → LawfulBank M b) where
    takes_fine : (c : Chain B) (p : ℕ) → p < 2 * c.links → Fine c → FineTurn (takes M c p)
    takes_fine c p lt h = go (M.known c.bank (facing p)).ready (M.known c.bank (facing p)).items refl refl
      where
        go : (t : Bool) (xs : List Item) → (M.known c.bank (facing p)).ready ≡ t
            → (M.known c.bank (facing p)).items ≡ xs
            → FineTurn (takes_item M (with_bank c (M.take c.bank (facing p))) p (cond t (head? xs) None))
        go false xs e f = record {
          state = subst (λ (b : B). Fine (with_bank c b)) (sym (bank_take_none M law c.bank (facing p) e)) h;
          events = tt;
        }
        go true [] e f = absurd (bank_ready M law c.bank (facing p) e f)
        go true (i ∷ is) e f =
            let z =
            subst (λ (xs : List Item). FineSymbols (symbols xs)) f
            (h.channels (facing p) (facing_below c.links p (facing p) refl lt)) in
            record {
              state =
                  fine_port (with_bank c (M.take c.bank (facing p))) p
                  (received (port_of c p) i.note i.symbol)
                  (fine_bank c (M.take c.bank (facing p)) (facing p) h
                  (subst (λ (xs : List Item). FineSymbols (symbols xs))
                  (sym (bank_take M law c.bank (facing p) i is e f)) z.1)
                  (λ d n. bank_take_off M law c.bank (facing p) d n))
                  (received_fine (port_of c p) (h.ports p) i.note i.symbol z.0);
              events =
                  received_well p (correction (port_of c p) i.note i.symbol) i.note i.symbol
                  (omega (arith, lt, h.links))
                  (correction_small (port_of c p) i.note i.symbol (h.ports p).small) z.0;
            }

    source_fine : (c : Chain B) (p : ℕ) → Fine c → FineOldest (source M c p)
    source_fine c p h = grind (arith, nat_tests, oldest_fine, h.ports p, h.ports (behind p))

    drawn_fine : (c : Chain B) (p : ℕ) (y : Symbol) → Fine c → Fine (drawn M c p y)
    drawn_fine c p y h =
        grind (
          arith,
          nat_tests,
          fine_port c p (unsent (port_of c p)) h (unsent_fine (port_of c p) (h.ports p)),
          fine_port c (behind p) (sent_on (port_of c (behind p))) h
              (sent_on_fine (port_of c (behind p)) (h.ports (behind p))),
        )

    freed_well : (links p : ℕ) (y : Symbol) → links ≤ 8 → p < 2 * links → FineSymbol y
        → AllByRecursion WellFormed (freed_events links p y)
    freed_well links p y few lt z = grind (arith, nat_tests, well_frame Freed (behind p), behind_below links p lt)

    abbrev with_sent : Chain B → ℕ → Option Symbol → Chain B
    with_sent c p o = with_port c p (after_send (port_of c p) o)

    sends_fine : (c : Chain B) (p : ℕ) → p < 2 * c.links → Fine c → FineTurn (sends M c p)
    sends_fine c p lt h =
        go (M.known c.bank p).space (choice (port_of c p) (source M c p)) refl
        (choice_fine (port_of c p) (source M c p) (source_fine c p h))
      where
        sent_still : (o : Option Symbol) → Fine (with_sent c p o)
        sent_still o = fine_port c p (after_send (port_of c p) o) h (sent_fine (port_of c p) (h.ports p) o)

        go : (t : Bool) (o : Option Symbol) → (M.known c.bank p).space ≡ t → FineChoice o
            → FineTurn (sends_symbol M (with_sent c p (cond t o None)) p (cond t o None))
        go false o e z = record { state = sent_still None; events = tt }
        go true None e z = record { state = sent_still None; events = tt }
        go true (Some y) e z = record {
          state =
              drawn_fine (with_bank (with_sent c p (Some y)) (M.put c.bank p (sound y))) p y
              (fine_bank (with_sent c p (Some y)) (M.put c.bank p (sound y)) p (sent_still (Some y))
              (subst FineSymbols (sym (bank_put M law c.bank p y e))
              (All-append FineSymbol (on M c p) (y ∷ []) (h.channels p lt) (z, tt)))
              (λ d n. bank_put_off M law c.bank p d y n));
          events = (well_item Put p y (omega (arith, lt, h.links)) z, freed_well c.links p y h.links lt z);
        }

    each_fine : (f : Chain B → ℕ → Turn (Chain B)) → ((c : Chain B) (p : ℕ) → Still c (f c p).state)
        → ((c : Chain B) (p : ℕ) → p < 2 * c.links → Fine c → FineTurn (f c p))
        → (c : Chain B) (k : ℕ) → k ≤ 2 * c.links → Fine c → FineTurn (each_port f k c)
    each_fine f same fine c zero z h = record { state = h; events = tt }
    each_fine f same fine c (suc k) z h =
        let before = each_fine f same fine c k (omega (arith, z)) h in
        fine_then (each_port f k c) (λ d. f d k) before
        (fine (each_port f k c).state k (omega (arith, z, (each_still f same c k).links)) before.state)

    pub step_fine : (c : Chain B) → c.tick < last_tick → Fine c → FineTurn (stepped M c)
    step_fine c early h =
        fine_then (and_then (ticked M c) (each_port (takes M) (2 * c.links)))
        (each_port (sends M) (2 * c.links)) taken
        (each_fine (sends M) (sends_still M) sends_fine
        (each_port (takes M) (2 * c.links) (ticked M c).state).state (2 * c.links)
        (omega (arith, (each_still (takes M) (takes_still M) (ticked M c).state (2 * c.links)).links)) taken.state)
      where
        tick : FineTurn (ticked M c)
        tick = record {
          state = record {
            links = h.links;
            ports = h.ports;
            channels = λ d z. subst FineSymbols (sym (bank_step M law c.bank d)) (h.channels d z);
          };
          events = ((lt-ltb 0 (c.tick + 1) (omega arith), omega (arith, early)), tt);
        }

        taken : FineTurn (and_then (ticked M c) (each_port (takes M) (2 * c.links)))
        taken =
            fine_then (ticked M c) (each_port (takes M) (2 * c.links)) tick
            (each_fine (takes M) (takes_still M) takes_fine (ticked M c).state (2 * c.links) (omega arith)
            tick.state)
