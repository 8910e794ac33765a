-- A chain of links over a bank, and what each call does to it.
use Rattle.std.specs.Prelude.{ℕ, ◌+◌, ◌-◌, ◌*◌, ◌/◌, ◌%◌, Bool, true, cond, ◌&&◌, ◌||◌, List, [], ◌∷◌, length}
use Rattle.std.specs.Prelude.{replicate, Some, None, Ok, Err, Option, Result, ◌==◌, nat_le, nat_lt, slice_index_or}
use Rattle.std.specs.Prelude.{slice_set}
use Rattle.ring.specs.Queue.{head?}
use Rattle.symbol.specs.declared.Frame.{Frame}
use Rattle.symbol.specs.declared.Item.{Item}
use Rattle.symbol.specs.declared.Note.TheVariants.{Sound}
use Rattle.symbol.specs.declared.Symbol.{Symbol}
use Rattle.symbol.specs.declared.Symbol.TheVariants as symbol
use Rattle.eventlog.specs.declared.event.Event.{Event}
use Rattle.eventlog.specs.declared.event.Event.TheVariants as event
use Rattle.eventlog.specs.declared.event.FrameKind.TheVariants.{Freed, Injected, Collected}
use Rattle.eventlog.specs.declared.event.ItemKind.TheVariants.{Put}
use Rattle.channel.specs.Calls.{handed, idle}
use Rattle.bank.specs.Bank.{BankCalls, count}
use Rattle.port.specs.Port.{Port, Turn, no_act, and_then, new_port, logged_in, received, correction, receive_events}
use Rattle.port.specs.Port.{choice, after_send, sent_on, unsent, next_frame, injected_at, handed_out, among, released}
use Rattle.symbol.specs.declared.end.End.{End}
use Rattle.symbol.specs.declared.end.End.TheVariants.{West, East}
use Rattle.model.specs.declared.Refusal.{Refusal}
use Rattle.model.specs.declared.Refusal.TheVariants as refusal

pub record Chain (B : Type 0) : Type 0 where
  pub bank : B
  pub links : ℕ
  pub tick : ℕ
  pub ports : List Port

-- the last tick
abbrev pub last_tick : ℕ
last_tick = 16777215

-- the bytes that a step asks for, and those that any other call does
abbrev pub step_bytes : ℕ → ℕ
step_bytes links = 6 + 50 * links

abbrev pub call_bytes : ℕ
call_bytes = 7

-- the frames that an outbox holds
abbrev pub outbox_places : ℕ
outbox_places = 32

-- the other port of the link, which is also the direction that a port takes from
abbrev pub facing : ℕ → ℕ
facing p = cond (p % 2 == 0) (p + 1) (p - 1)

-- the port whose frames port p sends on, where p is no end of the chain
abbrev pub behind : ℕ → ℕ
behind p = cond (p % 2 == 0) (p - 1) (p + 1)

-- whether port p is an end of a chain of so many links
abbrev pub is_end : ℕ → ℕ → Bool
is_end links p = p == 0 || p == 2 * links - 1

-- the buffer that a frame leaves as port p sends it on
abbrev pub freed_events : ℕ → ℕ → Symbol → List Event
freed_events links p (symbol.Frame f) = cond (is_end links p) [] (event.Frame Freed (behind p) f ∷ [])
freed_events links p symbol.RRdy = []
freed_events links p (symbol.Mark m) = []

-- a symbol as a port puts it
abbrev pub sound : Symbol → Item
sound s = record { symbol = s; note = Sound }

-- the symbols of items
abbrev pub symbols : List Item → List Symbol
symbols [] = []
symbols (i ∷ is) = i.symbol ∷ symbols is

-- a call that is refused leaves the chain and writes nothing
abbrev pub unless_refused : {S : Type 0} → Option Refusal → S → Turn S → Turn S
unless_refused None c t = t
unless_refused (Some e) c t = no_act c

abbrev pub answer : {S : Type 0} → Option Refusal → S → Result S Refusal
answer None n = Ok n
answer (Some e) n = Err e

abbrev pub opposite : End → End
opposite West = East
opposite East = West

-- a port of a table
abbrev pub port_at : List Port → ℕ → Port
port_at ps p = slice_index_or ps p new_port

module _ {B : Type 0} where
  abbrev pub port_of : Chain B → ℕ → Port
  port_of c p = port_at c.ports p

  abbrev pub last_port : Chain B → ℕ
  last_port c = 2 * c.links - 1

  abbrev pub end_port : Chain B → End → ℕ
  end_port c West = 0
  end_port c East = last_port c

  -- the port at an end
  abbrev pub port_at_end : Chain B → End → Port
  port_at_end c e = port_of c (end_port c e)

  abbrev pub with_ports : Chain B → List Port → Chain B
  with_ports c ps = record { bank = c.bank; links = c.links; tick = c.tick; ports = ps }

  abbrev pub with_port : Chain B → ℕ → Port → Chain B
  with_port c p x = with_ports c (slice_set c.ports p x)

  abbrev pub with_bank : Chain B → B → Chain B
  with_bank c b = record { bank = b; links = c.links; tick = c.tick; ports = c.ports }

  -- each of the ports from 0 to below k in rising order
  abbrev pub each_port : (Chain B → ℕ → Turn (Chain B)) → ℕ → Chain B → Turn (Chain B)
  each_port f ℕ.zero c = no_act c
  each_port f (ℕ.suc k) c = and_then (each_port f k c) (λ d. f d k)

module _ {B : Type 0} (M : BankCalls B) where
  -- the symbols on direction d, sound or noted lost
  abbrev pub on : Chain B → ℕ → List Symbol
  on c d = symbols (M.known c.bank d).items

  -- none of the channels below n holds an item
  abbrev pub all_idle : B → ℕ → Bool
  all_idle b ℕ.zero = true
  all_idle b (ℕ.suc d) = all_idle b d && idle (M.known b d)

  -- a link for each two channels, where they are an even number up to 16 and all idle; else no links
  abbrev pub cabled_links : B → ℕ
  cabled_links b =
      cond (count M b % 2 == 0)
      (cond (nat_le (count M b) 16)
      (cond (all_idle b (count M b)) (count M b / 2) 0) 0) 0

  abbrev pub cabled : B → Chain B
  cabled b = record { bank = b; links = cabled_links b; tick = 0; ports = replicate 16 new_port }

  -- port p takes what its direction handed out
  abbrev pub takes_item : Chain B → ℕ → Option Item → Turn (Chain B)
  takes_item c p None = no_act c
  takes_item c p (Some i) = record {
    state = with_port c p (received (port_of c p) i.note i.symbol);
    events = receive_events p i.note i.symbol (correction (port_of c p) i.note i.symbol);
  }

  -- port p asks the direction that it takes from once
  abbrev pub takes : Chain B → ℕ → Turn (Chain B)
  takes c p =
      takes_item (with_bank c (M.take c.bank (facing p))) p (handed (M.known c.bank (facing p)))

  -- the oldest frame that waits for port p
  abbrev pub source : Chain B → ℕ → Option Frame
  source c p =
      cond (is_end c.links p) (head? (port_of c p).outbox.frames) (head? (port_of c (behind p)).buffers.waiting)

  -- the chain after port p has put a symbol: a frame has left the outbox or the buffer in which it waited
  abbrev pub drawn : Chain B → ℕ → Symbol → Chain B
  drawn c p (symbol.Frame f) =
      cond (is_end c.links p)
      (with_port c p (unsent (port_of c p)))
      (with_port c (behind p) (sent_on (port_of c (behind p))))
  drawn c p symbol.RRdy = c
  drawn c p (symbol.Mark m) = c

  abbrev pub sends_symbol : Chain B → ℕ → Option Symbol → Turn (Chain B)
  sends_symbol c p None = no_act c
  sends_symbol c p (Some s) = record {
    state = drawn (with_bank c (M.put c.bank p (sound s))) p s;
    events = event.Item Put p s ∷ freed_events c.links p s;
  }

  -- what port p sends, if anything
  abbrev pub sent : Chain B → ℕ → Option Symbol
  sent c p = cond (M.known c.bank p).space (choice (port_of c p) (source c p)) None

  abbrev pub sends : Chain B → ℕ → Turn (Chain B)
  sends c p = sends_symbol (with_port c p (after_send (port_of c p) (sent c p))) p (sent c p)

  -- the tick rises by one, and the bank steps
  abbrev pub ticked : Chain B → Turn (Chain B)
  ticked c = record {
    state = record { bank = M.step c.bank; links = c.links; tick = c.tick + 1; ports = c.ports };
    events = event.Tick (c.tick + 1) ∷ [];
  }

  -- the tick, then each port takes, then each sends
  abbrev pub stepped : Chain B → Turn (Chain B)
  stepped c =
      and_then (and_then (ticked c) (each_port takes (2 * c.links))) (each_port sends (2 * c.links))

  abbrev pub step_refusal : Chain B → ℕ → Option Refusal
  step_refusal c room =
      cond (c.links == 0) (Some refusal.NoLinks)
      (cond (c.tick == last_tick) (Some refusal.LastTick)
      (cond (nat_lt room (step_bytes c.links)) (Some refusal.SheetFull) None))

  -- a step asked for, with so many bytes left
  abbrev pub steps : Chain B → ℕ → Turn (Chain B)
  steps c room = unless_refused (step_refusal c room) c (stepped c)

  -- login of link k with a and b buffers, and m and n for N, each west and east
  abbrev pub login_refusal : Chain B → ℕ → ℕ → ℕ → ℕ → ℕ → Option Refusal
  login_refusal c k a b m n =
      cond (nat_le c.links k) (Some refusal.NoLinks)
      (cond (nat_lt a 1 || (nat_lt 32 a || (nat_lt b 1 || nat_lt 32 b))) (Some refusal.BadBuffers)
      (cond (nat_lt 15 m || nat_lt 15 n) (Some refusal.BadN)
      (cond (m == n) None (Some refusal.OtherN))))

  abbrev pub logs_in : Chain B → ℕ → ℕ → ℕ → ℕ → Chain B
  logs_in c k a b n = with_port (with_port c (2 * k) (logged_in a b n)) (2 * k + 1) (logged_in b a n)

  abbrev pub logins : Chain B → ℕ → ℕ → ℕ → ℕ → ℕ → Turn (Chain B)
  logins c k a b m n = unless_refused (login_refusal c k a b m n) c (no_act (logs_in c k a b n))

  -- inject: the next frame joins the outbox of an end
  abbrev pub inject_refusal : Chain B → End → ℕ → Option Refusal
  inject_refusal c e room =
      cond (c.links == 0) (Some refusal.NoLinks)
      (cond (nat_le outbox_places (length (port_at_end c e).outbox.frames)) (Some refusal.OutboxFull)
      (cond (nat_lt room call_bytes) (Some refusal.SheetFull) None))

  abbrev pub injected : Chain B → End → Turn (Chain B)
  injected c e = record {
    state = with_port c (end_port c e) (injected_at (port_at_end c e));
    events = event.Frame Injected (end_port c e) (next_frame (port_at_end c e)) ∷ [];
  }

  abbrev pub injects : Chain B → End → ℕ → Turn (Chain B)
  injects c e room = unless_refused (inject_refusal c e room) c (injected c e)

  -- collect: the oldest frame that waits at an end is handed out
  abbrev pub from_oldest : Option Frame → ℕ → Result Frame Refusal
  from_oldest None room = Err refusal.NoFrame
  from_oldest (Some f) room = cond (nat_lt room call_bytes) (Err refusal.SheetFull) (Ok f)

  abbrev pub collectable : Chain B → End → ℕ → Result Frame Refusal
  collectable c e room =
      cond (c.links == 0) (Err refusal.NoLinks) (from_oldest (head? (port_at_end c e).buffers.waiting) room)

  abbrev pub collects_by : Chain B → End → Result Frame Refusal → Turn (Chain B)
  collects_by c e (Ok f) = record {
    state = with_port c (end_port c e) (handed_out (port_at_end c e));
    events = event.Frame Collected (end_port c e) f ∷ [];
  }
  collects_by c e (Err r) = no_act c

  abbrev pub collects : Chain B → End → ℕ → Turn (Chain B)
  collects c e room = collects_by c e (collectable c e room)

  -- release: the buffer of frame k, which was handed out, is free again
  abbrev pub release_refusal : Chain B → End → ℕ → ℕ → Option Refusal
  release_refusal c e k room =
      cond (among k (port_at_end c e).buffers.out)
      (cond (nat_lt room call_bytes) (Some refusal.SheetFull) None)
      (Some refusal.NotHandedOut)

  abbrev pub released_at : Chain B → End → ℕ → Turn (Chain B)
  released_at c e k = record {
    state = with_port c (end_port c e) (released (port_at_end c e) k);
    events = event.Frame Freed (end_port c e) (record { number = k }) ∷ [];
  }

  abbrev pub releases : Chain B → End → ℕ → ℕ → Turn (Chain B)
  releases c e k room = unless_refused (release_refusal c e k room) c (released_at c e k)
