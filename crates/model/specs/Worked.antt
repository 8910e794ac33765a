-- Runs that were worked out by hand, over the banks of one link and of three.
use Rattle.std.specs.Prelude.{◌≡◌, ℕ, zero, suc, cond, List, [], ◌∷◌, ◌==◌}
use Rattle.symbol.specs.declared.SymbolKind.TheVariants.{Frame}
use Rattle.eventlog.specs.Format.{encode_all}
use Rattle.eventlog.specs.Worked.{fourth_tick}
use Rattle.eventlog.specs.declared.event.Event.TheVariants as event
use Rattle.bank.specs.Bank.{BankCalls}
use Rattle.loss.specs.declared.script.LossEntry.{LossEntry}
use Rattle.links.specs.Links.{WireStates, RingStates, one_link, three_links, lossy_wires, lossy_three_links}
use Rattle.port.specs.Port.{Port, Turn, no_act, and_then, lost_of}
use Rattle.symbol.specs.declared.end.End.{End}
use Rattle.symbol.specs.declared.end.End.TheVariants.{West, East}
use Rattle.model.specs.Chain.{Chain, cabled, logins, injects, steps, port_of, port_at_end, opposite}
use Rattle.model.specs.Run.{Log, Run, is_running}
use Rattle.model.specs.Figures.{Frames, missing}
use Rattle.model.specs.Stretches.{Stretch, losses, left_missing, stretches}
use Rattle.model.specs.RecordsTell.{way_lost}

-- what a mark finds lost, by N and the frames got
abbrev pub LossTable : Type 0
LossTable =
    (lost_of 1 0 ≡ 0)
    × (lost_of 1 1 ≡ 1)
    × (lost_of 4 13 ≡ 3)
    × (lost_of 4 15 ≡ 1)
    × (lost_of 15 32767 ≡ 1)

-- the bytes that each call finds left on its sheet
abbrev pub room : ℕ
room = 1000

module _ {B : Type 0} (M : BankCalls B) where
  -- so many frames injected at the west end
  abbrev pub injecting : ℕ → Turn (Chain B) → Turn (Chain B)
  injecting zero t = t
  injecting (suc n) t = and_then (injecting n t) (λ c. injects M c West room)

  -- so many steps
  abbrev pub stepping : ℕ → Turn (Chain B) → Turn (Chain B)
  stepping zero t = t
  stepping (suc n) t = and_then (stepping n t) (λ c. steps M c room)

-- what the page shows of the frames injected at an end: how many there were, were collected and were reported lost
abbrev pub way_line : {B : Type 0} → Chain B → End → List ℕ
way_line c e =
    (port_at_end c e).outbox.injected ∷ (port_at_end c (opposite e)).buffers.handed ∷ way_lost c e ∷ []

-- and of a port: limit, in use, held, owed, frames lost and made good, R_RDYs lost and made good
abbrev pub line : Port → List ℕ
line p =
    p.credit.limit ∷ p.credit.used ∷ p.buffers.held ∷ p.buffers.owed
    ∷ p.frames_in.lost ∷ p.frames_in.good ∷ p.rrdys_in.lost ∷ p.rrdys_in.good ∷ []

-- the records up to the next tick
abbrev pub until_tick : Log → Log
until_tick [] = []
until_tick (event.Tick t ∷ es) = []
until_tick (event.Item kind p s ∷ es) = event.Item kind p s ∷ until_tick es
until_tick (event.Frame kind p f ∷ es) = event.Frame kind p f ∷ until_tick es
until_tick (event.MadeGood p m n ∷ es) = event.MadeGood p m n ∷ until_tick es

-- the records of tick t
abbrev pub of_tick : ℕ → Log → Log
of_tick t [] = []
of_tick t (event.Tick u ∷ es) = cond (t == u) (event.Tick u ∷ until_tick es) (of_tick t es)
of_tick t (event.Item kind p s ∷ es) = of_tick t es
of_tick t (event.Frame kind p f ∷ es) = of_tick t es
of_tick t (event.MadeGood p m n ∷ es) = of_tick t es

-- `count` frames lost from the first on
abbrev pub losing : ℕ → ℕ → List LossEntry
losing first count = record { kind = Frame; first = first; count = count } ∷ []

-- One link of two buffers at each end and N 1, on which the first frame east is lost; three frames and six steps.
abbrev pub one_lost : WireStates
one_lost = lossy_wires (losing 1 1) []

abbrev pub six_steps : Turn (Chain WireStates)
six_steps =
    stepping one_link 6 (injecting one_link 3 (no_act (logins one_link (cabled one_link one_lost) 0 2 2 1 1).state))

pub record SixSteps : Type 0 where
  pub run : Run one_link one_lost is_running six_steps.state six_steps.events
  pub port_0 : line (port_of six_steps.state 0) ≡ 2 ∷ 2 ∷ 0 ∷ 0 ∷ 0 ∷ 0 ∷ 0 ∷ 0 ∷ []
  pub port_1 : line (port_of six_steps.state 1) ≡ 2 ∷ 0 ∷ 2 ∷ 0 ∷ 1 ∷ 1 ∷ 0 ∷ 0 ∷ []
  pub east : way_line six_steps.state West ≡ 3 ∷ 0 ∷ 1 ∷ []
  pub west : way_line six_steps.state East ≡ 0 ∷ 0 ∷ 0 ∷ []
  pub tick_4 : encode_all (of_tick 4 six_steps.events) ≡ fourth_tick

-- Three links of 32 buffers and N 4, on the middle one of which some frames east are lost.
abbrev pub ThreeStates : Type 0
ThreeStates = WireStates × (RingStates × WireStates)

abbrev pub some_lost : ℕ → ℕ → ThreeStates
some_lost first count = lossy_three_links (λ d. cond (d == 2) (losing first count) [])

abbrev pub same_login : Chain ThreeStates → ℕ → Chain ThreeStates
same_login c k = (logins three_links c k 32 32 4 4).state

abbrev pub over_three : ℕ → ℕ → ℕ → ℕ → Turn (Chain ThreeStates)
over_three first count frames ticks =
    stepping three_links ticks (injecting three_links frames
    (no_act (same_login (same_login (same_login (cabled three_links (some_lost first count)) 0) 1) 2)))

-- of each stretch, its reported losses, what its mark made good, and what is left missing
abbrev pub sums : List Stretch → List (List ℕ)
sums [] = []
sums (s ∷ ss) = (losses s ∷ s.good ∷ left_missing s ∷ []) ∷ sums ss

-- three of sixteen frames lost: the mark makes three good, and all credit of port 2 comes back
abbrev pub three_of_sixteen : Turn (Chain ThreeStates)
three_of_sixteen = over_three 5 3 16 45

pub record ThreeMadeGood : Type 0 where
  pub run : Run three_links (some_lost 5 3) is_running three_of_sixteen.state three_of_sixteen.events
  pub stretch : sums (stretches Frames 2 three_of_sixteen.events).ended ≡ (3 ∷ 3 ∷ 0 ∷ []) ∷ []
  pub port_2 : line (port_of three_of_sixteen.state 2) ≡ 32 ∷ 0 ∷ 0 ∷ 0 ∷ 0 ∷ 0 ∷ 0 ∷ 0 ∷ []
  pub port_3 : line (port_of three_of_sixteen.state 3) ≡ 32 ∷ 0 ∷ 0 ∷ 0 ∷ 3 ∷ 3 ∷ 0 ∷ 0 ∷ []

-- sixteen frames lost between two marks: the second makes none good, and sixteen credits of port 2 stay missing
abbrev pub sixteen_between : Turn (Chain ThreeStates)
sixteen_between = over_three 17 16 32 60

pub record SixteenMissing : Type 0 where
  pub run : Run three_links (some_lost 17 16) is_running sixteen_between.state sixteen_between.events
  pub stretch : sums (stretches Frames 2 sixteen_between.events).ended ≡ (16 ∷ 0 ∷ 16 ∷ []) ∷ (0 ∷ 0 ∷ 0 ∷ []) ∷ []
  pub missing_16 : missing Frames 3 sixteen_between.events ≡ 16
  pub port_2 : line (port_of sixteen_between.state 2) ≡ 32 ∷ 16 ∷ 0 ∷ 0 ∷ 0 ∷ 0 ∷ 0 ∷ 0 ∷ []
  pub port_3 : line (port_of sixteen_between.state 3) ≡ 32 ∷ 0 ∷ 0 ∷ 0 ∷ 16 ∷ 0 ∷ 0 ∷ 0 ∷ []
