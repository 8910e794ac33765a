-- The banks of one link and of three: wires, and delay rings of 5 in the middle, all under scripted loss.
use Rattle.std.specs.List.{range_with_len}
use Rattle.std.specs.Prelude.{ℕ, List, [], map}
use Rattle.symbol.specs.declared.Item.{Item}
use Rattle.channel.specs.Calls.{Calls}
use Rattle.channel.specs.Delay.{Delayed, delay_ring}
use Rattle.channel.specs.States.{delay_state, wire_state}
use Rattle.channel.specs.Wire.{wire}
use Rattle.channel.specs.declared.delay.DelayRing.{DelayRing}
use Rattle.channel.specs.declared.wire.Wire.{Wire}
use Rattle.loss.specs.Loss.{Lossy, lossy, started}
use Rattle.loss.specs.States.{lossy_state}
use Rattle.loss.specs.declared.ScriptedLoss.{ScriptedLoss}
use Rattle.loss.specs.declared.script.LossEntry.{LossEntry}
use Rattle.bank.specs.Bank.{BankCalls, count, letter_at}
use Rattle.bank.specs.Banks.{one, pair}
use Rattle.bank.specs.States.{both, one_state, pair_state}
use Rattle.bank.specs.declared.one.One.{One}
use Rattle.bank.specs.declared.pair.Pair.{Pair}

-- a link of two channels of one kind, with its letter: the direction east, then the one west
abbrev pub link : {C : Type 0} → ℕ → Calls C → BankCalls (C × C)
link l m = pair (one l m) (one l m)

abbrev pub link_state : {C M : Type 0} → (C → M) → Pair (One C) (One C) → M × M
link_state f = pair_state (one_state f) (one_state f)

abbrev pub three_state : {P Q R L M N : Type 0} → (P → L) → (Q → M) → (R → N) → Pair P (Pair Q R) → L × (M × N)
three_state f g h = pair_state f (pair_state g h)

abbrev pub WireStates : Type 0
WireStates = Lossy (List Item) × Lossy (List Item)

abbrev pub RingStates : Type 0
RingStates = Lossy Delayed × Lossy Delayed

abbrev pub one_link : BankCalls WireStates
one_link = link 119 (lossy wire)

abbrev pub three_links : BankCalls (WireStates × (RingStates × WireStates))
three_links = pair one_link (pair (link 100 (lossy delay_ring)) one_link)

-- the types of the code
abbrev pub WireLink : Type 0
WireLink = Pair (One (ScriptedLoss Wire)) (One (ScriptedLoss Wire))

abbrev pub RingLink : Type 0
RingLink = Pair (One (ScriptedLoss DelayRing)) (One (ScriptedLoss DelayRing))

abbrev pub ThreeLinks : Type 0
ThreeLinks = Pair WireLink (Pair RingLink WireLink)

abbrev pub one_link_state : WireLink → WireStates
one_link_state = link_state (lossy_state wire_state)

abbrev pub ring_link_state : RingLink → RingStates
ring_link_state = link_state (lossy_state delay_state)

-- idle wires under the scripts of east and west
abbrev pub lossy_wires : List LossEntry → List LossEntry → WireStates
lossy_wires east west = (started [] east, started [] west)

-- idle delay rings of 5 under the scripts of east and west
abbrev pub lossy_rings : List LossEntry → List LossEntry → RingStates
lossy_rings east west =
    (started (record { waiting = []; delay = 5 }) east, started (record { waiting = []; delay = 5 }) west)

abbrev pub three_links_state : ThreeLinks → WireStates × (RingStates × WireStates)
three_links_state = three_state one_link_state ring_link_state one_link_state

-- idle links under the scripts of the directions
abbrev pub lossy_one_link : (ℕ → List LossEntry) → WireStates
lossy_one_link s = lossy_wires (s 0) (s 1)

abbrev pub lossy_three_links : (ℕ → List LossEntry) → WireStates × (RingStates × WireStates)
lossy_three_links s = (lossy_wires (s 0) (s 1), (lossy_rings (s 2) (s 3), lossy_wires (s 4) (s 5)))

-- the count of a bank, and the letters at its first n numbers
abbrev pub first_letters : {B : Type 0} → BankCalls B → B → ℕ → ℕ × List ℕ
first_letters m b n = both (count m b) (map (letter_at m b) (range_with_len 0 n))
