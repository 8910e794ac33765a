-- The law of whole parts: what each stretch of a counted stream leaves missing.
use Rattle.std.specs.Prelude.{◌≡◌, ℕ, ◌+◌, ◌*◌, ◌/◌, ◌^◌, ◌<◌, ◌≤◌, ◌++◌}
use Rattle.std.specs.List.{AllByRecursion}
use Rattle.bank.specs.Bank.{BankCalls}
use Rattle.model.specs.Chain.{Chain, facing, port_of, on}
use Rattle.model.specs.Run.{Log}
use Rattle.model.specs.Figures.{Stream, puts, reported_lost, made_good}
use Rattle.model.specs.Stretches.{Stretch, taken, taken_symbols, stretches, losses, left_missing, lost_among, lost_in}
use Rattle.model.specs.Stretches.{good_among}

-- a stretch that a mark has ended leaves 2^N times the whole part of its losses over 2^N missing, and fewer than 2^N
-- losses leave nothing
pub record WholePart (n : ℕ) (s : Stretch) : Type 0 where
  pub whole : left_missing s ≡ 2 ^ n * (losses s / 2 ^ n)
  pub few : losses s < 2 ^ n → left_missing s ≡ 0
  pub at_most : s.good ≤ losses s

-- each ended stretch of a stream on the direction of port p does so; every reported loss is in an ended stretch or in
-- the open one, and all that was made good in an ended one
pub record InParts (n : ℕ) (k : Stream) (p : ℕ) (l : Log) : Type 0 where
  pub each : AllByRecursion (WholePart n) (stretches k p l).ended
  pub all_lost : reported_lost k (facing p) l ≡
      lost_among (stretches k p l).still_open + lost_in (stretches k p l).ended
  pub all_good : made_good k (facing p) l ≡ good_among (stretches k p l).ended

module _ {B : Type 0} (M : BankCalls B) where
  pub record WholeParts (c : Chain B) (l : Log) : Type 0 where
    -- the n-th put on a direction is the n-th taken from it, and what was not taken yet is on it
    pub in_turn : (p : ℕ) → p < 2 * c.links → puts p l ≡ taken_symbols (taken (facing p) l) ++ on M c p
    -- the two ends of a link have one N
    pub same_n : (p : ℕ) → p < 2 * c.links → (port_of c p).n ≡ (port_of c (facing p)).n
    pub parts : (p : ℕ) (k : Stream) → p < 2 * c.links → InParts (port_of c p).n k p l
