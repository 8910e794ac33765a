-- The law of one place: where each injected frame is.
use Rattle.std.specs.Prelude.{◌≡◌, ℕ, ◌+◌, ◌-◌, ◌*◌, ◌<◌, ◌≤◌, cond, ◌⊎◌, List, [], ◌∷◌, ◌++◌, length, ◌==◌}
use Rattle.symbol.specs.declared.Frame.{Frame}
use Rattle.bank.specs.Bank.{BankCalls}
use Rattle.symbol.specs.declared.end.End.{End}
use Rattle.symbol.specs.declared.end.End.TheVariants.{West, East}
use Rattle.model.specs.Chain.{Chain, facing, port_of, last_port, end_port, port_at_end, opposite, on}
use Rattle.model.specs.Run.{Log}
use Rattle.model.specs.Figures.{frames_among, lost_frames, injected, collected}

-- the numbers from 1 to n
abbrev pub up_to : ℕ → List ℕ
up_to ℕ.zero = []
up_to (ℕ.suc n) = up_to n ++ (ℕ.suc n ∷ [])

abbrev pub numbers : List Frame → List ℕ
numbers [] = []
numbers (f ∷ fs) = f.number ∷ numbers fs

-- how often frame k is in a list
abbrev pub times : ℕ → List Frame → ℕ
times k [] = 0
times k (f ∷ fs) = cond (k == f.number) 1 0 + times k fs

-- the first list is the second with some left out: in its order, and nothing twice that it has once
pub data InOrderOf : List Frame → List Frame → Type 0 where
  nothing : InOrderOf [] []
  left_out : {f : Frame} {fs gs : List Frame} → InOrderOf fs gs → InOrderOf fs (f ∷ gs)
  next : {f : Frame} {fs gs : List Frame} → InOrderOf fs gs → InOrderOf (f ∷ fs) (f ∷ gs)

-- the sum of a number over the links
abbrev pub over_links : (ℕ → ℕ) → ℕ → ℕ
over_links f ℕ.zero = 0
over_links f (ℕ.suc i) = over_links f i + f i

module _ {B : Type 0} where
  -- the way of the frames injected at an end: its i-th direction, and the port that takes from it
  abbrev pub hop : Chain B → End → ℕ → ℕ
  hop c West i = 2 * i
  hop c East i = last_port c - 2 * i

  abbrev pub taker : Chain B → End → ℕ → ℕ
  taker c e i = facing (hop c e i)

module _ {B : Type 0} (M : BankCalls B) where
  -- how often frame k of a way is on its i-th direction, waits behind it, or was reported lost there
  abbrev pub at_hop : Chain B → Log → End → ℕ → ℕ → ℕ
  at_hop c l e k i =
      times k (frames_among (on M c (hop c e i)))
      + times k (port_of c (taker c e i)).buffers.waiting
      + times k (lost_frames (taker c e i) l)

  -- in how many places frame k of a way is
  abbrev pub places : Chain B → Log → End → ℕ → ℕ
  places c l e k =
      times k (port_at_end c e).outbox.frames
      + over_links (at_hop c l e k) c.links
      + times k (collected (end_port c (opposite e)) l)

  -- Of the frames injected at an end: their numbers are 1, 2 and so on; each is in exactly one place, and no other
  -- number is in any; and those collected at the other end are in the order of injection, none twice.
  pub record OfOneEnd (c : Chain B) (l : Log) (e : End) : Type 0 where
    pub numbered : numbers (injected (end_port c e) l) ≡ up_to (length (injected (end_port c e) l))
    pub one : (k : ℕ) → 0 < k → k ≤ length (injected (end_port c e) l) → places c l e k ≡ 1
    pub no_other : (k : ℕ) → (k ≡ 0) ⊎ (length (injected (end_port c e) l) < k) → places c l e k ≡ 0
    pub in_order : InOrderOf (collected (end_port c (opposite e)) l) (injected (end_port c e) l)

  pub record OnePlace (c : Chain B) (l : Log) : Type 0 where
    pub ways : (e : End) → 0 < c.links → OfOneEnd c l e
