-- The law of the credit sum: where each credit in use is, and that nothing arrives in vain.
use Rattle.std.specs.Prelude.{◌≡◌, ℕ, ◌+◌, ◌*◌, ◌<◌, ◌≤◌, ◌∷◌, ◌++◌}
use Rattle.symbol.specs.declared.Frame.{Frame}
use Rattle.symbol.specs.declared.Symbol.TheVariants as symbol
use Rattle.eventlog.specs.declared.event.Event.TheVariants as event
use Rattle.eventlog.specs.declared.event.ItemKind.TheVariants.{Got}
use Rattle.bank.specs.Bank.{BankCalls}
use Rattle.model.specs.Chain.{Chain, facing, port_of, on}
use Rattle.model.specs.Run.{Log}
use Rattle.model.specs.Figures.{Frames, RRdys, how_many, reported_lost, made_good, missing, held, owed, credit_in_use}

module _ {B : Type 0} (M : BankCalls B) where
  -- the credit in use of the sender p is the sum of six
  pub record SumOfSix (c : Chain B) (l : Log) (p : ℕ) : Type 0 where
    pub sum : (port_of c p).credit.used ≡
        how_many Frames (on M c p)
        + how_many RRdys (on M c (facing p))
        + (port_of c (facing p)).buffers.held
        + (port_of c (facing p)).buffers.owed
        + missing Frames (facing p) l
        + missing RRdys p l
    -- no more is made good than was reported lost
    pub frames_good : made_good Frames (facing p) l ≤ reported_lost Frames (facing p) l
    pub rrdys_good : made_good RRdys p l ≤ reported_lost RRdys p l
    -- credit in use is within its limit, which is the buffers of the other end
    pub within : (port_of c p).credit.used ≤ (port_of c p).credit.limit
    pub limit : (port_of c p).credit.limit ≡ (port_of c (facing p)).buffers.all

  pub record CreditSum (c : Chain B) (l : Log) : Type 0 where
    pub sums : (p : ℕ) → p < 2 * c.links → SumOfSix c l p
    -- at each record: no frame meets a full receiver, and no R_RDY an unused credit, by the records before it
    pub no_full_receiver : (before after : Log) (p : ℕ) (f : Frame) →
        l ≡ before ++ (event.Item Got p (symbol.Frame f) ∷ after) →
        held p before + owed p before < (port_of c p).buffers.all
    pub no_unused_credit : (before after : Log) (p : ℕ) →
        l ≡ before ++ (event.Item Got p symbol.RRdy ∷ after) →
        0 < credit_in_use p before
