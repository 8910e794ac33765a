-- What a step adds to a log: one tick, and no more bytes than it asks for.
use Rattle.std.proofs.Common.{◌≡◌, ℕ, zero, suc, ◌+◌, ◌*◌, ◌≤◌, [], ◌∷◌, ◌++◌, length}
use Rattle.std.proofs.Common.{refl, suc-mul, arith}
use Rattle.std.proofs.lemmas.Bool.Decides.{nat_tests}
use Rattle.eventlog.specs.Format.{encode, encode_all}
use Rattle.eventlog.specs.declared.event.Event.{Event}
use Rattle.eventlog.specs.declared.event.Event.TheVariants as event
use Rattle.bank.specs.Bank.{BankCalls}
use Rattle.port.specs.Port.{Turn}
use Rattle.model.specs.Chain.{Chain, each_port}
use Rattle.model.specs.Chain.{takes, sends, ticked, stepped, step_bytes}
use Rattle.model.specs.Run.{Log}
use Rattle.model.specs.Figures.{total, tick_in, ticks}
use Rattle.model.specs.Sizes.{CallsFit}
use Rattle.model.proofs.Told.{length_joined}

pub total-append : (f : Event → ℕ) (es fs : Log) → total f (es ++ fs) ≡ total f es + total f fs
total-append f [] fs = omega arith
total-append f (e ∷ es) fs = omega (arith, total-append f es fs)

-- the bytes of a record
abbrev size : Event → ℕ
size e = length (encode e)

-- what is said of the records of one act: so many bytes at most, and no tick
pub record Small (most : ℕ) (es : Log) : Type 0 where
  pub bytes : total size es ≤ most
  pub no_tick : ticks es ≡ 0

module _ {B : Type 0} (M : BankCalls B) where
  pub takes_small : (c : Chain B) (p : ℕ) → Small 10 (takes M c p).events
  takes_small c p = grind (arith, nat_tests)

  pub sends_small : (c : Chain B) (p : ℕ) → Small 15 (sends M c p).events
  sends_small c p = grind (arith, nat_tests)

  each_small : (most : ℕ) (f : Chain B → ℕ → Turn (Chain B)) → ((c : Chain B) (p : ℕ) → Small most (f c p).events)
      → (c : Chain B) (k : ℕ) → Small (k * most) (each_port f k c).events
  each_small most f small c zero = omega arith
  each_small most f small c (suc k) =
      let d = (each_port f k c).state in
      let before = each_small most f small c k in
      let now' = small d k in
      record {
        bytes =
            omega (
              arith,
              total-append size (each_port f k c).events
                  (f d k).events,
              before.bytes,
              now'.bytes,
              suc-mul k most,
            );
        no_tick =
            omega
            (arith, total-append tick_in (each_port f k c).events (f d k).events, before.no_tick, now'.no_tick);
      }

  module _ (c : Chain B) where
    abbrev after_tick : Chain B
    after_tick = (ticked M c).state

    abbrev after_takes : Chain B
    after_takes = (each_port (takes M) (2 * c.links) after_tick).state

    parts : (f : Event → ℕ) → total f (stepped M c).events
        ≡ f (event.Tick (c.tick + 1)) + total f (each_port (takes M) (2 * c.links) after_tick).events + total f
        (each_port (sends M) (2 * c.links) after_takes).events
    parts f =
        total-append f (event.Tick (c.tick + 1) ∷ (each_port (takes M) (2 * c.links) after_tick).events)
        (each_port (sends M) (2 * c.links) after_takes).events

    -- a step writes no more bytes than it asks for
    pub step_fits : length (encode_all (stepped M c).events) ≤ step_bytes c.links
    step_fits =
        omega (
          arith,
          length_joined encode (stepped M c).events,
          parts size,
          (each_small 10 (takes M) takes_small after_tick
              (2 * c.links)).bytes,
          (each_small 15 (sends M) sends_small after_takes (2 * c.links)).bytes,
        )

    -- and one tick
    pub step_ticks : ticks (stepped M c).events ≡ 1
    step_ticks =
        omega (
          arith,
          parts tick_in,
          (each_small 10 (takes M) takes_small after_tick
              (2 * c.links)).no_tick,
          (each_small 15 (sends M) sends_small after_takes (2 * c.links)).no_tick,
        )

  pub calls_fit : CallsFit M
  calls_fit = record {
    step_fits = step_fits;
    inject_fits = λ c e. refl;
    collect_fits = λ c e f. refl;
    release_fits = λ c e k. refl;
  }
