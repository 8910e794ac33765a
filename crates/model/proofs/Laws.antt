-- The laws of every run.
use Rattle.std.proofs.Common.{◌≡◌, ℕ, zero, suc, ◌+◌, ◌*◌, ◌^◌, ◌<◌, List, [], ◌∷◌, ◌++◌, length, sym, refl, ap}
use Rattle.std.proofs.Common.{◌∙◌, subst, append-nil, mod-lt, arith, length-append, pow_pos}
use Rattle.std.specs.List.{AllByRecursion}
use Rattle.symbol.specs.declared.Frame.{Frame}
use Rattle.symbol.specs.declared.Symbol.{Symbol}
use Rattle.symbol.specs.declared.Symbol.TheVariants as symbol
use Rattle.eventlog.specs.declared.event.Event.TheVariants as event
use Rattle.eventlog.specs.declared.event.ItemKind.TheVariants.{Got}
use Rattle.reader.specs.Reading.{WellFormed}
use Rattle.bank.specs.Bank.{BankCalls, LawfulBank}
use Rattle.port.specs.Port.{Turn, no_act}
use Rattle.symbol.specs.declared.end.End.{End}
use Rattle.model.specs.Chain.{Chain, facing, port_of, end_port, port_at_end, opposite, on, logins, injects, steps}
use Rattle.model.specs.Chain.{collects, releases}
use Rattle.model.specs.Run.{Log, Phase, Moving, Run, is_cabled, is_running, is_draining, login, start, inject, step}
use Rattle.model.specs.Run.{collect, release, drain}
use Rattle.model.specs.Figures.{Stream, Frames, RRdys, reported_lost, made_good, puts, injected, ticks}
use Rattle.model.specs.Stretches.{taken, taken_symbols, cut, nothing_put, lost_in, good_among}
use Rattle.model.specs.CreditSum.{SumOfSix, CreditSum}
use Rattle.model.specs.WholeParts.{WholePart, InParts}
use Rattle.model.specs.OnePlace.{numbers, up_to, over_links, hop, taker, places, OfOneEnd}
use Rattle.model.specs.RecordsTell.{PortTold, WayTold, PortInBounds}
use Rattle.model.specs.Laws.{Holds, EveryRun, Continues}
use Rattle.model.proofs.Accounts.{Losses, account}
use Rattle.model.proofs.Told.{told}
use Rattle.model.proofs.Cuts.{put_stretches}
use Rattle.model.proofs.InStep.{Wholes}
use Rattle.model.proofs.Loop.{Loop}
use Rattle.model.proofs.Records.{AllMeetRoom, room_at}
use Rattle.model.proofs.Places.{facing_back, facing_below, end_below}
use Rattle.model.proofs.Kept.{Invariant}
use Rattle.model.proofs.Bounds.{Bounded}
use Rattle.model.proofs.Runs.{run_invariant, run_bounded, run_ticks}
use Rattle.model.proofs.ReadBack.{run_fine}
use Rattle.model.proofs.Ways.{times_often, up_to_in, up_to_out, how_often, places_are, collected_in_order, hop_below}

-- as many numbers as frames
length-numbers : (fs : List Frame) → length (numbers fs) ≡ length fs
length-numbers [] = refl
length-numbers (f ∷ fs) = ap suc (length-numbers fs)

length-up_to : (n : ℕ) → length (up_to n) ≡ n
length-up_to zero = refl
length-up_to (suc n) = omega (arith, length-append (up_to n) (suc n ∷ []), length-up_to n)

-- sums over links of the same numbers
links_same : (f g : ℕ → ℕ) (n : ℕ) → ((i : ℕ) → i < n → f i ≡ g i) → over_links f n ≡ over_links g n
links_same f g zero h = refl
links_same f g (suc n) h = omega (arith, links_same f g n (λ i z. h i (omega arith)), h n (omega arith))

module _ {B : Type 0} (M : BankCalls B) (law : (b : B) → LawfulBank M b) where
  module _ (c : Chain B) (l : Log) (h : Invariant M c l) (few : Bounded c) (timed : c.tick ≡ ticks l)
      (well : AllByRecursion WellFormed l) where
    -- the loop in which port p sends frames, and the one in which it takes them
    sends_in : (p : ℕ) → p < 2 * c.links
        → Loop (port_of c p) (port_of c (facing p)) (on M c p) (on M c (facing p)) (account p l) (account (facing p) l)
    sends_in p lt = h.loops p (facing p) lt refl

    takes_in : (p : ℕ) → p < 2 * c.links
        → Loop (port_of c (facing p)) (port_of c p) (on M c (facing p)) (on M c p) (account (facing p) l) (account p l)
    takes_in p lt = h.loops (facing p) p (facing_below c.links p (facing p) refl lt) (facing_back p (facing p) refl)

    sum_of_six : (p : ℕ) → p < 2 * c.links → SumOfSix M c l p
    sum_of_six p lt =
        let q = told (facing p) l in
        let s = told p l in
        record {
          limit = (sends_in p lt).figures.limit_is;
          within = (sends_in p lt).figures.within;
          sum =
              omega (
                arith,
                (sends_in p lt).figures.sum,
                (sends_in p lt).frames.good,
                (sends_in p lt).rrdys.good,
                q.frames_lost,
                q.frames_good,
                s.rrdys_lost,
                s.rrdys_good,
              );
          frames_good = omega (arith, (sends_in p lt).frames.good, q.frames_lost, q.frames_good);
          rrdys_good = omega (arith, (sends_in p lt).rrdys.good, s.rrdys_lost, s.rrdys_good);
        }

    credit_sum : CreditSum M c l
    credit_sum = record {
      sums = sum_of_six;
      no_full_receiver = λ before after p f e.
          let t = told p before in
          omega (
            arith,
            room_at (λ q. (port_of c q).buffers.all) [] before after (event.Item Got p (symbol.Frame f))
                (subst (AllMeetRoom (λ q. (port_of c q).buffers.all) []) e h.room),
            t.frames_got,
            t.frames_good,
            t.freed_is,
            t.rrdys_put,
          );
      no_unused_credit = λ before after p e.
          let t = told p before in
          omega (
            arith,
            room_at (λ q. (port_of c q).buffers.all) [] before after (event.Item Got p symbol.RRdy)
                (subst (AllMeetRoom (λ q. (port_of c q).buffers.all) []) e h.room),
            t.frames_put,
            t.rrdys_got,
            t.rrdys_good,
          );
    }

    in_turn : (p : ℕ) → p < 2 * c.links → puts p l ≡ taken_symbols (taken (facing p) l) ++ on M c p
    in_turn p lt =
        sym (told p l).puts_are ∙ (sends_in p lt).order
        ∙ ap {B = List Symbol} (λ z. z ++ on M c p) (told (facing p) l).taken_are

    -- the whole parts of the account are those of the stretches of the puts
    wholes : (p : ℕ) (k : Stream) (x : Losses) → p < 2 * c.links → Wholes (port_of c p).n x
        → x.lost ≡ reported_lost k (facing p) l → x.good ≡ made_good k (facing p) l
        → cut k nothing_put (account (facing p) l).takes ≡ x.cut → InParts (port_of c p).n k p l
    wholes p k x lt w lost good cuts =
        let same =
        put_stretches k (puts p l) (taken (facing p) l) (on M c p) x.cut (in_turn p lt)
        (ap (cut k nothing_put) (sym (told (facing p) l).takes_are) ∙ cuts) in
        record {
          each = subst (AllByRecursion (WholePart (port_of c p).n)) (sym same.ended) w.each;
          all_lost = sym lost ∙ w.all_lost ∙ (λ i. sym same.lost i + lost_in (sym same.ended i));
          all_good = sym good ∙ w.all_good ∙ ap good_among (sym same.ended);
        }

    parts : (p : ℕ) (k : Stream) → p < 2 * c.links → InParts (port_of c p).n k p l
    parts p Frames lt =
        let q = told (facing p) l in
        wholes p Frames (account (facing p) l).frames.losses lt (sends_in p lt).frames.ended q.frames_lost
        q.frames_good (h.cuts (facing p) (facing_below c.links p (facing p) refl lt)).frames
    parts p RRdys lt =
        let q = told (facing p) l in
        wholes p RRdys (account (facing p) l).rrdys.losses lt
        (subst (λ (n : ℕ). Wholes n (account (facing p) l).rrdys.losses) (takes_in p lt).figures.same_n
        (takes_in p lt).rrdys.ended) q.rrdys_lost q.rrdys_good
        (h.cuts (facing p) (facing_below c.links p (facing p) refl lt)).rrdys

    port_told : (p : ℕ) → p < 2 * c.links → PortTold c l p
    port_told p lt = let t = told p l in record {
      held_is = omega (arith, (takes_in p lt).figures.held_is, t.frames_got, t.freed_is);
      owed_is = omega (arith, (takes_in p lt).figures.owed_is, t.freed_is, t.frames_good, t.rrdys_put);
      used_is = omega (arith, (sends_in p lt).figures.used_is, t.frames_put, t.rrdys_got, t.rrdys_good);
      frames_lost = omega (arith, frames_lost, t.frames_lost);
      frames_good =
          omega (
            arith,
            (takes_in p lt).figures.frames_good,
            (takes_in p lt).frames.good,
            frames_lost,
            few.ports p,
            few.tick,
            t.frames_good,
          );
      rrdys_lost = omega (arith, rrdys_lost, t.rrdys_lost);
      rrdys_good =
          omega (
            arith,
            (sends_in p lt).figures.rrdys_good,
            (sends_in p lt).rrdys.good,
            rrdys_lost,
            few.ports p,
            few.tick,
            t.rrdys_good,
          );
      handed_is = omega (arith, (h.stocked p lt).1, few.ports p, few.tick, ap length t.collected_are);
    }
      where
        -- a figure that has not come to the largest is exact
        frames_lost : (account p l).frames.losses.lost ≡ (port_of c p).frames_in.lost
        frames_lost = omega (arith, (takes_in p lt).figures.frames_lost, few.ports p, few.tick)

        rrdys_lost : (account p l).rrdys.losses.lost ≡ (port_of c p).rrdys_in.lost
        rrdys_lost = omega (arith, (sends_in p lt).figures.rrdys_lost, few.ports p, few.tick)

    injected_is : (e : End) → 0 < c.links → (port_at_end c e).outbox.injected ≡ length (injected (end_port c e) l)
    injected_is e some =
        sym (length-up_to (port_at_end c e).outbox.injected)
        ∙ ap length (sym (h.numbered e some))
        ∙ length-numbers (account (end_port c e) l).injected
        ∙ ap length (told (end_port c e) l).injected_are

    numbered : (e : End) → 0 < c.links
        → numbers (injected (end_port c e) l) ≡ up_to (length (injected (end_port c e) l))
    numbered e some =
        ap numbers (sym (told (end_port c e) l).injected_are) ∙ h.numbered e some ∙ ap up_to (injected_is e some)

    of_one_end : (e : End) → 0 < c.links → OfOneEnd M c l e
    of_one_end e some = record {
      numbered = numbered e some;
      one = λ k z n. often k ∙ up_to_in (length (injected (end_port c e) l)) k z n;
      no_other = λ k z. often k ∙ up_to_out (length (injected (end_port c e) l)) k z;
      in_order = collected_in_order M c l h some e;
    }
      where
        often : (k : ℕ) → places M c l e k ≡ how_often k (up_to (length (injected (end_port c e) l)))
        often k =
            places_are M c l h some e k ∙ times_often k (injected (end_port c e) l) ∙ ap (how_often k) (numbered e some)

    taker_below : (e : End) (i : ℕ) → i < c.links → taker c e i < 2 * c.links
    taker_below e i z = facing_below c.links (hop c e i) (taker c e i) refl (hop_below M c e i z)

    way_told : (e : End) → 0 < c.links → WayTold c l e
    way_told e some = record {
      injected_is = injected_is e some;
      collected_is = (port_told (end_port c (opposite e)) (end_below c (opposite e) some)).handed_is;
      lost_is = links_same _ _ c.links (λ i z. (port_told (taker c e i) (taker_below e i z)).frames_lost);
    }

    in_bounds : (p : ℕ) → p < 2 * c.links → PortInBounds c.tick (port_of c p)
    in_bounds p lt = let t = told p l in let r = port_told p lt in let w = few.ports p in record {
      buffers = w.buffers;
      limit = w.limit;
      n = w.n;
      used = (sends_in p lt).figures.within;
      room =
          omega (
            arith,
            (takes_in p lt).figures.sum,
            (takes_in p lt).figures.within,
            (takes_in p lt).figures.limit_is,
            (takes_in p lt).frames.good,
            (takes_in p lt).rrdys.good,
          );
      stocked = (h.stocked p lt).0;
      frames_sent =
          subst (λ (z : ℕ). z < 2 ^ (port_of c p).n) (sym (sends_in p lt).frames.sent_is)
          (mod-lt _ (pow_pos (port_of c p).n));
      frames_got =
          subst (λ (z : ℕ). (port_of c p).frames_in.got < 2 ^ z) (takes_in p lt).figures.same_n
          (takes_in p lt).frames.below;
      rrdys_sent = subst (λ (z : ℕ). (port_of c p).rrdys_out.sent < 2 ^ z) (takes_in p lt).figures.same_n
          (subst (λ (z : ℕ). z < 2 ^ (port_of c (facing p)).n) (sym (takes_in p lt).rrdys.sent_is)
          (mod-lt _ (pow_pos (port_of c (facing p)).n)));
      rrdys_got = (sends_in p lt).rrdys.below;
      outbox = w.outbox;
      injected = omega (arith, w.injected, w.outbox);
      collected = omega (arith, w.handed);
      frames_lost = w.frames_lost;
      rrdys_lost = w.rrdys_lost;
      frames_good =
          omega (arith, (takes_in p lt).frames.good, r.frames_lost, r.frames_good, t.frames_lost, t.frames_good);
      rrdys_good =
          omega (arith, (sends_in p lt).rrdys.good, r.rrdys_lost, r.rrdys_good, t.rrdys_lost, t.rrdys_good);
    }

    holds : Holds M c l
    holds = record {
      credit_sum = credit_sum;
      whole_parts = record { in_turn = in_turn; same_n = λ p lt. (sends_in p lt).figures.same_n; parts = parts };
      one_place = record { ways = of_one_end };
      records_tell = record {
        ports = port_told;
        ways = way_told;
        tick = timed;
        in_bounds = record { links = few.links; tick = few.tick; ports = in_bounds };
        well_formed = well;
      };
    }

  pub every_run : (b : B) → EveryRun M b
  every_run b ph c l r =
      holds c l (run_invariant M law b ph c l r) (run_bounded M law r) (run_ticks M law r) (run_fine M law r).log

  -- each call continues every run: from c to c' by turn t
  onward : (ph ph' : Phase) (c c' : Chain B) (t : Turn (Chain B)) → c' ≡ t.state
      → ((b : B) (l : Log) → Run M b ph c l → Run M b ph' t.state (l ++ t.events))
      → Continues M ph ph' c c' t.events
  onward ph ph' c c' t e f =
      subst (λ (d : Chain B). Continues M ph ph' c d t.events) (sym e)
      (λ b l r. (f b l r, every_run b ph' t.state (l ++ t.events) (f b l r)))

  -- a call that writes nothing
  silent : {b : B} {ph : Phase} {c : Chain B} {l : Log} → Run M b ph c l → Run M b ph c (l ++ [])
  silent {b} {ph} {c} {l} r = subst (Run M b ph c) (sym (append-nil l)) r

  pub login_continues : (c c' : Chain B) (k x y m n : ℕ) → c' ≡ (logins M c k x y m n).state
      → Continues M is_cabled is_cabled c c' []
  login_continues c c' k x y m n e =
      onward is_cabled is_cabled c c' (no_act (logins M c k x y m n).state) e (λ b l r. silent (login k x y m n r))

  pub start_continues : (c c' : Chain B) → c' ≡ c → Continues M is_cabled is_running c c' []
  start_continues c c' e = onward is_cabled is_running c c' (no_act c) e (λ b l r. silent (start r))

  pub drain_continues : (c c' : Chain B) → c' ≡ c → Continues M is_running is_draining c c' []
  drain_continues c c' e = onward is_running is_draining c c' (no_act c) e (λ b l r. silent (drain r))

  pub inject_continues : (c c' : Chain B) (e : End) (room : ℕ) → c' ≡ (injects M c e room).state
      → Continues M is_running is_running c c' (injects M c e room).events
  inject_continues c c' e room z = onward is_running is_running c c' (injects M c e room) z (λ b l r. inject e room r)

  pub step_continues : {ph : Phase} → Moving ph → (c c' : Chain B) (room : ℕ) → c' ≡ (steps M c room).state
      → Continues M ph ph c c' (steps M c room).events
  step_continues {ph} m c c' room z = onward ph ph c c' (steps M c room) z (λ b l r. step m room r)

  pub collect_continues : {ph : Phase} → Moving ph → (c c' : Chain B) (e : End) (room : ℕ)
      → c' ≡ (collects M c e room).state → Continues M ph ph c c' (collects M c e room).events
  collect_continues {ph} m c c' e room z = onward ph ph c c' (collects M c e room) z (λ b l r. collect m e room r)

  pub release_continues : {ph : Phase} → Moving ph → (c c' : Chain B) (e : End) (k room : ℕ)
      → c' ≡ (releases M c e k room).state → Continues M ph ph c c' (releases M c e k room).events
  release_continues {ph} m c c' e k room z = onward ph ph c c' (releases M c e k room) z (λ b l r. release m e k room r)
