-- Each call keeps what holds of a chain and the log of its run.
use Rattle.std.proofs.Common.{◌≡◌, ℕ, zero, suc, ◌+◌, ◌*◌, ◌<◌, ◌≤◌, Bool, true, eqb, List, [], ◌∷◌, ◌++◌, Ok}
use Rattle.std.proofs.Common.{sym, refl, subst, append_assoc, append-nil, arith, length-append}
use mathlib.Core.Path.{transport}
use Rattle.std.proofs.lemmas.Bool.{cond-true}
use Rattle.symbol.specs.declared.Frame.{Frame}
use Rattle.eventlog.specs.declared.event.Event.TheVariants as event
use Rattle.eventlog.specs.declared.event.FrameKind.TheVariants.{Freed, Injected, Collected}
use Rattle.bank.specs.Bank.{BankCalls, LawfulBank}
use Rattle.port.specs.Port.{next_frame, freed_of, Port, Buffers, Turn, and_then, with_buffers, lent_out, injected_at}
use Rattle.port.specs.Port.{among}
use Rattle.port.proofs.Numbers.{fewer_without}
use Rattle.symbol.specs.declared.end.End.{End}
use Rattle.model.specs.Chain.{injected, Chain, facing, port_of, with_port, end_port, takes, sends, each_port, ticked}
use Rattle.model.specs.Chain.{stepped, collects_by, released_at, on}
use Rattle.model.specs.Run.{Log}
use Rattle.model.specs.Figures.{frames_among}
use Rattle.model.specs.OnePlace.{numbers}
use Rattle.model.proofs.Accounts.{Account, noted_all, account}
use Rattle.model.proofs.Banks.{bank_step}
use Rattle.model.proofs.Cuts.{Cut}
use Rattle.model.proofs.Links.{Still, takes_still, sends_still, each_still}
use Rattle.model.proofs.Loop.{Loop, receiver_frees}
use Rattle.model.proofs.Records.{AllMeetRoom, At, account_off, rooms_kept}
use Rattle.model.proofs.Places.{facing_back, facing_below, end_below, end_outer, Inner}
use Rattle.model.proofs.Kept.{Kept, loop_same, Stocked, Fed, Handed, Numbered, Act, Invariant, act, takes_kept}
use Rattle.model.proofs.Kept.{sends_kept}

numbers-snoc : (fs : List Frame) (f : Frame) → numbers (fs ++ (f ∷ [])) ≡ numbers fs ++ (f.number ∷ [])
numbers-snoc [] f = refl
numbers-snoc (g ∷ gs) f = grind (arith, numbers-snoc gs f)

module _ {B : Type 0} (M : BankCalls B) (law : (b : B) → LawfulBank M b) where
  -- a tick: symbols stay where they are
  module _ (c : Chain B) (l : Log) (h : Invariant M c l) where
    tick_on : (p : ℕ) → on M (ticked M c).state p ≡ on M c p
    tick_on p = bank_step M law c.bank p

    tick_account : (p : ℕ) → account p (l ++ (event.Tick (c.tick + 1) ∷ [])) ≡ account p l
    tick_account p = account_off p l (event.Tick (c.tick + 1) ∷ []) (refl, tt)

    tick_kept : Kept M l (ticked M c)
    tick_kept = record {
      size = h.size;
      loops =
          λ p q z f. loop_same {s = port_of c p} {r = port_of c q} refl refl (tick_on p) (tick_on q) (tick_account p)
          (tick_account q) (h.loops p q z f);
      stocked =
          λ p z. subst (λ (a : Account). Stocked (port_of c p) a.collected) (sym (tick_account p)) (h.stocked p z);
      fed = λ e z. subst (Fed (port_of c (end_port c e))) (sym (tick_account (end_port c e))) (h.fed e z);
      passed_on =
          λ p q z m k f. transport
          (λ i. (sym (tick_account q) i).got
          ≡ frames_among
          (sym (tick_account p) i).puts ++ (port_of c q).buffers.waiting) (h.passed_on p q z m k f);
      handed = λ e z. subst (Handed (port_of c (end_port c e))) (sym (tick_account (end_port c e))) (h.handed e z);
      numbered =
          λ e z. subst (Numbered (port_of c (end_port c e))) (sym (tick_account (end_port c e))) (h.numbered e z);
      cuts = λ p z. subst Cut (sym (tick_account p)) (h.cuts p z);
      room =
          rooms_kept (λ p. (port_of c p).buffers.all) (λ p. (port_of c p).buffers.all) l
          (event.Tick (c.tick + 1) ∷ []) (λ p. refl) h.room (tt, tt);
    }

  -- one act and then another
  then_kept : (l : Log) (t : Turn (Chain B)) (f : Chain B → Turn (Chain B)) → Kept M l t
      → ((c : Chain B) (k : Log) → c.links ≡ t.state.links → Invariant M c k → Kept M k (f c))
      → Kept M l (and_then t f)
  then_kept l t f h g =
      subst (Invariant M (f t.state).state) (append_assoc l t.events (f t.state).events)
      (g t.state (l ++ t.events) refl h)

  -- each port in turn
  module _ (f : Chain B → ℕ → Turn (Chain B)) (same : (c : Chain B) (p : ℕ) → Still c (f c p).state)
      (keeps : (c : Chain B) (l : Log) (p : ℕ) → p < 2 * c.links → Invariant M c l → Kept M l (f c p)) where
    each_kept : (c : Chain B) (l : Log) (k : ℕ) → k ≤ 2 * c.links → Invariant M c l → Kept M l (each_port f k c)
    each_kept c l zero z h = subst (Invariant M c) (sym (append-nil l)) h
    each_kept c l (suc k) z h =
        then_kept l (each_port f k c) (λ d. f d k) (each_kept c l k (omega (arith, z)) h)
        (λ d j e i. keeps d j k (omega (arith, z, e, (each_still f same c k).links)) i)

  -- a step
  pub step_kept : (c : Chain B) (l : Log) → Invariant M c l → Kept M l (stepped M c)
  step_kept c l h =
      then_kept l (and_then (ticked M c) (each_port (takes M) (2 * c.links))) (each_port (sends M) (2 * c.links))
      (then_kept l (ticked M c) (each_port (takes M) (2 * c.links)) (tick_kept c l h)
      (λ d k e i. each_kept (takes M) (takes_still M) (takes_kept M law) d k (2 * c.links) (omega (arith, e)) i))
      (λ d k e i. each_kept (sends M) (sends_still M) (sends_kept M law) d k (2 * c.links)
      (omega (arith, e, (each_still (takes M) (takes_still M) (ticked M c).state (2 * c.links)).links)) i)

  -- A call at an end: an act of its port that leaves the bank. s is the port after it, es its records.
  module _ (c : Chain B) (l : Log) (e : End) (s : Port) (es : Log) (h : Invariant M c l) (some : 0 < c.links) where
    abbrev end_p : Port
    end_p = port_of c (end_port c e)

    end_act_kept : ((p : ℕ) (t : Bool) → eqb p (end_port c e) ≡ t → At p t es)
        → (Loop end_p (port_of c (facing (end_port c e))) (on M c (end_port c e)) (on M c (facing (end_port c e)))
        (account (end_port c e) l) (account (facing (end_port c e)) l)
        → Loop s (port_of c (facing (end_port c e))) (on M c (end_port c e)) (on M c (facing (end_port c e)))
        (noted_all (account (end_port c e) l) es) (account (facing (end_port c e)) l))
        → (Loop (port_of c (facing (end_port c e))) end_p (on M c (facing (end_port c e))) (on M c (end_port c e))
        (account (facing (end_port c e)) l) (account (end_port c e) l)
        → Loop (port_of c (facing (end_port c e))) s (on M c (facing (end_port c e))) (on M c (end_port c e))
        (account (facing (end_port c e)) l) (noted_all (account (end_port c e) l) es))
        → Act (Inner c (end_port c e)) end_p s (account (end_port c e) l) (noted_all (account (end_port c e) l) es)
        → AllMeetRoom (λ p. (port_of c p).buffers.all) l es
        → Invariant M (with_port c (end_port c e) s) (l ++ es)
    end_act_kept own as-sender as-receiver here new =
        act M law c l es (end_port c e) (facing (end_port c e)) s c.bank h (end_below c e some) refl own
        (λ p n m. refl)
        (as-sender (h.loops (end_port c e) (facing (end_port c e)) (end_below c e some) refl))
        (as-receiver
        (h.loops (facing (end_port c e)) (end_port c e)
        (facing_below c.links (end_port c e) (facing (end_port c e)) refl (end_below c e some))
        (facing_back (end_port c e) (facing (end_port c e)) refl)))
        here new

  -- inject: one more in the outbox
  pub inject_kept : (c : Chain B) (l : Log) (e : End) → Invariant M c l → 0 < c.links
      → (port_of c (end_port c e)).outbox.injected < 4294967295 → Kept M l (injected M c e)
  inject_kept c l e h some few =
      end_act_kept c l e (injected_at (port_of c (end_port c e)))
      (event.Frame Injected (end_port c e) (next_frame (port_of c (end_port c e))) ∷ []) h some (λ p t z. (z, tt))
      (λ z. z) (λ z. z)
      (grind (
        arith,
        next,
        append_assoc (frames_among (account (end_port c e) l).puts) (port_of c (end_port c e)).outbox.frames,
        numbers-snoc (account (end_port c e) l).injected,
      ))
      (tt, tt)
    where
      next : (next_frame (port_of c (end_port c e))).number ≡ suc (port_of c (end_port c e)).outbox.injected
      next = omega (arith, few)

  -- collect: the oldest frame at the end's port is handed out
  pub collect_kept : (c : Chain B) (l : Log) (e : End) (k : Frame) (ks : List Frame) → Invariant M c l → 0 < c.links
      → (port_of c (end_port c e)).buffers.waiting ≡ k ∷ ks → Kept M l (collects_by M c e (Ok k))
  collect_kept c l e k ks h some queue =
      let s = port_of c (end_port c e) in
      let a = account (end_port c e) l in
      subst
      (λ (ws : List Frame). Invariant M (with_port c (end_port c e) (with_buffers s (lent_out s.buffers ws)))
      (l ++ (event.Frame Collected (end_port c e) k ∷ []))) (sym queue)
      (end_act_kept c l e (with_buffers s (lent_out s.buffers (k ∷ ks)))
      (event.Frame Collected (end_port c e) k ∷ []) h some (λ p t z. (z, tt)) (λ z. z) (λ z. z)
      (grind (
        arith,
        queue,
        end_outer c e,
        length-append s.buffers.out (k.number ∷ []),
        length-append a.collected (k ∷ []),
        append_assoc a.collected (k ∷ []) ks,
      ))
      (tt, tt))

  -- release: the buffer of a frame that was handed out is free again
  pub release_kept : (c : Chain B) (l : Log) (e : End) (k : ℕ) → Invariant M c l → 0 < c.links
      → among k (port_of c (end_port c e)).buffers.out ≡ true → Kept M l (released_at M c e k)
  release_kept c l e k h some out =
      let s = port_of c (end_port c e) in
      subst
      (λ (b : Buffers). Invariant M (with_port c (end_port c e) (with_buffers s b))
      (l ++ (event.Frame Freed (end_port c e) (record { number = k }) ∷ []))) (sym
      (cond-true _ (freed_of s.buffers k) s.buffers out))
      (end_act_kept c l e (with_buffers s (freed_of s.buffers k))
      (event.Frame Freed (end_port c e) (record { number = k }) ∷ []) h some (λ p t z. (z, tt)) (λ z. z)
      (receiver_frees (end_port c e) (port_of c (facing (end_port c e))) (port_of c (end_port c e))
      (on M c (facing (end_port c e))) (on M c (end_port c e)) (account (facing (end_port c e)) l)
      (account (end_port c e) l) (record { number = k }) []
      (omega (arith, h.stocked (end_port c e) (end_below c e some), fewer_without k s.buffers.out out)))
      (grind (arith, fewer_without k s.buffers.out out))
      (tt, tt))
