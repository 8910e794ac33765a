-- Every record of every run is well-formed.
use Rattle.std.proofs.Common.{◌≡◌, ℕ, ◌+◌, ◌*◌, ◌<◌, ◌≤◌, [], ◌∷◌, ◌++◌}
use Rattle.std.proofs.Common.{None, Ok, Option, sym, subst, append-nil, arith}
use Rattle.symbol.specs.declared.Frame.{Frame}
use Rattle.eventlog.specs.declared.event.Event.TheVariants as event
use Rattle.eventlog.specs.declared.event.FrameKind.{FrameKind}
use Rattle.eventlog.specs.declared.event.FrameKind.TheVariants.{Freed, Injected, Collected}
use Rattle.bank.specs.Bank.{BankCalls, LawfulBank}
use Rattle.port.specs.Port.{next_frame, Port, Turn, no_act, handed_out, released, injected_at, logged_in}
use Rattle.symbol.specs.declared.end.End.{End}
use Rattle.symbol.specs.declared.end.End.TheVariants.{West, East}
use Rattle.model.specs.declared.Refusal.{Refusal}
use Rattle.model.specs.Chain.{injected, Chain, port_of, with_port, end_port, stepped}
use Rattle.model.specs.Chain.{collects_by, collects, released_at, logs_in, step_refusal, inject_refusal}
use Rattle.model.specs.Chain.{release_refusal, login_refusal, unless_refused}
use Rattle.model.specs.Run.{new, login, start, inject, step, collect, release, drain, Log, Phase, Run}
use Rattle.model.proofs.Places.{end_below}
use Rattle.model.proofs.Readable.{FineNumber, FineSymbols, FinePort, FineOldest, Fine, FineTurn, FineRun, fresh_fine}
use Rattle.model.proofs.Readable.{well_frame, fine_port, fine_more, oldest_fine, handed_out_fine, released_fine}
use Rattle.model.proofs.Readable.{next_fine, injected_fine, number_found, step_fine}
use Rattle.model.proofs.Runs.{collect_cases, unless, new_ports, cabling, inject_fits, login_fits, step_early}
use Rattle.model.proofs.Runs.{released_out, run_bounded}

module _ {B : Type 0} (M : BankCalls B) (law : (b : B) → LawfulBank M b) where
  -- every record of a run is well-formed
  same_run : (c : Chain B) (l : Log) → FineRun M c l → FineRun M c (l ++ [])
  same_run c l h = subst (FineRun M c) (sym (append-nil l)) h

  unless_fine : (r : Option Refusal) (c : Chain B) (t : Turn (Chain B)) (l : Log) → FineRun M c l
      → (r ≡ None → FineTurn M t) → FineRun M (unless_refused r c t).state (l ++ (unless_refused r c t).events)
  unless_fine r c t l h f =
      unless (λ t. FineRun M t.state (l ++ t.events)) r c t (same_run c l h) (λ e. fine_more M c l t h (f e))

  login_fine : (o : Option Refusal) (c : Chain B) (k x y n : ℕ) → Fine M c → (o ≡ None → n ≤ 15)
      → Fine M (unless_refused o c (no_act (logs_in M c k x y n))).state
  login_fine o c k x y n h f =
      unless (λ t. Fine M t.state) o c (no_act (logs_in M c k x y n)) h
      (λ e. fine_port M (with_port c (2 * k) (logged_in x y n)) (2 * k + 1) (logged_in y x n)
      (fine_port M c (2 * k) (logged_in x y n) h (fresh_fine x y n (f e))) (fresh_fine y x n (f e)))

  -- an act at an end, with one record of a fine frame
  end_fine : (c : Chain B) (e : End) (kind : FrameKind) (f : Frame) (s : Port) → 0 < c.links → Fine M c → FinePort s
      → FineNumber f.number
      → FineTurn M (record { state = with_port c (end_port c e) s; events = event.Frame kind (end_port c e) f ∷ [] })
  end_fine c e kind f s some h z w = record {
    state = fine_port M c (end_port c e) s h z;
    events = (well_frame kind (end_port c e) f (omega (arith, h.links, end_below c e some)) w, tt);
  }

  collect_fine : (c : Chain B) (l : Log) (e : End) (room : ℕ) → FineRun M c l
      → FineRun M (collects M c e room).state (l ++ (collects M c e room).events)
  collect_fine c l e room h =
      let s = port_of c (end_port c e) in
      let wait = (h.state.ports (end_port c e)).wait in
      collect_cases M law (λ t. FineRun M t.state (l ++ t.events)) c e room (same_run c l h)
      (λ k some w. fine_more M c l (collects_by M c e (Ok k)) h
      (end_fine c e Collected k (handed_out s) some h.state (handed_out_fine s (h.state.ports (end_port c e)))
      (subst FineOldest w (oldest_fine s.buffers.waiting wait))))

  release_fine : (c : Chain B) (e : End) (k room : ℕ) → Fine M c → release_refusal M c e k room ≡ None
      → FineTurn M (released_at M c e k)
  release_fine c e k room h z = record {
    state =
        fine_port M c (end_port c e) (released (port_of c (end_port c e)) k) h
        (released_fine (port_of c (end_port c e)) (h.ports (end_port c e)) k);
    events = (
      well_frame Freed (end_port c e) (record { number = k }) (below e)
          (number_found k (port_of c (end_port c e)).buffers.out (released_out M law c e k room z)
          (h.ports (end_port c e)).outside),
      tt,
    );
  }
    where
      below : (e : End) → end_port c e < 16
      below West = omega arith
      below East = omega (arith, h.links)

  pub run_fine : {b : B} {ph : Phase} {c : Chain B} {l : Log} → Run M b ph c l → FineRun M c l
  run_fine {b} new = record {
    state = record {
      links = (cabling M law b).few;
      ports = λ q. subst FinePort (sym (new_ports 16 q)) (fresh_fine 1 1 0 (omega arith));
      channels = λ d z. subst FineSymbols (sym ((cabling M law b).idle d z)) tt;
    };
    log = tt;
  }
  run_fine (login {c = c} k x y m n r) = record {
    state =
        login_fine (login_refusal M c k x y m n) c k x y n (run_fine r).state (λ z. (login_fits M law c k x y m n z).2);
    log = (run_fine r).log;
  }
  run_fine (start r) = run_fine r
  run_fine (step {c = c} {l = l} m room r) =
      unless_fine (step_refusal M c room) c (stepped M c) l (run_fine r)
      (λ z. step_fine M law c (step_early M law c room (run_bounded M law r) z) (run_fine r).state)
  run_fine (inject {c = c} {l = l} e room r) =
      unless_fine (inject_refusal M c e room) c (injected M c e) l (run_fine r)
      (λ z. end_fine c e Injected (next_frame (port_of c (end_port c e))) (injected_at (port_of c (end_port c e)))
      (inject_fits M law c e room z).0 (run_fine r).state
      (injected_fine (port_of c (end_port c e)) ((run_fine r).state.ports (end_port c e)))
      (next_fine (port_of c (end_port c e)) ((run_fine r).state.ports (end_port c e))))
  run_fine (collect {c = c} {l = l} m e room r) = collect_fine c l e room (run_fine r)
  run_fine (release {c = c} {l = l} m e k room r) =
      unless_fine (release_refusal M c e k room) c (released_at M c e k) l (run_fine r)
      (λ z. release_fine c e k room (run_fine r).state z)
  run_fine (drain r) = run_fine r
