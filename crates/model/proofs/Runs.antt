-- Every run, from the cabling on.
use Rattle.std.proofs.Common.{◌≡◌, ℕ, zero, suc, ◌+◌, ◌*◌, ◌/◌, ◌^◌, ◌<◌, ◌≤◌, Bool, true, false, cond}
use Rattle.std.proofs.Common.{eqb, ltb, ◌≢◌, ◌⊎◌, ⊎_elim, List, [], ◌∷◌, ◌++◌, length, get_or, set, replicate, Some}
use Rattle.std.proofs.Common.{None}
use Rattle.std.proofs.Common.{Ok, Err, Option, Result, sym, refl, ap, ◌∙◌, subst, inl, inr, append-nil, le_refl, arith}
use Rattle.std.proofs.Common.{length-set, pow_pos}
use native.Mathlib.Nat.{zero-mod}
use lib.ListN.{length-replicate}
use Rattle.std.proofs.lemmas.Bool.Decides.{nat_tests}
use Rattle.std.proofs.lemmas.Bool.{cond_both, cases_eq}
use Rattle.ring.specs.Queue.{head?, tail, empty}
use Rattle.symbol.specs.declared.Frame.{Frame}
use Rattle.symbol.specs.declared.Item.{Item}
use Rattle.eventlog.specs.declared.event.Event.TheVariants as event
use Rattle.eventlog.specs.declared.event.FrameKind.TheVariants.{Freed}
use Rattle.bank.specs.Bank.{BankCalls, LawfulBank, count}
use Rattle.port.specs.Port.{Port, Turn, no_act, among, handed_out, released, injected_at, logged_in}
use Rattle.port.specs.Port.{new_port}
use Rattle.symbol.specs.declared.end.End.{End}
use Rattle.model.specs.declared.Refusal.{Refusal}
use Rattle.model.specs.declared.Refusal.TheVariants as refusal
use Rattle.model.specs.Chain.{injected, call_bytes, last_tick, Chain, port_of, with_port, end_port, all_idle}
use Rattle.model.specs.Chain.{cabled_links, cabled, stepped, from_oldest, collects_by, collects}
use Rattle.model.specs.Chain.{released_at, logs_in, logins, step_refusal, inject_refusal, release_refusal}
use Rattle.model.specs.Chain.{login_refusal, unless_refused, symbols, on}
use Rattle.model.specs.Run.{new, login, start, inject, step, collect, release, drain, Log, Phase, is_cabled}
use Rattle.model.specs.Run.{is_running, is_draining, Moving, runs, drains, Run}
use Rattle.model.specs.Figures.{ticks, tick_in}
use Rattle.model.specs.OnePlace.{up_to}
use Rattle.model.proofs.Accounts.{account, no_account, no_tally}
use Rattle.model.proofs.Lists.{first_is}
use Rattle.model.proofs.InStep.{InStep}
use Rattle.model.proofs.Loop.{Loop}
use Rattle.model.proofs.Records.{AllMeetRoom, rooms_kept}
use Rattle.model.proofs.Places.{FacingIs, facing_is, behind_below, port_same, port_other, end_below}
use Rattle.model.proofs.Kept.{Loops, loop_same, Stocked, Invariant, Kept}
use Rattle.model.proofs.Calls.{step_kept, inject_kept, collect_kept, release_kept}
use Rattle.model.proofs.Bounds.{at_port, stepped_tick, Within, Bounded, new_port_within, fresh_within, handed_within}
use Rattle.model.proofs.Bounds.{released_within, injected_within, with_within, step_bounded}
use Rattle.model.proofs.Sizes.{total-append, step_ticks}

-- the two ports of a link after a login, or before any
pub record LoggedIn (s r : Port) : Type 0 where
  pub own : ℕ
  pub other : ℕ
  pub n : ℕ
  pub west_is : s ≡ logged_in own other n
  pub east_is : r ≡ logged_in other own n

same_all : (ports : List Port) (i j : ℕ) (s : Port) → s.buffers.all ≡ (get_or ports i new_port).buffers.all
    → (get_or (set ports i s) j new_port).buffers.all ≡ (get_or ports j new_port).buffers.all
same_all ports i j s e =
    at_port (λ z. z.buffers.all ≡ (get_or ports j new_port).buffers.all) ports i j s
    (λ q. e ∙ ap (λ (v : ℕ). (get_or ports v new_port).buffers.all) (sym q)) refl

-- a call that is refused does nothing, and any other its turn
pub unless : {B : Type 0} (P : Turn (Chain B) → Type 0) (r : Option Refusal) (c : Chain B) (t : Turn (Chain B))
    → P (no_act c) → (r ≡ None → P t) → P (unless_refused r c t)
unless P None c t h f = f refl
unless P (Some e) c t h f = h

-- a stream of which nothing was sent
new_stream : (n : ℕ) → InStep n (record { sent = 0; due = false }) 0 [] no_tally.losses
new_stream n = grind (arith, zero-mod (2 ^ n), pow_pos n)

new_loop : (a b n : ℕ) → Loop (logged_in a b n) (logged_in b a n) [] [] no_account no_account
new_loop a b n = record { figures = omega arith; frames = new_stream n; rrdys = new_stream n; order = refl }

-- each port of a new table is as new as the one past its end
pub new_ports : (n q : ℕ) → get_or (replicate n new_port) q new_port ≡ new_port
new_ports zero q = refl
new_ports (suc n) zero = refl
new_ports (suc n) (suc q) = new_ports n q

module _ {B : Type 0} (M : BankCalls B) (law : (b : B) → LawfulBank M b) where
  -- a cabled chain: nothing has moved yet
  pub record Fresh (c : Chain B) : Type 0 where
    pub size : 2 * c.links ≤ length c.ports
    pub linked : (i : ℕ) → i < c.links → LoggedIn (port_of c (2 * i)) (port_of c (2 * i + 1))
    pub idle : (d : ℕ) → d < 2 * c.links → on M c d ≡ []

  module _ (c : Chain B) (h : Fresh c) where
    link_loops : (i : ℕ) → i < c.links → (p q : ℕ) → p ≡ 2 * i → q ≡ 2 * i + 1 → (on M c p ≡ []) → (on M c q ≡ [])
        → Loop (port_of c p) (port_of c q) (on M c p) (on M c q) no_account no_account × Loop (port_of c q)
        (port_of c p) (on M c q) (on M c p) no_account no_account
    link_loops i lt p q ep eq op oq =
        let g = h.linked i lt in (
          loop_same {a = no_account} {b = no_account} (ap (port_of c) ep ∙ g.west_is)
              (ap (port_of c) eq ∙ g.east_is) op oq refl refl (new_loop g.own g.other g.n),
          loop_same {a = no_account} {b = no_account} (ap (port_of c) eq ∙ g.east_is)
              (ap (port_of c) ep ∙ g.west_is) oq op refl refl (new_loop g.other g.own g.n),
        )

    fresh_loops : Loops c.links (port_of c) (on M c) (λ p. account p [])
    fresh_loops p q lt f = go (facing_is p)
      where
        go : FacingIs p → Loop (port_of c p) (port_of c q) (on M c p) (on M c q) no_account no_account
        go (inl e) =
            (link_loops (p / 2) (omega arith) p q (omega (arith, e.0)) (omega (arith, e.0, e.1, f)) (h.idle p lt)
            (h.idle q (omega (arith, e.0, e.1, f)))).0
        go (inr e) =
            (link_loops (p / 2) (omega arith) q p (omega (arith, e.0, e.1, f)) (omega (arith, e.0))
            (h.idle q (omega (arith, e.0, e.1, f))) (h.idle p lt)).1

    each_fresh : (P : Port → Type 0) → ((a b n : ℕ) → P (logged_in a b n)) → (p : ℕ) → p < 2 * c.links
        → P (port_of c p)
    each_fresh P every p lt = go (facing_is p)
      where
        go : FacingIs p → P (port_of c p)
        go (inl e) = let g = h.linked (p / 2) (omega arith) in let ep : p ≡ 2 * (p / 2) = omega (arith, e.0) in
            subst P (sym (ap (port_of c) ep ∙ g.west_is)) (every g.own g.other g.n)
        go (inr e) = let g = h.linked (p / 2) (omega arith) in let ep : p ≡ 2 * (p / 2) + 1 = omega (arith, e.0) in
            subst P (sym (ap (port_of c) ep ∙ g.east_is)) (every g.other g.own g.n)

    pub fresh_invariant : Invariant M c []
    fresh_invariant = record {
      size = h.size;
      loops = fresh_loops;
      stocked = each_fresh (λ s. Stocked s []) (λ a b n. (le_refl 0, refl));
      fed = λ e z. sym (each_fresh (λ s. s.outbox.frames ≡ []) (λ a b k. refl) (end_port c e) (end_below c e z));
      passed_on =
          λ p q z m n f. sym
          (each_fresh (λ s. s.buffers.waiting ≡ []) (λ a b k. refl) q
          (subst (λ (v : ℕ). v < 2 * c.links) f (behind_below c.links p z m n)));
      handed = λ e z. sym (each_fresh (λ s. s.buffers.waiting ≡ []) (λ a b k. refl) (end_port c e) (end_below c e z));
      numbered =
          λ e z. ap up_to
          (sym (each_fresh (λ s. s.outbox.injected ≡ 0) (λ a b k. refl) (end_port c e) (end_below c e z)));
      cuts = λ p z. record { frames = refl; rrdys = refl };
      room = tt;
    }

  -- a login sets the two ports of its link
  login_fresh : (c : Chain B) (k a b n : ℕ) → k < c.links → Fresh c → Fresh (logs_in M c k a b n)
  login_fresh c k a b n lt h = record {
    size =
        omega (
          arith,
          h.size,
          length-set c.ports (2 * k) (logged_in a b n),
          length-set
              (with_port c (2 * k) (logged_in a b n)).ports (2 * k + 1) (logged_in b a n),
        );
    linked = λ i z. go i z (cases_eq i k);
    idle = h.idle;
  }
    where
      first : Chain B
      first = with_port c (2 * k) (logged_in a b n)

      go : (i : ℕ) → i < c.links → (i ≡ k) ⊎ (i ≡ k → ⊥)
          → LoggedIn (port_of (logs_in M c k a b n) (2 * i)) (port_of (logs_in M c k a b n) (2 * i + 1))
      go i z (inl e) =
          subst
          (λ (v : ℕ). LoggedIn (port_of (logs_in M c k a b n) (2 * v))
          (port_of (logs_in M c k a b n) (2 * v + 1))) (sym e) (record {
            own = a;
            other = b;
            n = n;
            west_is =
                port_other (with_port c (2 * k) (logged_in a b n)) (2 * k + 1) (2 * k) (logged_in b a n) (omega arith)
                ∙ port_same c (2 * k) (logged_in a b n) (omega (arith, h.size, lt));
            east_is =
                port_same (with_port c (2 * k) (logged_in a b n)) (2 * k + 1) (logged_in b a n)
                (omega (arith, h.size, lt, length-set c.ports (2 * k) (logged_in a b n)));
          })
      go i z (inr m) = let g = h.linked i z in record {
        own = g.own;
        other = g.other;
        n = g.n;
        west_is =
            port_other (with_port c (2 * k) (logged_in a b n)) (2 * k + 1) (2 * i) (logged_in b a n) (omega arith)
            ∙ port_other c (2 * k) (2 * i) (logged_in a b n) (λ d. m (omega arith)) ∙ g.west_is;
        east_is =
            port_other (with_port c (2 * k) (logged_in a b n)) (2 * k + 1) (2 * i + 1) (logged_in b a n)
            (λ d. m (omega arith)) ∙ port_other c (2 * k) (2 * i + 1) (logged_in a b n) (omega arith) ∙ g.east_is;
      }

  -- a new cabling: a link for each two channels of an idle bank, or none
  no_items : (xs : List Item) → empty xs ≡ true → symbols xs ≡ []
  no_items xs e = grind arith

  all_idle_at : (b : B) (k d : ℕ) → all_idle M b k ≡ true → d < k → symbols (M.known b d).items ≡ []
  all_idle_at b zero d e lt = absurd (omega arith)
  all_idle_at b (suc k) d e lt =
      grind (arith, nat_tests, all_idle_at b k d, no_items (M.known b k).items, cases_eq d k)

  -- the links of a new cabling, and what they say of the bank
  pub record Cabling (b : B) (k : ℕ) : Type 0 where
    pub few : k ≤ 8
    pub idle : (d : ℕ) → d < 2 * k → symbols (M.known b d).items ≡ []

  cabled_idle : (b : B) → 0 < cabled_links M b
      → (all_idle M b (count M b) ≡ true) × (2 * cabled_links M b ≤ count M b)
  cabled_idle b some = grind (arith, nat_tests)

  pub cabling : (b : B) → Cabling b (cabled_links M b)
  cabling b = record {
    few = grind (arith, nat_tests);
    idle =
        λ d z.
        let h = cabled_idle b (omega arith) in
        all_idle_at b (count M b) d h.0 (omega (arith, h.1));
  }

  cabled_fresh : (b : B) → Fresh (cabled M b)
  cabled_fresh b = record {
    size = omega (arith, (cabling b).few, length-replicate 16 new_port);
    linked =
        λ i z. record { own = 1; other = 1; n = 0; west_is = new_ports 16 (2 * i); east_is = new_ports 16 (2 * i + 1) };
    idle = (cabling b).idle;
  }

  -- what holds in each phase
  abbrev pub Holding : Phase → Chain B → Log → Type 0
  Holding is_cabled c l = Fresh c × (l ≡ [])
  Holding is_running c l = Invariant M c l
  Holding is_draining c l = Invariant M c l

  moving : {ph : Phase} → Moving ph → (c d : Chain B) (l k : Log) → (Invariant M c l → Invariant M d k)
      → Holding ph c l → Holding ph d k
  moving runs c d l k f h = f h
  moving drains c d l k f h = f h

  pub always : (ph : Phase) (c : Chain B) (l : Log) → Holding ph c l → Invariant M c l
  always is_cabled c l h = subst (Invariant M c) (sym h.1) (fresh_invariant c h.0)
  always is_running c l h = h
  always is_draining c l h = h

  unless_kept : (r : Option Refusal) (c : Chain B) (t : Turn (Chain B)) (l : Log) → Invariant M c l
      → (r ≡ None → Kept M l t) → Kept M l (unless_refused r c t)
  unless_kept r c t l h f = unless (Kept M l) r c t (subst (Invariant M c) (sym (append-nil l)) h) f

  -- what an inject that is not refused has found
  pub inject_fits : (c : Chain B) (e : End) (room : ℕ) → inject_refusal M c e room ≡ None
      → (0 < c.links) × (length (port_of c (end_port c e)).outbox.frames < 32)
  inject_fits c e room z = grind (arith, nat_tests)

  no_links : (c : Chain B) (l : Log) → c.links ≡ 0 → AllMeetRoom (λ p. (port_of c p).buffers.all) [] l
      → Invariant M c l
  no_links c l e room = record {
    room = room;
    size = omega arith;
    loops = λ p q z f. absurd (omega arith);
    stocked = λ p z. absurd (omega arith);
    fed = λ v z. absurd (omega arith);
    passed_on = λ p q z m n f. absurd (omega arith);
    handed = λ v z. absurd (omega arith);
    numbered = λ v z. absurd (omega arith);
    cuts = λ p z. absurd (omega arith);
  }

  -- a collect is refused, or hands out the oldest frame at its end
  pub collect_cases : (P : Turn (Chain B) → Type 0) (c : Chain B) (e : End) (room : ℕ) → P (no_act c)
      → ((k : Frame) → 0 < c.links → head? (port_of c (end_port c e)).buffers.waiting ≡ Some k
      → P (collects_by M c e (Ok k)))
      → P (collects M c e room)
  collect_cases P c e room same out =
      go (eqb c.links 0) (head? (port_of c (end_port c e)).buffers.waiting) refl refl
    where
      go : (t : Bool) (o : Option Frame) → eqb c.links 0 ≡ t
          → head? (port_of c (end_port c e)).buffers.waiting ≡ o
          → P (collects_by M c e (cond t (Err refusal.NoLinks) (from_oldest M o room)))
      go true o z w = same
      go false None z w = same
      go false (Some k) z w =
          cond_both (ltb room call_bytes) (Err refusal.SheetFull) (Ok k)
          (λ (r : Result Frame Refusal). P (collects_by M c e r)) (λ u. same) (λ u. out k (grind (arith, nat_tests)) w)

  collect_after : (c : Chain B) (l : Log) (e : End) (room : ℕ) → Invariant M c l → Kept M l (collects M c e room)
  collect_after c l e room h =
      collect_cases (Kept M l) c e room (subst (Invariant M c) (sym (append-nil l)) h)
      (λ k some w. collect_kept M law c l e k (tail (port_of c (end_port c e)).buffers.waiting) h some
      (first_is (port_of c (end_port c e)).buffers.waiting k w))

  released_all : (s : Port) (k : ℕ) → (released s k).buffers.all ≡ s.buffers.all
  released_all s k = grind (arith, nat_tests)

  -- a release that is not refused is of a number handed out
  pub released_out : (c : Chain B) (e : End) (k room : ℕ) → release_refusal M c e k room ≡ None
      → among k (port_of c (end_port c e)).buffers.out ≡ true
  released_out c e k room z = grind (arith, nat_tests)

  release_after : (c : Chain B) (l : Log) (e : End) (k room : ℕ) → Invariant M c l
      → release_refusal M c e k room ≡ None → Kept M l (released_at M c e k)
  release_after c l e k room h z =
      ⊎_elim
      (λ (w : c.links ≡ 0). no_links (released_at M c e k).state (l ++ (released_at M c e k).events) w
      (rooms_kept (λ p. (port_of c p).buffers.all) (λ p. (port_of (released_at M c e k).state p).buffers.all) l
      (event.Frame Freed (end_port c e) (record { number = k }) ∷ [])
      (λ p. same_all c.ports (end_port c e) p (released (port_of c (end_port c e)) k)
      (released_all (port_of c (end_port c e)) k)) h.room (tt, tt)))
      (λ (n : c.links ≢ 0). release_kept M law c l e k h (omega (arith, n)) (released_out c e k room z))
      (cases_eq c.links 0)

  -- what a login that is not refused has asked
  pub login_fits : (c : Chain B) (k x y m n : ℕ) → login_refusal M c k x y m n ≡ None
      → (x ≤ 32) × (y ≤ 32) × (n ≤ 15) × (k < c.links)
  login_fits c k x y m n z = grind (arith, nat_tests)

  login_after : (c : Chain B) (k x y m n : ℕ) → Fresh c → Fresh (logins M c k x y m n).state
  login_after c k x y m n h =
      unless (λ t. Fresh t.state) (login_refusal M c k x y m n) c (no_act (logs_in M c k x y n)) h
      (λ e. login_fresh c k x y n (login_fits c k x y m n e).3 h)

  -- every run stays within its bounds
  end_bounded : (c : Chain B) (p : ℕ) (s : Port) → Bounded c → Within c.tick c.tick s → Bounded (with_port c p s)
  end_bounded c p s h w = record {
    links = h.links;
    tick = h.tick;
    ports = with_within c.tick c.tick c p s w h.ports;
  }

  pub step_early : (c : Chain B) (room : ℕ) → Bounded c → step_refusal M c room ≡ None → c.tick < last_tick
  step_early c room h z = grind (arith, nat_tests)

  pub run_bounded : {b : B} {ph : Phase} {c : Chain B} {l : Log} → Run M b ph c l → Bounded c
  run_bounded {b} new = record {
    links = (cabling b).few;
    tick = omega arith;
    ports = λ q. subst (Within 0 0) (sym (new_ports 16 q)) (new_port_within 0 0);
  }
  run_bounded (login {c = c} k x y m n r) =
      unless (λ t. Bounded t.state) (login_refusal M c k x y m n) c (no_act (logs_in M c k x y n)) (run_bounded r)
      (λ z. let f = login_fits c k x y m n z in
      end_bounded (with_port c (2 * k) (logged_in x y n)) (2 * k + 1) (logged_in y x n)
      (end_bounded c (2 * k) (logged_in x y n) (run_bounded r)
      (fresh_within c.tick c.tick x y n f.0 f.1 f.2))
      (fresh_within c.tick c.tick y x n f.1 f.0 f.2))
  run_bounded (start r) = run_bounded r
  run_bounded (step {c = c} m room r) =
      unless (λ t. Bounded t.state) (step_refusal M c room) c (stepped M c) (run_bounded r)
      (λ z. step_bounded M c (step_early c room (run_bounded r) z) (run_bounded r))
  run_bounded (inject {c = c} e room r) =
      unless (λ t. Bounded t.state) (inject_refusal M c e room) c (injected M c e) (run_bounded r)
      (λ z. end_bounded c (end_port c e) (injected_at (port_of c (end_port c e))) (run_bounded r)
      (injected_within c.tick c.tick (port_of c (end_port c e)) ((run_bounded r).ports (end_port c e))
      (inject_fits c e room z).1))
  run_bounded (collect {c = c} m e room r) =
      collect_cases (λ t. Bounded t.state) c e room (run_bounded r)
      (λ k some w. end_bounded c (end_port c e) (handed_out (port_of c (end_port c e))) (run_bounded r)
      (handed_within c.tick c.tick (port_of c (end_port c e)) ((run_bounded r).ports (end_port c e))))
  run_bounded (release {c = c} m e k room r) =
      unless (λ t. Bounded t.state) (release_refusal M c e k room) c (released_at M c e k) (run_bounded r)
      (λ z. end_bounded c (end_port c e) (released (port_of c (end_port c e)) k) (run_bounded r)
      (released_within c.tick c.tick (port_of c (end_port c e)) ((run_bounded r).ports (end_port c e)) k))
  run_bounded (drain r) = run_bounded r

  few_injected : (c : Chain B) (p : ℕ) → Bounded c → (port_of c p).outbox.injected < 4294967295
  few_injected c p h = omega (arith, h.ports p, h.tick)

  pub holding : {b : B} {ph : Phase} {c : Chain B} {l : Log} → Run M b ph c l → Holding ph c l
  holding {b} new = (cabled_fresh b, refl)
  holding (login {c = c} k x y m n r) = (login_after c k x y m n (holding r).0, (holding r).1)
  holding (start {c = c} {l = l} r) = always is_cabled c l (holding r)
  holding (inject {c = c} {l = l} e room r) =
      unless_kept (inject_refusal M c e room) c (injected M c e) l (holding r)
      (λ z. inject_kept M law c l e (holding r) (inject_fits c e room z).0
      (few_injected c (end_port c e) (run_bounded r)))
  holding (step {c = c} {l = l} m room r) =
      moving m c _ l _ (λ h. unless_kept (step_refusal M c room) c (stepped M c) l h (λ z. step_kept M law c l h))
      (holding r)
  holding (collect {c = c} {l = l} m e room r) = moving m c _ l _ (λ h. collect_after c l e room h) (holding r)
  holding (release {c = c} {l = l} m e k room r) =
      moving m c _ l _
      (λ h. unless_kept (release_refusal M c e k room) c (released_at M c e k) l h
      (λ z. release_after c l e k room h z)) (holding r)
  holding (drain r) = holding r

  -- the invariant of every run
  pub run_invariant : (b : B) (ph : Phase) (c : Chain B) (l : Log) → Run M b ph c l → Invariant M c l
  run_invariant b ph c l r = always ph c l (holding r)

  -- each tick has its record
  unless_ticks : (r : Option Refusal) (c : Chain B) (t : Turn (Chain B)) (l : Log) → c.tick ≡ ticks l
      → (r ≡ None → t.state.tick ≡ ticks l + ticks t.events)
      → (unless_refused r c t).state.tick ≡ ticks (l ++ (unless_refused r c t).events)
  unless_ticks r c t l h f =
      unless (λ t. t.state.tick ≡ ticks (l ++ t.events)) r c t (h ∙ ap ticks (sym (append-nil l)))
      (λ e. f e ∙ sym (total-append tick_in l t.events))

  pub run_ticks : {b : B} {ph : Phase} {c : Chain B} {l : Log} → Run M b ph c l → c.tick ≡ ticks l
  run_ticks new = refl
  run_ticks (login {c = c} k x y m n r) =
      unless (λ t. t.state.tick ≡ c.tick) (login_refusal M c k x y m n) c (no_act (logs_in M c k x y n)) refl
      (λ e. refl) ∙ run_ticks r
  run_ticks (start r) = run_ticks r
  run_ticks (step {c = c} {l = l} m room r) =
      unless_ticks (step_refusal M c room) c (stepped M c) l (run_ticks r)
      (λ z. omega (arith, run_ticks r, step_ticks M c, stepped_tick M c))
  run_ticks (inject {c = c} {l = l} e room r) =
      unless_ticks (inject_refusal M c e room) c (injected M c e) l (run_ticks r) (λ z. omega (arith, run_ticks r))
  run_ticks (collect {c = c} {l = l} m e room r) =
      collect_cases (λ t. t.state.tick ≡ ticks (l ++ t.events)) c e room (run_ticks r ∙ ap ticks (sym (append-nil l)))
      (λ k some w. omega (arith, run_ticks r, total-append tick_in l (collects_by M c e (Ok k)).events))
  run_ticks (release {c = c} {l = l} m e k room r) =
      unless_ticks (release_refusal M c e k room) c (released_at M c e k) l (run_ticks r)
      (λ z. omega (arith, run_ticks r))
  run_ticks (drain r) = run_ticks r
