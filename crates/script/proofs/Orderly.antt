-- The commands of a script that is not at fault stand in order.
use Rattle.std.proofs.Common.{◌≡◌, ℕ, zero, suc, ◌+◌, ◌<◌, ◌≤◌, Bool, true, false, cond, not, ◌&&◌, eqb, ltb, leb, ◌≢◌}
use Rattle.std.proofs.Common.{List, [], ◌∷◌, length, get_or, set, replicate, Some, None, Ok, Err, Option, Result, sym}
use Rattle.std.proofs.Common.{refl, ap, ◌∙◌, subst, arith, length-set, get_or-set_other, get_or-set_same}
use Rattle.std.proofs.ByRecursion.{All-weaker}
use Rattle.std.proofs.lemmas.Bool.{eqb-true, eqb-false}
use Rattle.std.proofs.lemmas.Bool.Decides.{nat_tests}
use Rattle.std.specs.List.{AllByRecursion}
use Rattle.script.specs.declared.command.Command.{Command}
use Rattle.script.specs.declared.command.Command.TheVariants.{Chain, Login, Lose, Inject, Collect, Step, Drain, Page}
use Rattle.script.specs.declared.command.Placed.{Placed}
use Rattle.script.specs.declared.fault.Fault.{Fault}
use Rattle.script.specs.declared.fault.Place.{Place}
use Rattle.script.specs.declared.fault.Refusal.{Refusal}
use Rattle.script.specs.declared.fault.Refusal.TheVariants.{TooManyLoses, LongLine}
use Rattle.script.specs.declared.line.Read.{Read}
use Rattle.script.specs.declared.order.Progress.{Progress}
use Rattle.script.specs.declared.order.Stage.{Stage}
use Rattle.script.specs.declared.order.Stage.TheVariants.{Bare, Cabled, Running, Draining}
use Rattle.script.specs.Faults.{then}
use Rattle.script.specs.Judged.{is_chain, runs, is_drain, follows, loses_on, loses_for, Chained, Followed, Orderly}
use Rattle.script.specs.Line.{command_of, ordered_by, ordered, read_tokens, read_line}
use Rattle.script.specs.Order.{cabled, prepared, injected, run}
use Rattle.script.specs.Order.{drained, stage_after, nothing_read}
use Rattle.script.specs.Order.{noted, at_stage?, after}
use Rattle.script.specs.Script.{before, commands_by, progress_by, commands_from}
use Rattle.script.specs.Tokens.{Seen, line_tokens}

-- commands that are accepted one after another
abbrev Accepted : Progress → List Placed → Type 0
Accepted p [] = Unit {0}
Accepted p (c ∷ cs) = (q : Progress) × ((after p c.command ≡ Ok q) × Accepted q cs)

-- a line's command was accepted
accepted_by : (q : Result Progress Refusal) (p : Progress) (c : Command) (place : Place) (x : Read) → after p c ≡ q
    → ordered_by q c place ≡ Ok x → after p x.placed.command ≡ Ok x.progress
accepted_by (Ok q) p c place x e h =
    let same : record { placed = record { command = c; place = place }; progress = q } ≡ x = cc in
    subst (λ (y : Read). after p y.placed.command ≡ Ok y.progress) same e
accepted_by (Err r) p c place x e h = absurd (cc)

accepted_command : (r : Result Command Fault) (p : Progress) (place : Place) (x : Read)
    → then r (λ c. ordered_by (after p c) c place) ≡ Ok x → after p x.placed.command ≡ Ok x.progress
accepted_command (Ok c) p place x h = accepted_by (after p c) p c place x refl h
accepted_command (Err e) p place x h = absurd (cc)

some_read : (r : Result Read Fault) (x : Read) → then r (λ y. Ok (Some y)) ≡ Ok (Some x) → r ≡ Ok x
some_read (Ok y) x h = cc
some_read (Err e) x h = absurd (cc)

accepted_tokens : (p : Progress) (ts : List Seen) (x : Read) → read_tokens p ts ≡ Ok (Some x)
    → after p x.placed.command ≡ Ok x.progress
accepted_tokens p [] x h = absurd (cc)
accepted_tokens p (t ∷ ts) x h =
    accepted_command (command_of p.directions t ts) p t.place x (some_read (ordered p t ts) x h)

accepted_line_by : (v : Bool) (f : Fault) (p : Progress) (ts : List Seen) (x : Read)
    → cond v (Err f) (read_tokens p ts) ≡ Ok (Some x) → after p x.placed.command ≡ Ok x.progress
accepted_line_by true f p ts x h = absurd (cc)
accepted_line_by false f p ts x h = accepted_tokens p ts x h

accepted_line : (k : ℕ) (p : Progress) (bs : List ℕ) (x : Read) → read_line k p bs ≡ Ok (Some x)
    → after p x.placed.command ≡ Ok x.progress
accepted_line k p bs x h =
    accepted_line_by (ltb 80 (length bs)) (record { refusal = LongLine; place = record { line = k; byte = 81 } }) p
    (line_tokens k bs) x h

before_ok : (c : Placed) (r : Result (List Placed) Fault) (cs : List Placed) → before c r ≡ Ok cs
    → (ds : List Placed) × ((r ≡ Ok ds) × (c ∷ ds ≡ cs))
before_ok c (Ok ds) cs h = (ds, (refl, cc))
before_ok c (Err e) cs h = absurd (cc)

accepted_from_by : (n : ℕ) (p : Progress) (l : List ℕ) (ls : List (List ℕ)) (cs : List Placed)
    (r : Result (Option Read) Fault) → read_line (n + 1) p l ≡ r
    → then r (λ x. commands_by x (commands_from (n + 1) (progress_by p x) ls)) ≡ Ok cs
    → ((q : Progress) (ds : List Placed) → commands_from (n + 1) q ls ≡ Ok ds → Accepted q ds) → Accepted p cs
accepted_from_by n p l ls cs (Err e) is h more = absurd (cc)
accepted_from_by n p l ls cs (Ok None) is h more = more p cs h
accepted_from_by n p l ls cs (Ok (Some x)) is h more =
    let b = before_ok x.placed (commands_from (n + 1) x.progress ls) cs h in
    subst (Accepted p) b.1.1 (x.progress, (accepted_line (n + 1) p l x is, more x.progress b.0 b.1.0))

accepted_from : (n : ℕ) (p : Progress) (ls : List (List ℕ)) (cs : List Placed) → commands_from n p ls ≡ Ok cs
    → Accepted p cs
accepted_from n p [] cs h = let none : [] ≡ cs = cc in subst (Accepted p) none tt
accepted_from n p (l ∷ ls) cs h =
    accepted_from_by n p l ls cs (read_line (n + 1) p l) refl h (λ q ds e. accepted_from (n + 1) q ls ds e)

-- how far a stage is, and how far the stage before and after a command at most and at least are
abbrev rank : Stage → ℕ
rank Bare = 0
rank Cabled = 1
rank Running = 2
rank Draining = 3

abbrev limit : Command → ℕ
limit (Chain links) = 1
limit (Login link west east m n) = 2
limit (Lose d kind first count) = 2
limit (Inject end count) = 3
limit (Collect end count) = 4
limit (Step count) = 4
limit Drain = 3
limit Page = 4

abbrev reach : Command → ℕ
reach c = cond (is_drain c) 3 (cond (runs c) 2 1)

abbrev Moved : ℕ → ℕ → Stage → Stage → Type 0
Moved most least s t = (rank s < most) × (rank s ≤ rank t) × (least ≤ rank t)

abbrev moves : ℕ → ℕ → Stage → Option Stage → Bool
moves most least s None = true
moves most least s (Some t) = ltb (rank s) most && (leb (rank s) (rank t) && leb least (rank t))

moved_at : (most least : ℕ) (s : Stage) (o : Option Stage) (t : Stage) → moves most least s o ≡ true → o ≡ Some t
    → Moved most least s t
moved_at most least s None t e h = absurd (cc)
moved_at most least s (Some u) t e h =
    let same : u ≡ t = cc in subst (Moved most least s) same (grind (arith, nat_tests))

-- a step, by what it does at each stage
moved_by : (most least : ℕ) (step : Stage → Option Stage) (s t : Stage)
    → (moves most least Bare (step Bare) ≡ true) × (moves most least Cabled (step Cabled) ≡ true)
    × (moves most least Running (step Running) ≡ true) × (moves most least Draining (step Draining) ≡ true)
    → step s ≡ Some t → Moved most least s t
moved_by most least step Bare t e h = moved_at most least Bare (step Bare) t e.0 h
moved_by most least step Cabled t e h = moved_at most least Cabled (step Cabled) t e.1 h
moved_by most least step Running t e h = moved_at most least Running (step Running) t e.2 h
moved_by most least step Draining t e h = moved_at most least Draining (step Draining) t e.3 h

moved : (c : Command) (s t : Stage) → stage_after s c ≡ Some t → Moved (limit c) (reach c) s t
moved (Chain links) s t h = moved_by 1 1 cabled s t (refl, refl, refl, refl) h
moved (Login link west east m n) s t h = moved_by 2 1 prepared s t (refl, refl, refl, refl) h
moved (Lose d kind first count) s t h = moved_by 2 1 prepared s t (refl, refl, refl, refl) h
moved (Inject end count) s t h = moved_by 3 2 injected s t (refl, refl, refl, refl) h
moved (Collect end count) s t h = moved_by 4 2 run s t (refl, refl, refl, refl) h
moved (Step count) s t h = moved_by 4 2 run s t (refl, refl, refl, refl) h
moved Drain s t h = moved_by 3 3 drained s t (refl, refl, refl, refl) h
moved Page s t h = moved_by 4 2 run s t (refl, refl, refl, refl) h

-- nothing but a chain line stands first
first_chain : (c : Command) (t : Stage) → stage_after Bare c ≡ Some t → is_chain c ≡ true
first_chain (Chain links) t h = refl
first_chain (Login link west east m n) t h = absurd (cc)
first_chain (Lose d kind first count) t h = absurd (cc)
first_chain (Inject end count) t h = absurd (cc)
first_chain (Collect end count) t h = absurd (cc)
first_chain (Step count) t h = absurd (cc)
first_chain Drain t h = absurd (cc)
first_chain Page t h = absurd (cc)

reach_by : (drain running : Bool)
    → (1 ≤ cond drain 3 (cond running 2 1)) × (cond drain 3 (cond running 2 1) < 2 → running ≡ false)
    × (cond drain 3 (cond running 2 1) < 3 → drain ≡ false)
reach_by drain running = (grind (arith, nat_tests), λ h. grind (arith, nat_tests), λ h. grind (arith, nat_tests))

follow_by : (a d : Command) → reach a < limit d → follows a d ≡ true
follow_by a (Chain links) h = let some = (reach_by (is_drain a) (runs a)).0 in absurd (omega arith)
follow_by a (Login link west east m n) h = ap not ((reach_by (is_drain a) (runs a)).1 h)
follow_by a (Lose d kind first count) h = ap not ((reach_by (is_drain a) (runs a)).1 h)
follow_by a (Inject end count) h = ap not ((reach_by (is_drain a) (runs a)).2 h)
follow_by a (Collect end count) h = refl
follow_by a (Step count) h = refl
follow_by a Drain h = ap not ((reach_by (is_drain a) (runs a)).2 h)
follow_by a Page h = refl

-- what an accepted command leaves: its stage, and one more lose where it is one
abbrev ok_stage : Result Progress Refusal → Stage
ok_stage (Ok q) = q.stage
ok_stage (Err r) = Bare

abbrev ok_loses : Result Progress Refusal → List ℕ
ok_loses (Ok q) = q.loses
ok_loses (Err r) = []

abbrev Low : List ℕ → Type 0
Low xs = (length xs ≡ 6) × ((d : ℕ) → get_or xs d 0 ≤ 16)

abbrev one_on : ℕ → Command → ℕ
one_on d c = cond (loses_on d c) 1 0

-- the counts after a command are those before it, with one more for its direction if it is a lose
abbrev Counted : Command → List ℕ → List ℕ → Type 0
Counted c xs ys = Low ys × ((d : ℕ) → get_or xs d 0 + one_on d c ≡ get_or ys d 0)

bump_at : (xs : List ℕ) (e d : ℕ) (v : Bool) → eqb e d ≡ v → length xs ≡ 6 → e < 6 → get_or xs e 0 < 16
    → get_or xs d 0 ≤ 16
    → (get_or xs d 0 + cond v 1 0 ≡ get_or (set xs e (get_or xs e 0 + 1)) d 0)
    × (get_or (set xs e (get_or xs e 0 + 1)) d 0 ≤ 16)
bump_at xs e d true is six small few low =
    let same : e ≡ d = eqb-true e d is in
    let new : get_or (set xs e (get_or xs e 0 + 1)) e 0 ≡ get_or xs e 0 + 1 =
    get_or-set_same xs e (get_or xs e 0 + 1) 0 (omega arith) in
    let at : get_or (set xs e (get_or xs e 0 + 1)) d 0 ≡ get_or xs d 0 + 1 =
    subst (λ (k : ℕ). get_or (set xs e (get_or xs e 0 + 1)) k 0 ≡ get_or xs k 0 + 1) same new in
    let few' : get_or xs d 0 < 16 = subst (λ (k : ℕ). get_or xs k 0 < 16) same few in
    (sym at, omega arith)
bump_at xs e d false is six small few low =
    let other : d ≢ e = λ q. eqb-false e d is (sym q) in
    let at : get_or (set xs e (get_or xs e 0 + 1)) d 0 ≡ get_or xs d 0 =
    get_or-set_other xs e d (get_or xs e 0 + 1) 0 other in
    (omega arith, omega arith)

module _ (p q : Progress) (low : Low p.loses) where
  kept : (c : Command) → ((d : ℕ) → loses_on d c ≡ false) → p.loses ≡ q.loses → Counted c p.loses q.loses
  kept c no-lose e = (
    subst Low e low,
    λ d. let none : one_on d c ≡ 0 = ap (λ (v : Bool). cond v 1 0) (no-lose d) in
        let same : get_or p.loses d 0 ≡ get_or q.loses d 0 = ap (λ (xs : List ℕ). get_or xs d 0) e in omega arith,
  )

  one_more : (e : ℕ) (t : Stage) (v : Bool) → (ltb e 6 && ltb (get_or p.loses e 0) 16) ≡ v
      → cond v
      (Ok (record { stage = t; directions = p.directions; loses = set p.loses e (get_or p.loses e 0 + 1) }))
      (Err TooManyLoses)
      ≡ Ok q
      → (t ≡ q.stage) × ((Low q.loses) × ((d : ℕ) → get_or p.loses d 0 + cond (eqb e d) 1 0 ≡ get_or q.loses d 0))
  one_more e t true is h =
      let small : e < 6 = grind (arith, nat_tests) in
      let few : get_or p.loses e 0 < 16 = grind (arith, nat_tests) in
      let bumped = set p.loses e (get_or p.loses e 0 + 1) in
      let loses : bumped ≡ q.loses = ap ok_loses h in
      let at = λ (d : ℕ). bump_at p.loses e d (eqb e d) refl low.0 small few (low.1 d) in (
        ap ok_stage h,
        (
          subst Low loses (length-set p.loses e (get_or p.loses e 0 + 1) ∙ low.0, λ d. (at d).1),
          λ d. (at d).0 ∙ ap (λ (xs : List ℕ). get_or xs d 0) loses,
        ),
      )
  one_more e t false is h = absurd (cc)

  left_by : (c : Command) (t : Stage) → noted c t p ≡ Ok q → (t ≡ q.stage) × Counted c p.loses q.loses
  left_by (Chain links) t h = (ap ok_stage h, kept (Chain links) (λ d. refl) (ap ok_loses h))
  left_by (Login link west east m n) t h = (ap ok_stage h, kept (Login link west east m n) (λ d. refl) (ap ok_loses h))
  left_by (Lose d kind first count) t h = one_more d t (ltb d 6 && ltb (get_or p.loses d 0) 16) refl h
  left_by (Inject end count) t h = (ap ok_stage h, kept (Inject end count) (λ d. refl) (ap ok_loses h))
  left_by (Collect end count) t h = (ap ok_stage h, kept (Collect end count) (λ d. refl) (ap ok_loses h))
  left_by (Step count) t h = (ap ok_stage h, kept (Step count) (λ d. refl) (ap ok_loses h))
  left_by Drain t h = (ap ok_stage h, kept Drain (λ d. refl) (ap ok_loses h))
  left_by Page t h = (ap ok_stage h, kept Page (λ d. refl) (ap ok_loses h))

  accepted_at : (c : Command) (o : Option Stage) → stage_after p.stage c ≡ o → at_stage? o c p ≡ Ok q
      → (stage_after p.stage c ≡ Some q.stage) × Counted c p.loses q.loses
  accepted_at c None is h = absurd (cc)
  accepted_at c (Some t) is h = let l = left_by c t h in (is ∙ ap Some l.0, l.1)

  accepted : (c : Command) → after p c ≡ Ok q
      → (stage_after p.stage c ≡ Some q.stage) × Counted c p.loses q.loses
  accepted c h = accepted_at c (stage_after p.stage c) refl h

-- no later command has a limit below the stage that was reached
ahead_of : (p : Progress) (cs : List Placed) → Low p.loses → Accepted p cs
    → AllByRecursion (λ d. rank p.stage < limit d.command) cs
ahead_of p [] low h = tt
ahead_of p (c ∷ cs) low (q, (e, more)) =
    let a = accepted p q low c.command e in
    let m = moved c.command p.stage q.stage a.0 in (
      m.0,
      All-weaker (λ d. rank q.stage < limit d.command) (λ d. rank p.stage < limit d.command)
          (λ d lt. omega (arith, m.1)) cs (ahead_of q cs a.1.0 more),
    )

followed_by : (p : Progress) (cs : List Placed) → Low p.loses → Accepted p cs → Followed cs
followed_by p [] low h = tt
followed_by p (c ∷ cs) low (q, (e, more)) =
    let a = accepted p q low c.command e in
    let m = moved c.command p.stage q.stage a.0 in (
      All-weaker (λ d. rank q.stage < limit d.command) (λ d. follows c.command d.command ≡ true)
          (λ d lt. follow_by c.command d.command (omega (arith, m.2))) cs (ahead_of q cs a.1.0 more),
      followed_by q cs a.1.0 more,
    )

loses_by : (p : Progress) (cs : List Placed) → Low p.loses → Accepted p cs → (d : ℕ)
    → get_or p.loses d 0 + loses_for d cs ≤ 16
loses_by p [] low h d = omega (arith, low.1 d)
loses_by p (c ∷ cs) low (q, (e, more)) d =
    let a = accepted p q low c.command e in
    omega (arith, a.1.1 d, loses_by q cs a.1.0 more d)

chained_by : (cs : List Placed) → Low nothing_read.loses → Accepted nothing_read cs → Chained cs
chained_by [] low h = tt
chained_by (c ∷ cs) low (q, (e, more)) =
    first_chain c.command q.stage (accepted nothing_read q low c.command e).0

none_yet : (k d : ℕ) → get_or (replicate k 0) d 0 ≤ 16
none_yet zero d = omega arith
none_yet (suc k) zero = omega arith
none_yet (suc k) (suc d) = none_yet k d

pub orderly : (ls : List (List ℕ)) (cs : List Placed) → commands_from 0 nothing_read ls ≡ Ok cs → Orderly cs
orderly ls cs h =
    let low : Low nothing_read.loses = (refl, none_yet 6) in
    let run = accepted_from 0 nothing_read ls cs h in
    record {
      chained = chained_by cs low run;
      followed = followed_by nothing_read cs low run;
      loses = λ d. let le = loses_by nothing_read cs low run d in omega arith;
    }
