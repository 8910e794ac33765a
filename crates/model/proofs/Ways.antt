-- The frames of a way: none is gained or gone, and none passes another.
use Rattle.std.proofs.Common.{◌≡◌, ℕ, zero, suc, ◌+◌, ◌-◌, ◌*◌, ◌<◌, ◌≤◌, cond, eqb, ◌≢◌, ◌⊎◌, List, [], ◌∷◌}
use Rattle.std.proofs.Common.{◌++◌, sym, refl, ap, ◌∙◌, subst, arith}
use Rattle.std.proofs.lemmas.Bool.Decides.{nat_tests}
use Rattle.symbol.specs.declared.Frame.{Frame}
use Rattle.symbol.specs.declared.Symbol.{Symbol}
use Rattle.symbol.specs.declared.Symbol.TheVariants as symbol
use Rattle.eventlog.specs.declared.event.Event.{Event}
use Rattle.bank.specs.Bank.{BankCalls}
use Rattle.symbol.specs.declared.end.End.{End}
use Rattle.model.specs.Chain.{Chain, behind, port_of, end_port, on, opposite}
use Rattle.model.specs.Run.{Log}
use Rattle.model.specs.Figures.{lost_frames, injected, collected, records, frames_among}
use Rattle.model.specs.OnePlace.{numbers, up_to, times, InOrderOf, nothing, left_out, next, over_links, hop, taker}
use Rattle.model.specs.OnePlace.{at_hop, places}
use Rattle.model.proofs.Accounts.{Account, noted, noted_all, account, no_account}
use Rattle.model.proofs.Told.{frames-append, frames_same, told}
use Rattle.model.proofs.Places.{facing_is, behind_is}
use Rattle.model.proofs.Kept.{Invariant}

times-append : (k : ℕ) (xs ys : List Frame) → times k (xs ++ ys) ≡ times k xs + times k ys
times-append k [] ys = omega arith
times-append k (x ∷ xs) ys = omega (arith, times-append k xs ys)

in_order_none : (ys : List Frame) → InOrderOf [] ys
in_order_none [] = nothing
in_order_none (y ∷ ys) = left_out (in_order_none ys)

in_order_front : (xs ys : List Frame) → InOrderOf xs (xs ++ ys)
in_order_front [] ys = in_order_none ys
in_order_front (x ∷ xs) ys = next (in_order_front xs ys)

in_order_trans : {xs ys zs : List Frame} → InOrderOf xs ys → InOrderOf ys zs → InOrderOf xs zs
in_order_trans h nothing = h
in_order_trans h (left_out k) = left_out (in_order_trans h k)
in_order_trans (left_out h) (next k) = left_out (in_order_trans h k)
in_order_trans (next h) (next k) = next (in_order_trans h k)

in_order_both : (k : Frame) {xs ys : List Frame} → InOrderOf xs ys → InOrderOf (xs ++ (k ∷ [])) (ys ++ (k ∷ []))
in_order_both k nothing = next nothing
in_order_both k (left_out h) = left_out (in_order_both k h)
in_order_both k (next h) = next (in_order_both k h)

in_order_more : (k : Frame) {xs ys : List Frame} → InOrderOf xs ys → InOrderOf xs (ys ++ (k ∷ []))
in_order_more k nothing = left_out nothing
in_order_more k (left_out h) = left_out (in_order_more k h)
in_order_more k (next h) = next (in_order_more k h)

-- the frames taken are those got and those lost
pub record Taken (taken : List Symbol) (got lost : List Frame) : Type 0 where
  pub each : (k : ℕ) → times k (frames_among taken) ≡ times k got + times k lost
  pub in_order : InOrderOf got (frames_among taken)

module _ (taken : List Symbol) (got lost : List Frame) (h : Taken taken got lost) where
  no_frame : (y : Symbol) → frames_among (y ∷ []) ≡ [] → Taken (taken ++ (y ∷ [])) got lost
  no_frame y e = grind (arith, h, frames_same taken y e)

  more_taken : (f : Frame) (k : ℕ)
      → times k (frames_among (taken ++ (symbol.Frame f ∷ []))) ≡ times k got + times k lost + times k (f ∷ [])
  more_taken f k =
      grind (arith, frames-append taken (symbol.Frame f ∷ []), times-append k (frames_among taken) (f ∷ []), h.each k)

  frame_got : (f : Frame) → Taken (taken ++ (symbol.Frame f ∷ [])) (got ++ (f ∷ [])) lost
  frame_got f =
      grind (
        arith,
        h,
        more_taken f,
        times-append,
        frames-append taken (symbol.Frame f ∷ []),
        in_order_both f h.in_order,
      )

  frame_lost : (f : Frame) → Taken (taken ++ (symbol.Frame f ∷ [])) got (lost ++ (f ∷ []))
  frame_lost f = record {
    each = λ k. omega (arith, more_taken f k, times-append k lost (f ∷ []));
    in_order =
        subst (InOrderOf got) (sym (frames-append taken (symbol.Frame f ∷ []))) (in_order_more f h.in_order);
  }

abbrev TakenBy : Account → Type 0
TakenBy a = Taken a.taken a.got a.lost

taken_kept : (a : Account) (e : Event) → TakenBy a → TakenBy (noted a e)
taken_kept a e h =
    grind (
      arith,
      frame_got a.taken a.got a.lost h,
      frame_lost a.taken a.got a.lost h,
      no_frame a.taken a.got a.lost h,
    )

taken_all : (a : Account) (l : Log) → TakenBy a → TakenBy (noted_all a l)
taken_all a [] h = h
taken_all a (e ∷ es) h = taken_all (noted a e) es (taken_kept a e h)

pub taken_of : (p : ℕ) (l : Log) → TakenBy (account p l)
taken_of p l = taken_all no_account (records p l) (record { each = λ k. refl; in_order = nothing })

-- how often a number is in a list
abbrev pub how_often : ℕ → List ℕ → ℕ
how_often k [] = 0
how_often k (x ∷ xs) = cond (eqb k x) 1 0 + how_often k xs

pub times_often : (k : ℕ) (fs : List Frame) → times k fs ≡ how_often k (numbers fs)
times_often k [] = refl
times_often k (f ∷ fs) = ap (λ (z : ℕ). cond (eqb k f.number) 1 0 + z) (times_often k fs)

how_often-append : (k : ℕ) (xs ys : List ℕ) → how_often k (xs ++ ys) ≡ how_often k xs + how_often k ys
how_often-append k [] ys = omega arith
how_often-append k (x ∷ xs) ys = omega (arith, how_often-append k xs ys)

-- each number from 1 to n is once among them
pub up_to_out : (n k : ℕ) → (k ≡ 0) ⊎ (n < k) → how_often k (up_to n) ≡ 0
up_to_out zero k h = refl
up_to_out (suc n) k h = grind (arith, nat_tests, how_often-append k (up_to n) (suc n ∷ []), up_to_out n k)

pub up_to_in : (n k : ℕ) → 0 < k → k ≤ n → how_often k (up_to n) ≡ 1
up_to_in zero k h e = absurd (omega arith)
up_to_in (suc n) k h e =
    grind (arith, nat_tests, how_often-append k (up_to n) (suc n ∷ []), up_to_in n k, up_to_out n k)

module _ {B : Type 0} (M : BankCalls B) (c : Chain B) where
  hop_first : (e : End) → hop c e 0 ≡ end_port c e
  hop_first e = grind arith

  pub hop_below : (e : End) (i : ℕ) → i < c.links → hop c e i < 2 * c.links
  hop_below e i h = grind arith

  hop_inner : (e : End) (i : ℕ) → suc i < c.links → (hop c e (suc i) ≢ 0) × (hop c e (suc i) ≢ 2 * c.links - 1)
  hop_inner e i h = grind arith

  hop_next : (e : End) (i : ℕ) → suc i < c.links → behind (hop c e (suc i)) ≡ taker c e i
  hop_next e i h = grind (arith, behind_is, facing_is)

  hop_last : (e : End) (i : ℕ) → suc i ≡ c.links → taker c e i ≡ end_port c (opposite e)
  hop_last e i h = grind (arith, facing_is)

  module _ (l : Log) (h : Invariant M c l) (some : 0 < c.links) (e : End) where
    -- what was put on the i-th direction is taken or on it
    put_is : (i : ℕ) → i < c.links
        → frames_among (account (hop c e i) l).puts
        ≡ frames_among (account (taker c e i) l).taken ++ frames_among (on M c (hop c e i))
    put_is i lt = ap frames_among (h.loops (hop c e i) (taker c e i) (hop_below e i lt) refl).order
        ∙ frames-append (account (taker c e i) l).taken (on M c (hop c e i))

    put_times : (i k : ℕ) → i < c.links → times k (frames_among (account (hop c e i) l).puts)
        ≡ times k (account (taker c e i) l).got + times k (lost_frames (taker c e i) l) + times k
        (frames_among (on M c (hop c e i)))
    put_times i k lt =
        grind (
          arith,
          put_is i lt,
          times-append k (frames_among (account (taker c e i) l).taken) (frames_among (on M c (hop c e i))),
          (taken_of (taker c e i) l).each k,
          told (taker c e i) l,
        )

    -- the first direction is fed by the outbox, each other by the port before it
    first_is : injected (end_port c e) l
        ≡ frames_among (account (hop c e 0) l).puts ++ (port_of c (end_port c e)).outbox.frames
    first_is = sym (told (end_port c e) l).injected_are ∙ h.fed e some
        ∙ ap {B = List Frame} (λ p. frames_among (account p l).puts ++ (port_of c (end_port c e)).outbox.frames)
        (sym (hop_first e))

    next_is : (i : ℕ) → suc i < c.links
        → (account (taker c e i) l).got
        ≡ frames_among (account (hop c e (suc i)) l).puts ++ (port_of c (taker c e i)).buffers.waiting
    next_is i lt =
        h.passed_on (hop c e (suc i)) (taker c e i) (hop_below e (suc i) lt) (hop_inner e i lt).0
        (hop_inner e i lt).1 (hop_next e i lt)

    last_is : (i : ℕ) → suc i ≡ c.links
        → (account (taker c e i) l).got
        ≡ collected (end_port c (opposite e)) l ++ (port_of c (taker c e i)).buffers.waiting
    last_is i z =
        subst (λ (p : ℕ). (account p l).got ≡ collected (end_port c (opposite e)) l ++ (port_of c p).buffers.waiting)
        (sym (hop_last e i z))
        (h.handed (opposite e) some
        ∙ ap {B = List Frame} (λ fs. fs ++ (port_of c (end_port c (opposite e))).buffers.waiting)
        (told (end_port c (opposite e)) l).collected_are)

    -- where the injected frames are, as far as the i-th direction
    reach : (i : ℕ) → i < c.links → (k : ℕ) → times k (injected (end_port c e) l)
        ≡ times k (port_of c (end_port c e)).outbox.frames + over_links (at_hop M c l e k) i
        + times k (frames_among (on M c (hop c e i))) + times k (lost_frames (taker c e i) l) + times k
        (account (taker c e i) l).got
    reach zero lt k =
        omega (
          arith,
          ap (times k) first_is,
          times-append k (frames_among (account (hop c e 0) l).puts)
              (port_of c (end_port c e)).outbox.frames,
          put_times 0 k lt,
        )
    reach (suc i) lt k =
        omega (
          arith,
          reach i (omega arith) k,
          ap (times k) (next_is i lt),
          times-append k
              (frames_among (account (hop c e (suc i)) l).puts) (port_of c (taker c e i)).buffers.waiting,
          put_times
              (suc i) k lt,
        )

    pub places_are : (k : ℕ) → places M c l e k ≡ times k (injected (end_port c e) l)
    places_are k = go c.links refl
      where
        go : (n : ℕ) → c.links ≡ n → places M c l e k ≡ times k (injected (end_port c e) l)
        go zero z = absurd (omega arith)
        go (suc i) z =
            ap (λ (n : ℕ). times k (port_of c (end_port c e)).outbox.frames + over_links
            (at_hop M c l e k) n + times k (collected (end_port c (opposite e)) l)) z
            ∙ omega (
              arith,
              reach i (omega arith) k,
              ap (times k) (last_is i (sym z)),
              times-append k
                  (collected (end_port c (opposite e)) l) (port_of c (taker c e i)).buffers.waiting,
            )

    front_of : (xs ys zs : List Frame) → zs ≡ xs ++ ys → InOrderOf xs zs
    front_of xs ys zs q = subst (InOrderOf xs) (sym q) (in_order_front xs ys)

    arrives : (i : ℕ) → i < c.links
        → InOrderOf (account (taker c e i) l).got (frames_among (account (hop c e i) l).puts)
    arrives i lt =
        in_order_trans (taken_of (taker c e i) l).in_order
        (front_of (frames_among (account (taker c e i) l).taken) (frames_among (on M c (hop c e i)))
        (frames_among (account (hop c e i) l).puts) (put_is i lt))

    keeps_order : (i : ℕ) → i < c.links → InOrderOf (account (taker c e i) l).got (injected (end_port c e) l)
    keeps_order zero lt =
        in_order_trans (arrives 0 lt)
        (front_of (frames_among (account (hop c e 0) l).puts) (port_of c (end_port c e)).outbox.frames
        (injected (end_port c e) l) first_is)
    keeps_order (suc i) lt = in_order_trans (arrives (suc i) lt)
        (in_order_trans
        (front_of (frames_among (account (hop c e (suc i)) l).puts) (port_of c (taker c e i)).buffers.waiting
        (account (taker c e i) l).got (next_is i lt)) (keeps_order i (omega arith)))

    pub collected_in_order : InOrderOf (collected (end_port c (opposite e)) l) (injected (end_port c e) l)
    collected_in_order = go c.links refl
      where
        go : (n : ℕ) → c.links ≡ n → InOrderOf (collected (end_port c (opposite e)) l) (injected (end_port c e) l)
        go zero z = absurd (omega arith)
        go (suc i) z =
            in_order_trans
            (front_of (collected (end_port c (opposite e)) l) (port_of c (taker c e i)).buffers.waiting
            (account (taker c e i) l).got (last_is i (sym z))) (keeps_order i (omega arith))
