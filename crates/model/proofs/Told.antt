-- The account of a port has the figures of its log.
use Rattle.std.proofs.Common.{◌≡◌, ℕ, ◌+◌, List, [], ◌∷◌, ◌++◌, length, sym, refl, ap, ◌∙◌, append_assoc, append-nil}
use Rattle.std.proofs.Common.{arith}
use Rattle.std.proofs.lemmas.List.Concat.{length-flat_map}
use Rattle.std.proofs.lemmas.List.Recursion.{is_sum_by}
use Rattle.std.specs.List.{flat_map}
use Rattle.symbol.specs.declared.Frame.{Frame}
use Rattle.symbol.specs.declared.Symbol.{Symbol}
use Rattle.eventlog.specs.declared.event.Event.{Event}
use Rattle.eventlog.specs.declared.event.FrameKind.TheVariants.{Freed, Injected, Collected}
use Rattle.eventlog.specs.declared.event.ItemKind.TheVariants.{Put, Got, Lost as Missed}
use Rattle.model.specs.Run.{Log}
use Rattle.model.specs.Figures.{Stream, Frames, RRdys, how_many}
use Rattle.model.specs.Figures.{frames_among, records, symbol_in, frame_in, good_in, total, puts}
use Rattle.model.specs.Figures.{put_count, got_count, reported_lost, made_good, freed, lost_frames, injected}
use Rattle.model.specs.Figures.{collected}
use Rattle.model.specs.Stretches.{Passage, last_good, took, took_all, taken, taken_symbols}
use Rattle.model.proofs.Accounts.{Tally, Account, tally_after, frame_last}
use Rattle.model.proofs.Accounts.{by_item, by_frame, as_it_was, last, one_freed, noted, noted_all, no_account}
use Rattle.model.proofs.Accounts.{account}

-- numbers and lists that grow with each record
module _ (π : Account → ℕ) (f : Event → ℕ) (step : (a : Account) (e : Event) → π (noted a e) ≡ π a + f e) where
  grows : (a : Account) (es : Log) → π (noted_all a es) ≡ π a + total f es
  grows a [] = omega arith
  grows a (e ∷ es) = omega (arith, grows (noted a e) es, step a e)

module _ {X : Type 0} (π : Account → List X) (g : Event → List X)
    (step : (a : Account) (e : Event) → π (noted a e) ≡ π a ++ g e) where
  lengthens : (a : Account) (es : Log) → π (noted_all a es) ≡ π a ++ flat_map g es
  lengthens a [] = sym (append-nil (π a))
  lengthens a (e ∷ es) =
      lengthens (noted a e) es ∙ ap {B = List X} (λ z. z ++ flat_map g es) (step a e)
      ∙ append_assoc (π a) (g e) (flat_map g es)

-- what selections come to, record by record
how_many-append : (k : Stream) (xs ys : List Symbol) → how_many k (xs ++ ys) ≡ how_many k xs + how_many k ys
how_many-append k [] ys = omega arith
how_many-append k (x ∷ xs) ys = omega (arith, how_many-append k xs ys)

how_many_joined : (k : Stream) (g : Event → List Symbol) (es : Log)
    → how_many k (flat_map g es) ≡ total (λ e. how_many k (g e)) es
how_many_joined k g [] = refl
how_many_joined k g (e ∷ es) = grind (arith, how_many-append k (g e) (flat_map g es), how_many_joined k g es)

pub length_joined : {X : Type 0} (g : Event → List X) (es : Log)
    → length (flat_map g es) ≡ total (λ e. length (g e)) es
length_joined g es = length-flat_map g es ∙ sym (is_sum_by (total (λ e. length (g e))) _ refl (λ _ _. refl) es)

pub frames-append : (xs ys : List Symbol) → frames_among (xs ++ ys) ≡ frames_among xs ++ frames_among ys
frames-append [] ys = refl
frames-append (x ∷ xs) ys = grind (arith, frames-append xs ys)

-- a symbol that is no frame adds none
pub frames_same : (ss : List Symbol) (y : Symbol) → frames_among (y ∷ []) ≡ []
    → frames_among (ss ++ (y ∷ [])) ≡ frames_among ss
frames_same ss y e = frames-append ss (y ∷ []) ∙ ap {B = List Frame} (λ z. frames_among ss ++ z) e
    ∙ append-nil (frames_among ss)

frames_joined : (g : Event → List Symbol) (es : Log)
    → frames_among (flat_map g es) ≡ flat_map (λ e. frames_among (g e)) es
frames_joined g [] = refl
frames_joined g (e ∷ es) = grind (arith, frames-append (g e) (flat_map g es), frames_joined g es)

-- a tally after one more record
pub record Adds (t t' : Tally) (put got lost good : ℕ) : Type 0 where
  pub puts : t'.put ≡ t.put + put
  pub gots : t'.got ≡ t.got + got
  pub losts : t'.losses.lost ≡ t.losses.lost + lost
  pub goods : t'.losses.good ≡ t.losses.good + good

tally_adds : (k : Stream) (t : Tally) (e : Event)
    → Adds t (tally_after k t e) (how_many k (symbol_in Put e)) (how_many k (symbol_in Got e))
    (how_many k (symbol_in Missed e)) (good_in k e)
tally_adds k t e = grind arith

freed_adds : (n : ℕ) (e : Event) → by_frame one_freed as_it_was as_it_was n e ≡ n + length (frame_in Freed e)
freed_adds n e = grind arith

puts_last : (ss : List Symbol) (e : Event) → by_item last as_it_was as_it_was ss e ≡ ss ++ symbol_in Put e
puts_last ss e = grind (arith, append-nil {A = Symbol})

lost_last : (fs : List Frame) (e : Event)
    → by_item as_it_was as_it_was frame_last fs e ≡ fs ++ frames_among (symbol_in Missed e)
lost_last fs e = grind (arith, append-nil {A = Frame})

injected_last : (fs : List Frame) (e : Event) → by_frame as_it_was last as_it_was fs e ≡ fs ++ frame_in Injected e
injected_last fs e = grind (arith, append-nil {A = Frame})

collected_last : (fs : List Frame) (e : Event) → by_frame as_it_was as_it_was last fs e ≡ fs ++ frame_in Collected e
collected_last fs e = grind (arith, append-nil {A = Frame})

-- the symbols of what was taken
taken-snoc : (ts : List Passage) (t : Passage) → taken_symbols (ts ++ (t ∷ [])) ≡ taken_symbols ts ++ (t.symbol ∷ [])
taken-snoc [] t = refl
taken-snoc (u ∷ ts) t = ap {B = List Symbol} (λ z. u.symbol ∷ z) (taken-snoc ts t)

taken_good : (k : ℕ) (ts : List Passage) → taken_symbols (last_good k ts) ≡ taken_symbols ts
taken_good k [] = refl
taken_good k (t ∷ []) = refl
taken_good k (t ∷ u ∷ ts) = ap {B = List Symbol} (λ z. t.symbol ∷ z) (taken_good k (u ∷ ts))

took_symbols : (ts : List Passage) (e : Event)
    → taken_symbols (took ts e) ≡ by_item as_it_was last last (taken_symbols ts) e
took_symbols ts e = grind (arith, taken-snoc, taken_good)

took_taken : (a : Account) (es : Log) → taken_symbols a.takes ≡ a.taken
    → taken_symbols (noted_all a es).takes ≡ (noted_all a es).taken
took_taken a [] h = h
took_taken a (e ∷ es) h =
    took_taken (noted a e) es (took_symbols a.takes e ∙ ap (λ (z : List Symbol). by_item as_it_was last last z e) h)

took_takes : (a : Account) (es : Log) → (noted_all a es).takes ≡ took_all a.takes es
took_takes a [] = refl
took_takes a (e ∷ es) = took_takes (noted a e) es

-- each number of port p's account
pub record Told (p : ℕ) (l : Log) : Type 0 where
  pub frames_put : (account p l).frames.put ≡ put_count Frames p l
  pub frames_got : (account p l).frames.got ≡ got_count Frames p l
  pub frames_lost : (account p l).frames.losses.lost ≡ reported_lost Frames p l
  pub frames_good : (account p l).frames.losses.good ≡ made_good Frames p l
  pub rrdys_put : (account p l).rrdys.put ≡ put_count RRdys p l
  pub rrdys_got : (account p l).rrdys.got ≡ got_count RRdys p l
  pub rrdys_lost : (account p l).rrdys.losses.lost ≡ reported_lost RRdys p l
  pub rrdys_good : (account p l).rrdys.losses.good ≡ made_good RRdys p l
  pub freed_is : (account p l).freed ≡ freed p l
  pub puts_are : (account p l).puts ≡ puts p l
  pub takes_are : (account p l).takes ≡ taken p l
  pub taken_are : (account p l).taken ≡ taken_symbols (taken p l)
  pub lost_are : (account p l).lost ≡ lost_frames p l
  pub injected_are : (account p l).injected ≡ injected p l
  pub collected_are : (account p l).collected ≡ collected p l

module _ (p : ℕ) (l : Log) where
  counts : (k : Stream) (g : Event → List Symbol) (π : Account → ℕ)
      → ((a : Account) (e : Event) → π (noted a e) ≡ π a + how_many k (g e)) → π no_account ≡ 0
      → π (account p l) ≡ how_many k (flat_map g (records p l))
  counts k g π step none =
      omega (
        arith,
        none,
        grows π (λ e. how_many k (g e)) step no_account (records p l),
        how_many_joined k g
            (records p l),
      )

  pub told : Told p l
  told = record {
    frames_put =
        counts Frames (symbol_in Put) (λ a. a.frames.put) (λ a e. (tally_adds Frames a.frames e).puts) refl;
    frames_got =
        counts Frames (symbol_in Got) (λ a. a.frames.got) (λ a e. (tally_adds Frames a.frames e).gots) refl;
    frames_lost =
        counts Frames (symbol_in Missed) (λ a. a.frames.losses.lost)
        (λ a e. (tally_adds Frames a.frames e).losts) refl;
    frames_good =
        grows (λ a. a.frames.losses.good) (good_in Frames)
        (λ a e. (tally_adds Frames a.frames e).goods) no_account (records p l) ∙ omega arith;
    rrdys_put = counts RRdys (symbol_in Put) (λ a. a.rrdys.put) (λ a e. (tally_adds RRdys a.rrdys e).puts) refl;
    rrdys_got = counts RRdys (symbol_in Got) (λ a. a.rrdys.got) (λ a e. (tally_adds RRdys a.rrdys e).gots) refl;
    rrdys_lost =
        counts RRdys (symbol_in Missed) (λ a. a.rrdys.losses.lost)
        (λ a e. (tally_adds RRdys a.rrdys e).losts) refl;
    rrdys_good =
        grows (λ a. a.rrdys.losses.good) (good_in RRdys) (λ a e. (tally_adds RRdys a.rrdys e).goods) no_account
        (records p l) ∙ omega arith;
    freed_is =
        omega (
          arith,
          grows (λ a. a.freed) (λ e. length (frame_in Freed e)) (λ a e. freed_adds a.freed e) no_account
              (records p l),
          length_joined (frame_in Freed) (records p l),
        );
    puts_are = lengthens (λ a. a.puts) (symbol_in Put) (λ a e. puts_last a.puts e) no_account (records p l);
    takes_are = took_takes no_account (records p l);
    taken_are = sym (took_taken no_account (records p l) refl) ∙ ap taken_symbols (took_takes no_account (records p l));
    lost_are =
        lengthens (λ a. a.lost) (λ e. frames_among (symbol_in Missed e)) (λ a e. lost_last a.lost e) no_account
        (records p l) ∙ sym (frames_joined (symbol_in Missed) (records p l));
    injected_are =
        lengthens (λ a. a.injected) (frame_in Injected) (λ a e. injected_last a.injected e) no_account
        (records p l);
    collected_are =
        lengthens (λ a. a.collected) (frame_in Collected) (λ a e. collected_last a.collected e) no_account
        (records p l);
  }
