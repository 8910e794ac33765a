-- Whatever a line is at fault for, its own number is told.
use Rattle.std.proofs.Common.{◌≡◌, ℕ, Bool, true, false, cond, ◌&&◌, eqb, ltb, leb, List, [], ◌∷◌, length, Some, None}
use Rattle.std.proofs.Common.{Ok, Err, Option, Result, refl}
use Rattle.std.specs.Option.{ok_or}
use Rattle.std.specs.List.{AllByRecursion}
use Rattle.symbol.specs.Ends.{end_with}
use Rattle.symbol.specs.Symbols.{kind_with}
use Rattle.script.specs.declared.command.Command.{Command}
use Rattle.script.specs.declared.command.Command.TheVariants.{Chain}
use Rattle.script.specs.declared.command.Keyword.{Keyword}
use Rattle.script.specs.declared.command.Keyword.TheVariants as keyword
use Rattle.script.specs.declared.command.Links.TheVariants.{One, Three}
use Rattle.script.specs.declared.fault.Fault.{Fault}
use Rattle.script.specs.declared.fault.Place.{Place}
use Rattle.script.specs.declared.fault.Refusal.{Refusal}
use Rattle.script.specs.declared.fault.Refusal.TheVariants.{LongLine, WordCount, OutOfRange}
use Rattle.script.specs.declared.arguments.Number.{Number}
use Rattle.script.specs.declared.line.Read.{Read}
use Rattle.script.specs.declared.order.Progress.{Progress}
use Rattle.script.specs.Arguments.{number_by, as_number, letter_by, as_letter, within, below, rest}
use Rattle.script.specs.Arguments.{taken, taken_number, chain_by, chain_of, login_of, lose_of, frames_of}
use Rattle.script.specs.Arguments.{arguments_of}
use Rattle.script.specs.Commands.{keyword_of, arity}
use Rattle.script.specs.Faults.{fault_at, fault, then}
use Rattle.script.specs.Line.{command_by, command_of, ordered_by, ordered, read_tokens, read_line}
use Rattle.script.specs.Order.{after}
use Rattle.script.specs.Text.{Word, words}
use Rattle.script.specs.Tokens.{Kind, number, letter, other, Seen, placed, line_tokens}

-- a fault on line k, or a result of which P holds
abbrev On : {A : Type 0} → ℕ → (A → Type 0) → Result A Fault → Type 0
On k P (Ok x) = P x
On k P (Err f) = f.place.line ≡ k

abbrev Any : {A : Type 0} → A → Type 0
Any x = Unit {0}

on_then : {A B : Type 0} (k : ℕ) (P : A → Type 0) (Q : B → Type 0) (r : Result A Fault) (f : A → Result B Fault)
    → On k P r → ((x : A) → P x → On k Q (f x)) → On k Q (then r f)
on_then k P Q (Ok x) f h g = g x h
on_then k P Q (Err e) f h g = h

on_cond : {A : Type 0} (k : ℕ) (P : A → Type 0) (b : Bool) (r s : Result A Fault) → On k P r → On k P s
    → On k P (cond b r s)
on_cond k P true r s h g = h
on_cond k P false r s h g = g

abbrev TokenOn : ℕ → Seen → Type 0
TokenOn k t = t.place.line ≡ k

abbrev NumberOn : ℕ → Number → Type 0
NumberOn k n = n.place.line ≡ k

on_number_by : (k : ℕ) (t : Kind) (p : Place) → p.line ≡ k → On k (NumberOn k) (number_by t p)
on_number_by k (number v) p h = h
on_number_by k (letter c) p h = h
on_number_by k other p h = h

on_ok_or : {A : Type 0} (k : ℕ) (o : Option A) (f : Fault) → f.place.line ≡ k → On k Any (ok_or o f)
on_ok_or k (Some x) f h = tt
on_ok_or k None f h = h

module _ (k : ℕ) (head : Place) (at : head.line ≡ k) where
  on_taken : (ts : List Seen) → AllByRecursion (TokenOn k) ts → On k (TokenOn k) (taken head ts)
  on_taken [] h = at
  on_taken (t ∷ ts) h = h.0

  on_rest : (ts : List Seen) → AllByRecursion (TokenOn k) ts → AllByRecursion (TokenOn k) (rest ts)
  on_rest [] h = tt
  on_rest (t ∷ ts) h = h.1

  on_taken_number : (ts : List Seen) → AllByRecursion (TokenOn k) ts → On k (NumberOn k) (taken_number head ts)
  on_taken_number ts h =
      on_then k (TokenOn k) (NumberOn k) (taken head ts) as_number (on_taken ts h)
      (λ t e. on_number_by k t.kind t.place e)

  -- a number, and what follows from it
  with_number : {B : Type 0} (ts : List Seen) (f : Number → Result B Fault) → AllByRecursion (TokenOn k) ts
      → ((n : Number) → NumberOn k n → On k Any (f n)) → On k Any (then (taken_number head ts) f)
  with_number ts f h g = on_then k (NumberOn k) Any (taken_number head ts) f (on_taken_number ts h) g

  with_token : {B : Type 0} (ts : List Seen) (f : Seen → Result B Fault) → AllByRecursion (TokenOn k) ts
      → ((t : Seen) → TokenOn k t → On k Any (f t)) → On k Any (then (taken head ts) f)
  with_token ts f h g = on_then k (TokenOn k) Any (taken head ts) f (on_taken ts h) g

  -- a value, and what follows from it
  with_value : {A B : Type 0} (r : Result A Fault) (f : A → Result B Fault) → On k Any r
      → ((x : A) → On k Any (f x)) → On k Any (then r f)
  with_value r f h g = on_then k Any Any r f h (λ x u. g x)

  on_within : (low high : ℕ) (n : Number) → NumberOn k n → On k Any (within low high n)
  on_within low high n h =
      on_cond k Any (leb low n.value && leb n.value high) (Ok n.value) (fault OutOfRange n.place) tt h

  on_below : (limit : ℕ) (n : Number) → NumberOn k n → On k Any (below limit n)
  on_below limit n h = on_cond k Any (ltb n.value limit) (Ok n.value) (fault OutOfRange n.place) tt h

  on_letter : {A : Type 0} (f : ℕ → Option A) (t : Seen) → TokenOn k t → On k Any (as_letter f t)
  on_letter f t h = on_ok_or k (letter_by f t.kind) (fault_at OutOfRange t.place) h

  on_chain : (ts : List Seen) → AllByRecursion (TokenOn k) ts → On k Any (chain_of head ts)
  on_chain ts h =
      with_number ts chain_by h (λ n e.
      on_cond k Any (eqb n.value 1) (Ok (Chain One))
      (cond (eqb n.value 3) (Ok (Chain Three)) (fault OutOfRange n.place)) tt
      (on_cond k Any (eqb n.value 3) (Ok (Chain Three)) (fault OutOfRange n.place) tt e))

  on_login : (ts : List Seen) → AllByRecursion (TokenOn k) ts → On k Any (login_of head ts)
  on_login ts h =
      let h1 = on_rest ts h in
      let h2 = on_rest (rest ts) h1 in
      let h3 = on_rest (rest (rest ts)) h2 in
      let h4 = on_rest (rest (rest (rest ts))) h3 in
      with_number ts _ h (λ link e.
      with_number (rest ts) _ h1 (λ west e1.
      with_number (rest (rest ts)) _ h2 (λ east e2.
      with_number (rest (rest (rest ts))) _ h3 (λ m e3.
      with_number (rest (rest (rest (rest ts)))) _ h4 (λ n e4. tt)))))

  on_lose : (ds : ℕ) (ts : List Seen) → AllByRecursion (TokenOn k) ts → On k Any (lose_of ds head ts)
  on_lose ds ts h =
      let h1 = on_rest ts h in
      let h2 = on_rest (rest ts) h1 in
      let h3 = on_rest (rest (rest ts)) h2 in
      with_number ts _ h (λ d e.
      with_token (rest ts) _ h1 (λ l e1.
      with_number (rest (rest ts)) _ h2 (λ i e2.
      with_number (rest (rest (rest ts))) _ h3 (λ c e3.
      with_value (below ds d) _ (on_below ds d e) (λ direction.
      with_value (as_letter kind_with l) _ (on_letter kind_with l e1) (λ kind.
      with_value (within 1 99999999 i) _ (on_within 1 99999999 i e2) (λ first.
      with_value (within 1 99999999 c) _ (on_within 1 99999999 c e3) (λ count. tt))))))))

  on_frames : (ts : List Seen) → AllByRecursion (TokenOn k) ts → On k Any (frames_of head ts)
  on_frames ts h =
      with_token ts _ h (λ t e.
      with_number (rest ts) _ (on_rest ts h) (λ n e1.
      with_value (as_letter end_with t) _ (on_letter end_with t e) (λ end.
      with_value (within 1 1000 n) _ (on_within 1 1000 n e1) (λ count. tt))))

  on_arguments : (w : Keyword) (ds : ℕ) (ts : List Seen) → AllByRecursion (TokenOn k) ts
      → On k Any (arguments_of w ds head ts)
  on_arguments keyword.Chain ds ts h = on_chain ts h
  on_arguments keyword.Login ds ts h = on_login ts h
  on_arguments keyword.Lose ds ts h = on_lose ds ts h
  on_arguments keyword.Inject ds ts h = with_value (frames_of head ts) _ (on_frames ts h) (λ f. tt)
  on_arguments keyword.Collect ds ts h = with_value (frames_of head ts) _ (on_frames ts h) (λ f. tt)
  on_arguments keyword.Step ds ts h =
      with_number ts _ h (λ n e. with_value (within 1 10000 n) _ (on_within 1 10000 n e) (λ count. tt))
  on_arguments keyword.Drain ds ts h = tt
  on_arguments keyword.Page ds ts h = tt

  on_command : (w : Option Keyword) (ds : ℕ) (ts : List Seen) → AllByRecursion (TokenOn k) ts
      → On k Any (command_by w ds head ts)
  on_command None ds ts h = at
  on_command (Some w) ds ts h =
      on_cond k Any (eqb (length ts) (arity w)) (arguments_of w ds head ts) (fault WordCount head)
      (on_arguments w ds ts h) at

  on_ordered_by : (r : Result Progress Refusal) (c : Command) → On k Any (ordered_by r c head)
  on_ordered_by (Ok p) c = tt
  on_ordered_by (Err r) c = at

on_tokens : (k : ℕ) (p : Progress) (ts : List Seen) → AllByRecursion (TokenOn k) ts → On k Any (read_tokens p ts)
on_tokens k p [] h = tt
on_tokens k p (t ∷ ts) h =
    let head = t.place in
    with_value k head h.0 (ordered p t ts) _
    (with_value k head h.0 (command_of p.directions t ts) _
    (on_command k head h.0 (keyword_of t.text) p.directions ts h.1)
    (λ c. on_ordered_by k head h.0 (after p c) c))
    (λ r. tt)

all_placed : (k : ℕ) (ws : List Word) → AllByRecursion (TokenOn k) (placed k ws)
all_placed k [] = tt
all_placed k (w ∷ ws) = (refl, all_placed k ws)

on_line : (k : ℕ) (p : Progress) (bs : List ℕ) → On k Any (read_line k p bs)
on_line k p bs =
    on_cond k Any (ltb 80 (length bs)) (fault LongLine (record { line = k; byte = 81 }))
    (read_tokens p (line_tokens k bs)) refl
    (on_tokens k p (line_tokens k bs) (all_placed k (words 1 bs)))

told_by : (k : ℕ) (r : Result (Option Read) Fault) (f : Fault) → On k Any r → r ≡ Err f → f.place.line ≡ k
told_by k (Ok x) f h e = absurd (cc)
told_by k (Err g) f h e = cc

-- the line told with a fault is that of the line at fault
pub line_told : (k : ℕ) (p : Progress) (bs : List ℕ) (f : Fault) → read_line k p bs ≡ Err f → f.place.line ≡ k
line_told k p bs f e = told_by k (read_line k p bs) f (on_line k p bs) e
