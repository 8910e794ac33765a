-- The arguments of each command, from the tokens behind its word.
use Rattle.std.specs.Prelude.{◌≡◌, ℕ, cond, ◌&&◌, List, [], ◌∷◌, None, Ok, Err, Option, Result, ◌==◌, nat_le, nat_lt}
use Rattle.std.specs.Option.{ok_or}
use Rattle.std.specs.Result.{result_ok}
use Rattle.symbol.specs.Ends.{end_with}
use Rattle.symbol.specs.Symbols.{kind_with}
use Rattle.symbol.specs.declared.end.End.{End}
use Rattle.script.specs.declared.arguments.Number.{Number}
use Rattle.script.specs.declared.command.Command.{Command}
use Rattle.script.specs.declared.command.Command.TheVariants as command
use Rattle.script.specs.declared.command.Keyword.{Keyword}
use Rattle.script.specs.declared.command.Keyword.TheVariants as keyword
use Rattle.script.specs.declared.command.Links.TheVariants.{One, Three}
use Rattle.script.specs.declared.fault.Fault.{Fault}
use Rattle.script.specs.declared.fault.Place.{Place}
use Rattle.script.specs.declared.fault.Refusal.TheVariants.{NotNumber, WordCount, OutOfRange}
use Rattle.script.specs.declared.token.Token.{Token}
use Rattle.script.specs.Faults.{fault_at, fault, then}
use Rattle.script.specs.Tokens.{Kind, number, letter, other, Seen, seen}

-- a token as a number
abbrev pub number_by : Kind → Place → Result Number Fault
number_by (number v) p = Ok (record { value = v; place = p })
number_by (letter c) p = fault NotNumber p
number_by other p = fault NotNumber p

abbrev pub as_number : Seen → Result Number Fault
as_number t = number_by t.kind t.place

-- a token as one of some letters
abbrev pub letter_by : {A : Type 0} → (ℕ → Option A) → Kind → Option A
letter_by f (number v) = None
letter_by f (letter c) = f c
letter_by f other = None

abbrev pub as_letter : {A : Type 0} → (ℕ → Option A) → Seen → Result A Fault
as_letter f t = ok_or (letter_by f t.kind) (fault_at OutOfRange t.place)

-- a letter's meaning by a conversion, whatever function it computes
abbrev pub Named : {A E : Type 0} → (ℕ → Result A E → Type 0) → Seen → Result A Fault → Type 0
Named {A} {E} gives t r =
    (f : ℕ → Option A) → ((l : ℕ) (x : Result A E) → gives l x → result_ok x ≡ f l) → r ≡ as_letter f t

-- a value within its range
abbrev pub within : ℕ → ℕ → Number → Result ℕ Fault
within low high n =
    cond (nat_le low n.value && nat_le n.value high) (Ok n.value) (fault OutOfRange n.place)

abbrev pub below : ℕ → Number → Result ℕ Fault
below limit n = cond (nat_lt n.value limit) (Ok n.value) (fault OutOfRange n.place)

-- the tokens after the first
abbrev pub rest : List Seen → List Seen
rest [] = []
rest (t ∷ ts) = ts

-- the first token; `head` is the place of the command's word
abbrev pub taken : Place → List Seen → Result Seen Fault
taken head [] = fault WordCount head
taken head (t ∷ ts) = Ok t

abbrev pub taken_number : Place → List Seen → Result Number Fault
taken_number head ts = then (taken head ts) as_number

-- an answer without the loan of the token's bytes
abbrev pub ok_seen : Result Token Fault → Result Seen Fault
ok_seen (Ok t) = Ok (seen t)
ok_seen (Err e) = Err e

-- The arguments of each command: all number words are read before any range is judged

-- one link or three
abbrev pub chain_by : Number → Result Command Fault
chain_by n =
    cond (n.value == 1) (Ok (command.Chain One))
    (cond (n.value == 3) (Ok (command.Chain Three)) (fault OutOfRange n.place))

abbrev pub chain_of : Place → List Seen → Result Command Fault
chain_of head ts = then (taken_number head ts) chain_by

abbrev pub login_of : Place → List Seen → Result Command Fault
login_of head ts =
    then (taken_number head ts) (λ link.
    then (taken_number head (rest ts)) (λ west.
    then (taken_number head (rest (rest ts))) (λ east.
    then (taken_number head (rest (rest (rest ts)))) (λ m.
    then (taken_number head (rest (rest (rest (rest ts))))) (λ n.
    Ok (command.Login link.value west.value east.value m.value n.value))))))

-- a direction is below `directions`, and first and count are from 1
abbrev pub lose_of : ℕ → Place → List Seen → Result Command Fault
lose_of directions head ts =
    then (taken_number head ts) (λ d.
    then (taken head (rest ts)) (λ l.
    then (taken_number head (rest (rest ts))) (λ i.
    then (taken_number head (rest (rest (rest ts)))) (λ c.
    then (below directions d) (λ direction.
    then (as_letter kind_with l) (λ kind.
    then (within 1 99999999 i) (λ first.
    then (within 1 99999999 c) (λ count.
    Ok (command.Lose direction kind first count)))))))))

-- an end, and 1 to 1,000 frames
abbrev pub frames_of : Place → List Seen → Result (End × ℕ) Fault
frames_of head ts =
    then (taken head ts) (λ e.
    then (taken_number head (rest ts)) (λ n.
    then (as_letter end_with e) (λ end.
    then (within 1 1000 n) (λ count.
    Ok (end, count)))))

abbrev pub inject_of : Place → List Seen → Result Command Fault
inject_of head ts = then (frames_of head ts) (λ f. Ok (command.Inject f.0 f.1))

abbrev pub collect_of : Place → List Seen → Result Command Fault
collect_of head ts = then (frames_of head ts) (λ f. Ok (command.Collect f.0 f.1))

abbrev pub step_of : Place → List Seen → Result Command Fault
step_of head ts = then (taken_number head ts) (λ n. then (within 1 10000 n) (λ count. Ok (command.Step count)))

abbrev pub arguments_of : Keyword → ℕ → Place → List Seen → Result Command Fault
arguments_of keyword.Chain ds head ts = chain_of head ts
arguments_of keyword.Login ds head ts = login_of head ts
arguments_of keyword.Lose ds head ts = lose_of ds head ts
arguments_of keyword.Inject ds head ts = inject_of head ts
arguments_of keyword.Collect ds head ts = collect_of head ts
arguments_of keyword.Step ds head ts = step_of head ts
arguments_of keyword.Drain ds head ts = Ok command.Drain
arguments_of keyword.Page ds head ts = Ok command.Page
