-- A script, command by command.
use Rattle.std.specs.Prelude.{ℕ, ◌+◌, cond, List, [], ◌∷◌, length, Some, None, Ok, Err, Option, Result, nat_lt}
use Rattle.std.specs.Borrow.{Bor}
use Rattle.script.specs.declared.command.Placed.{Placed}
use Rattle.script.specs.declared.cursor.Cursor.{Cursor}
use Rattle.script.specs.declared.fault.Fault.{Fault}
use Rattle.script.specs.declared.fault.Refusal.TheVariants.{TooLong}
use Rattle.script.specs.declared.line.Read.{Read}
use Rattle.script.specs.declared.order.Progress.{Progress}
use Rattle.script.specs.Faults.{fault, then}
use Rattle.script.specs.Line.{read_line}
use Rattle.script.specs.Order.{nothing_read}
use Rattle.script.specs.Text.{lines}

-- how far a script is read: the lines done, the progress that they made, and the lines ahead
pub record State : Type 0 where
  pub done : ℕ
  pub progress : Progress
  pub ahead : List (List ℕ)

unfoldable pub state : Cursor → State
state c = record { done = c.done; progress = c.progress; ahead = lines c.rest.now }

abbrev pub started : List ℕ → State
started bs = record { done = 0; progress = nothing_read; ahead = lines bs }

-- the next line, if any, and the state past it
abbrev pub line_by : State → List (List ℕ) → Option (List ℕ) × State
line_by s [] = (None, s)
line_by s (l ∷ ls) = (Some l, record { done = s.done + 1; progress = s.progress; ahead = ls })

abbrev pub next_line : State → Option (List ℕ) × State
next_line s = line_by s s.ahead

abbrev pub bytes : Bor (List ℕ) → List ℕ
bytes r = r.now

-- what a cursor answers, and its state then
abbrev pub Stepped : Type 0
Stepped = Result (Option Placed) Fault × State

-- past a line, by what it commands: a line without a word leads on to those behind it
abbrev pub past_line : State → Result (Option Read) Fault → Stepped → Stepped
past_line s (Err e) onward = (Err e, s)
past_line s (Ok None) onward = onward
past_line s (Ok (Some r)) onward =
    (Ok (Some r.placed), record { done = s.done; progress = r.progress; ahead = s.ahead })

abbrev pub next_from : ℕ → Progress → List (List ℕ) → Stepped
next_from n p [] = (Ok None, record { done = n; progress = p; ahead = [] })
next_from n p (l ∷ ls) =
    past_line (record { done = n + 1; progress = p; ahead = ls }) (read_line (n + 1) p l) (next_from (n + 1) p ls)

-- the next command, or the first fault
abbrev pub next : State → Stepped
next s = next_from s.done s.progress s.ahead

-- the commands from a line on, or the first fault
abbrev pub before : Placed → Result (List Placed) Fault → Result (List Placed) Fault
before c r = then r (λ cs. Ok (c ∷ cs))

abbrev pub commands_by : Option Read → Result (List Placed) Fault → Result (List Placed) Fault
commands_by None r = r
commands_by (Some x) r = before x.placed r

abbrev pub progress_by : Progress → Option Read → Progress
progress_by p None = p
progress_by p (Some x) = x.progress

abbrev pub commands_from : ℕ → Progress → List (List ℕ) → Result (List Placed) Fault
commands_from n p [] = Ok []
commands_from n p (l ∷ ls) =
    then (read_line (n + 1) p l) (λ x. commands_by x (commands_from (n + 1) (progress_by p x) ls))

abbrev pub commands : State → Result (List Placed) Fault
commands s = commands_from s.done s.progress s.ahead

-- the commands of a script, or its first fault: it has at most 16,384 bytes
abbrev pub script_commands : List ℕ → Result (List Placed) Fault
script_commands bs =
    cond (nat_lt 16384 (length bs)) (fault TooLong (record { line = 0; byte = 0 })) (commands (started bs))

-- whether a script may be played
abbrev pub ends : Result (List Placed) Fault → Result (Unit {0}) Fault
ends (Ok cs) = Ok tt
ends (Err e) = Err e

abbrev pub verdict : List ℕ → Result (Unit {0}) Fault
verdict bs = ends (script_commands bs)

-- The law of two passes

-- the commands to come, by the next one and those behind it
abbrev pub first_then : Result (Option Placed) Fault → Result (List Placed) Fault → Result (List Placed) Fault
first_then (Err e) r = Err e
first_then (Ok None) r = Ok []
first_then (Ok (Some c)) r = before c r
