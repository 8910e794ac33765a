-- What a line commands: of its faults, the first in the order of judging.
use Rattle.std.specs.Prelude.{ℕ, cond, List, [], ◌∷◌, length, Some, None, Ok, Err, Option, Result, ◌==◌, nat_lt}
use Rattle.script.specs.declared.command.Command.{Command}
use Rattle.script.specs.declared.command.Keyword.{Keyword}
use Rattle.script.specs.declared.fault.Fault.{Fault}
use Rattle.script.specs.declared.fault.Place.{Place}
use Rattle.script.specs.declared.fault.Refusal.{Refusal}
use Rattle.script.specs.declared.fault.Refusal.TheVariants.{LongLine, UnknownCommand, WordCount}
use Rattle.script.specs.declared.line.Read.{Read}
use Rattle.script.specs.declared.order.Progress.{Progress}
use Rattle.script.specs.Arguments.{arguments_of}
use Rattle.script.specs.Commands.{keyword_of, arity}
use Rattle.script.specs.Faults.{fault, then}
use Rattle.script.specs.Order.{after}
use Rattle.script.specs.Tokens.{Seen, line_tokens}

-- the command of a word and the tokens behind it
abbrev pub command_by : Option Keyword → ℕ → Place → List Seen → Result Command Fault
command_by None ds head ts = fault UnknownCommand head
command_by (Some k) ds head ts =
    cond (length ts == arity k) (arguments_of k ds head ts) (fault WordCount head)

abbrev pub command_of : ℕ → Seen → List Seen → Result Command Fault
command_of ds t ts = command_by (keyword_of t.text) ds t.place ts

-- a command in its order, and the progress after it
abbrev pub ordered_by : Result Progress Refusal → Command → Place → Result Read Fault
ordered_by (Ok p) c head = Ok (record { placed = record { command = c; place = head }; progress = p })
ordered_by (Err r) c head = fault r head

abbrev pub ordered : Progress → Seen → List Seen → Result Read Fault
ordered p t ts = then (command_of p.directions t ts) (λ c. ordered_by (after p c) c t.place)

-- a line without a word commands nothing
abbrev pub read_tokens : Progress → List Seen → Result (Option Read) Fault
read_tokens p [] = Ok None
read_tokens p (t ∷ ts) = then (ordered p t ts) (λ r. Ok (Some r))

-- what a line commands: it has at most 80 bytes
abbrev pub read_line : ℕ → Progress → List ℕ → Result (Option Read) Fault
read_line line p bs =
    cond (nat_lt 80 (length bs))
    (fault LongLine (record { line = line; byte = 81 }))
    (read_tokens p (line_tokens line bs))
