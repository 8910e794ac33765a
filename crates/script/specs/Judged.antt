-- What is known of every script: which fault is told, and in which order its commands stand.
use Rattle.std.specs.Prelude.{◌≡◌, ℕ, ◌+◌, ◌<◌, ◌≤◌, Bool, true, false, cond, not, ◌⊎◌, List, [], ◌∷◌, ◌++◌, length}
use Rattle.std.specs.Prelude.{Ok, Err, Result, ◌==◌}
use Rattle.std.specs.List.{AllByRecursion}
use Rattle.script.specs.declared.command.Command.{Command}
use Rattle.script.specs.declared.command.Command.TheVariants.{Chain, Login, Lose, Inject, Collect, Step, Drain, Page}
use Rattle.script.specs.declared.command.Placed.{Placed}
use Rattle.script.specs.declared.fault.Fault.{Fault}
use Rattle.script.specs.declared.fault.Refusal.TheVariants.{TooLong}
use Rattle.script.specs.declared.order.Progress.{Progress}
use Rattle.script.specs.Faults.{then}
use Rattle.script.specs.Line.{read_line}
use Rattle.script.specs.Order.{nothing_read}
use Rattle.script.specs.Script.{progress_by, script_commands}
use Rattle.script.specs.Text.{lines}

-- the progress that lines make, if none is at fault
abbrev pub passed : ℕ → Progress → List (List ℕ) → Result Progress Fault
passed n p [] = Ok p
passed n p (l ∷ ls) = then (read_line (n + 1) p l) (λ x. passed (n + 1) (progress_by p x) ls)

-- of the lines behind n others: none before the line at fault is at fault, and its number is told
pub record FirstFault (n : ℕ) (p : Progress) (ls : List (List ℕ)) (f : Fault) : Type 0 where
  pub earlier : List (List ℕ)
  pub line : List ℕ
  pub later : List (List ℕ)
  pub lines_are : ls ≡ earlier ++ (line ∷ later)
  pub progress : Progress
  pub sound : passed n p earlier ≡ Ok progress
  pub at_fault : read_line (n + length earlier + 1) progress line ≡ Err f
  pub told : f.place.line ≡ n + length earlier + 1

abbrev pub is_chain : Command → Bool
is_chain (Chain links) = true
is_chain (Login link west east m n) = false
is_chain (Lose d kind first count) = false
is_chain (Inject end count) = false
is_chain (Collect end count) = false
is_chain (Step count) = false
is_chain Drain = false
is_chain Page = false

-- inject, collect, step, drain and page
abbrev pub runs : Command → Bool
runs (Chain links) = false
runs (Login link west east m n) = false
runs (Lose d kind first count) = false
runs (Inject end count) = true
runs (Collect end count) = true
runs (Step count) = true
runs Drain = true
runs Page = true

abbrev pub is_drain : Command → Bool
is_drain (Chain links) = false
is_drain (Login link west east m n) = false
is_drain (Lose d kind first count) = false
is_drain (Inject end count) = false
is_drain (Collect end count) = false
is_drain (Step count) = false
is_drain Drain = true
is_drain Page = false

-- whether the second command may stand anywhere behind the first
abbrev pub follows : Command → Command → Bool
follows a (Chain links) = false
follows a (Login link west east m n) = not (runs a)
follows a (Lose d kind first count) = not (runs a)
follows a (Inject end count) = not (is_drain a)
follows a (Collect end count) = true
follows a (Step count) = true
follows a Drain = not (is_drain a)
follows a Page = true

abbrev pub loses_on : ℕ → Command → Bool
loses_on d (Chain links) = false
loses_on d (Login link west east m n) = false
loses_on d (Lose e kind first count) = e == d
loses_on d (Inject end count) = false
loses_on d (Collect end count) = false
loses_on d (Step count) = false
loses_on d Drain = false
loses_on d Page = false

-- how many loses of a direction stand among commands
abbrev pub loses_for : ℕ → List Placed → ℕ
loses_for d [] = 0
loses_for d (c ∷ cs) = cond (loses_on d c.command) 1 0 + loses_for d cs

-- the first command is a chain line
abbrev pub Chained : List Placed → Type 0
Chained [] = Unit {0}
Chained (c ∷ cs) = is_chain c.command ≡ true

-- each command may stand behind each before it
abbrev pub Followed : List Placed → Type 0
Followed [] = Unit {0}
Followed (c ∷ cs) = AllByRecursion (λ d. follows c.command d.command ≡ true) cs × Followed cs

-- the commands of a script in their order, with at most 16 loses for a direction
pub record Orderly (cs : List Placed) : Type 0 where
  pub chained : Chained cs
  pub followed : Followed cs
  pub loses : (d : ℕ) → loses_for d cs ≤ 16

-- a script that may be played has its commands in order; one that is refused is too long, or its first line at fault
-- is told
abbrev pub Judged : List ℕ → Result (Unit {0}) Fault → Type 0
Judged bs (Ok u) = (cs : List Placed) × ((script_commands bs ≡ Ok cs) × Orderly cs)
Judged bs (Err f) =
    ((16384 < length bs) × (f ≡ record { refusal = TooLong; place = record { line = 0; byte = 0 } }))
    ⊎ FirstFault 0 nothing_read (lines bs) f
