-- A loss script: which puts its entries name.
use Rattle.std.specs.Prelude.{ℕ, ◌+◌, Bool, ◌&&◌, List, ◌==◌, nat_le, nat_lt}
use Rattle.ring.specs.Queue.{any}
use Rattle.symbol.specs.Symbols.{letter}
use Rattle.symbol.specs.declared.SymbolKind.{SymbolKind}
use Rattle.loss.specs.declared.script.LossEntry.{LossEntry}

-- a script keeps the first entries given, this many
abbrev pub entries_kept : ℕ
entries_kept = 16

-- the entry is for the letter of the kind, and first ≤ i < first + count
abbrev pub covers : LossEntry → SymbolKind → ℕ → Bool
covers e k i = letter e.kind == letter k && (nat_le e.first i && nat_lt i (e.first + e.count))

-- some entry names the i-th put of the kind
abbrev pub names : List LossEntry → SymbolKind → ℕ → Bool
names es k i = any (λ e. covers e k i) es
