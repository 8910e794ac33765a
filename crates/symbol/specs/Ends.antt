-- The letters of the two ends of a chain.
use Rattle.std.specs.Prelude.{ℕ, cond, ◌≡◌, Some, None, Option, Result, ◌==◌}
use Rattle.std.specs.Option.{ok_or}
use Rattle.symbol.specs.Symbols.{unknown}
use Rattle.symbol.specs.declared.UnknownLetter.{UnknownLetter}
use Rattle.symbol.specs.declared.end.End.{End}
use Rattle.symbol.specs.declared.end.End.TheVariants.{West, East}

-- w and e
abbrev pub end_with : ℕ → Option End
end_with l = cond (l == 119) (Some West) (cond (l == 101) (Some East) None)

-- the end with the letter, or an error that holds a letter which no end has
abbrev pub EndRead : ℕ → Result End UnknownLetter → Type 0
EndRead l r = r ≡ ok_or (end_with l) (unknown l)
