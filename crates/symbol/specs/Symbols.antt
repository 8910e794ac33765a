-- The kinds of symbols, their letters, and an item that is noted lost.
use Rattle.std.specs.Prelude.{◌≡◌, ℕ, cond, List, [], ◌∷◌, Some, None, Option, Result, ◌==◌}
use Rattle.std.specs.Option.{ok_or}
use Rattle.symbol.specs.declared.Item.{Item}
use Rattle.symbol.specs.declared.Mark.TheVariants.{BbScS, BbScR}
use Rattle.symbol.specs.declared.Note.TheVariants.{Lost}
use Rattle.symbol.specs.declared.Symbol.{Symbol}
use Rattle.symbol.specs.declared.Symbol.TheVariants as symbol
use Rattle.symbol.specs.declared.SymbolKind.{SymbolKind}
use Rattle.symbol.specs.declared.SymbolKind.TheVariants.{Frame, RRdy, Mark}
use Rattle.symbol.specs.declared.UnknownLetter.{UnknownLetter}

abbrev pub kind_of : Symbol → SymbolKind
kind_of (symbol.Frame f) = Frame
kind_of symbol.RRdy = RRdy
kind_of (symbol.Mark m) = Mark m

-- f, r, s and c
abbrev pub letter : SymbolKind → ℕ
letter Frame = 102
letter RRdy = 114
letter (Mark BbScS) = 115
letter (Mark BbScR) = 99

abbrev pub kinds : List SymbolKind
kinds = Frame ∷ RRdy ∷ Mark BbScS ∷ Mark BbScR ∷ []

-- the first of some kinds that has the letter
abbrev pub first_with : List SymbolKind → ℕ → Option SymbolKind
first_with [] l = None
first_with (k ∷ ks) l = cond (l == letter k) (Some k) (first_with ks l)

abbrev pub kind_with : ℕ → Option SymbolKind
kind_with l = first_with kinds l

-- each kind is read from its letter, and from no other
abbrev pub LettersTellKinds : Type 0
LettersTellKinds =
    ((k : SymbolKind) → kind_with (letter k) ≡ Some k)
    × ((l : ℕ) (k : SymbolKind) → kind_with l ≡ Some k → l ≡ letter k)

abbrev pub unknown : ℕ → UnknownLetter
unknown l = record { 0 = l }

-- the kind with the letter, or an error that holds a letter which no kind has; and letters tell kinds
abbrev pub KindRead : ℕ → Result SymbolKind UnknownLetter → Type 0
KindRead l r = (r ≡ ok_or (kind_with l) (unknown l)) × LettersTellKinds

-- the item, noted lost
abbrev pub noted_lost : Item → Item
noted_lost i = record { symbol = i.symbol; note = Lost }
