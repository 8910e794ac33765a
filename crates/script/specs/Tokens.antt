-- The tokens of a line, without the loan of their bytes.
use Rattle.std.specs.Prelude.{ℕ, ◌+◌, List, [], ◌∷◌, Some, None, Option}
use Rattle.script.specs.declared.fault.Place.{Place}
use Rattle.script.specs.declared.token.Token.{Token}
use Rattle.script.specs.declared.token.Token.TheVariants as token
use Rattle.script.specs.declared.token.Tokens.{Tokens}
use Rattle.script.specs.Text.{Word, words, number_of}

pub data Kind : Type 0 where
  number : ℕ → Kind
  letter : ℕ → Kind
  other : Kind

pub record Seen : Type 0 where
  pub kind : Kind
  pub text : List ℕ
  pub place : Place

abbrev pub seen : Token → Seen
seen (token.Number text v place) = record { kind = number v; text = text.now; place = place }
seen (token.Letter text c place) = record { kind = letter c; text = text.now; place = place }
seen (token.Word text place) = record { kind = other; text = text.now; place = place }

-- a word that is no number is a letter if it has one byte
abbrev pub kind_of_word : List ℕ → Kind
kind_of_word [] = other
kind_of_word (b ∷ []) = letter b
kind_of_word (b ∷ c ∷ bs) = other

abbrev pub kind_by : Option ℕ → List ℕ → Kind
kind_by (Some v) bs = number v
kind_by None bs = kind_of_word bs

abbrev pub classified : List ℕ → Place → Seen
classified bs place = record { kind = kind_by (number_of bs) bs; text = bs; place = place }

-- words as tokens of a line
abbrev pub placed : ℕ → List Word → List Seen
placed line [] = []
placed line (w ∷ ws) = classified w.text (record { line = line; byte = w.byte }) ∷ placed line ws

-- the tokens of a whole line, whose first byte has the number 1
abbrev pub line_tokens : ℕ → List ℕ → List Seen
line_tokens line bs = placed line (words 1 bs)

-- the tokens still to come
unfoldable pub left : Tokens → List Seen
left t = placed t.line (words (t.at + 1) t.rest.now)
