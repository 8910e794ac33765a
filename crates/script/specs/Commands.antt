-- The words of the commands.
use Rattle.std.specs.Prelude.{ℕ, cond, List, Some, None, codes, Option}
use Rattle.std.specs.Str.{bytes_eq}
use Rattle.script.specs.declared.command.Keyword.{Keyword}
use Rattle.script.specs.declared.command.Keyword.TheVariants as keyword
use Rattle.script.specs.declared.command.Links.{Links}
use Rattle.script.specs.declared.command.Links.TheVariants.{One, Three}

abbrev pub keyword_of : List ℕ → Option Keyword
keyword_of bs =
    cond (bytes_eq bs (codes "chain")) (Some keyword.Chain)
    (cond (bytes_eq bs (codes "login")) (Some keyword.Login)
    (cond (bytes_eq bs (codes "lose")) (Some keyword.Lose)
    (cond (bytes_eq bs (codes "inject")) (Some keyword.Inject)
    (cond (bytes_eq bs (codes "collect")) (Some keyword.Collect)
    (cond (bytes_eq bs (codes "step")) (Some keyword.Step)
    (cond (bytes_eq bs (codes "drain")) (Some keyword.Drain)
    (cond (bytes_eq bs (codes "page")) (Some keyword.Page) None)))))))

-- how many words follow
abbrev pub arity : Keyword → ℕ
arity keyword.Chain = 1
arity keyword.Login = 5
arity keyword.Lose = 4
arity keyword.Inject = 2
arity keyword.Collect = 2
arity keyword.Step = 1
arity keyword.Drain = 0
arity keyword.Page = 0

-- 2K
abbrev pub directions_of : Links → ℕ
directions_of One = 2
directions_of Three = 6
