use Rattle.std.proofs.Common.{◌≡◌, ◌+◌, Some, None, Ok, Option, Result, is_ok, MatchResult, sym, refl, ap, ◌∙◌}
use Rattle.std.proofs.Common.{inl, eq-eqb, arith}
use Rattle.std.specs.Option.{ok_or}
use Rattle.std.proofs.lemmas.Iterator.Consumers.{count_from_yields_List, YieldsList-from_first}
use Rattle.script.specs.declared.command.Keyword.{Keyword}
use Rattle.script.specs.declared.fault.Fault.{Fault}
use Rattle.script.specs.declared.fault.Refusal.{Refusal}
use Rattle.script.specs.declared.fault.Refusal.TheVariants.{UnknownCommand}
use Rattle.script.specs.Commands.{keyword_of}
use Rattle.script.specs.Text.{words}
use Rattle.script.specs.Tokens.{left, seen}
use Rattle.script.proofs.Words.{words_few, length-placed}
use Rattle.script.proofs.line.parse_command.Goals as goal

pub count-requires-clause-fits : goal.count-requires-clause-fits
unfolding left
count-requires-clause-fits c =
    let t = c.args.tokens in
    let counted = t.counted in
    inl (omega (arith, length-placed t.line (words (t.at + 1) t.rest.now), words_few (t.at + 1) t.rest.now))

-- the word's keyword, where the refusal of a word that is none was given its place
known : (o : Option Keyword) (r : Result Keyword Refusal) (s : Result Keyword Fault) (k : Keyword)
    (Q : Refusal → Type 0) → r ≡ ok_or o UnknownCommand → MatchResult r (λ x. s ≡ Ok x) Q → is_ok s ≡ is_ok r
    → s ≡ Ok k → o ≡ Some k
known None r s k Q read told same ok = let no = ap is_ok read in let yes = ap is_ok ok in absurd (cc)
known (Some x) r s k Q read told same ok = let z = rw read at told in cc

pub returns : goal.returns
returns c =
    let n =
    count_from_yields_List c.args.tokens c.count.result c.count.ensures.ran
    (YieldsList-from_first seen left (left c.args.tokens) refl) in
    let text = c.text.ensures in
    let named : keyword_of (seen c.args.first).text ≡ Some c.in_ok-keyword.keyword =
    ap keyword_of (sym text)
    ∙ known _ _ _ _ _ c.try_from.ensures c.map_err.ensures.cases c.map_err.ensures.variant c.in_ok-keyword.was in
    let all = eq-eqb _ _ (sym n ∙ c.if-count-arity.false ∙ c.arity.ensures) in
    rw (named, all, ← c.place-head.ensures) c.command.ensures
