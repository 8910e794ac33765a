use Rattle.std.proofs.Common.{ap, arith, rules, length}
use Rattle.std.proofs.lemmas.Bool.Decides.{nat_tests}
use Rattle.script.specs.Text.{in_gap, in_word}
use Rattle.script.specs.Tokens.{left, placed}
use Rattle.script.proofs.Words.{Cut, no_word, first_word}
use Rattle.script.proofs.token.TokensIterator.next.Goals as goal
use Rattle.script.proofs.token.TokensIterator.next.Goals.{After-is_empty}

cut : (c : After-is_empty)
    → Cut c.args.self.now.rest.now c.split_run.result.0.now c.split_run-2.result.0.now c.split_run-2.result.1.now
cut c = record {
  behind = c.split_run.result.1.now;
  gap_is = c.split_run.ensures.run in_gap (λ b r h. search rules);
  whole = c.split_run.ensures.whole;
  word_is = c.split_run-2.ensures.run in_word (λ b r h. search rules);
  behind_is = c.split_run-2.ensures.whole;
}

pub returns-then-is_empty : goal.returns-then-is_empty
unfolding left
returns-then-is_empty c =
    let old = c.args.self.now in
    let none =
    no_word old.at old.rest.now c.split_run.result.0.now c.split_run-2.result.0.now c.split_run-2.result.1.now
    (cut (goal.at.returns-then-is_empty c).After-is_empty) (search rules) in
    record { steps = (ap (placed old.line) none.0, rw none.1); goes = search rules }

pub returns : goal.returns
unfolding left
returns c =
    let old = c.args.self.now in
    let one =
    first_word old.at old.rest.now c.split_run.result.0.now c.split_run-2.result.0.now c.split_run-2.result.1.now
    (cut (goal.at.returns c).After-is_empty) (grind (arith, nat_tests)) in
    let fewer = ap (λ ws. length (placed old.line ws)) one in
    record { steps = rw (one, c.from_word.ensures); goes = search rules }
