use Rattle.std.proofs.Common.{◌≡◌, ◌∙◌, rules}
use Rattle.std.specs.List.{prefix_len}
use Rattle.std.proofs.lemmas.Iterator.{YieldsList-from_slice}
use Rattle.std.proofs.lemmas.Iterator.Consumers.{count_from_yields_List}
use Rattle.std.proofs.lemmas.Iterator.Search.{YieldsList-from_take_while}
use Rattle.std.proofs.lemmas.List.Folds.{length-prefix_len}
use Rattle.script.proofs.scan.split_run.Goals as goal

-- the bytes taken are those at the front for which the closure answers as p does
pub returns : goal.returns
returns g c = record {
  run = λ p answers.
      let n : c.count.result ≡ prefix_len p c.args.text.now =
      count_from_yields_List c.take_while.result c.count.result c.count.ensures.ran
      (YieldsList-from_take_while _ p (YieldsList-from_slice c.args.text.now cc) c.take_while.ensures.closure
      c.take_while.ensures.done (λ x b q k. (search rules, answers _ _ (search rules))))
      ∙ length-prefix_len p c.args.text.now in
      rw (← n) c.split_at.ensures.front;
  whole = c.split_at.ensures.by_index.0;
}
