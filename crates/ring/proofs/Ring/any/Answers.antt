use Rattle.std.proofs.Common.{ap, ◌∙◌, rules}
use Rattle.std.specs.List.{list_any}
use Rattle.std.proofs.lemmas.Iterator.{YieldsList-from_slice}
use Rattle.std.proofs.lemmas.Iterator.Consumers.{YieldsList-from_chain}
use Rattle.std.proofs.lemmas.Iterator.Search.{any_from_yields_List}
use Rattle.ring.specs.Contents.{contents}
use Rattle.ring.proofs.Rings.{any_same}
use Rattle.ring.proofs.Ring.any.Goals as goal

pub returns : goal.returns
returns g c =
    let p = g.Q.Test.passes c.args.test.now in
    let front = c.as_slices.result.0.now in
    let back = c.as_slices.result.1.now in
    any_from_yields_List p _ _ _ c.any.ensures.ran
    (YieldsList-from_chain (YieldsList-from_slice front (cc)) (YieldsList-from_slice back (cc)) (cc) (cc))
    (λ x b q k. search rules)
    ∙ ap (list_any p) c.as_slices.ensures
    ∙ any_same p (contents c.args.self.now)
