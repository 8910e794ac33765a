use Rattle.std.proofs.Common.{[], set, sym, ap, ◌∙◌, arith}
use Rattle.std.proofs.lemmas.List.{get_or-map, map-set}
use Rattle.loss.specs.Script.{entries_kept}
use Rattle.loss.specs.States.{script_state}
use Rattle.ring.specs.Queue.{pushed}
use Rattle.links.specs.Losses.{losses_state, with_loss}
use Rattle.links.proofs.losses.Losses.add.Goals as goal

pub returns-then-at-lt-DIRECTIONS-clause-state : goal.returns-then-at-lt-DIRECTIONS-clause-state
returns-then-at-lt-DIRECTIONS-clause-state c =
    let l = c.args.self.now in
    let d = c.from-at.result in
    let before = get_or-map script_state l.scripts d c.index-scripts-at.result [] (omega (arith, l.long)) in
    map-set script_state l.scripts d _
    ∙ ap (set (losses_state l) d)
    (c.add.ensures.state ∙ ap (λ es. pushed entries_kept es c.args.entry) (sym before))
    ∙ ap (λ k. with_loss (losses_state l) k c.args.entry) c.from-at.ensures
