use Rattle.std.proofs.Common.{length, sym, ◌∙◌, arith}
use Rattle.std.proofs.lemmas.Bool.{lt-ltb, cond-true}
use Rattle.ring.specs.Contents.{contents}
use Rattle.ring.proofs.Rings.{ring_length, ring_push}
use Rattle.ring.proofs.Ring.push.Goals as goal

pub returns-clause-state : goal.returns-clause-state
returns-clause-state g c =
    let r = c.args.self.now in
    let less = lt-ltb (length (contents r)) g.row.N (omega (arith, ring_length r)) in
    ring_push r c.place-at.result c.args.x c.if-self.false c.place-at.ensures ∙ sym (cond-true _ _ _ less)
