use Rattle.std.proofs.Common.{◌++◌, take, ◌-◌, ap₂, ◌∙◌, arith}
use Rattle.ring.proofs.Windows.{window_halves}
use Rattle.ring.proofs.Ring.as_slices.Goals as goal

pub returns : goal.returns
returns g c =
    let r = c.args.self.now in
    let k = c.min-front.result in
    ap₂ (λ back front. take k back ++ take (r.len - k) front) c.split_at.ensures.back c.split_at.ensures.front
    ∙ window_halves r.places g.row.N r.head r.long r.head_in r.len k r.len_in (omega arith)
