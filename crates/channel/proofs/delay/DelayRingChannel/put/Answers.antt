use Rattle.std.proofs.Common.{ap, ◌∙◌, arith}
use Rattle.ring.specs.Contents.{contents}
use Rattle.channel.specs.Timed.{within}
use Rattle.channel.proofs.Waiting.{within_pushed}
use Rattle.channel.proofs.delay.DelayRingChannel.put.Goals as goal

pub invariant_of-self : goal.invariant_of-self
invariant_of-self c =
    let d = c.args.self.now in record {
      bounded = ap (within d.delay) c.push.ensures.state
          ∙ within_pushed d.delay 64 (contents d.waiting) _ d.bounded (omega arith);
    }
