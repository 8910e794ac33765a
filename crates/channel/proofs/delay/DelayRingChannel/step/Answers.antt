use Rattle.std.proofs.Common.{rules}
use Rattle.channel.proofs.Waiting.{within_nearer}
use Rattle.channel.proofs.delay.DelayRingChannel.step.Goals as goal

pub invariant_of-self : goal.invariant_of-self
invariant_of-self c = search (rules, within_nearer)
