-- The state of a wire and of a delay ring, as the code keeps it.
use Rattle.std.specs.Prelude.{List}
use Rattle.ring.specs.Contents.{contents}
use Rattle.symbol.specs.declared.Item.{Item}
use Rattle.channel.specs.Delay.{Delayed}
use Rattle.channel.specs.declared.delay.DelayRing.{DelayRing}
use Rattle.channel.specs.declared.wire.Wire.{Wire}

abbrev pub wire_state : Wire → List Item
wire_state w = contents w.items

abbrev pub delay_state : DelayRing → Delayed
delay_state d = record { waiting = contents d.waiting; delay = d.delay }
