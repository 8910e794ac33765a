-- A chain of the code, by what the rules know of it.
use Rattle.std.specs.Prelude.{List, map}
use Rattle.port.specs.Port.{Port}
use Rattle.port.specs.View.{view}
use Rattle.model.specs.Chain.{Chain}
use Rattle.chain.specs.declared.inner.Inner.{Inner}
use Rattle.chain.specs.declared.ports.Ports.{Ports}

abbrev pub ports_of : Ports → List Port
ports_of t = map view t.table

-- by what is known of its bank
abbrev pub chain_of : {B M : Type 0} → (B → M) → Inner B → Chain M
chain_of f c = record { bank = f c.bank; links = c.links; tick = c.tick; ports = ports_of c.ports }
