-- A table of ports, seen port by port.
use Rattle.std.proofs.lemmas.List.{map-set, get_or-map}

pub ruleset by_port = (map-set, get_or-map)
