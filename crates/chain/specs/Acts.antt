-- What an act of a chain leaves: the chain, and the sheet with its records.
use Rattle.std.specs.Prelude.{◌≡◌}
use Rattle.eventlog.specs.Sheet.{Logs}
use Rattle.eventlog.specs.declared.sheet.Sheet.{Sheet}
use Rattle.port.specs.Port.{Turn}

-- a turn that found one sheet and left another
pub record Acted {C : Type 0} (t : Turn C) (before : Sheet) (c : C) (after : Sheet) : Type 0 where
  pub state : c ≡ t.state
  pub log : Logs before t.events after
