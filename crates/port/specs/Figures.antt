-- What a page shows of a port.
use Rattle.port.specs.Port.{Port}
use Rattle.port.specs.declared.figures.Figures.{Figures}

abbrev pub figures_of : Port → Figures
figures_of p = record {
  limit = p.credit.limit;
  in_use = p.credit.used;
  held = p.buffers.held;
  owed = p.buffers.owed;
  frames_lost = p.frames_in.lost;
  frames_good = p.frames_in.good;
  rrdys_lost = p.rrdys_in.lost;
  rrdys_good = p.rrdys_in.good;
  injected = p.outbox.injected;
  collected = p.buffers.handed;
}
