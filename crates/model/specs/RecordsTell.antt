-- The law that records tell the port: each number that a page shows is its count over the log, and none runs over.
use Rattle.std.specs.Prelude.{◌≡◌, ℕ, ◌+◌, ◌*◌, ◌^◌, ◌<◌, ◌≤◌, length}
use Rattle.std.specs.List.{AllByRecursion}
use Rattle.reader.specs.Reading.{WellFormed}
use Rattle.port.specs.Port.{Port}
use Rattle.symbol.specs.declared.end.End.{End}
use Rattle.model.specs.Chain.{Chain, port_of, end_port, port_at_end, opposite, last_tick, outbox_places}
use Rattle.model.specs.Run.{Log}
use Rattle.model.specs.Figures.{Frames, RRdys, reported_lost, made_good, injected, collected, held, owed}
use Rattle.model.specs.Figures.{credit_in_use, ticks}
use Rattle.model.specs.OnePlace.{taker, over_links}

-- no number of a port comes near the largest that its field holds, or leaves the bounds that its type keeps.
pub record PortInBounds (tick : ℕ) (s : Port) : Type 0 where
  pub buffers : s.buffers.all ≤ 32
  pub limit : s.credit.limit ≤ 32
  pub n : s.n ≤ 15
  pub used : s.credit.used ≤ s.credit.limit
  pub room : s.buffers.held + s.buffers.owed ≤ s.buffers.all
  pub stocked : length s.buffers.waiting + length s.buffers.out ≤ s.buffers.held
  pub frames_sent : s.frames_out.sent < 2 ^ s.n
  pub frames_got : s.frames_in.got < 2 ^ s.n
  pub rrdys_sent : s.rrdys_out.sent < 2 ^ s.n
  pub rrdys_got : s.rrdys_in.got < 2 ^ s.n
  pub outbox : length s.outbox.frames ≤ outbox_places
  pub injected : s.outbox.injected ≤ tick + outbox_places
  pub collected : s.buffers.handed ≤ tick
  pub frames_lost : s.frames_in.lost ≤ tick
  pub rrdys_lost : s.rrdys_in.lost ≤ tick
  pub frames_good : s.frames_in.good ≤ s.frames_in.lost
  pub rrdys_good : s.rrdys_in.good ≤ s.rrdys_in.lost

-- so at each port, and of links and ticks
pub record InBounds {B : Type 0} (c : Chain B) : Type 0 where
  pub links : c.links ≤ 8
  pub tick : c.tick ≤ last_tick
  pub ports : (p : ℕ) → p < 2 * c.links → PortInBounds c.tick (port_of c p)

module _ {B : Type 0} where
  -- each number of port p that records determine is the one that they give
  pub record PortTold (c : Chain B) (l : Log) (p : ℕ) : Type 0 where
    pub held_is : (port_of c p).buffers.held ≡ held p l
    pub owed_is : (port_of c p).buffers.owed ≡ owed p l
    pub used_is : (port_of c p).credit.used ≡ credit_in_use p l
    pub frames_lost : (port_of c p).frames_in.lost ≡ reported_lost Frames p l
    pub frames_good : (port_of c p).frames_in.good ≡ made_good Frames p l
    pub rrdys_lost : (port_of c p).rrdys_in.lost ≡ reported_lost RRdys p l
    pub rrdys_good : (port_of c p).rrdys_in.good ≡ made_good RRdys p l
    pub handed_is : (port_of c p).buffers.handed ≡ length (collected p l)

  -- the frames of a way that were reported lost: those that its ports keep, and those of the log
  abbrev pub way_lost : Chain B → End → ℕ
  way_lost c e = over_links (λ i. (port_of c (taker c e i)).frames_in.lost) c.links

  abbrev pub way_reported : Chain B → Log → End → ℕ
  way_reported c l e = over_links (λ i. reported_lost Frames (taker c e i) l) c.links

  -- what the page says of the way from an end
  pub record WayTold (c : Chain B) (l : Log) (e : End) : Type 0 where
    pub injected_is : (port_at_end c e).outbox.injected ≡ length (injected (end_port c e) l)
    pub collected_is :
        (port_at_end c (opposite e)).buffers.handed ≡ length (collected (end_port c (opposite e)) l)
    pub lost_is : way_lost c e ≡ way_reported c l e

  pub record RecordsTell (c : Chain B) (l : Log) : Type 0 where
    pub ports : (p : ℕ) → p < 2 * c.links → PortTold c l p
    pub ways : (e : End) → 0 < c.links → WayTold c l e
    pub tick : c.tick ≡ ticks l
    pub in_bounds : InBounds c
    -- each record is well-formed, so that the log of a run reads back as its events
    pub well_formed : AllByRecursion WellFormed l
