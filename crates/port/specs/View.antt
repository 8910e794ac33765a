-- A port of the code, by what the rules know of it.
use Rattle.ring.specs.Contents.{contents}
use Rattle.port.specs.declared.Buffers.{Buffers as BuffersAre}
use Rattle.port.specs.declared.Credit.{Credit as CreditIs}
use Rattle.port.specs.declared.Inflow.{Inflow as InflowIs}
use Rattle.port.specs.declared.Outbox.{Outbox as OutboxIs}
use Rattle.port.specs.declared.Outflow.{Outflow as OutflowIs}
use Rattle.port.specs.declared.Port.{Port as PortIs}
use Rattle.port.specs.Port.{Buffers, Credit, Inflow, Outbox, Outflow, Port}

abbrev pub credit_of : CreditIs → Credit
credit_of c = record { limit = c.limit; used = c.used }

abbrev pub buffers_of : BuffersAre → Buffers
buffers_of b = record {
  all = b.all;
  held = b.held;
  owed = b.owed;
  waiting = contents b.waiting;
  out = contents b.out;
  handed = b.handed;
}

abbrev pub outflow_of : OutflowIs → Outflow
outflow_of f = record { sent = f.sent; due = f.due }

abbrev pub inflow_of : InflowIs → Inflow
inflow_of f = record { got = f.got; lost = f.lost; good = f.good }

abbrev pub outbox_of : OutboxIs → Outbox
outbox_of o = record { frames = contents o.frames; injected = o.injected }

abbrev pub view : PortIs → Port
view p = record {
  n = p.modulus.n;
  credit = credit_of p.credit;
  buffers = buffers_of p.buffers;
  frames_out = outflow_of p.frames_out;
  rrdys_out = outflow_of p.rrdys_out;
  frames_in = inflow_of p.frames_in;
  rrdys_in = inflow_of p.rrdys_in;
  outbox = outbox_of p.outbox;
}
