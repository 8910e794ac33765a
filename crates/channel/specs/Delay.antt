-- A delay ring: 64 places, each item counts down from the delay by one a step, and the first is ready at 0.
use Rattle.std.specs.Prelude.{ℕ, min, max, false, cond, List, map, length, nat_lt}
use Rattle.ring.specs.Queue.{pushed, tail}
use Rattle.channel.specs.Calls.{Calls}
use Rattle.channel.specs.Timed.{nearer, items_of, due}
use Rattle.channel.specs.declared.timed.Timed.{Timed}

abbrev pub delay_places : ℕ
delay_places = 64

-- a delay of 1 to 1,000 steps: any other goes to the nearer end
abbrev pub clamped : ℕ → ℕ
clamped n = max 1 (min n 1000)

-- the items with their waits, and the wait of a new one
pub record Delayed : Type 0 where
  pub waiting : List Timed
  pub delay : ℕ

abbrev pub with_waiting : Delayed → List Timed → Delayed
with_waiting c ts = record { waiting = ts; delay = c.delay }

abbrev pub delay_ring : Calls Delayed
delay_ring = record {
  known = λ c. record {
    items = items_of c.waiting;
    ready = due c.waiting;
    space = nat_lt (length c.waiting) delay_places;
  };
  loses = λ c i. false;
  put = λ c i. with_waiting c (pushed delay_places c.waiting (record { item = i; wait = c.delay }));
  take = λ c. with_waiting c (cond (due c.waiting) (tail c.waiting) c.waiting);
  step = λ c. with_waiting c (map nearer c.waiting);
}
