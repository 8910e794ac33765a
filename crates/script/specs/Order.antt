-- The order in which commands may stand.
use Rattle.std.specs.Prelude.{ℕ, ◌+◌, cond, ◌&&◌, replicate, Some, None, Ok, Err, Option, Result, nat_lt, slice_index}
use Rattle.std.specs.Prelude.{slice_set}
use Rattle.script.specs.declared.command.Command.{Command}
use Rattle.script.specs.declared.command.Command.TheVariants.{Chain, Login, Lose, Inject, Collect, Step, Drain, Page}
use Rattle.script.specs.declared.fault.Refusal.{Refusal}
use Rattle.script.specs.declared.fault.Refusal.TheVariants.{OutOfOrder, TooManyLoses}
use Rattle.script.specs.declared.order.Progress.{Progress}
use Rattle.script.specs.declared.order.Stage.{Stage}
use Rattle.script.specs.declared.order.Stage.TheVariants.{Bare, Cabled, Running, Draining}
use Rattle.script.specs.Commands.{directions_of}

-- the chain line is the first, and the only one
abbrev pub cabled : Stage → Option Stage
cabled Bare = Some Cabled
cabled Cabled = None
cabled Running = None
cabled Draining = None

-- login and lose stand before the others
abbrev pub prepared : Stage → Option Stage
prepared Bare = None
prepared Cabled = Some Cabled
prepared Running = None
prepared Draining = None

-- inject does not follow drain
abbrev pub injected : Stage → Option Stage
injected Bare = None
injected Cabled = Some Running
injected Running = Some Running
injected Draining = None

-- collect, step and page stand anywhere behind the chain line
abbrev pub run : Stage → Option Stage
run Bare = None
run Cabled = Some Running
run Running = Some Running
run Draining = Some Draining

-- drain stands once
abbrev pub drained : Stage → Option Stage
drained Bare = None
drained Cabled = Some Draining
drained Running = Some Draining
drained Draining = None

-- the stage after a command, if it may stand here
abbrev pub stage_after : Stage → Command → Option Stage
stage_after s (Chain links) = cabled s
stage_after s (Login link west east m n) = prepared s
stage_after s (Lose d kind first count) = prepared s
stage_after s (Inject end count) = injected s
stage_after s (Collect end count) = run s
stage_after s (Step count) = run s
stage_after s Drain = drained s
stage_after s Page = run s

-- no command yet; a direction is one of six until a chain line says otherwise
abbrev pub nothing_read : Progress
nothing_read = record { stage = Bare; directions = 6; loses = replicate 6 0 }

abbrev pub at_stage : Stage → Progress → Progress
at_stage s p = record { stage = s; directions = p.directions; loses = p.loses }

-- one more lose for a direction, which takes 16
abbrev pub one_more_lose : ℕ → Progress → Result Progress Refusal
one_more_lose d p =
    cond (nat_lt d 6 && nat_lt (slice_index p.loses d) 16)
    (Ok (record {
      stage = p.stage;
      directions = p.directions;
      loses = slice_set p.loses d (slice_index p.loses d + 1);
    }))
    (Err TooManyLoses)

-- what a command adds at its stage
abbrev pub noted : Command → Stage → Progress → Result Progress Refusal
noted (Chain links) s p = Ok (record { stage = s; directions = directions_of links; loses = p.loses })
noted (Login link west east m n) s p = Ok (at_stage s p)
noted (Lose d kind first count) s p = one_more_lose d (at_stage s p)
noted (Inject end count) s p = Ok (at_stage s p)
noted (Collect end count) s p = Ok (at_stage s p)
noted (Step count) s p = Ok (at_stage s p)
noted Drain s p = Ok (at_stage s p)
noted Page s p = Ok (at_stage s p)

abbrev pub at_stage? : Option Stage → Command → Progress → Result Progress Refusal
at_stage? None c p = Err OutOfOrder
at_stage? (Some s) c p = noted c s p

-- the progress after a command, or why it may not stand here
abbrev pub after : Progress → Command → Result Progress Refusal
after p c = at_stage? (stage_after p.stage c) c p
