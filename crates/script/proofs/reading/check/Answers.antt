use Rattle.std.proofs.Common.{Err, sym, ap, ◌∙◌, arith}
use Rattle.std.proofs.lemmas.Result.{err_from_is_err_and}
use Rattle.script.specs.Script.{state, ends}
use Rattle.script.proofs.Passes.{fewer, ends_none}
use Rattle.script.proofs.Verdicts.{verdict_short, judged}
use Rattle.script.proofs.reading.check.Goals as goal

pub returns-in_err-next_command : goal.returns-in_err-next_command
returns-in_err-next_command c =
    let bs = c.args.script.now in
    let p = err_from_is_err_and c.from_residual.result c.from_residual.ensures.1 in
    let told =
    sym (ap ends {y = Err c.in_err-next_command.field-0.0} c.in_err-next_command.ensures.passes) in
    rw (p.1, p.2) (record { answer = told ∙ c.commands.invariant ∙ verdict_short bs (omega arith); law = judged bs })

pub commands-smaller : goal.commands-smaller
commands-smaller c =
    let t = state c.next_command.new.self in
    fewer (state c.commands.cursor) t c.in_ok-next_command.field-0
    (ap (λ r. (r, t)) (sym c.in_ok-next_command.was) ∙ c.next_command.ensures.step)
    (sym c.is_some.ensures ∙ c.if-is_some.true)

pub returns : goal.returns
returns c =
    let bs = c.args.script.now in
    let s = state c.commands.cursor in
    let t = state c.next_command.new.self in
    let none =
    ends_none s t c.in_ok-next_command.field-0 c.in_ok-next_command.ensures.passes
    (sym c.is_some.ensures ∙ c.if-is_some.false) in
    record { answer = none ∙ c.commands.invariant ∙ verdict_short bs (omega arith); law = judged bs }
