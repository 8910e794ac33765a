use Rattle.std.proofs.Common.{◌≡◌, Some, None, Ok, Err, sym, ap, ◌∙◌}
use Rattle.std.proofs.lemmas.Result.{err_from_is_err_and}
use Rattle.script.specs.Script.{State, Stepped, state, next}
use Rattle.script.proofs.Passes.{line_read, no_line, passes}
use Rattle.script.proofs.cursor.Cursor.next_command.Goals as goal

pub returns-in_err-read : goal.returns-in_err-read
unfolding state
returns-in_err-read c =
    let s = state c.args.self.now in
    let t = state c.next_line.new.self in
    let p = err_from_is_err_and c.from_residual.result c.from_residual.ensures.1 in
    let e = c.in_err-read.field-0.0 in
    let step : ◌≡◌ {A = Stepped} (Err e, t) (next s) =
    line_read (state c.lines.self) t c.in-Some.text.now (Err e) c.in-Some.ensures
    (sym c.in_err-read.was ∙ c.read_line.ensures)
    ∙ c.lines.invariant in
    rw (p.1, p.2) (record { step = step; passes = passes s t (Err e) step })

pub returns-in-Some-2 : goal.returns-in-Some-2
unfolding state
returns-in-Some-2 c =
    let s = state c.args.self.now in
    let read = c.in-Some-2.read in
    let past = state c.next_line.new.self in
    let t : State = record { done = past.done; progress = read.progress; ahead = past.ahead } in
    let step : ◌≡◌ {A = Stepped} (Ok (Some read.placed), t) (next s) =
    line_read (state c.lines.self) past c.in-Some.text.now (Ok (Some read)) c.in-Some.ensures
    (sym (c.in_ok-read.was ∙ ap Ok c.in-Some-2.is) ∙ c.read_line.ensures)
    ∙ c.lines.invariant in
    record { step = step; passes = passes s t (Ok (Some read.placed)) step }

pub lines-preserved : goal.lines-preserved
unfolding state
lines-preserved c =
    line_read (state c.lines.self) (state c.next_line.new.self) c.in-Some.text.now (Ok None)
    c.in-Some.ensures (sym (c.in_ok-read.was ∙ ap Ok c.in_default-2.is) ∙ c.read_line.ensures)
    ∙ c.lines.invariant

pub returns : goal.returns
unfolding state
returns c =
    let s = state c.args.self.now in
    let t = state c.next_line.new.self in
    let step = no_line (state c.lines.self) t c.in_default.ensures ∙ c.lines.invariant in
    record { step = step; passes = passes s t (Ok None) step }
