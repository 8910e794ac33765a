use Rattle.std.proofs.Common.{◌≡◌, drop, sym, ap, ◌∙◌, arith, rules, length-drop}
use Rattle.std.proofs.lemmas.Bool.Decides.{nat_tests}
use Rattle.std.proofs.lemmas.List.{nil_from_length, take_all}
use Rattle.script.specs.Script.{state, line_by}
use Rattle.script.specs.Text.{in_line}
use Rattle.script.proofs.Lines.{first_line, no_line}
use Rattle.script.proofs.cursor.Cursor.next_line.Goals as goal
use Rattle.script.proofs.cursor.Cursor.next_line.Goals.{in-empty, in-len1-up}

pub returns-then-is_empty : goal.returns-then-is_empty
unfolding state
returns-then-is_empty c =
    let cursor = c.args.self.now in
    sym (ap (line_by (state cursor)) (no_line cursor.rest.now (search rules)))

pub returns : goal.returns
unfolding state
returns c =
    let ended = c.split_run.result.1.now in
    let behind : c.if-ended-lt1.self.now ≡ drop 1 ended =
    elim c.if-ended-lt1.branch [
      | in-empty w ↦ ap (λ r. r.now) w.self-is ∙ rw (nil_from_length ended (omega arith))
      | in-len1-up w ↦ ap (λ r. r.now) w.self-is ∙ take_all _ _ (omega (arith, length-drop 1 ended))
    ] in
    rw (first_line c.args.self.now.rest.now c.split_run.result.0.now ended c.if-ended-lt1.self.now
    (grind (arith, nat_tests)) (c.split_run.ensures.run in_line (λ b r h. search rules))
    c.split_run.ensures.whole behind)
