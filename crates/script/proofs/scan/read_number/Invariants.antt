use Rattle.std.proofs.Common.{◌≡◌, ◌^◌, ◌<◌, drop}
use Rattle.std.specs.Str.{all_ascii_digits}
use Rattle.script.specs.Text.{value_on}
use Rattle.script.proofs.scan.read_number.Given as goal

abbrev pub invariant-loop-b : goal.invariant-loop-b
invariant-loop-b l =
    (l.value < 10 ^ l.b-index)
    × (value_on l.value (drop l.b-index l.text) ≡ value_on 0 l.text)
    × (all_ascii_digits (drop l.b-index l.text) ≡ all_ascii_digits l.text)
