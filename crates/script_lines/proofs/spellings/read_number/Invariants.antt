use Rattle.std.proofs.Common.{◌≡◌, ◌≤◌, drop}
use Rattle.script_lines.specs.Spellings.{value_behind}
use Rattle.script_lines.proofs.spellings.read_number.Given as goal

abbrev pub invariant-loop-digit : goal.invariant-loop-digit
invariant-loop-digit l =
    (value_behind 0 l.text ≡ value_behind l.number (drop l.digit-index l.text)) × (l.number ≤ l.most)
