use Rattle.std.proofs.Common.{◌-◌, length, option_map}
use Rattle.script_lines.specs.Parts.{parts_left}
use Rattle.script_lines.proofs.Given.{AreRead}
use Rattle.script_lines.proofs.spellings.read_approvals.Given as goal

abbrev pub invariant-loop-left : goal.invariant-loop-left
invariant-loop-left l = AreRead l.fn.text l.given.items (parts_left 44 (option_map (λ t. t.now) l.left))

abbrev pub decreases-loop-left : goal.decreases-loop-left
decreases-loop-left l = 256 - length l.given.items
