use Rattle.std.proofs.Common.{length}
use Rattle.hex.specs.Hex.{encode_lower}
use Rattle.script_lines.proofs.Filled.{IsFilledTo}
use Rattle.script_lines.proofs.words.put_hex.Given as goal

abbrev pub invariant-loop-left : goal.invariant-loop-left
invariant-loop-left l = IsFilledTo l.fn.out.items l.out.items (encode_lower l.left) (encode_lower l.fn.bytes)

abbrev pub decreases-loop-left : goal.decreases-loop-left
decreases-loop-left l = length l.left
