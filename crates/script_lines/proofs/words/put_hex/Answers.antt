use Rattle.std.proofs.Common.{◌≡◌, ◌++◌, length, ap, ◌∙◌, arith}
use Rattle.std.proofs.lemmas.Bool.Decides.{nat_tests}
use Rattle.hex.specs.Hex.{encode_lower}
use Rattle.script_lines.proofs.Filled.{filled-end, filled-chunk}
use Rattle.script_lines.proofs.words.put_hex.Goals as goal

pub loop-left-preserved : goal.loop-left-preserved
loop-left-preserved c =
    let now = c.loop-left.out.items in
    let written = rw c.unwrap.ensures at c.encode_to_slice.ensures.written in
    let is = c.in_ok-extend_from_slice.ensures.items ∙ ap (λ digits. now ++ digits) written in
    let parts = c.split_at.ensures.by_index.0 in
    filled-chunk c.args.out.now.items now c.loop-left.left.now c.split_at.result.0.now c.split_at.result.1.now (encode_lower c.args.bytes.now) c.extend_from_slice.new.self.items c.loop-left.invariant parts is

pub returns-clause-ok : goal.returns-clause-ok
returns-clause-ok c =
    let test = c.loop-left-test.ensures in
    let none : length c.loop-left.left.now ≡ 0 = grind (arith, nat_tests) in
    filled-end c.args.out.now.items c.loop-left.out.items c.loop-left.left.now (encode_lower c.args.bytes.now) c.loop-left.invariant none
