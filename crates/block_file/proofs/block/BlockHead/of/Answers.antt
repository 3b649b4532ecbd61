use Rattle.std.proofs.Common.{rules, arith, ◌≡◌, length}
use Rattle.block_file.specs.Blocks.{count_in, body_len_in}
use Rattle.block_file.proofs.HeadLaws.{head_parts}
use Rattle.block_file.proofs.block.BlockHead.of.Goals as goal

pub returns-clause-bytes : goal.returns-clause-bytes
unfolding count_in body_len_in
returns-clause-bytes c =
    let size : length c.args.bytes.now ≡ 44 = search rules in
    head_parts c.args.bytes.now _ _ _ size (λ i. omega (arith, c.fits-bytes i)) (search rules) (search rules) (search rules)
