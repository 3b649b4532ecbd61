use Rattle.block_file.proofs.UniqueLaws.{one_parse}
use Rattle.block_file.proofs.block.a_file_has_one_list_of_blocks.Goals as goal

pub returns : goal.returns
returns c = one_parse
