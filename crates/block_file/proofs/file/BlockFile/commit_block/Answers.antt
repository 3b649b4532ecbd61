use Rattle.std.proofs.lemmas.Result.{on_ok_weaker, on_err_weaker}
use Rattle.block_file.proofs.WriteLaws.{one_block}
use Rattle.block_file.proofs.file.BlockFile.commit_block.Goals as goal

pub returns-clause-ok : goal.returns-clause-ok
returns-clause-ok g c = on_ok_weaker c.commit_blocks.result (λ added. added _ (one_block c.args.block.now)) c.commit_blocks.ensures.ok

pub returns-clause-err : goal.returns-clause-err
returns-clause-err g c = on_err_weaker c.commit_blocks.result (λ may told. may told _ (one_block c.args.block.now)) c.commit_blocks.ensures.err
