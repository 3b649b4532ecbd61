use Rattle.std.specs.Prelude.{Option, Ok, Err, Some}
use Rattle.std.proofs.Common.{subst}
use Rattle.block_file.specs.Blocks.{IsNextBlock}
use Rattle.block_file.specs.declared.block.BlockAt.{BlockAt}
use Rattle.block_file.proofs.ParseLaws.{given, stands_open}
use Rattle.block_file.proofs.file.BlockFile.next_block.Goals as goal

pub returns-in-Ok-Some-clause-parse : goal.returns-in-Ok-Some-clause-parse
returns-in-Ok-Some-clause-parse g c told front before after root es stands place digest are =
    given c.args.self.now.at c.args.first (g.D.Disk.state c.args.disk.now).bytes.seen root es (stands_open front before after root es _ _ stands place digest) are (Ok (Some c.in-Ok-Some.block))
    (subst (λ (o : Option BlockAt). IsNextBlock c.args.self.now.at (g.D.Disk.state c.args.disk.now).bytes.seen c.args.first (Ok o)) c.in-Ok-Some.field-0-is (c.in-Ok-Some.ensures.answer told))

pub returns-in-Err-clause-parse : goal.returns-in-Err-clause-parse
returns-in-Err-clause-parse g c told front before after root es stands place digest are =
    given c.args.self.now.at c.args.first (g.D.Disk.state c.args.disk.now).bytes.seen root es (stands_open front before after root es _ _ stands place digest) are (Err c.in-Err.e) (c.in-Err.ensures.answer told)
