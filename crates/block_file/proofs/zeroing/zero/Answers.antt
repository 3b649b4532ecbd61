use Rattle.std.specs.Prelude.{IsTrue}
use Rattle.ledger_disk.proofs.Confining.{confined_image}
use Rattle.block_file.proofs.ZeroLaws.{synced_images}
use Rattle.block_file.proofs.zeroing.zero.Goals as goal

pub returns-in_err-zero_pieces-clause-images : goal.returns-in_err-zero_pieces-clause-images
returns-in_err-zero_pieces-clause-images g c told quiet image left =
    confined_image c.args.at c.args.len (g.D.Disk.state c.args.disk.now).bytes.seen (g.D.Disk.state c.zero_pieces.new.disk).bytes image (c.zero_pieces.ensures.confined told quiet) left

pub returns-clause-images : goal.returns-clause-images
returns-clause-images g c told quiet image left =
    synced_images c.sync.result (IsTrue g.D.Disk.tells) c.args.at c.args.len (g.D.Disk.state c.args.disk.now).bytes.seen (g.D.Disk.state c.zero_pieces.new.disk).bytes (g.D.Disk.state c.sync.new.self).bytes
    c.sync.ensures.ok c.sync.ensures.err told (c.zero_pieces.ensures.outside told) (c.zero_pieces.ensures.confined told quiet) image left
