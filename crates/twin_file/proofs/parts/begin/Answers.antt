use Rattle.std.proofs.Common.{inl, inr}
use Rattle.block_file.proofs.VeilLaws.{veiled_gate}
use Rattle.twin_file.proofs.BuiltLaws.{begun}
use Rattle.twin_file.proofs.OpenLaws.{scrap_passed}
use Rattle.twin_file.proofs.parts.begin.Goals as goal

pub returns-in_err-start-clause-images : goal.returns-in_err-start-clause-images
returns-in_err-start-clause-images g c told quiet in_a taken passed image left = scrap_passed in_a taken _ image passed (c.in_err-start.ensures.err told quiet image left)

pub returns-clause-images : goal.returns-clause-images
returns-clause-images g c told quiet in_a taken passed image left = inl (inr (veiled_gate (g.D.Disk.state c.create.new.disk).bytes image (c.create.ensures.veiled told) left))

pub returns-clause-begun : goal.returns-clause-begun
returns-clause-begun g c =
    begun g.D.Disk.tells c.args.generation c.args.base.now _ _ c.create.result c.create.ensures.seen c.create.ensures.veiled c.create.ensures.place c.create.ensures.told
