use Rattle.std.proofs.Common.{arith, inr, subst}
use Rattle.ledger_disk.specs.Disk.{State, MayLeave}
use Rattle.twin_file.proofs.OpenLaws.{scrap_passed, cut_scrap, cut_front}
use Rattle.twin_file.proofs.parts.wipe_file.Goals as goal

pub returns-in_err-cut-clause-images : goal.returns-in_err-cut-clause-images
returns-in_err-cut-clause-images g c told quiet in_a taken passed image left =
    scrap_passed in_a taken _ image passed (cut_scrap (g.D.Disk.state c.args.disk.now).bytes (g.D.Disk.state c.cut.new.self).bytes image quiet (c.in_err-cut.ensures.err told) left)

pub returns-in_err-sync-clause-images : goal.returns-in_err-sync-clause-images
returns-in_err-sync-clause-images g c told quiet in_a taken passed image left =
    let left_cut = subst (λ (s : State). MayLeave s image) (c.in_err-sync.ensures.err told) left in
    scrap_passed in_a taken _ image passed (cut_scrap (g.D.Disk.state c.args.disk.now).bytes (g.D.Disk.state c.cut.new.self).bytes image quiet (inr (0, omega arith, omega arith, c.in_ok-cut.ensures.ok told)) left_cut)

pub returns-in_err-cut-clause-front : goal.returns-in_err-cut-clause-front
returns-in_err-cut-clause-front g c told quiet image left =
    cut_front (g.D.Disk.state c.args.disk.now).bytes (g.D.Disk.state c.cut.new.self).bytes image quiet (c.in_err-cut.ensures.err told) left

pub returns-in_err-sync-clause-front : goal.returns-in_err-sync-clause-front
returns-in_err-sync-clause-front g c told quiet image left =
    let left_cut = subst (λ (s : State). MayLeave s image) (c.in_err-sync.ensures.err told) left in
    cut_front (g.D.Disk.state c.args.disk.now).bytes (g.D.Disk.state c.cut.new.self).bytes image quiet (inr (0, omega arith, omega arith, c.in_ok-cut.ensures.ok told)) left_cut
