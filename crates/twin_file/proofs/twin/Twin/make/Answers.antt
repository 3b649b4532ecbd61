use Rattle.std.proofs.Common.{ap, inl, sym, subst}
use Rattle.ledger_disk.specs.Disk.{State, MayLeave}
use Rattle.ledger_disk.proofs.Guarding.{settled_image}
use Rattle.block_file.specs.Head.{IsShut}
use Rattle.twin_file.proofs.OpenLaws.{shut_kept}
use Rattle.twin_file.proofs.QuietLaws.{quiet_made}
use Rattle.twin_file.proofs.BuiltLaws.{made}
use Rattle.twin_file.proofs.twin.Twin.make.Goals as goal

pub returns-in_err-clear-clause-images : goal.returns-in_err-clear-clause-images
returns-in_err-clear-clause-images g c told shut image_a image_b left_a left_b =
    let a = (g.D.Disk.state c.args.a.now).bytes in (
      shut_kept (g.D.Disk.state c.args.b.now).bytes (g.D.Disk.state c.clear.new.disk).bytes image_b (c.clear.ensures.images told) shut.quiet_b shut.shut_b left_b,
      inl (subst IsShut (sym (settled_image a.seen image_a (subst (λ (s : State). MayLeave s image_a) shut.quiet_a left_a))) shut.shut_a),
    )

pub returns-clause-built : goal.returns-clause-built
returns-clause-built g c told =
    made c.args.block.now (g.D.Disk.state c.make_first.new.disk).bytes.seen c.in_ok-file.file (ap (λ (s : State). s.seen) (c.in_ok-file.ensures.ok told)) c.in_ok-file.ensures.place

pub returns-clause-quiet : goal.returns-clause-quiet
returns-clause-quiet g c told shut =
    quiet_made (g.D.Disk.state c.make_first.new.disk).bytes (g.D.Disk.state c.clear.new.disk).bytes c.args.block.now (c.in_ok-file.ensures.ok told) (c.in_ok-clear.ensures.ok told shut.quiet_b)
