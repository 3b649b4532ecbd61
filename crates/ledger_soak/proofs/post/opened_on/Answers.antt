use Rattle.std.proofs.Common.{refl, ◌∙◌}
use Rattle.batch_committer.specs.World.{pair}
use Rattle.block_file.specs.FileView.{gate_of}
use Rattle.ledger_io.specs.Memory.{sink_state}
use Rattle.ledger_open.specs.Opening.{known_from}
use Rattle.ledger_open.specs.Heads.{edition_in}
use Rattle.twin_file.specs.Which.{in_a_of, file_of, copy_of}
use Rattle.ledger_soak.specs.Posts.{fused_disk}
use Rattle.ledger_soak.proofs.PostLaws.{WasOpened, again_fits, again_holds, again_none}
use Rattle.ledger_soak.proofs.post.opened_on.Goals as goal

pub invariant_of-result : goal.invariant_of-result
invariant_of-result g c = λ open_now.
    let o = c.in-Ok.opened in
    let e = c.in-Ok.ensures in
    let r = e.ok in
    let k = known_from o.book o.places.list (gate_of (file_of o.twin)) in
    let a = (fused_disk c.args.a).bytes in
    let b = (fused_disk c.args.b).bytes in
    let disks = pair (fused_disk c.reopen.new.a) (fused_disk c.reopen.new.b) in
    let was : WasOpened k a b disks (in_a_of o.twin) (edition_in o.twin) (copy_of o.twin) =
    record { start = r.0; blocks = r.1; remembers = r.2; reopened = r.3 refl; told = e.told; edition_is = e.edition refl; none = e.copy; limits = e.limits ∙ c.real.ensures } in
    again_fits k a b disks (in_a_of o.twin) (edition_in o.twin) (copy_of o.twin) (sink_state c.in_ok-sink.sink) was c.new.result.kept c.new.ensures.kept

pub returns-in-Ok-clause-holds : goal.returns-in-Ok-clause-holds
returns-in-Ok-clause-holds g c =
    let o = c.in-Ok.opened in
    let e = c.in-Ok.ensures in
    let r = e.ok in
    let k = known_from o.book o.places.list (gate_of (file_of o.twin)) in
    let a = (fused_disk c.args.a).bytes in
    let b = (fused_disk c.args.b).bytes in
    let disks = pair (fused_disk c.reopen.new.a) (fused_disk c.reopen.new.b) in
    let was : WasOpened k a b disks (in_a_of o.twin) (edition_in o.twin) (copy_of o.twin) =
    record { start = r.0; blocks = r.1; remembers = r.2; reopened = r.3 refl; told = e.told; edition_is = e.edition refl; none = e.copy; limits = e.limits ∙ c.real.ensures } in
    again_holds k a b disks (in_a_of o.twin) (edition_in o.twin) (copy_of o.twin) (sink_state c.in_ok-sink.sink) was c.new.result.kept c.new.ensures.kept

pub returns-in-Ok-clause-dues : goal.returns-in-Ok-clause-dues
returns-in-Ok-clause-dues g c =
    let o = c.in-Ok.opened in
    let e = c.in-Ok.ensures in
    let r = e.ok in
    let k = known_from o.book o.places.list (gate_of (file_of o.twin)) in
    let a = (fused_disk c.args.a).bytes in
    let b = (fused_disk c.args.b).bytes in
    let disks = pair (fused_disk c.reopen.new.a) (fused_disk c.reopen.new.b) in
    let was : WasOpened k a b disks (in_a_of o.twin) (edition_in o.twin) (copy_of o.twin) =
    record { start = r.0; blocks = r.1; remembers = r.2; reopened = r.3 refl; told = e.told; edition_is = e.edition refl; none = e.copy; limits = e.limits ∙ c.real.ensures } in
    again_none k a b disks (in_a_of o.twin) (edition_in o.twin) (copy_of o.twin) (sink_state c.in_ok-sink.sink) was c.new.result.kept c.new.ensures.kept
