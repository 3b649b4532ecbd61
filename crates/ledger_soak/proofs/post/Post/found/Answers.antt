use Rattle.std.proofs.Common.{refl, ◌∙◌}
use Rattle.batch_committer.specs.World.{pair}
use Rattle.block_file.specs.FileView.{gate_of}
use Rattle.ledger_io.specs.Memory.{sink_state}
use Rattle.ledger_open.specs.Opening.{known_from}
use Rattle.ledger_open.specs.Heads.{edition_in}
use Rattle.twin_file.specs.Which.{in_a_of, file_of, copy_of}
use Rattle.ledger_soak.specs.Posts.{fused_disk}
use Rattle.ledger_soak.proofs.PostLaws.{WasMade, made_fits, made_holds}
use Rattle.ledger_soak.proofs.post.Post.found.Goals as goal

pub invariant_of-result : goal.invariant_of-result
invariant_of-result c = λ open_now.
    let o = c.in-Ok.opened in
    let e = c.in-Ok.ensures in
    let k = known_from o.book o.places.list (gate_of (file_of o.twin)) in
    let disks = pair (fused_disk c.init.new.a) (fused_disk c.init.new.b) in
    let made : WasMade k c.args.genesis.now disks (in_a_of o.twin) (edition_in o.twin) (copy_of o.twin) =
    record { keys = e.keys; knows = e.ok.0; first = e.ok.1; one = e.twin.0; none = e.twin.1; told = e.told; limits = e.limits ∙ c.real.ensures; founded = e.founded refl } in
    made_fits k c.args.genesis.now disks (in_a_of o.twin) (edition_in o.twin) (copy_of o.twin) (sink_state c.in_ok-sink.sink) made c.new.result.kept c.new.ensures.kept

pub returns-in-Ok-clause-holds : goal.returns-in-Ok-clause-holds
returns-in-Ok-clause-holds c =
    let o = c.in-Ok.opened in
    let e = c.in-Ok.ensures in
    let k = known_from o.book o.places.list (gate_of (file_of o.twin)) in
    let disks = pair (fused_disk c.init.new.a) (fused_disk c.init.new.b) in
    let made : WasMade k c.args.genesis.now disks (in_a_of o.twin) (edition_in o.twin) (copy_of o.twin) =
    record { keys = e.keys; knows = e.ok.0; first = e.ok.1; one = e.twin.0; none = e.twin.1; told = e.told; limits = e.limits ∙ c.real.ensures; founded = e.founded refl } in
    made_holds k c.args.genesis.now disks (in_a_of o.twin) (edition_in o.twin) (copy_of o.twin) (sink_state c.in_ok-sink.sink) made c.new.result.kept c.new.ensures.kept
