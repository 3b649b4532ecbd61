use Rattle.std.proofs.Common.{ap, ◌∙◌}
use Rattle.batch_committer.specs.World.{pair, first_kept}
use Rattle.block_file.specs.FileView.{gate_of}
use Rattle.ledger_open.specs.Opening.{known_from}
use Rattle.ledger_open.specs.Heads.{edition_in}
use Rattle.twin_file.specs.Which.{in_a_of, file_of}
use Rattle.ledger_cli.proofs.OpeningLaws.{founding_left, new_fits, ran_new, not_run, known_remembered}
use Rattle.ledger_cli.proofs.top.run_new.Goals as goal

pub run_session-requires-clause-fits : goal.run_session-requires-clause-fits
run_session-requires-clause-fits g c κs within =
    let o = c.in-Ok.opened in
    let e = c.in-Ok.ensures in
    let r = e.ok in
    let counts = e.faults in
    new_fits _ g.D.Disk.tells (g.S.Source.state c.args.source.now) _ (g.N.Notary.state c.args.notary.now) (pair (g.D.Disk.state c.args.a.now) (g.D.Disk.state c.args.b.now)) _ e.left (λ t. founding_left _ _ _ (e.synced t)) counts.0 counts.1 e.founded e.shut (known_from o.book o.places.list (gate_of (file_of o.twin))) e.keys (record { knows = known_remembered r.0; told = e.told }) (in_a_of o.twin) r.1 (edition_in o.twin) e.twin.0 _ (c.new-committer.ensures.kept ∙ ap (first_kept o.book o.places.list (gate_of (file_of o.twin)) (in_a_of o.twin) (edition_in o.twin)) e.twin.1)

pub returns-in-Ok : goal.returns-in-Ok
returns-in-Ok g c =
    let o = c.in-Ok.opened in
    let e = c.in-Ok.ensures in
    let r = e.ok in
    let counts = e.faults in
    ran_new _ g.D.Disk.tells _ _ _ _ _ e.left (λ t. founding_left _ _ _ (e.synced t)) counts.0 counts.1 e.founded e.shut (known_from o.book o.places.list (gate_of (file_of o.twin))) e.keys (record { knows = known_remembered r.0; told = e.told }) (in_a_of o.twin) r.1 (edition_in o.twin) e.twin.0 _ (c.new-committer.ensures.kept ∙ ap (first_kept o.book o.places.list (gate_of (file_of o.twin)) (in_a_of o.twin) (edition_in o.twin)) e.twin.1)
    _ (e.limits ∙ c.real.ensures) c.run_session.result _ c.run_session.ensures.ran c.run_session.ensures.unrefused

pub returns-in-Err : goal.returns-in-Err
returns-in-Err g c =
    let e = c.in-Err.ensures in
    rw c.from.ensures (not_run _ g.D.Disk.tells _ _ _ _ _ e.left (λ t. founding_left _ _ _ (e.synced t)) _ c.in-Err.refusal e.err e.exists e.same e.faults)
