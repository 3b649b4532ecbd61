use Rattle.std.proofs.Common.{ap, ◌∙◌}
use Rattle.batch_committer.proofs.Opening.{told_at}
use Rattle.batch_committer.specs.World.{pair, first_kept}
use Rattle.block_file.specs.FileView.{gate_of}
use Rattle.ledger_open.specs.Opening.{known_from}
use Rattle.ledger_open.specs.Heads.{edition_in}
use Rattle.twin_file.specs.Which.{in_a_of, file_of}
use Rattle.ledger_cli.proofs.BesideLaws.{board_ran, board_unopened}
use Rattle.ledger_cli.proofs.OpeningLaws.{not_opened, again_fits}
use Rattle.ledger_cli.proofs.beside.run_board.Goals as goal

pub run_beside-requires-clause-fits : goal.run_beside-requires-clause-fits
run_beside-requires-clause-fits g c κs within =
    let o = c.in-Ok.opened in
    let r = c.in-Ok.ensures.ok in
    again_fits (g.V.Verifier.shows c.args.tools.now.verifier.now) g.D.Disk.tells (g.S.Source.state c.args.source.now) _ (g.N.Notary.state c.args.notary.now) (pair (g.D.Disk.state c.args.a.now) (g.D.Disk.state c.args.b.now)) _ (known_from o.book o.places.list (gate_of (file_of o.twin))) (in_a_of o.twin) (edition_in o.twin) r.0 r.1 (record { knows = r.2; told = told_at (in_a_of o.twin) _ _ _ c.in-Ok.ensures.told }) _ (c.new-committer.ensures.kept ∙ ap (first_kept o.book o.places.list (gate_of (file_of o.twin)) (in_a_of o.twin) (edition_in o.twin)) c.in-Ok.ensures.copy) r.3 c.in-Ok.ensures.edition

pub returns-in-Ok : goal.returns-in-Ok
returns-in-Ok g c =
    let o = c.in-Ok.opened in
    let r = c.in-Ok.ensures.ok in
    let counts = c.in-Ok.ensures.faults in
    board_ran _ g.D.Disk.tells c.args.provers c.args.count _ _ _ _ _ (known_from o.book o.places.list (gate_of (file_of o.twin))) (in_a_of o.twin) (edition_in o.twin) r.0 r.1 (record { knows = r.2; told = told_at (in_a_of o.twin) _ _ _ c.in-Ok.ensures.told }) _ (c.new-committer.ensures.kept ∙ ap (first_kept o.book o.places.list (gate_of (file_of o.twin)) (in_a_of o.twin) (edition_in o.twin)) c.in-Ok.ensures.copy)
    (c.in-Ok.ensures.limits ∙ c.real.ensures) r.3 counts.0 counts.1 c.run_beside.result _ c.run_beside.ensures

pub returns-in-Err : goal.returns-in-Err
returns-in-Err g c =
    rw c.from.ensures (board_unopened _ g.D.Disk.tells c.args.provers c.args.count _ _ _ _ _ c.in-Err.error (not_opened _ g.D.Disk.tells _ _ _ _ _ _ c.in-Err.error c.in-Err.ensures.only c.in-Err.ensures.err c.in-Err.ensures.same c.in-Err.ensures.refused c.in-Err.ensures.synced c.in-Err.ensures.clean c.in-Err.ensures.faults))
