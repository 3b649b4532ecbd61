use Rattle.std.proofs.Common.{sym, subst, ap, ◌∙◌}
use Rattle.block_file.specs.FileView.{gate_of}
use Rattle.ledger_open.specs.Opening.{known_from}
use Rattle.ledger_open.specs.Heads.{edition_in}
use Rattle.twin_file.specs.Which.{in_a_of, file_of}
use Rattle.batch_committer.specs.Opened.{IsOpened}
use Rattle.batch_committer.specs.World.{pair, first_kept, HasRoom}
use Rattle.batch_committer.proofs.Ending.{fits_at}
use Rattle.batch_committer.proofs.Opening.{opened_fits, opened_room, told_at}
use Rattle.book_tests.proofs.committing.Bench.open.Goals as goal

pub invariant_of-result : goal.invariant_of-result
invariant_of-result g c =
    let sink = g.K.Sink.state c.args.sink in
    let opened = c.in-Ok.opened in
    let in_a = in_a_of opened.twin in
    let place = gate_of (file_of opened.twin) in
    let e = c.in-Ok.ensures in
    let a = g.D.Disk.state c.reopen.new.a in
    let b = g.D.Disk.state c.reopen.new.b in
    let edition = edition_in opened.twin in
    let kept = c.new.ensures.kept ∙ ap (first_kept opened.book opened.places.list place in_a edition) e.copy in
    let known = known_from opened.book opened.places.list place in
    let is : IsOpened known in_a (pair a b) e.ok.0 e.ok.1 = record { knows = e.ok.2; told = told_at in_a a b place e.told } in
    λ _. (
      fits_at g.D.Disk.tells _ _ kept (pair a b) sink
          (opened_fits g.D.Disk.tells known in_a edition e.ok.0 e.ok.1 (g.D.Disk.state c.args.a).bytes (g.D.Disk.state c.args.b).bytes (pair a b) sink is e.ok.3 e.edition),
      subst HasRoom (sym kept) (opened_room known in_a edition e.ok.0 e.ok.1 (pair a b) is),
    )
