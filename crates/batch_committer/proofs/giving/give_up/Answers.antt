use Rattle.std.specs.Prelude.{IsSomeAnd}
use Rattle.std.proofs.Common.{◌+◌, ◌≤◌, sym, ap, subst, ◌∙◌}
use Rattle.block_file.specs.FileView.{gate_of}
use Rattle.ledger_book.specs.Books.{Kept}
use Rattle.twin_file.specs.Twin.{open_of}
use Rattle.ledger_open.specs.Heads.{edition_in}
use Rattle.twin_file.specs.Which.{in_a_of, file_of}
use Rattle.twin_file.specs.declared.twin.Twin.{Twin}
use Rattle.ledger_open.proofs.FinishedLaws.{twin_stays, counts_stay}
use Rattle.ledger_open.specs.declared.opened.Opened.{Opened}
use Rattle.batch_committer.specs.Committed.{ledger_on, IsFinished}
use Rattle.batch_committer.specs.World.{pair}
use Rattle.batch_committer.proofs.GivenUp.{prepared_some, prepared_none, erased_finished, erased_unfinished, purge_finished, purge_unfinished, told_apart, told_together}
use Rattle.batch_committer.proofs.Ordering.{inside_order}
use Rattle.batch_committer.proofs.giving.give_up.Goals as goal

pub purge_files-requires-clause-inside : goal.purge_files-requires-clause-inside
purge_files-requires-clause-inside g c = inside_order 64 (gate_of (file_of c.args.opened.now.twin)) c.args.opened.now.places.list c.requires.order

pub purge_files-requires-clause-told : goal.purge_files-requires-clause-told
purge_files-requires-clause-told g c = told_apart (in_a_of c.args.opened.now.twin) _ _ (gate_of (file_of c.args.opened.now.twin)) c.requires.told

pub finish_erasures-requires-clause-inside : goal.finish_erasures-requires-clause-inside
finish_erasures-requires-clause-inside g c = inside_order 64 (gate_of (file_of c.args.opened.now.twin)) c.args.opened.now.places.list c.requires.order

pub returns-in-Ok-clause-ok : goal.returns-in-Ok-clause-ok
returns-in-Ok-clause-ok g c later gone =
    let e = c.in-Ok.ensures in
    let o = c.args.opened.now in
    let x = c.purge_files.new.opened in
    let after_a = g.D.Disk.state c.purge_files.new.a in
    let after_b = g.D.Disk.state c.purge_files.new.b in
    let done = e.done later gone in
    let counts = counts_stay _ x later gone in
    purge_finished g.D.Disk.tells _ _ _ _ (prepared_some o.book o.places.list c.args.purge c.is_some.result c.is_some.ensures c.if-is_some.true c.requires.prepared) done.clean done.gate
    (subst (λ (t : Twin). IsSomeAnd (open_of (in_a_of t) after_a after_b).told (λ n. gate_of (file_of t) + 1 ≤ n)) (sym (twin_stays _ x later gone))
    (told_together (in_a_of x.twin) after_a after_b (gate_of (file_of x.twin)) e.told))
    done.order (counts.0 ∙ ap (λ (k : Kept). k.limits) e.memory.0) (counts.1 ∙ ap (λ (k : Kept). k.size) e.memory.0, counts.2 ∙ ap (λ (k : Kept). k.sealed) e.memory.0) e.faults

pub returns-in-Ok-finish_erasures-clause-ok : goal.returns-in-Ok-finish_erasures-clause-ok
returns-in-Ok-finish_erasures-clause-ok g c later is =
    let e = c.in-Ok-finish_erasures.ensures in
    let o = c.args.opened.now in
    let before = pair (g.D.Disk.state c.args.a.now) (g.D.Disk.state c.args.b.now) in
    let after = pair (g.D.Disk.state c.finish_erasures.new.a) (g.D.Disk.state c.finish_erasures.new.b) in
    subst (λ (x : Opened). IsFinished g.D.Disk.tells (ledger_on o before) (ledger_on x after) before after) (sym (is ∙ e.same))
    (erased_finished g.D.Disk.tells o.book o.places.list (gate_of (file_of o.twin)) (in_a_of o.twin) (edition_in o.twin) before after e.other
    (prepared_none o.book o.places.list c.args.purge c.is_some.result c.is_some.ensures c.if-is_some.false c.requires.prepared) c.requires.order e.ok e.rest e.told e.faults)

pub returns-clause-err : goal.returns-clause-err
returns-clause-err g c =
    let e = c.in-Err-finish_erasures.ensures in
    let o = c.args.opened.now in
    let before = pair (g.D.Disk.state c.args.a.now) (g.D.Disk.state c.args.b.now) in
    let after = pair (g.D.Disk.state c.finish_erasures.new.a) (g.D.Disk.state c.finish_erasures.new.b) in
    erased_unfinished g.D.Disk.tells o.book o.places.list (gate_of (file_of o.twin)) (in_a_of o.twin) (edition_in o.twin) before after e.other _ e.only e.faults e.images

pub returns-then-is_some-clause-err : goal.returns-then-is_some-clause-err
returns-then-is_some-clause-err g c =
    let e = c.in-Err.ensures in
    let o = c.args.opened.now in
    let before = pair (g.D.Disk.state c.args.a.now) (g.D.Disk.state c.args.b.now) in
    let after = pair (g.D.Disk.state c.purge_files.new.a) (g.D.Disk.state c.purge_files.new.b) in
    purge_unfinished g.D.Disk.tells (ledger_on o before) before after _ (prepared_some o.book o.places.list c.args.purge c.is_some.result c.is_some.ensures c.if-is_some.true c.requires.prepared) e.only e.faults c.purge_files.ensures.left.images
