use Rattle.std.proofs.Common.{◌≡◌, ◌+◌, [], ◌++◌, drop, sym, ap, subst, ◌∙◌, arith}
use Rattle.ledger_model.specs.History.{close}
use Rattle.ledger_book.specs.Books.{Serves}
use Rattle.ledger_open.specs.Places.{AreInOrder}
use Rattle.ledger_open.proofs.FinishedLaws.{twin_stays}
use Rattle.twin_file.specs.Which.{copy_of}
use Rattle.batch_committer.specs.World.{CommitterState, world, pair}
use Rattle.batch_committer.specs.contracts.taking.Taking.{the_view}
use Rattle.batch_committer.proofs.Ending.{IsAtEnd, none_waits, end_unspelled, at_end, end_goes, end_uncommitted, end_unfinished, end_unwritten, count_few, fits_finished, order_ended, group_bytes, finished_as, unfinished_as, ledger_is, named_at, shut_bytes, edition_stays, fits_at, goes_at, goes_to, ended_at, first_of_text}
use Rattle.batch_committer.proofs.Judging.{on_ok_then}
use Rattle.batch_committer.proofs.Offering.{settle_goes, settle_ended, if_err_then}
use Rattle.batch_committer.proofs.WayLaws.{err_is, ended_by}
use Rattle.batch_committer.proofs.taking.Taking.flush.Goals as goal

pub returns-in_err-end_open-clause-err : goal.returns-in_err-end_open-clause-err
returns-in_err-end_open-clause-err g c = err_is _ c.from_residual.result _ c.from_residual.ensures.1 (end_unspelled g.D.Disk.tells _ _)

pub returns-in_err-begin_next-clause-err : goal.returns-in_err-begin_next-clause-err
returns-in_err-begin_next-clause-err g c = err_is _ c.from_residual-in_err-begin_next.result _ c.from_residual-in_err-begin_next.ensures.1 (end_unspelled g.D.Disk.tells _ _)

pub returns-in_err-purge-clause-err : goal.returns-in_err-purge-clause-err
returns-in_err-purge-clause-err g c = err_is _ c.from_residual-in_err-purge.result _ c.from_residual-in_err-purge.ensures.1 (end_unspelled g.D.Disk.tells _ _)

pub give_up-requires-clause-order : goal.give_up-requires-clause-order
give_up-requires-clause-order g c =
    let f = fits_at g.D.Disk.tells _ _ c.self.view_is _ _ c.requires.fits in
    subst (λ n. AreInOrder 64 n c.self.inside.opened.places.list) (sym c.in_ok-commit.ensures.gate)
    (order_ended (the_view c.self.inside) c.ended.result.now c.end_open.new.block.head c.end_open.new.block.body (group_bytes c.self.inside.block.before c.end_open.new.block.before (c.end_open.new.block.head ++ c.end_open.new.block.body) c.begin_next.new.self.before c.ended.result.now c.ended.ensures.bytes c.in_ok-begin_next.ensures.before c.in_ok-end_open.ensures.before) c.in_ok-end_open.ensures.head c.in_ok-end_open.ensures.body f.next f.order)

pub returns-in_err-commit-clause-err : goal.returns-in_err-commit-clause-err
returns-in_err-commit-clause-err g c =
    let f = fits_at g.D.Disk.tells _ _ c.self.view_is _ _ c.requires.fits in
    let is = sym (subst (λ (k : CommitterState). k.book.sealed + c.unsealed-waiting.result ≡ k.book.size) (sym c.self.view_is) c.unsealed-waiting.ensures.number) in
    let due_is = c.split_at.ensures.back ∙ ap (drop c.self.inside.spelled) c.as_slice.ensures.value in
    let e = c.in_err-commit.ensures in
    err_is _ c.from_residual-in_err-commit.result _ c.from_residual-in_err-commit.ensures.1
    (ended_by g.D.Disk.tells _ _ close (λ h. []) _ _ e.only
    (ended_at g.D.Disk.tells _ _ c.self.view_is _ (g.K.Sink.state c.args.sink.now) _ close (λ h. []) _
    (end_uncommitted g.D.Disk.tells _ c.ended.result.now c.end_open.new.text.items
    (at_end g.D.Disk.tells _ c.unsealed-waiting.result c.end_open.new.block.before (c.end_open.new.block.head ++ c.end_open.new.block.body) c.begin_next.new.self.before c.ended.result.now c.end_open.new.text.items c.split_at.result.1.now f.next
    (λ h s. c.unsealed-waiting.ensures.count h (subst (λ (k : CommitterState). Serves k.book h) c.self.view_is s)) c.ended.ensures.bytes c.in_ok-begin_next.ensures.before c.in_ok-end_open.ensures.before c.in_ok-begin_next.ensures.ended c.ended.ensures.group c.in_ok-end_open.ensures.bytes
    c.in_ok-end_open.ensures.text due_is (omega (arith, c.if-waiting-eq0.false)) (count_few c.self.inside.opened.book c.unsealed-waiting.result is f.few))
    _ _ e.err)))

pub returns-in_err-gone-clause-err : goal.returns-in_err-gone-clause-err
returns-in_err-gone-clause-err g c =
    let f = fits_at g.D.Disk.tells _ _ c.self.view_is _ _ c.requires.fits in
    let is = sym (subst (λ (k : CommitterState). k.book.sealed + c.unsealed-waiting.result ≡ k.book.size) (sym c.self.view_is) c.unsealed-waiting.ensures.number) in
    let due_is = c.split_at.ensures.back ∙ ap (drop c.self.inside.spelled) c.as_slice.ensures.value in
    let e = c.in_ok-commit.ensures in
    let mid = pair (g.D.Disk.state c.commit.new.a) (g.D.Disk.state c.commit.new.b) in
    let at : IsAtEnd g.D.Disk.tells (world (the_view c.self.inside) (pair (g.D.Disk.state c.args.a.now) (g.D.Disk.state c.args.b.now)) (g.K.Sink.state c.args.sink.now)) c.end_open.new.book c.ended.result.now mid = record { serves = c.end_open.ensures.serves; same = c.end_open.ensures.same; committed = e.ok; named = λ told. named_at _ _ mid (f.edition told ∙ sym (edition_stays g.D.Disk.tells _ _ _ _ _ e.ok told)) } in
    let u = c.in_err-gone.ensures in
    err_is _ c.from_residual-in_err-gone.result _ c.from_residual-in_err-gone.ensures.1
    (ended_by g.D.Disk.tells _ _ close (λ h. []) _ _ u.only
    (ended_at g.D.Disk.tells _ _ c.self.view_is _ (g.K.Sink.state c.args.sink.now) _ close (λ h. []) _
    (end_unfinished g.D.Disk.tells _ c.ended.result.now c.end_open.new.text.items
    (at_end g.D.Disk.tells _ c.unsealed-waiting.result c.end_open.new.block.before (c.end_open.new.block.head ++ c.end_open.new.block.body) c.begin_next.new.self.before c.ended.result.now c.end_open.new.text.items c.split_at.result.1.now f.next
    (λ h s. c.unsealed-waiting.ensures.count h (subst (λ (k : CommitterState). Serves k.book h) c.self.view_is s)) c.ended.ensures.bytes c.in_ok-begin_next.ensures.before c.in_ok-end_open.ensures.before c.in_ok-begin_next.ensures.ended c.ended.ensures.group c.in_ok-end_open.ensures.bytes
    c.in_ok-end_open.ensures.text due_is (omega (arith, c.if-waiting-eq0.false)) (count_few c.self.inside.opened.book c.unsealed-waiting.result is f.few))
    c.end_open.new.book mid at
    _ _ (unfinished_as g.D.Disk.tells _ _ mid _ (ledger_is c.end_open.new.book c.self.inside.opened.places.list mid _ _ _ _ _ _ e.gate e.in_a e.edition) u.err))))

pub returns-in_err-written-clause-err : goal.returns-in_err-written-clause-err
returns-in_err-written-clause-err g c =
    let f = fits_at g.D.Disk.tells _ _ c.self.view_is _ _ c.requires.fits in
    let is = sym (subst (λ (k : CommitterState). k.book.sealed + c.unsealed-waiting.result ≡ k.book.size) (sym c.self.view_is) c.unsealed-waiting.ensures.number) in
    let due_is = c.split_at.ensures.back ∙ ap (drop c.self.inside.spelled) c.as_slice.ensures.value in
    let e = c.in_ok-commit.ensures in
    let mid = pair (g.D.Disk.state c.commit.new.a) (g.D.Disk.state c.commit.new.b) in
    let at : IsAtEnd g.D.Disk.tells (world (the_view c.self.inside) (pair (g.D.Disk.state c.args.a.now) (g.D.Disk.state c.args.b.now)) (g.K.Sink.state c.args.sink.now)) c.end_open.new.book c.ended.result.now mid = record { serves = c.end_open.ensures.serves; same = c.end_open.ensures.same; committed = e.ok; named = λ told. named_at _ _ mid (f.edition told ∙ sym (edition_stays g.D.Disk.tells _ _ _ _ _ e.ok told)) } in
    let u = c.in_ok-gone.ensures in
    let o = c.in_err-written.ensures in
    let t = first_of_text (g.K.Sink.state c.args.sink.now) (g.K.Sink.state c.write_all-written.new.sink) c.as_slice-2.result.now c.in_err-written.field-0.0 o.taken in
    err_is _ c.from_residual-in_err-written.result _ c.from_residual-in_err-written.ensures.1
    (ended_at g.D.Disk.tells _ _ c.self.view_is _ _ _ close (λ h. []) _
    (end_unwritten g.D.Disk.tells _ c.ended.result.now c.as_slice-2.result.now
    (at_end g.D.Disk.tells _ c.unsealed-waiting.result c.end_open.new.block.before (c.end_open.new.block.head ++ c.end_open.new.block.body) c.begin_next.new.self.before c.ended.result.now c.as_slice-2.result.now c.split_at.result.1.now f.next
    (λ h s. c.unsealed-waiting.ensures.count h (subst (λ (k : CommitterState). Serves k.book h) c.self.view_is s)) c.ended.ensures.bytes c.in_ok-begin_next.ensures.before c.in_ok-end_open.ensures.before c.in_ok-begin_next.ensures.ended c.ended.ensures.group c.in_ok-end_open.ensures.bytes
    (λ h s floor some waits. c.as_slice-2.ensures.value ∙ c.in_ok-end_open.ensures.text h s floor some waits) due_is (omega (arith, c.if-waiting-eq0.false)) (count_few c.self.inside.opened.book c.unsealed-waiting.result is f.few))
    c.end_open.new.book mid at
    _ _ _ _ _ _ (finished_as g.D.Disk.tells _ _ _ mid _ (ledger_is c.end_open.new.book c.self.inside.opened.places.list mid _ _ _ _ _ _ e.gate e.in_a e.edition) (u.ok _ c.let_go.ensures)) _ _ t.0 t.1 t.2 o.once))

pub returns-clause-ok : goal.returns-clause-ok
returns-clause-ok g c =
    let f = fits_at g.D.Disk.tells _ _ c.self.view_is _ _ c.requires.fits in
    let is = sym (subst (λ (k : CommitterState). k.book.sealed + c.unsealed-waiting.result ≡ k.book.size) (sym c.self.view_is) c.unsealed-waiting.ensures.number) in
    let due_is = c.split_at.ensures.back ∙ ap (drop c.self.inside.spelled) c.as_slice.ensures.value in
    let e = c.in_ok-commit.ensures in
    let mid = pair (g.D.Disk.state c.commit.new.a) (g.D.Disk.state c.commit.new.b) in
    let at : IsAtEnd g.D.Disk.tells (world (the_view c.self.inside) (pair (g.D.Disk.state c.args.a.now) (g.D.Disk.state c.args.b.now)) (g.K.Sink.state c.args.sink.now)) c.end_open.new.book c.ended.result.now mid = record { serves = c.end_open.ensures.serves; same = c.end_open.ensures.same; committed = e.ok; named = λ told. named_at _ _ mid (f.edition told ∙ sym (edition_stays g.D.Disk.tells _ _ _ _ _ e.ok told)) } in
    let u = c.in_ok-gone.ensures in
    let o = c.in_ok-written.ensures in
    goes_to g.D.Disk.tells _ _ _ c.begin_group.ensures _ _ close (λ h. [])
    (goes_at g.D.Disk.tells _ _ c.self.view_is _ _ _ close (λ h. [])
    (end_goes g.D.Disk.tells _ c.ended.result.now c.as_slice-2.result.now
    (at_end g.D.Disk.tells _ c.unsealed-waiting.result c.end_open.new.block.before (c.end_open.new.block.head ++ c.end_open.new.block.body) c.begin_next.new.self.before c.ended.result.now c.as_slice-2.result.now c.split_at.result.1.now f.next
    (λ h s. c.unsealed-waiting.ensures.count h (subst (λ (k : CommitterState). Serves k.book h) c.self.view_is s)) c.ended.ensures.bytes c.in_ok-begin_next.ensures.before c.in_ok-end_open.ensures.before c.in_ok-begin_next.ensures.ended c.ended.ensures.group c.in_ok-end_open.ensures.bytes
    (λ h s floor some waits. c.as_slice-2.ensures.value ∙ c.in_ok-end_open.ensures.text h s floor some waits) due_is (omega (arith, c.if-waiting-eq0.false)) (count_few c.self.inside.opened.book c.unsealed-waiting.result is f.few))
    c.end_open.new.book mid at
    _ _ _ _ _ _ (finished_as g.D.Disk.tells _ _ _ mid _ (ledger_is c.end_open.new.book c.self.inside.opened.places.list mid _ _ _ _ _ _ e.gate e.in_a e.edition) (u.ok _ c.let_go.ensures)) _ _ o.ok o.once))

pub returns-clause-fits : goal.returns-clause-fits
returns-clause-fits g c =
    let f = fits_at g.D.Disk.tells _ _ c.self.view_is _ _ c.requires.fits in
    let e = c.in_ok-commit.ensures in
    let u = c.in_ok-gone.ensures in
    let mid = pair (g.D.Disk.state c.commit.new.a) (g.D.Disk.state c.commit.new.b) in
    let order = (order_ended (the_view c.self.inside) c.ended.result.now c.end_open.new.block.head c.end_open.new.block.body (group_bytes c.self.inside.block.before c.end_open.new.block.before (c.end_open.new.block.head ++ c.end_open.new.block.body) c.begin_next.new.self.before c.ended.result.now c.ended.ensures.bytes c.in_ok-begin_next.ensures.before c.in_ok-end_open.ensures.before) c.in_ok-end_open.ensures.head c.in_ok-end_open.ensures.body f.next f.order) in
    fits_at g.D.Disk.tells _ _ c.begin_group.ensures _ _
    (fits_finished g.D.Disk.tells _ _ _ _ _ _ _ mid _ _
    (λ told. record { shut = shut_bytes _ _ mid (e.ok.reads.shut told); edition = named_at _ _ mid (f.edition told ∙ sym (edition_stays g.D.Disk.tells _ _ _ _ _ e.ok told)) })
    order (c.end_open.ensures.ended.0 ∙ sym c.end_open.ensures.ended.1) (ap copy_of (twin_stays _ _ _ c.let_go.ensures) ∙ u.copy (e.copy ∙ f.copy))
    (finished_as g.D.Disk.tells _ _ _ mid _ (ledger_is c.end_open.new.book c.self.inside.opened.places.list mid _ _ _ _ _ _ e.gate e.in_a e.edition) (u.ok _ c.let_go.ensures)))

pub returns-then-waiting-eq0-clause-ok : goal.returns-then-waiting-eq0-clause-ok
returns-then-waiting-eq0-clause-ok g c =
    let settled : c.args.self.now.book.size ≡ c.args.self.now.book.sealed = omega (arith, c.unsealed-waiting.ensures.number, c.if-waiting-eq0.true) in
    on_ok_then c.settle.result (λ x. settle_goes g.D.Disk.tells _ _ (λ h s. none_waits c.args.self.now.book h settled s) x) c.settle.ensures.ok

pub returns-then-waiting-eq0-clause-err : goal.returns-then-waiting-eq0-clause-err
returns-then-waiting-eq0-clause-err g c =
    let settled : c.args.self.now.book.size ≡ c.args.self.now.book.sealed = omega (arith, c.unsealed-waiting.ensures.number, c.if-waiting-eq0.true) in
    if_err_then c.settle.result (λ end x. settle_ended g.D.Disk.tells _ _ end (λ h s. none_waits c.args.self.now.book h settled s) x) c.settle.ensures.err
