use Rattle.std.proofs.Common.{◌+◌, ◌<◌, ◌≤◌, ◌++◌, ◌∷◌, [], length, drop, refl, sym, ap, subst, ◌∙◌}
use Rattle.ledger_bytes.specs.declared.limits.TheConstants.{BLOCK_LIMIT}
use Rattle.ledger_model.specs.Dues.{due_lines, AllWaiting}
use Rattle.ledger_model.specs.History.{close}
use Rattle.ledger_book.proofs.OpenLaws.{opens_gather}
use Rattle.ledger_book.specs.Steps.{OpenGathers}
use Rattle.batch_committer.specs.World.{CommitterState}
use Rattle.batch_committer.specs.contracts.taking.Taking.{the_view}
use Rattle.batch_committer.proofs.Ending.{fits_at, goes_at, goes_to}
use Rattle.batch_committer.proofs.Settling.{gather_goes, gather_fits, some_wait, few_wait}
use Rattle.batch_committer.proofs.taking.Taking.end_block.Goals as goal

pub returns-clause-ok : goal.returns-clause-ok
returns-clause-ok c = λ tells disks sink.
    let i = the_view c.self.inside in
    let e = c.in_ok-end_open.ensures in
    let b = c.end_open.new.block in
    let n = c.in_ok-begin_next.ensures in
    let some = subst (λ (k : CommitterState). k.book.sealed < k.book.size) (sym c.self.view_is) c.requires.some in
    let few = subst (λ (k : CommitterState). k.book.size ≤ k.book.sealed + BLOCK_LIMIT) (sym c.self.view_is) c.requires.few in
    let gathers = subst (λ (k : CommitterState). OpenGathers k.book) (sym c.self.view_is) c.requires.gathers in
    let due_is = c.split_at.ensures.back ∙ ap (drop i.spelled) c.as_slice.ensures.value in
    let next = ap (λ l. i.next + (length l + 1)) c.as_slice-2.ensures in
    let spelled = c.len-self-inside.ensures ∙ c.self.inside.dues.ok.0 in
    goes_to tells _ _ _ (λ j. record i { book = c.end_open.new.book; ended = i.ended + 1; before = c.begin_next.new.self.before; next = next j; body = n.body j; spelled = spelled j; lines = c.end_open.new.text.items }) disks sink close (λ h. [])
    (goes_at tells _ _ c.self.view_is disks sink _ close (λ h. [])
    (gather_goes i c.end_open.new.book (b.head ++ b.body) c.begin_next.new.self.before c.end_open.new.text.items c.end_open.ensures.same (λ h s. some_wait i.book h s some) (λ h s. few_wait i.book h s few) (λ h s. opens_gather i.book h s.stands gathers)
    c.end_open.ensures.serves e.bytes (λ ended is. n.ended ended (e.before ∙ is))
    (λ h s floor one waits. e.text h s floor one (subst (AllWaiting h) (sym due_is) waits) ∙ ap (λ l. i.lines ++ due_lines (close h) l) due_is) tells disks sink))

pub returns-clause-fits : goal.returns-clause-fits
returns-clause-fits c = λ tells disks sink fits.
    let i = the_view c.self.inside in
    let e = c.in_ok-end_open.ensures in
    let b = c.end_open.new.block in
    let n = c.in_ok-begin_next.ensures in
    let room = subst (λ (k : CommitterState). k.ended + 1 < 64) (sym c.self.view_is) c.requires.room in
    let owed = subst (λ (k : CommitterState). k.spelled < length k.dues) (sym c.self.view_is) c.requires.spelled in
    gather_fits i _ b.head b.body room owed e.head e.body (c.end_open.ensures.ended.0 ∙ sym c.end_open.ensures.ended.1) refl refl refl refl refl
    (n.before ∙ ap (λ l. l ++ (b.head ++ b.body) ++ 1 ∷ []) e.before) (ap (λ l. i.next + (length l + 1)) c.as_slice-2.ensures) n.body refl refl (c.len-self-inside.ensures ∙ c.self.inside.dues.ok.0) tells disks sink
    (fits_at tells _ _ c.self.view_is disks sink fits)
