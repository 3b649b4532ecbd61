use Rattle.std.proofs.Common.{Some, refl, sym, ap, subst, ◌∙◌, arith}
use Rattle.ledger_model.specs.Anchors.{time_header, time_journal}
use Rattle.ledger_model.specs.History.{size}
use Rattle.ledger_model.specs.Limits.{AreWithin}
use Rattle.ledger_model.specs.Outcomes.{with_waiting}
use Rattle.ledger_model.specs.declared.job.Job.TheVariants.{Anchor}
use Rattle.ledger_book.specs.Books.{Kept}
use Rattle.ledger_book.proofs.ApplyLaws.{applies_placed, serves_after, time_kind, time_may, time_no_purge, anchor_accepted}
use Rattle.ledger_book.proofs.book.Book.place_time.Goals as goal

pub place_record-requires-clause-room : goal.place_record-requires-clause-room
place_record-requires-clause-room c =
    let within : AreWithin c.args.self.now.limits = subst (λ (b : Kept). AreWithin b.limits) c.self.view_is c.self.invariant.2 in
    omega (arith, within.size, c.requires.room.1)

pub returns-clause-ok : goal.returns-clause-ok
returns-clause-ok c = λ h s.
    let k = c.args.self.now in
    let header = c.time_header-header.result in
    let placed = c.placed_with-placed in
    let stamp = c.args.stamp.now in
    let journal = time_journal (size h) stamp in
    let at = ap (λ (b : Kept). b.size) c.self.view_is ∙ s.stands.counts.size in
    let none = anchor_accepted k h s c.requires.room in
    let is = sym (c.time_header-header.ensures ∙ ap (λ n. time_header n stamp) at) in
    let within : AreWithin k.limits = subst (λ (b : Kept). AreWithin b.limits) c.self.view_is c.self.invariant.2 in
    let may = time_may h stamp header k.limits k within none c.requires.stamp s.stands is in
    let stands = c.in_ok-place_record.ensures.ok h journal s.stands is (time_kind h stamp header is) may in
    applies_placed k.limits (Some stamp) h Anchor journal header placed.result c.place_record.new.self none refl refl is (placed.ensures.jsn ∙ at) placed.ensures.leaf placed.ensures.bytes placed.ensures.widths
    (serves_after k c.place_record.new.self h (with_waiting (Some journal) h) s (c.in_ok-place_record.ensures.same (time_no_purge c.self.inside.size stamp header c.time_header-header.ensures)) stands)

pub returns-clause-same : goal.returns-clause-same
returns-clause-same c = c.in_ok-place_record.ensures.same (time_no_purge c.self.inside.size c.args.stamp.now c.time_header-header.result c.time_header-header.ensures)
