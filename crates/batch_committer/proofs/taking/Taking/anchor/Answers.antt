use Rattle.std.proofs.Common.{◌≡◌, ◌∙◌, ap, length, inl, inr, false, true, Some, refl, sym, subst}
use Rattle.ledger_bytes.specs.declared.refusal.Refusal.TheVariants.{NotaryFault, NotaryFull}
use Rattle.ledger_model.specs.declared.job.Job.TheVariants.{Anchor}
use Rattle.ledger_book.specs.Books as books
use Rattle.ledger_book.specs.Steps.{Applies, HasOperatorRoom}
use Rattle.batch_committer.specs.Attending.{step_in}
use Rattle.batch_committer.specs.World.{CommitterState, Keeps}
use Rattle.batch_committer.proofs.Attends.{attends_full, full_stamp, full_why, attends_failed, failed_stamp, failed_why, attends_stamped, stamped}
use Rattle.batch_committer.proofs.Anchoring.{on_err_all, unstamped_judged, accepted_real, full_of, failed_of, failed_not_full, memory_of}
use Rattle.batch_committer.proofs.Judging.{judged_placed, order_at, ungrown}
use Rattle.batch_committer.specs.contracts.taking.Taking.{the_view}
use Rattle.std.proofs.lemmas.Bool.{true≢false}
use Rattle.ledger_model.specs.declared.outcome.Outcome.TheVariants.{Placed}
use Rattle.journal_record.specs.Approval.{who_of}
use Rattle.ledger_model.specs.declared.answer.Answer.TheVariants.{Receipt}
use Rattle.batch_committer.proofs.taking.Taking.anchor.Goals as goal

pub returns-in-Err-Full-clause-judged : goal.returns-in-Err-Full-clause-judged
returns-in-Err-Full-clause-judged g c =
    let n = g.N.Notary.state c.args.notary.now in
    let m = g.N.Notary.state c.stamp.new.self in
    let e = c.in-Err-Full.ensures in
    let f = full_of n.origin.making c.peg-peg.result.0 n.entries m.entries n.faults m.faults c.in-Err-Full.field-0 c.in-Err-Full.field-0-is e.list e.faults in (
      false,
      λ h lane index line p.
          let own = accepted_real c.args.self.now h p c.requires.room in
          record {
            judged = unstamped_judged c.args.self.now h (step_in n m false lane index line) NotaryFull p own (full_stamp n m f.0 f.1 lane index line) (full_why n m f.0 f.1 lane index line);
            attended = attends_full n m f.0 f.1 h lane index line own e.origin f.2;
          },
    )

pub returns-in-Err-Failed-clause-judged : goal.returns-in-Err-Failed-clause-judged
returns-in-Err-Failed-clause-judged g c =
    let n = g.N.Notary.state c.args.notary.now in
    let m = g.N.Notary.state c.stamp.new.self in
    let e = c.in-Err-Failed.ensures in
    let peg = c.peg-peg.result.0 in
    let f = failed_of n.origin.making peg n.entries m.entries n.faults m.faults c.in-Err-Failed.field-0 c.in-Err-Failed.field-0-is e.list e.faults in
    let not_full = failed_not_full n.entries c.in-Err-Failed.field-0 c.in-Err-Failed.field-0-is e.full in (
      true,
      λ h lane index line p.
          let own = accepted_real c.args.self.now h p c.requires.room in
          let pegs = c.peg-peg.ensures.peg h (subst (λ (k : CommitterState). books.Stands k.book h) (sym c.self.view_is) p.serves.stands) (c.requires.settled h p.serves) in
          record {
            judged = unstamped_judged c.args.self.now h (step_in n m true lane index line) NotaryFault p own (failed_stamp n m peg f.0 e.lawful not_full lane index line) (failed_why n m peg f.0 e.lawful not_full lane index line);
            attended = attends_failed n m peg f.0 e.lawful not_full h lane index line own pegs e.origin f.1;
          },
    )

pub place_time-requires-clause-room : goal.place_time-requires-clause-room
place_time-requires-clause-room g c = subst (λ (k : CommitterState). HasOperatorRoom k.book) (sym c.self.view_is) c.requires.room

pub returns-in-Err-NoMemory-clause-unasked : goal.returns-in-Err-NoMemory-clause-unasked
returns-in-Err-NoMemory-clause-unasked g c =
    let e = c.in-Err-NoMemory.ensures in
    inr (refl, memory_of c.peg-peg.result.0 (g.N.Notary.state c.args.notary.now) (g.N.Notary.state c.stamp.new.self) c.in-Err-NoMemory.field-0 c.in-Err-NoMemory.field-0-is e.origin e.list e.faults)

pub returns-in_err-placed-clause-unasked : goal.returns-in_err-placed-clause-unasked
returns-in_err-placed-clause-unasked g c =
    let n = g.N.Notary.state c.args.notary.now in
    let m = g.N.Notary.state c.stamp.new.self in
    let e = c.in-Ok.ensures in
    on_err_all c.from_residual.result
    (inl (
      false,
      λ h lane index line p.
          attends_stamped n m c.peg-peg.result.0 c.peg-peg.ensures.wide c.in-Ok.stamp e.list.1 e.list.2 e.list.3 e.lawful h lane index line (accepted_real c.args.self.now h p c.requires.room)
          (c.peg-peg.ensures.peg h (subst (λ (k : CommitterState). books.Stands k.book h) (sym c.self.view_is) p.serves.stands) (c.requires.settled h p.serves)) e.origin e.faults,
    ))

pub returns-in_err-gather-clause-unasked : goal.returns-in_err-gather-clause-unasked
returns-in_err-gather-clause-unasked g c =
    let n = g.N.Notary.state c.args.notary.now in
    let m = g.N.Notary.state c.stamp.new.self in
    let e = c.in-Ok.ensures in
    on_err_all c.from_residual-in_err-gather.result
    (inl (
      false,
      λ h lane index line p.
          attends_stamped n m c.peg-peg.result.0 c.peg-peg.ensures.wide c.in-Ok.stamp e.list.1 e.list.2 e.list.3 e.lawful h lane index line (accepted_real c.args.self.now h p c.requires.room)
          (c.peg-peg.ensures.peg h (subst (λ (k : CommitterState). books.Stands k.book h) (sym c.self.view_is) p.serves.stands) (c.requires.settled h p.serves)) e.origin e.faults,
    ))

pub returns-clause-judged : goal.returns-clause-judged
returns-clause-judged g c =
    let n = g.N.Notary.state c.args.notary.now in
    let m = g.N.Notary.state c.stamp.new.self in
    let e = c.in-Ok.ensures in
    let peg = c.peg-peg.result.0 in (
      false,
      λ h lane index line keeps.
          let p = subst (λ (k : CommitterState). Keeps k h) (sym c.self.view_is) keeps in
          let own = accepted_real c.args.self.now h keeps c.requires.room in
          let x = c.in_ok-gather.ensures in
          let placed = c.in_ok-placed.placed in
          let step = step_in n m false lane index line in
          let given = stamped n m peg c.peg-peg.ensures.wide c.in-Ok.stamp e.list.1 e.list.2 e.list.3 e.lawful lane index line e.list.0 in
          record {
            judged = judged_placed (Some c.in-Ok.stamp) _ _ c.gather.new.self h step Anchor (Placed placed) placed _ p (λ other. absurd (true≢false other)) (λ alone. c.requires.settled h keeps.serves) refl
                (subst (λ b. Applies c.self.inside.opened.book.limits (Some c.in-Ok.stamp) h Anchor (Placed placed) b) (sym x.book) (c.in_ok-placed.ensures.ok h p.serves))
                (subst (λ (b : books.Kept). b.limits ≡ c.self.inside.opened.book.limits) (sym x.book) c.place_time.ensures.same.limits)
                (subst (λ (b : books.Kept). b.floor ≡ c.self.inside.opened.book.floor) (sym x.book) c.place_time.ensures.same.floor) refl
                (λ journal content approvals parts header_is widths len content_is who_is. x.gathered journal header_is widths (ap length (sym parts.0) ∙ len) (content_is ∙ parts.0) (who_is ∙ ap who_of parts.1))
                ungrown x.rest.file (ap (Receipt placed.jsn placed.leaf) (sym given)) given;
            attended = attends_stamped n m peg c.peg-peg.ensures.wide c.in-Ok.stamp e.list.1 e.list.2 e.list.3 e.lawful h lane index line own
                (c.peg-peg.ensures.peg h p.serves.stands (c.requires.settled h keeps.serves)) e.origin e.faults;
          },
    )

pub returns-clause-order : goal.returns-clause-order
returns-clause-order g c = λ all. c.in_ok-gather.ensures.order (order_at (the_view c.self.inside) c.args.self.now c.self.view_is all)
