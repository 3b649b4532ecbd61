use Rattle.std.proofs.Common.{◌++◌, take, sym, ap, ◌∙◌, append_assoc}
use Rattle.ledger_model.specs.Dues.{due_line, due_lines}
use Rattle.batch_committer.proofs.Spelling.{lines_more, kept_at}
use Rattle.batch_committer.proofs.dues.spell.Goals as goal

pub loop-due-preserved : goal.loop-due-preserved
loop-due-preserved c = λ h s.
    let now = c.loop-due.invariant h s in
    let e = c.in_ok-put_due.ensures in (
      e.same ∙ now.0,
      λ last kept.
          let item = c.due-item.is in
          e.due h s last now.0 (kept_at c.args.book.now c.args.dues.now c.loop-due.due-index c.due-item.result c.loop-due-test.true item kept)
          ∙ ap (λ l. l ++ due_line h c.due-item.result) (now.1 last kept) ∙ append_assoc c.args.text.now.items (due_lines h (take c.loop-due.due-index c.args.dues.now)) (due_line h c.due-item.result)
          ∙ ap (λ l. c.args.text.now.items ++ l) (sym (lines_more h c.args.dues.now c.loop-due.due-index c.due-item.result c.loop-due-test.true item)),
    )
