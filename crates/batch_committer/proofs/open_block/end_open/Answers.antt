use Rattle.std.proofs.Common.{◌++◌, length, sym, ap, subst, ◌∙◌}
use Rattle.merkle_tree.specs.declared.head.Head.{Head}
use Rattle.block_file.specs.Writing.{block_head}
use Rattle.ledger_model.specs.History.{close}
use Rattle.ledger_model.proofs.GrowLaws.{close_none, size_close, size_closed}
use Rattle.batch_committer.specs.Steps.{AreLastFrom}
use Rattle.batch_committer.proofs.Ending.{block_spelled, serves_closed}
use Rattle.batch_committer.proofs.Spelling.{last_closed, dues_kept}
use Rattle.batch_committer.proofs.open_block.end_open.Goals as goal

pub returns-in_err-spell-clause-serves : goal.returns-in_err-spell-clause-serves
returns-in_err-spell-clause-serves c = λ h s. serves_closed c.args.book.now c.seal.new.self h s (c.seal.ensures.stands h s.stands) c.seal.ensures.same

pub returns-in_err-finish-clause-serves : goal.returns-in_err-finish-clause-serves
returns-in_err-finish-clause-serves c = λ h s. serves_closed c.args.book.now c.seal.new.self h s (c.seal.ensures.stands h s.stands) c.seal.ensures.same

pub returns-clause-serves : goal.returns-clause-serves
returns-clause-serves c = λ h s. serves_closed c.args.book.now c.seal.new.self h s (c.seal.ensures.stands h s.stands) c.seal.ensures.same

pub returns-clause-bytes : goal.returns-clause-bytes
returns-clause-bytes c = λ h s body_is.
    let e = c.in_ok-finish.ensures in
    let then = serves_closed c.args.book.now c.seal.new.self h s (c.seal.ensures.stands h s.stands) c.seal.ensures.same in
    let body = c.args.block.now.body in
    ap (λ l. l ++ c.finish.new.self.body) e.head ∙ ap (λ l. block_head c.unsealed-count.result (length body) c.head.result.root.0 ++ l) e.body
    ∙ block_spelled h c.unsealed-count.result c.head.result.root.0 body (c.unsealed-count.ensures.count h s.stands) (ap (λ (x : Head). x.root.0) (c.head.ensures (close h) then.stands)) body_is

pub returns-clause-text : goal.returns-clause-text
returns-clause-text c = λ h s floor some waits.
    let then = serves_closed c.args.book.now c.seal.new.self h s (c.seal.ensures.stands h s.stands) c.seal.ensures.same in
    c.in_ok-spell.ensures (close h) then
    (subst (λ n. AreLastFrom n (close h)) (sym (c.sealed_size-first.ensures.value ∙ s.stands.counts.sealed_is)) (last_closed h some))
    (dues_kept c.args.book.now c.seal.new.self h c.args.dues.now s floor waits c.seal.ensures.same.floor (then.stands.counts.sealed_is ∙ sym (size_closed (close h) (close_none h)) ∙ size_close h))
