use Rattle.std.proofs.Common.{rules}
use Rattle.journal_record.specs.Entry.{Entry}
use Rattle.journal_record.specs.Header.{HasWidths}
use Rattle.clue_lineage.specs.Making.{StandsIn}
use Rattle.clue_lineage.proofs.Made.{all_at, items_more, more_fit, entry_at}
use Rattle.clue_lineage.proofs.making.put_items.Goals as goal

pub returns-in_err-put_item-clause-err : goal.returns-in_err-put_item-clause-err
returns-in_err-put_item-clause-err c h es s stands is =
    let i = c.loop-number.number-index in
    let one = entry_at es c.args.numbers.now i is c.loop-number-test.true in
    let wanting = c.in_err-put_item.ensures.err h one.0 s (all_at (StandsIn h) es i one.0 stands one.1) one.2 in
    search (wanting, rules)

pub loop-number-preserved : goal.loop-number-preserved
loop-number-preserved c h es s stands is =
    let i = c.loop-number.number-index in
    let one = entry_at es c.args.numbers.now i is c.loop-number-test.true in
    let so_far = c.loop-number.invariant h es s stands is in
    let item = c.in_ok-put_item.ensures.item h one.0 s (all_at (StandsIn h) es i one.0 stands one.1) one.2 in (
      items_more h es i one.0 c.args.writer.now c.loop-number.writer c.put_item.new.writer one.1 so_far.0 item.0,
      more_fit (λ (e : Entry). HasWidths e.header) es i one.0 one.1 so_far.1 item.1,
    )
