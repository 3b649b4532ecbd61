use Rattle.std.proofs.Common.{◌∙◌}
use Rattle.clue_lineage.proofs.Made.{all_written}
use Rattle.clue_lineage.proofs.making.write.Goals as goal

pub returns-clause-text : goal.returns-clause-text
returns-clause-text c h es s stands is =
    let items = c.in_ok-put_items.ensures.items h es s stands is in
    (c.finish.ensures ∙ all_written h c.args.clue.now es c.size.result c.args.numbers.now c.new-writer.result c.put_front.new.writer c.put_items.new.writer c.new-writer.ensures c.in_ok-put_front.ensures items.0 (c.size.ensures.size ∙ s.stands.counts.size) is, items.1)
