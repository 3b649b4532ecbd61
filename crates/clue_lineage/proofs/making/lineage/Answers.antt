use Rattle.std.proofs.Common.{length, sym}
use Rattle.std.proofs.lemmas.Bool.{eqb-true}
use Rattle.clue_lineage.proofs.Made.{none_there, few_chosen, makes, accepted, positive}
use Rattle.clue_lineage.proofs.making.lineage.Goals as goal

pub returns-then-is_empty-clause-answer : goal.returns-then-is_empty-clause-answer
returns-then-is_empty-clause-answer c =
    none_there c.args.book.now c.args.from c.args.clue.now c.in_ok-count.count c.in_ok-count.numbers.items c.as_slice.result.now c.chosen_of-chosen.result.now
    c.in_ok-count.ensures.count c.in_ok-count.ensures.kept c.as_slice.ensures.value c.chosen_of-chosen.ensures (eqb-true (length c.chosen_of-chosen.result.now) 0 (sym c.if-is_empty.ensures))

pub write-requires : goal.write-requires
write-requires c = record {
  few = few_chosen c.args.book.now c.args.from c.args.clue.now c.in_ok-count.count c.in_ok-count.numbers.items c.as_slice.result.now c.chosen_of-chosen.result.now
      c.in_ok-count.ensures.count c.in_ok-count.ensures.kept c.as_slice.ensures.value c.chosen_of-chosen.ensures;
}

pub returns-clause-answer : goal.returns-clause-answer
returns-clause-answer c =
    makes c.args.book.now c.args.from c.args.clue.now c.in_ok-count.count c.in_ok-count.numbers.items c.as_slice.result.now c.chosen_of-chosen.result.now
    c.in_ok-count.ensures.count c.in_ok-count.ensures.kept c.as_slice.ensures.value c.chosen_of-chosen.ensures c.write.result (positive (length c.chosen_of-chosen.result.now) (sym c.if-is_empty.ensures)) c.write.ensures.text c.write.ensures.err

pub returns-clause-accepted : goal.returns-clause-accepted
returns-clause-accepted c =
    accepted c.args.book.now c.args.from c.args.clue.now c.in_ok-count.count c.in_ok-count.numbers.items c.as_slice.result.now c.chosen_of-chosen.result.now
    c.in_ok-count.ensures.count c.in_ok-count.ensures.kept c.as_slice.ensures.value c.chosen_of-chosen.ensures c.write.result (positive (length c.chosen_of-chosen.result.now) (sym c.if-is_empty.ensures)) c.write.ensures.text c.write.ensures.err c.requires.settled c.write.ensures.few
