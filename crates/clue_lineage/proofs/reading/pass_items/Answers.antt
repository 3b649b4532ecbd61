use Rattle.std.proofs.Common.{rules, ◌≡◌, ◌+◌, length, ap, subst, arith}
use Rattle.clue_lineage.specs.Lineages.{LineageItem}
use Rattle.clue_lineage.specs.Reading.{behind}
use Rattle.clue_lineage.proofs.Passing.{Passed, none_passed, one_passed, one_broken, all_passed}
use Rattle.clue_lineage.proofs.reading.pass_items.Goals as goal

pub loop-init : goal.loop-init
loop-init c = record { passed = none_passed c.args.count c.args.reader.now; near = omega arith }

pub loop-preserved : goal.loop-preserved
loop-preserved c =
    let path = ap (λ (i : LineageItem). length i.path) c.item.view_is in
    let place : behind c.loop.at c.in_ok-item.item ≡ c.loop.at + (175 + length c.item.inside.path.now) = omega (arith, path) in
    record {
      passed =
          subst (λ n. Passed c.args.count n (c.loop.counter + 1) c.args.reader.now c.take_item.new.reader) place
          (one_passed c.args.count c.loop.at c.loop.counter c.args.reader.now c.loop.reader c.take_item.new.reader c.in_ok-item.item (omega (arith, c.loop-test.true)) c.in_ok-item.ensures.item c.loop.invariant.passed);
      near = omega (arith, path, c.in_ok-item.ensures.few, c.loop.invariant.near);
    }

pub returns-in_err-item : goal.returns-in_err-item
returns-in_err-item c =
    let broken = one_broken c.args.count c.loop.at c.loop.counter c.args.reader.now c.loop.reader c.in_err-item.field-0.0 (omega (arith, c.loop-test.true)) c.in_err-item.ensures.item c.loop.invariant.passed in
    search (broken, rules)

pub returns : goal.returns
returns c = all_passed c.args.count c.loop.at c.loop.counter c.args.reader.now c.loop.reader (omega (arith, c.loop-test.false, c.loop.auto.counter-end)) c.loop.invariant.passed
