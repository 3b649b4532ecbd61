use Rattle.std.specs.Prelude.{◌||◌}
use Rattle.std.proofs.Common.{◌+◌, ◌-◌, ap, sym, ◌∙◌, arith}
use Rattle.ledger_book.specs.Books.{headers}
use Rattle.ledger_soak.specs.Lines.{has_record_by, is_record_by}
use Rattle.ledger_soak.proofs.RecordLaws.{record_next, record_none, header_at}
use Rattle.ledger_soak.proofs.lines.has_record_of.Goals as goal

pub returns-then-is_record_of : goal.returns-then-is_record_of
returns-then-is_record_of c h serves =
    let n = c.loop-n.n in
    let there = header_at c.args.book.now.floor n _ _ (omega (arith, serves.seen, c.point-n.ensures.value, c.loop-n.auto.n)) (c.header.ensures.header h serves) in
    let is = sym c.if-is_record_of.true ∙ c.is_record_of.ensures ∙ ap (is_record_by c.args.member) there in
    ap (λ b. b || has_record_by c.args.member (headers h) (n + 1) (c.args.before - (n + 1))) is ∙ sym (record_next c.args.member (headers h) n c.args.before c.loop-n-test.true) ∙ c.loop-n.invariant h serves

pub loop-n-preserved : goal.loop-n-preserved
loop-n-preserved c h serves =
    let n = c.loop-n.n in
    let there = header_at c.args.book.now.floor n _ _ (omega (arith, serves.seen, c.point-n.ensures.value, c.loop-n.auto.n)) (c.header.ensures.header h serves) in
    let is = sym c.if-is_record_of.false ∙ c.is_record_of.ensures ∙ ap (is_record_by c.args.member) there in
    ap (λ b. b || has_record_by c.args.member (headers h) (n + 1) (c.args.before - (n + 1))) is ∙ sym (record_next c.args.member (headers h) n c.args.before c.loop-n-test.true) ∙ c.loop-n.invariant h serves

pub returns : goal.returns
returns c h serves = sym (record_none c.args.member (headers h) c.loop-n.n c.args.before c.loop-n-test.false) ∙ c.loop-n.invariant h serves
