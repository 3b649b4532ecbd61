use Rattle.std.specs.Prelude.{option_copied}
use Rattle.std.proofs.Common.{rules, ◌+◌, ap, arith}
use Rattle.ledger_open.proofs.FinishLaws.{none_told, other_told}
use Rattle.ledger_open.proofs.erasing.span.Goals as goal

pub returns-in-Some-checked_sub-clause-others : goal.returns-in-Some-checked_sub-clause-others
returns-in-Some-checked_sub-clause-others c = λ h serves i few at.
    other_told c.args.book.now h serves _ (c.last_header.ensures h serves) c.in-Some.last.now (ap option_copied c.in-Some.is) c.in-Occult.is (c.args.book.now.floor + i)
    (λ same. omega (arith, same, at, c.floor.ensures, c.in-Some-checked_sub.ensures))

pub returns-in_default-checked_sub-clause-others : goal.returns-in_default-checked_sub-clause-others
returns-in_default-checked_sub-clause-others c = λ h serves i few at.
    other_told c.args.book.now h serves _ (c.last_header.ensures h serves) c.in-Some.last.now (ap option_copied c.in-Some.is) c.in-Occult.is (c.args.book.now.floor + i)
    (λ same. omega (arith, same, few, c.floor.ensures, c.in-Some-checked_sub.ensures, c.if-index-count.false))

pub returns-in_default-checked_sub-2-clause-others : goal.returns-in_default-checked_sub-2-clause-others
returns-in_default-checked_sub-2-clause-others c = λ h serves i few at.
    other_told c.args.book.now h serves _ (c.last_header.ensures h serves) c.in-Some.last.now (ap option_copied c.in-Some.is) c.in-Occult.is (c.args.book.now.floor + i)
    (λ same. omega (arith, same, c.floor.ensures, c.in_default-checked_sub.ensures))

pub returns-in-Genesis : goal.returns-in-Genesis
returns-in-Genesis c = record {
  order = search rules;
  within = search rules;
  others = λ h serves i few at. none_told c.args.book.now h serves _ (c.last_header.ensures h serves) c.in-Some.last.now (ap option_copied c.in-Some.is) c.in-Genesis.is (c.args.book.now.floor + i);
}
