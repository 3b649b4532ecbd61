use Rattle.std.proofs.Common.{rules, arith, List, [], refl, sym, subst}
use Rattle.journal_record.specs.declared.header.Header.{Header}
use Rattle.ledger_book.specs.Numbered.{IndexesNumbers}
use Rattle.ledger_book.proofs.GenesisLaws.{serves_first, behind_first}
use Rattle.ledger_book.proofs.book.Book.from_first.Goals as goal

pub returns-clause-serves : goal.returns-clause-serves
returns-clause-serves c = λ journal first.
    serves_first c.args.header.now c.args.operator.now c.args.regulator.now journal c.requires.kind c.requires.layout first c.args.limits c.leaf_of-leaf.result c.encode.result c.in_ok-members.members c.new-2.result c.in_ok-hiders.hiders.items c.new-3.result c.new-4.result c.in_ok-headers.headers.items c.add_leaves.new.self c.in_ok-ends.ends.items
    c.encode.ensures.bytes c.leaf_of-leaf.ensures c.in_ok-members.ensures c.new-2.ensures c.in_ok-hiders.ensures.items c.new-4.ensures c.in_ok-headers.ensures.items (c.add_leaves.ensures.stands [] (c.reserve.ensures.stands [] c.new-tree.ensures.stands)) c.in_ok-ends.ensures.items

pub returns-clause-behind : goal.returns-clause-behind
returns-clause-behind c = λ journal is.
    behind_first c.args.header.now journal c.requires.kind c.requires.layout is c.args.limits c.leaf_of-leaf.result c.encode.result c.args.operator.now c.args.regulator.now c.in_ok-members.members c.new-2.result c.in_ok-hiders.hiders.items c.new-3.result c.new-4.result c.in_ok-headers.headers.items c.add_leaves.new.self c.in_ok-ends.ends.items
    c.encode.ensures.bytes c.leaf_of-leaf.ensures c.in_ok-members.ensures c.new-2.ensures c.in_ok-hiders.ensures.items c.in_ok-headers.ensures.items (c.add_leaves.ensures.stands [] (c.reserve.ensures.stands [] c.new-tree.ensures.stands))

pub invariant_of-result : goal.invariant_of-result
invariant_of-result c = (
  search (rules, arith),
  search (rules, arith),
  c.requires.limits,
  search (rules, arith),
  search (rules, arith),
  search (rules, arith),
  search (rules, arith),
  search (rules, arith),
  search (rules, arith),
  search (rules, arith),
  subst (λ (xs : List Header). IndexesNumbers c.add.new.self 0 xs) (sym c.in_ok-headers.ensures.items) (c.in_ok-add.ensures.ok 0 [] (c.new-numbers.ensures 0) refl),
  search (rules, arith),
)
