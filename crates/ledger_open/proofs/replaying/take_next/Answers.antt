use Rattle.std.proofs.Common.{refl, ap, ◌∙◌, ◌+◌, ◌++◌, List, map, inl, inr}
use Rattle.block_file.specs.declared.block.RecordAt.{RecordAt}
use Rattle.ledger_open.specs.Opening.{known_from}
use Rattle.block_file.specs.Places.{place_of_record}
use Rattle.ledger_open.proofs.AheadLaws.{more_ahead, bad_ahead}
use Rattle.ledger_open.proofs.FirstLaws.{layout_read}
use Rattle.ledger_open.proofs.MoreLaws.{first_below}
use Rattle.ledger_open.proofs.replaying.take_next.Goals as goal

pub take_block-requires-clause-number : goal.take_block-requires-clause-number
take_block-requires-clause-number c =
    let a = c.requires.ahead in
    first_below a.0 a.1 (known_from c.args.book.now c.args.places.now.list a.2) c.size-first.result a.5.read c.size-first.ensures.size

pub take_block-requires-clause-settled : goal.take_block-requires-clause-settled
take_block-requires-clause-settled c =
    let a = c.requires.ahead in
    a.5.read.taken.settled

pub take_block-requires-clause-layout : goal.take_block-requires-clause-layout
take_block-requires-clause-layout c =
    let a = c.requires.ahead in
    let r = a.5.ahead.0.read in
    layout_read a.2 r.0 c.args.next.now.block r.1.readable r.2

pub returns-in-Err-clause-err : goal.returns-in-Err-clause-err
returns-in-Err-clause-err c = elim c.in-Err.ensures.err [
  | inl none ↦ inl none
  | inr why ↦ inr (
    why.0,
    why.1,
    record {
      bad = λ tells file at rest stop a.
          bad_ahead tells file (known_from c.args.book.now c.args.places.now.list at) c.size-first.result c.args.next.now.block why.0 rest stop c.size-first.ensures.size why.2 a;
    },
  )
]

pub returns-in-Ok-clause-ok : goal.returns-in-Ok-clause-ok
returns-in-Ok-clause-ok c = record {
  goes = λ tells file at rest stop a.
      more_ahead (known_from c.args.book.now c.args.places.now.list at) c.args.next.now.block c.take_block.new.book c.add.new.self.list (at + 1 + c.args.next.now.block.len)
      (c.in-Ok.ensures.ok ∙ ap (λ (l : List RecordAt). c.args.places.now.list ++ map place_of_record l) c.as_slice-2.ensures) refl c.in_default.ensures.ok tells file rest stop a;
}
