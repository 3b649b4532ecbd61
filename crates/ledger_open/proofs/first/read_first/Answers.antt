use Rattle.std.specs.Prelude.{Option, Ok, take, drop}
use Rattle.std.proofs.Common.{sym, ◌+◌, ◌∙◌, ap, arith, subst, ◌≡◌, inl, inr}
use Rattle.std.proofs.lemmas.Result.{IfOk-weaker}
use Rattle.block_file.specs.Blocks.{IsNextBlock}
use Rattle.block_file.specs.FileView.{gate_of}
use Rattle.block_file.specs.declared.block.BlockAt.{BlockAt}
use Rattle.journal_record.specs.Entry.{content_digest_of}
use Rattle.ledger_disk.specs.Disk.{State}
use Rattle.ledger_open.specs.Opening.{IsReadErr}
use Rattle.ledger_open.proofs.FirstLaws.{none_read, first_err, first_here, first_bad, other_content, first_read, read_at, some_of}
use Rattle.ledger_open.proofs.first.read_first.Goals as goal

pub returns-in-Ok-None-clause-err : goal.returns-in-Ok-None-clause-err
returns-in-Ok-None-clause-err g c told =
    none_read (g.D.Disk.state c.args.disk.now).bytes.seen (gate_of c.args.file.now) c.requires.place (c.requires.start told)
    (subst (λ (o : Option BlockAt). IsNextBlock (gate_of c.args.file.now) (g.D.Disk.state c.args.disk.now).bytes.seen 0 (Ok o)) c.in-Ok-None.field-0-is (c.in-Ok-None.ensures.answer told))

pub returns-in-Err-clause-err : goal.returns-in-Err-clause-err
returns-in-Err-clause-err g c told =
    subst (IsReadErr (g.D.Disk.state c.args.disk.now).bytes.seen) (sym c.from.ensures) (first_err (g.D.Disk.state c.args.disk.now).bytes.seen (gate_of c.args.file.now) c.in-Err.e c.requires.place (c.requires.start told) (c.in-Err.ensures.answer told))

pub returns-in-Err-check_first-clause-err : goal.returns-in-Err-check_first-clause-err
returns-in-Err-check_first-clause-err g c told =
    let f = first_here (g.D.Disk.state c.args.disk.now).bytes.seen (gate_of c.args.file.now) c.in-Ok-Some.field-0 c.in-Ok-Some.block c.requires.place c.in-Ok-Some.field-0-is (c.in-Ok-Some.ensures.answer told) in
    let why = c.in-Err-check_first.ensures.err in
    subst (IsReadErr (g.D.Disk.state c.args.disk.now).bytes.seen) (sym why.1) (first_bad (g.D.Disk.state c.args.disk.now).bytes.seen c.in-Ok-Some.block why.0 (c.requires.start told) f why.2)

pub returns-in-Err-read_keys-clause-err : goal.returns-in-Err-read_keys-clause-err
returns-in-Err-read_keys-clause-err g c told =
    let f = first_here (g.D.Disk.state c.args.disk.now).bytes.seen (gate_of c.args.file.now) c.in-Ok-Some.field-0 c.in-Ok-Some.block c.requires.place c.in-Ok-Some.field-0-is (c.in-Ok-Some.ensures.answer told) in
    elim c.in-Err-read_keys.ensures.err [
      | inl fault ↦ subst (IsReadErr (g.D.Disk.state c.args.disk.now).bytes.seen) (sym fault) tt
      | inr why ↦ subst (IsReadErr (g.D.Disk.state c.args.disk.now).bytes.seen) (sym why.1)
          (other_content (g.D.Disk.state c.args.disk.now).bytes.seen c.in-Ok-Some.block c.in-Ok.first why.0 (c.requires.start told) f c.in-Ok.ensures.alone c.in-Ok.ensures.root why.2
          (why.3 told ∙ ap (λ (s : State). content_digest_of (take 64 (drop c.in-Ok.first.content_at s.seen))) (c.in-Ok-Some.ensures.state told)))
    ]

pub returns-clause-ok : goal.returns-clause-ok
returns-clause-ok g c = IfOk-weaker c.begin_book.result _ _ (λ read both.
    first_read c.in-Ok-Some.block c.in-Ok.first c.in-Ok-read_keys.content read.book read.places.list _ c.in-Ok.ensures.alone c.in-Ok-read_keys.ensures.size both.0
    (some_of (λ (b : BlockAt). gate_of c.next_block.new.self ≡ gate_of c.args.file.now + 1 + b.len) c.in-Ok-Some.field-0 c.in-Ok-Some.block c.in-Ok-Some.field-0-is c.in-Ok-Some.ensures.place ∙ omega (arith, c.requires.place)) both.1
    g.D.Disk.tells (g.D.Disk.state c.args.disk.now).bytes.seen
    (read_at c.in-Ok-Some.field-0 c.in-Ok-Some.block (gate_of c.args.file.now) c.requires.place c.in-Ok-Some.field-0-is c.in-Ok-Some.ensures.read)
    c.requires.start
    (λ told. first_here (g.D.Disk.state c.args.disk.now).bytes.seen (gate_of c.args.file.now) c.in-Ok-Some.field-0 c.in-Ok-Some.block c.requires.place c.in-Ok-Some.field-0-is (c.in-Ok-Some.ensures.answer told))
    (λ told. c.in-Ok-read_keys.ensures.content told ∙ ap (λ (s : State). take 64 (drop c.in-Ok.first.content_at s.seen)) (c.in-Ok-Some.ensures.state told))
    c.in-Ok.ensures.root) c.begin_book.ensures.ok
