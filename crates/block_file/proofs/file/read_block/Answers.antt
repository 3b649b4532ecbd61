use Rattle.std.specs.Prelude.{Option, IsTrue, IfSome}
use Rattle.std.proofs.Common.{rules, arith, sym, ap, subst, refl, ◌∙◌, ◌≡◌, ◌+◌, ℕ, List, take, drop, length}
use Rattle.ledger_disk.specs.Disk.{State}
use Rattle.journal_record.specs.Blocks.{body_of}
use Rattle.block_file.specs.Blocks.{body_at, IsHeadRead}
use Rattle.block_file.specs.declared.block.BlockHead.{BlockHead}
use Rattle.block_file.proofs.HeadLaws.{open_block}
use Rattle.block_file.proofs.file.read_block.Goals as goal

pub returns-in-Ok-clause-answer : goal.returns-in-Ok-clause-answer
returns-in-Ok-clause-answer g c told =
    let file = (g.D.Disk.state c.args.disk.now).bytes.seen in
    let head = c.in-Some.head in
    let found : IfSome c.in_ok-head.field-0 (λ h. IsTrue g.D.Disk.tells → IsHeadRead c.args.at file h) = c.in_ok-head.ensures.head in
    let read : IsHeadRead c.args.at file head = subst (λ (o : Option BlockHead). IfSome o (λ h. IsTrue g.D.Disk.tells → IsHeadRead c.args.at file h)) c.in-Some.is found told in
    let es = c.in-Ok.ensures.ok.0 in
    let ok = c.in-Ok.ensures.ok in
    let seen : (g.D.Disk.state c.read_block_head.new.disk).bytes.seen ≡ file = ap (λ (s : State). s.seen) (c.read_block_head.ensures.state told) in
    let body : body_at c.args.at file ≡ c.read_over.new.buffer.items =
    ap (λ (k : ℕ). take k (drop (c.args.at + 45) file)) (sym read.body_len)
    ∙ ap (λ (l : List ℕ). take head.body_len (drop (c.args.at + 45) l)) (sym seen)
    ∙ sym (c.in_ok-read_over.ensures.bytes told) in
    let same : c.deref.result.now ≡ c.read_over.new.buffer.items = search rules in
    let fills : body_at c.args.at file ≡ body_of es = body ∙ sym same ∙ ok.3 in (
      es,
      ok.1,
      record { at_is = refl; len = omega (arith, c.in_ok-read_over.ensures.size, ap length same, ap length ok.3); records = search rules },
      open_block c.args.at file head es read ok.2 fills,
    )
