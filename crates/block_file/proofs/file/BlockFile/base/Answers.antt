use Rattle.std.proofs.Common.{rules, arith, ◌∙◌, ap, ◌≡◌, length}
use Rattle.block_file.specs.Head.{digest_of}
use Rattle.block_file.proofs.file.BlockFile.base.Goals as goal

pub returns-then-ne-clause-err : goal.returns-then-ne-clause-err
returns-then-ne-clause-err g c told =
    let is = c.in_ok-base.ensures.bytes told in
    let same : c.deref.result.now ≡ c.in_ok-base.base.items = search rules in
    (omega (arith, ap length is, c.in_ok-base.ensures.size, c.if-self-ne0.true), search rules, c.base_digest-found.ensures ∙ ap digest_of (same ∙ is), search rules)
