use Rattle.std.specs.Prelude.{Some}
use Rattle.std.proofs.Common.{refl, sym, ◌∙◌, inl, inr, arith}
use Rattle.block_file.specs.declared.failure.Damage.TheVariants as damages
use Rattle.ledger_open.proofs.TakeLaws.{takes_block, other_root, never_none, not_alone, other_first, same_bytes, other_bytes, headed_by, headed_take, sealed_of}
use Rattle.ledger_open.proofs.replaying.take_block.Goals as goal

pub returns-in-Err-clause-err : goal.returns-in-Err-clause-err
returns-in-Err-clause-err c = elim c.in-Err.ensures.err [
  | inl none ↦ inl none
  | inr why ↦ inr (
    damages.Entry why.0,
    why.1,
    λ start blocks es h number g.
        other_first c.as_slice-records.result.now c.share_len-share.result why.0 start blocks es c.share_len-share.ensures.most (headed_by es _ _ c.as_slice-records.ensures h) (c.share_len-share.ensures.share es (headed_by es _ _ c.as_slice-records.ensures h))
        (why.2 start blocks _ (headed_take c.share_len-share.result es _ (headed_by es _ _ c.as_slice-records.ensures h)) g),
  )
]

pub returns-then-share-records-clause-err : goal.returns-then-share-records-clause-err
returns-then-share-records-clause-err c =
    inr (
      damages.Entry _,
      refl,
      λ start blocks es h number g.
          not_alone c.args.book.now c.replay_records.new.book c.as_slice-records.result.now c.share_len-share.result c.share_len-share.ensures.some c.share_len-share.ensures.share c.in_default.ensures.ok c.args.first c.if-share-records.true (c.share_len-share.ensures.apart c.if-share-records.true)
          start blocks es (headed_by es _ _ c.as_slice-records.ensures h) number g,
    )

pub returns-in_default-seal-clause-ok : goal.returns-in_default-seal-clause-ok
returns-in_default-seal-clause-ok c start blocks es h g =
    absurd (never_none c.args.book.now c.replay_records.new.book c.as_slice-records.result.now c.share_len-share.result c.share_len-share.ensures.some c.share_len-share.ensures.share c.in_default.ensures.ok
    c.seal.new.self (omega (arith, c.if-share-records.false, c.share_len-share.ensures.most)) c.requires.settled (c.in_default.ensures.kept.2) c.in_default-seal.ensures.none c.in_default-seal.ensures.ended.1
    start blocks es (headed_by es _ _ c.as_slice-records.ensures h) g)

pub returns-then-ne-clause-err : goal.returns-then-ne-clause-err
returns-then-ne-clause-err c =
    let e = c.in-Some.ensures in
    inr (
      damages.Root _ _ _,
      refl,
      λ start blocks es h number g.
          other_root c.args.book.now c.replay_records.new.book c.as_slice-records.result.now c.share_len-share.result c.share_len-share.ensures.some c.share_len-share.ensures.share c.in_default.ensures.ok
          c.seal.new.self c.in-Some.sealed.block c.in-Some.sealed.head.root c.args.block.now.root (omega (arith, c.if-share-records.false, c.share_len-share.ensures.most)) (sealed_of _ _ (Some c.in-Some.sealed) c.in-Some.sealed refl e.stands e.behind e.ended e.told e.root)
          (other_bytes _ _ (sym c.ne.ensures ∙ c.if-ne.true)) start blocks es (headed_by es _ _ c.as_slice-records.ensures h) g,
    )

pub returns-clause-ok : goal.returns-clause-ok
returns-clause-ok c start blocks es h g =
    let e = c.in-Some.ensures in
    takes_block c.args.book.now c.replay_records.new.book c.as_slice-records.result.now c.share_len-share.result c.share_len-share.ensures.some c.share_len-share.ensures.share c.in_default.ensures.ok
    c.seal.new.self c.in-Some.sealed.block c.in-Some.sealed.head.root c.args.block.now.root (omega (arith, c.if-share-records.false, c.share_len-share.ensures.most)) (sealed_of _ _ (Some c.in-Some.sealed) c.in-Some.sealed refl e.stands e.behind e.ended e.told e.root)
    (same_bytes _ _ (sym c.ne.ensures ∙ c.if-ne.false)) start blocks es (headed_by es _ _ c.as_slice-records.ensures h) g
