use Rattle.std.proofs.Common.{length, sym, ap, subst, ◌∙◌}
use Rattle.journal_record.specs.Approval.{who_of}
use Rattle.batch_committer.specs.Steps.{HasParts}
use Rattle.batch_committer.proofs.Judging.{given_parts, on_ok_then}
use Rattle.batch_committer.proofs.taking.Taking.gather_placed.Goals as goal

pub returns-in-Append-clause-gathered : goal.returns-in-Append-clause-gathered
returns-in-Append-clause-gathered c =
    on_ok_then c.gather.result
    (λ gathered journal content given parts header_is widths len content_is who_is.
    let p = subst (λ j. HasParts j content given) c.in-Append.is parts in
    gathered journal header_is widths (ap length (c.as_slice.ensures ∙ sym p.0) ∙ len) (content_is ∙ p.0 ∙ sym c.as_slice.ensures) (who_is ∙ ap who_of (p.1 ∙ sym c.from_ref.ensures.value)))
    c.gather.ensures.gathered

pub returns-in-NewMember-clause-gathered : goal.returns-in-NewMember-clause-gathered
returns-in-NewMember-clause-gathered c =
    on_ok_then c.gather-in-NewMember.result
    (λ gathered journal content given parts header_is widths len content_is who_is.
    let p = subst (λ j. HasParts j content given) c.in-NewMember.is parts in
    gathered journal header_is widths (ap length (sym p.0) ∙ len) (content_is ∙ p.0) (who_is ∙ ap who_of (p.1 ∙ sym c.from_ref-in-NewMember.ensures.value)))
    c.gather-in-NewMember.ensures.gathered

pub returns-in-Anchor-clause-gathered : goal.returns-in-Anchor-clause-gathered
returns-in-Anchor-clause-gathered c =
    on_ok_then c.gather-in-Anchor.result
    (λ gathered journal content given parts header_is widths len content_is who_is.
    let p = subst (λ j. HasParts j content given) c.in-Anchor.is parts in
    gathered journal header_is widths (ap length (sym p.0) ∙ len) (content_is ∙ p.0) (who_is ∙ ap who_of p.1))
    c.gather-in-Anchor.ensures.gathered

pub returns-in-Occult-clause-gathered : goal.returns-in-Occult-clause-gathered
returns-in-Occult-clause-gathered c =
    on_ok_then c.gather-in-Occult.result
    (λ gathered journal content given parts header_is widths len content_is who_is.
    let p = given_parts c.args.job.now content given _ c.in-Occult.is parts in
    gathered journal header_is widths (ap length (sym p.0) ∙ len) (content_is ∙ p.0) (who_is ∙ ap who_of (p.1 ∙ sym c.as_slice-in-Occult.ensures)))
    c.gather-in-Occult.ensures.gathered
