-- Jobs that a line may make.
use Rattle.std.specs.Prelude.{ℕ, ◌==◌, ◌&&◌, Bool, true, [], ◌∷◌, length, nat_le, bytes_eq}
use Rattle.std.specs.List.{list_all}
use Rattle.ledger_bytes.specs.declared.limits.TheConstants.{APPROVAL_LIMIT, CONTENT_LIMIT, PROOF_LIMIT}
use Rattle.journal_record.specs.Approval.{who_of}
use Rattle.journal_record.specs.Entry.{content_digest_of, who_digest_of}
use Rattle.journal_record.specs.declared.approval.Approval.{Approval}
use Rattle.script_lines.specs.Limits.{is_of_form}
use Rattle.ledger_model.specs.declared.job.Job.{Job}
use Rattle.ledger_model.specs.declared.job.Job.TheVariants.{Refused, Append, NewMember, Anchor, Occult, OccultClue, Purge, Ask}

-- whether an approval is this member's, with a proof no longer than a line may give
abbrev pub fits_approval : ℕ → Approval → Bool
fits_approval member by = by.member == member && nat_le (length by.proof) PROOF_LIMIT

-- whether a line may make the job: its parts are no longer than a line may give, and belong together
abbrev pub fits_job : Job → Bool
fits_job (Refused refusal) = is_of_form refusal
fits_job (Append member clue content content_digest request by who number) =
    nat_le (length content) CONTENT_LIMIT
    && bytes_eq content_digest.0 (content_digest_of content)
    && bytes_eq who.0 (who_digest_of (who_of (by ∷ [])))
    && fits_approval member by
fits_job (NewMember number key by) = fits_approval 0 by
fits_job Anchor = true
fits_job (Occult target leaf given) =
    nat_le (length given) APPROVAL_LIMIT && list_all (λ by. nat_le (length by.proof) PROOF_LIMIT) given
fits_job (OccultClue clue count given) =
    nat_le (length given) APPROVAL_LIMIT && list_all (λ by. nat_le (length by.proof) PROOF_LIMIT) given
fits_job (Purge p told given) =
    nat_le (length given) APPROVAL_LIMIT && list_all (λ by. nat_le (length by.proof) PROOF_LIMIT) given
fits_job (Ask query) = true
