-- Along a run the headers of time journals keep the widths of their layout.
use Rattle.std.proofs.Common.{◌≡◌, ◌<◌, ◌^◌, ◌||◌, inl, inr, true, false, cond, length, slice_get, ℕ, Option, Some, None, refl, sym, ap, ◌∙◌, subst, arith}
use Rattle.std.specs.Prelude.{nat_le}
use Rattle.std.specs.Option.{option_map}
use Rattle.sha2.proofs.Facts256.{length-sha256}
use Rattle.ledger_bytes.specs.declared.refusal.Refusal.{Refusal}
use Rattle.journal_record.specs.Entry.{Entry}
use Rattle.journal_record.specs.Header.{HasWidths}
use Rattle.journal_record.specs.declared.header.Kind.TheVariants as kind
use Rattle.journal_record.specs.declared.rules.TheConstants.{NOTARY_LIMIT}
use Rattle.journal_record.specs.declared.stamp.Stamp.{Stamp}
use Rattle.ledger_model.specs.Anchors.{time_header, time_journal, stamp_of}
use Rattle.ledger_model.specs.Appends.{append_header, append_journal, member_header, member_journal, occult_header, occult_journal, clue_occult_header, clue_occult_journal, purge_header, purge_journal}
use Rattle.ledger_model.specs.History.{History, journals, size, close}
use Rattle.ledger_model.specs.Judgements.{own_refusal}
use Rattle.ledger_model.specs.Lawful.{IsLawful}
use Rattle.ledger_model.specs.Limits.{real_limits}
use Rattle.time_peg.specs.Entries.{Making}
use Rattle.ledger_model.specs.Notary.{ChangesBy}
use Rattle.ledger_model.specs.Numbers.{repeated, unless_repeated}
use Rattle.ledger_model.specs.Outcomes.{with_waiting, after_judgement, with_job}
use Rattle.ledger_model.specs.Rules.{closes_before, closes_after, judged_at, settled_history, after_job}
use Rattle.ledger_model.specs.Step.{Step}
use Rattle.ledger_model.specs.declared.job.Job.{Job}
use Rattle.ledger_model.specs.declared.job.Job.TheVariants.{Refused, Append, NewMember, Anchor, Occult, OccultClue, Purge, Ask}
use Rattle.ledger_model.proofs.AcceptedLaws.{stamp_few}
use Rattle.ledger_model.proofs.FitLaws.{size_few}
use Rattle.ledger_model.proofs.KeepLaws.{journals_close, journals_wider}
use Rattle.ledger_model.proofs.PegLaws.{last_or, stamped_fits}
use Rattle.proof_maker.specs.Written.{HasWideTimes}

wide_same : (k g : History) → journals g ≡ journals k → HasWideTimes k → HasWideTimes g
wide_same k g is wide = λ j e there time. wide j e (ap (λ js. slice_get js j) (sym is) ∙ there) time

pub wide_close : (h : History) → HasWideTimes h → HasWideTimes (close h)
wide_close h wide = wide_same h (close h) (journals_close h) wide

pub wide_judged : (h : History) (job : Job) → HasWideTimes h → HasWideTimes (judged_at h job)
wide_judged h job wide = elim (closes_before job) as (λ first. HasWideTimes (cond first (close h) h)) [ true ↦ wide_close h wide | false ↦ wide ]

wide_settled : (h : History) (job : Job) → HasWideTimes h → HasWideTimes (settled_history job h)
wide_settled h job wide = elim (closes_after job || nat_le 64 (length h.waiting)) as (λ full. HasWideTimes (cond full (close h) h)) [ true ↦ wide_close h wide | false ↦ wide ]

module _ (h : History) (wide : HasWideTimes h) where
  more : (x : Entry) → (x.header.kind ≡ kind.Time → HasWidths x.header) → HasWideTimes (with_waiting (Some x) h)
  more x new = λ j e there time.
      elim (last_or (journals h) x j e (ap (λ js. slice_get js j) (sym (journals_wider h x)) ∙ there)) [
        | inl old ↦ wide j e old.1 time
        | inr last ↦ subst (λ (y : Entry). HasWidths y.header) last.1 (new (ap (λ (y : Entry). y.header.kind) last.1 ∙ time))
      ]

  placed : (refusal : Option Refusal) (x : Entry) → (refusal ≡ None → x.header.kind ≡ kind.Time → HasWidths x.header) → HasWideTimes (after_judgement refusal (Some x) h)
  placed (Some refusal) x new = wide
  placed None x new = more x (new refl)

  unplaced : (refusal : Option Refusal) → HasWideTimes (after_judgement refusal None h)
  unplaced (Some refusal) = wide
  unplaced None = wide

  -- a record that is placed, or that repeats one
  recorded : (refusal : Option Refusal) (again : Option ℕ) (x : Entry) → (refusal ≡ None → x.header.kind ≡ kind.Time → HasWidths x.header) → HasWideTimes (after_judgement refusal (unless_repeated again (Some x)) h)
  recorded refusal None x new = placed refusal x new
  recorded refusal (Some n) x new = unplaced refusal

  -- the header of a time journal
  time_wide : (s : Stamp) → size h < 2 ^ 64 → s.index < NOTARY_LIMIT → s.time < 2 ^ 64 → length s.salt.0 ≡ 32 → HasWidths (time_header (size h) s)
  unfolding time_header
  time_wide s few index time salt = record {
    version = omega arith;
    jsn = few;
    member = omega arith;
    clue_ord = omega arith;
    clue_prev = omega arith;
    a = omega (arith, index);
    b = time;
    content_len = omega arith;
    clue = refl;
    link = salt;
    content_digest = length-sha256 _;
    who_digest = length-sha256 _;
  }

  anchor_wide : (making : Option Making) (step : Step) → size h < 2 ^ 64 → ChangesBy h making step Anchor → (refusal : Option Refusal) (stamp : Option Stamp) → own_refusal real_limits h Anchor ≡ refusal → stamp_of step ≡ stamp → HasWideTimes (after_judgement refusal (option_map (time_journal (size h)) stamp) h)
  anchor_wide making step few changes (Some refusal) stamp r is = wide
  anchor_wide making step few changes None None r is = wide
  anchor_wide making step few changes None (Some s) r is =
      let fits = stamped_fits making h step s r is changes in more (time_journal (size h) s) (λ time. time_wide s few (stamp_few step s is) fits.0 fits.1)

  job_wide : (making : Option Making) (step : Step) (job : Job) → size h < 2 ^ 64 → ChangesBy h making step job → HasWideTimes (with_job real_limits (stamp_of step) h job)
  unfolding with_job append_header member_header occult_header clue_occult_header purge_header
  job_wide making step (Refused refusal) few changes = wide
  job_wide making step (Append member clue content content_digest request by who number) few changes =
      recorded (own_refusal real_limits h (Append member clue content content_digest request by who number)) (repeated h member number request) (append_journal h member clue content content_digest request by who number)
      (λ none time. absurd (let no : ⊥ = cc time in no))
  job_wide making step (NewMember number key by) few changes = placed (own_refusal real_limits h (NewMember number key by)) (member_journal (size h) number key by) (λ none time. absurd (let no : ⊥ = cc time in no))
  job_wide making step Anchor few changes = anchor_wide making step few changes (own_refusal real_limits h Anchor) (stamp_of step) refl refl
  job_wide making step (Occult target leaf given) few changes =
      placed (own_refusal real_limits h (Occult target leaf given)) (occult_journal (size h) target leaf given) (λ none time. absurd (let no : ⊥ = cc time in no))
  job_wide making step (OccultClue clue count given) few changes =
      placed (own_refusal real_limits h (OccultClue clue count given)) (clue_occult_journal (size h) clue count given) (λ none time. absurd (let no : ⊥ = cc time in no))
  job_wide making step (Purge p told given) few changes =
      placed (own_refusal real_limits h (Purge p told given)) (purge_journal h p given) (λ none time. absurd (let no : ⊥ = cc time in no))
  job_wide making step (Ask query) few changes = unplaced (own_refusal real_limits h (Ask query))

pub wide_after : (making : Option Making) (h : History) (step : Step) (job : Job) → IsLawful (judged_at h job) → HasWideTimes h → ChangesBy (judged_at h job) making step job → HasWideTimes (after_job h step job)
unfolding after_job
wide_after making h step job lawful wide changes =
    let g = judged_at h job in
    wide_settled (with_job real_limits (stamp_of step) g job) job (job_wide g (wide_judged h job wide) making step job (omega (arith, size_few g lawful)) changes)
