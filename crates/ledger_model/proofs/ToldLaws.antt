-- The journal that an accepted job places is the one that is told.
use Rattle.std.proofs.Common.{◌≡◌, ◌≢◌, ℕ, Option, Some, None, ap, sym}
use Rattle.std.proofs.lemmas.Option.{none-some}
use Rattle.journal_record.specs.Entry.{Entry}
use Rattle.journal_record.specs.declared.stamp.Stamp.{Stamp}
use Rattle.ledger_model.specs.Anchors.{time_journal}
use Rattle.ledger_model.specs.Appends.{append_journal}
use Rattle.ledger_model.specs.History.{History, size}
use Rattle.ledger_model.specs.Numbers.{repeated, unless_repeated}
use Rattle.ledger_model.specs.Outcomes.{record_outcome, accepted_outcome, placed_as, placed_journal}
use Rattle.ledger_model.specs.declared.job.Job.{Job}
use Rattle.ledger_model.specs.declared.job.Job.TheVariants.{Refused, Append, NewMember, Anchor, Occult, OccultClue, Purge, Ask}
use Rattle.ledger_model.specs.declared.outcome.Outcome.TheVariants as outcomes
use Rattle.ledger_model.specs.declared.outcome.PlacedJournal.{PlacedJournal}

-- the one that is placed
told_as : (h : History) (one journal : Entry) → Some one ≡ Some journal → placed_as (size h) one ≡ placed_as (size h) journal
told_as h one journal is = let same : one ≡ journal = cc in ap (placed_as (size h)) same

-- a record that is placed is told; one that is repeated isn't placed
record_told : (h : History) (again : Option ℕ) (one journal : Entry) → unless_repeated again (Some one) ≡ Some journal → record_outcome h again one ≡ placed_as (size h) journal
record_told h None one journal is = told_as h one journal is
record_told h (Some n) one journal is = absurd (none-some journal is)

pub placed_told : (h : History) (stamp : Option Stamp) (job : Job) (journal : Entry) → placed_journal h stamp job ≡ Some journal → accepted_outcome h stamp job ≡ placed_as (size h) journal
placed_told h stamp (Refused refusal) journal is = absurd (none-some journal is)
placed_told h stamp (Append member clue content content_digest request by who number) journal is =
    record_told h (repeated h member number request) (append_journal h member clue content content_digest request by who number) journal is
placed_told h stamp (NewMember number key by) journal is = told_as h _ journal is
placed_told h None Anchor journal is = absurd (none-some journal is)
placed_told h (Some stamp) Anchor journal is = told_as h (time_journal (size h) stamp) journal is
placed_told h stamp (Occult target leaf given) journal is = told_as h _ journal is
placed_told h stamp (OccultClue clue count given) journal is = told_as h _ journal is
placed_told h stamp (Purge p told given) journal is = told_as h _ journal is
placed_told h stamp (Ask query) journal is = absurd (none-some journal is)

told_record : (h : History) (again : Option ℕ) (one : Entry) (placed : PlacedJournal) → record_outcome h again one ≡ outcomes.Placed placed → unless_repeated again (Some one) ≢ None
told_record h None one placed is = λ none. none-some one (sym none)
told_record h (Some n) one placed is = absurd cc

pub told_placed : (h : History) (stamp : Option Stamp) (job : Job) (placed : PlacedJournal) → accepted_outcome h stamp job ≡ outcomes.Placed placed → placed_journal h stamp job ≢ None
told_placed h stamp (Refused refusal) placed is = absurd cc
told_placed h stamp (Append member clue content content_digest request by who number) placed is =
    told_record h (repeated h member number request) (append_journal h member clue content content_digest request by who number) placed is
told_placed h stamp (NewMember number key by) placed is = λ none. none-some _ (sym none)
told_placed h None Anchor placed is = absurd cc
told_placed h (Some stamp) Anchor placed is = λ none. none-some _ (sym none)
told_placed h stamp (Occult target leaf given) placed is = λ none. none-some _ (sym none)
told_placed h stamp (OccultClue clue count given) placed is = λ none. none-some _ (sym none)
told_placed h stamp (Purge p told given) placed is = λ none. none-some _ (sym none)
told_placed h stamp (Ask query) placed is = absurd cc
