-- What a job does to a history by itself: what comes of it, and what it places in the open block.
use Rattle.std.specs.Prelude.{◌≡◌, ℕ, if◌then◌else◌, [], ◌∷◌, ◌++◌, Option, Some, None, nat_le, nat_lt, ⊤}
use Rattle.ledger_bytes.specs.Digests.{digest}
use Rattle.ledger_bytes.specs.declared.refusal.Refusal.{Refusal}
use Rattle.journal_record.specs.Entry.{Entry}
use Rattle.journal_record.specs.Header.{spelling}
use Rattle.journal_record.specs.declared.stamp.Stamp.{Stamp}
use Rattle.std.specs.Option.{option_map}
use Rattle.ledger_model.specs.Anchors.{time_journal}
use Rattle.ledger_model.specs.Appends.{append_journal, member_journal, occult_journal, clue_occult_journal, purge_journal}
use Rattle.ledger_model.specs.History.{History, history, size, point, leaf_digest}
use Rattle.ledger_model.specs.Judgements.{own_refusal}
use Rattle.ledger_model.specs.Numbers.{repeated, unless_repeated}
use Rattle.ledger_model.specs.Targets.{is_hidden, leaf_at}
use Rattle.ledger_model.specs.declared.job.Job.{Job}
use Rattle.ledger_model.specs.declared.job.Job.TheVariants as job
use Rattle.ledger_model.specs.declared.limits.Limits.{Limits}
use Rattle.ledger_model.specs.declared.outcome.Outcome.{Outcome}
use Rattle.ledger_model.specs.declared.outcome.PlacedJournal.{PlacedJournal}
use Rattle.ledger_model.specs.declared.outcome.Outcome.TheVariants.{Refused, Placed, Again, StampWanted, Reading}
use Rattle.ledger_model.specs.declared.view.View.{View}
use Rattle.ledger_model.specs.declared.view.View.TheVariants.{Absent, Purged, Occulted, Whole}

-- the journal that an accepted job places, where it places one: an anchor does once it has its stamp
abbrev pub placed_journal : History → Option Stamp → Job → Option Entry
placed_journal h stamp (job.Refused refusal) = None
placed_journal h stamp (job.Append member clue content content_digest request by who number) =
    unless_repeated (repeated h member number request) (Some (append_journal h member clue content content_digest request by who number))
placed_journal h stamp (job.NewMember number key by) = Some (member_journal (size h) number key by)
placed_journal h stamp job.Anchor = option_map (time_journal (size h)) stamp
placed_journal h stamp (job.Occult target leaf given) = Some (occult_journal (size h) target leaf given)
placed_journal h stamp (job.OccultClue clue count given) = Some (clue_occult_journal (size h) clue count given)
placed_journal h stamp (job.Purge p told given) = Some (purge_journal h p given)
placed_journal h stamp (job.Ask query) = None

-- the history with a journal more, which waits in the open block
abbrev pub with_waiting : Option Entry → History → History
with_waiting None h = h
with_waiting (Some journal) h = history h.closed (h.waiting ++ journal ∷ [])

-- the history after a judgement: a refusal changes nothing
abbrev pub after_judgement : Option Refusal → Option Entry → History → History
after_judgement (Some refusal) journal h = h
after_judgement None journal h = with_waiting journal h

-- the history after a job was judged and, where it is accepted, its journal placed: the journal waits in the open block
unfoldable pub with_job : Limits → Option Stamp → History → Job → History
with_job limits stamp h job = after_judgement (own_refusal limits h job) (placed_journal h stamp job) h

-- what is told of a journal that was placed: its number, its leaf digest and its header's bytes
abbrev pub placed_with : ℕ → Entry → PlacedJournal
placed_with jsn journal = record { jsn = jsn; leaf = digest (leaf_digest journal); header = spelling journal.header }

-- that a journal was placed, as it is told
abbrev pub placed_as : ℕ → Entry → Outcome
placed_as jsn journal = Placed (placed_with jsn journal)

-- what comes of a member's record: it is placed, or repeats one that was placed
abbrev pub record_outcome : History → Option ℕ → Entry → Outcome
record_outcome h None journal = placed_as (size h) journal
record_outcome h (Some n) journal = Again n (digest (leaf_at h n))

-- what comes of an accepted anchor: without a stamp it wants one
abbrev pub anchor_outcome : History → Option Stamp → Outcome
anchor_outcome h None = StampWanted
anchor_outcome h (Some stamp) = placed_as (size h) (time_journal (size h) stamp)

-- what comes of a job that nothing refuses: a journal is placed, or was placed before, or a stamp is wanted, or something is read
abbrev pub accepted_outcome : History → Option Stamp → Job → Outcome
accepted_outcome h stamp (job.Refused refusal) = Refused refusal
accepted_outcome h stamp (job.Append member clue content content_digest request by who number) =
    record_outcome h (repeated h member number request) (append_journal h member clue content content_digest request by who number)
accepted_outcome h stamp (job.NewMember number key by) = placed_as (size h) (member_journal (size h) number key by)
accepted_outcome h stamp job.Anchor = anchor_outcome h stamp
accepted_outcome h stamp (job.Occult target leaf given) = placed_as (size h) (occult_journal (size h) target leaf given)
accepted_outcome h stamp (job.OccultClue clue count given) = placed_as (size h) (clue_occult_journal (size h) clue count given)
accepted_outcome h stamp (job.Purge p told given) = placed_as (size h) (purge_journal h p given)
accepted_outcome h stamp (job.Ask query) = Reading query

-- a refusal, where there is one, in place of what would come of a job
abbrev pub judged_outcome : Option Refusal → Outcome → Outcome
judged_outcome (Some refusal) outcome = Refused refusal
judged_outcome None outcome = outcome

-- what comes of a job that is judged against a history, by these limits and with this stamp: refused, placed, a stamp that is
-- wanted, or something to read
unfoldable pub outcome : Limits → Option Stamp → History → Job → Outcome
outcome limits stamp h job = judged_outcome (own_refusal limits h job) (accepted_outcome h stamp job)

-- only an anchor wants a stamp, and only a job that asks is told to read, which is what it asks for
abbrev pub AsksFor : Job → Outcome → Type 0
AsksFor asked (Refused refusal) = ⊤
AsksFor asked (Placed placed) = ⊤
AsksFor asked (Again jsn leaf) = ⊤
AsksFor asked StampWanted = asked ≡ job.Anchor
AsksFor asked (Reading query) = asked ≡ job.Ask query

-- What of journal n can be shown, by the first of these that holds: it isn't there, it was purged, its content is hidden, it
-- is whole. `a_purge_takes_what_is_in_front` and `an_occult_hides_its_target` say how that changes.
unfoldable pub view : History → ℕ → View
view h n =
    if nat_le (size h) n then Absent
    else (if nat_lt n (point h) then Purged (point h)
    else (if is_hidden h n then Occulted else Whole))
