-- What is told to a line that asks for a journal.
use Rattle.std.specs.Prelude.{ℕ, if◌then◌else◌, List, [], ◌∷◌, Option, Some, None, slice_get, bytes_eq}
use Rattle.ledger_bytes.specs.Digests.{digest}
use Rattle.ledger_bytes.specs.declared.digest.Digest.{Digest}
use Rattle.ledger_bytes.specs.declared.refusal.Refusal.{Refusal}
use Rattle.ledger_bytes.specs.declared.refusal.Refusal.TheVariants as refusals
use Rattle.journal_record.specs.Entry.{Entry, content_digest_of, who_digest_of}
use Rattle.journal_record.specs.Header.{spelling}
use Rattle.journal_record.specs.declared.header.Header.{Header}
use Rattle.script_lines.specs.declared.reply.Reply.{Reply}
use Rattle.script_lines.specs.declared.reply.Reply.TheVariants as reply
use Rattle.ledger_model.specs.History.{History, journals, size}
use Rattle.member_book.specs.Erasures.{first_refusal}
use Rattle.ledger_model.specs.Outcomes.{view}
use Rattle.ledger_model.specs.declared.view.View.{View}
use Rattle.ledger_model.specs.declared.view.View.TheVariants.{Absent, Purged, Occulted, Whole}

-- what is told where a part of a journal has another digest than the one that was kept of it: both digests
abbrev pub damage : Digest → List ℕ → Option Refusal
damage kept found = if bytes_eq found kept.0 then None else Some (refusals.Damaged kept (digest found))

-- what is told where a journal's content has another digest than its header names
abbrev pub content_damage : Header → List ℕ → Option Refusal
content_damage header content = damage header.content_digest (content_digest_of content)

-- what is told where a journal's who has another digest than its header names
abbrev pub who_damage : Header → List ℕ → Option Refusal
who_damage header who = damage header.who_digest (who_digest_of who)

-- a reply, unless there is a refusal
abbrev pub reply_unless : Option Refusal → Reply → Reply
reply_unless (Some refusal) said = reply.Refused refusal
reply_unless None said = said

-- the reply on a journal with this header, content and who; a damage comes in its place, the content's before the who's
unfoldable pub whole_reply : Header → List ℕ → List ℕ → Reply
whole_reply header content who =
    reply_unless (first_refusal (content_damage header content ∷ who_damage header who ∷ []))
    (reply.Whole (spelling header) content who)

-- the reply on a journal whose content is hidden, with this header and who; a damage of the who comes in its place
unfoldable pub occulted_reply : Header → List ℕ → Reply
occulted_reply header who = reply_unless (who_damage header who) (reply.Occulted (spelling header) who)

-- what is said of a journal, where it is there, and else that there are only so many journals
abbrev pub reply_on : ℕ → (Entry → Reply) → Option Entry → Reply
reply_on size said None = reply.Refused (refusals.NoJournal size)
reply_on size said (Some e) = said e

-- the reply on journal n by what of it can be shown
abbrev pub shown_reply : History → ℕ → View → Reply
shown_reply h n Absent = reply.Refused (refusals.NoJournal (size h))
shown_reply h n (Purged point) = reply.Refused (refusals.Purged point)
shown_reply h n Occulted =
    reply_on (size h) (λ e. occulted_reply e.header e.who) (slice_get (journals h) n)
shown_reply h n Whole =
    reply_on (size h) (λ e. whole_reply e.header e.content e.who) (slice_get (journals h) n)

-- The reply to a line that asks for journal n. `sound_histories_show_their_journals` says that a sound history tells no
-- journal to be damaged.
unfoldable pub get_reply : History → ℕ → Reply
get_reply h n = shown_reply h n (view h n)
