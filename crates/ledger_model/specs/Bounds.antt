-- The time journals between which a journal lies.
use Rattle.std.specs.Prelude.{◌≡◌, ℕ, Bool, ◌||◌, ◌<◌, ◌≤◌, List, map, filter, slice_get, Option, Some, None, option_and_then}
use Rattle.std.specs.Option.{is_some}
use Rattle.ledger_bytes.specs.declared.mark.TimeMark.{TimeMark}
use Rattle.journal_record.specs.Entry.{Entry}
use Rattle.journal_record.specs.declared.header.Kind.TheVariants as kind
use Rattle.proof_codec.specs.Claims.{mark_of}
use Rattle.proof_codec.specs.Reading.{is_time}
use Rattle.time_peg.specs.Times.{marks_from, lower_bound, upper_bound}
use Rattle.ledger_model.specs.History.{History, journals, point}

-- the marks of the time journals among some journals, in order
abbrev pub marks_of : List Entry → List TimeMark
marks_of journals = map (λ journal. mark_of journal.header) (filter (λ journal. is_time journal.header.kind) journals)

-- the marks of a history's time journals that are kept, in order
abbrev pub time_marks : History → List TimeMark
time_marks h = marks_from (point h) (marks_of (journals h))

-- the journal of a mark, where there is one
abbrev pub journal_at : History → Option TimeMark → Option Entry
journal_at h mark = option_and_then (λ (m : TimeMark). slice_get (journals h) m.jsn) mark

-- the lower bound of journal n: the last time journal in front of it that is kept; a time journal is no bound of itself
unfoldable pub lower_journal : History → ℕ → Option Entry
lower_journal h n = journal_at h (lower_bound n (time_marks h))

-- the upper bound of journal n: the first time journal behind it that is kept
unfoldable pub upper_journal : History → ℕ → Option Entry
upper_journal h n = journal_at h (upper_bound n (time_marks h))

-- whether a time journal is kept in front of journal n or behind it, so that its proof names the notary
abbrev pub has_bound : History → ℕ → Bool
has_bound h n = is_some (lower_journal h n) || is_some (upper_journal h n)

-- a journal stands at its number in a history, tells a time, and is kept
pub record IsKeptTime (h : History) (journal : Entry) : Type 0 where
  pub place : slice_get (journals h) journal.header.jsn ≡ Some journal
  pub time : journal.header.kind ≡ kind.Time
  pub kept : point h ≤ journal.header.jsn

-- The last of the kept time journals in front of journal n, so that none is nearer; none exactly where none stands in front.
-- `the_bounds_are_nearest` says that `lower_journal` is this one.
abbrev pub IsNearestBefore : History → ℕ → Option Entry → Type 0
IsNearestBefore h n None = (e : Entry) → IsKeptTime h e → n ≤ e.header.jsn
IsNearestBefore h n (Some b) =
    IsKeptTime h b × (b.header.jsn < n) × ((e : Entry) → IsKeptTime h e → e.header.jsn < n → e.header.jsn ≤ b.header.jsn)

-- The first of the kept time journals behind journal n, so that none is nearer; none exactly where none stands behind.
-- `the_bounds_are_nearest` says that `upper_journal` is this one.
abbrev pub IsNearestBehind : History → ℕ → Option Entry → Type 0
IsNearestBehind h n None = (e : Entry) → IsKeptTime h e → e.header.jsn ≤ n
IsNearestBehind h n (Some b) =
    IsKeptTime h b × (n < b.header.jsn) × ((e : Entry) → IsKeptTime h e → n < e.header.jsn → b.header.jsn ≤ e.header.jsn)
