-- What is known of single journals: their kinds and leaf digests, and which of them hide the contents of others.
use Rattle.std.specs.Prelude.{ℕ, ◌==◌, ◌&&◌, Bool, true, false, not, nat_lt, nat_le, bytes_eq, List, [], map, filter, find, get_or, slice_get, Option, Some, None, option_map}
use Rattle.std.specs.List.{list_any}
use Rattle.ledger_bytes.specs.declared.digest.Digest.{Digest}
use Rattle.journal_record.specs.Entry.{Entry}
use Rattle.journal_record.specs.declared.header.Header.{Header}
use Rattle.journal_record.specs.declared.header.Kind.{Kind}
use Rattle.journal_record.specs.declared.header.Kind.TheVariants as kind
use Rattle.member_book.specs.Erasures.{is_record}
use Rattle.ledger_model.specs.Clues.{jsns_with}
use Rattle.ledger_model.specs.History.{History, journals, point, leaf_digest}

-- whether a journal of this kind hides the content of one other
abbrev pub is_occult : Kind → Bool
is_occult kind.Occult = true
is_occult other = false

-- whether a journal hides the content of the one with this number, and of no other
abbrev pub names : ℕ → Entry → Bool
names n journal = is_occult journal.header.kind && journal.header.a == n

-- whether a header of this kind hides the content of the journal with that other header: an occult that of the one whose number
-- it names, an occult by clue that of each record of its clue in front of it
abbrev pub hides_as : Kind → Header → Header → Bool
hides_as kind.Occult x target = x.a == target.jsn
hides_as kind.ClueOccult x target = is_record target.kind && (nat_lt target.jsn x.jsn && bytes_eq x.link.0 target.clue.0)
hides_as other x target = false

-- whether a journal hides the content of another
abbrev pub hides : Entry → Entry → Bool
hides target journal = hides_as journal.header.kind journal.header target.header

-- whether one of some journals hides the content of a journal; nothing hides one that isn't there
abbrev pub is_hidden_by : List Entry → Option Entry → Bool
is_hidden_by journals None = false
is_hidden_by journals (Some target) = list_any (hides target) journals

-- Whether the content of journal n is hidden. `an_occult_hides_its_target`, `an_occult_by_clue_hides_its_records` and
-- `only_records_are_hidden` say when.
abbrev pub is_hidden : History → ℕ → Bool
is_hidden h n = is_hidden_by (journals h) (slice_get (journals h) n)

-- the number of the first of some journals that hides the content of a journal, where one does
abbrev pub hider_among : List Entry → Option Entry → Option ℕ
hider_among journals None = None
hider_among journals (Some target) = option_map (λ journal. journal.header.jsn) (find (hides target) journals)

-- the number of the first journal of a history that hides the content of journal n, where one does
abbrev pub hider : History → ℕ → Option ℕ
hider h n = hider_among (journals h) (slice_get (journals h) n)

-- the kind of journal n, where there is one, and else that of journal 0
abbrev pub kind_at : History → ℕ → Kind
kind_at h n = get_or (map (λ journal. journal.header.kind) (journals h)) n kind.Genesis

-- the leaf digest of journal n, where there is one, and else no bytes
abbrev pub leaf_at : History → ℕ → List ℕ
leaf_at h n = get_or (map leaf_digest (journals h)) n []

-- the numbers of a clue's records that are kept and that nothing hides, in order
unfoldable pub shown_with : History → Digest → List ℕ
shown_with h clue = filter (λ n. nat_le (point h) n && not (is_hidden h n)) (jsns_with h clue)
