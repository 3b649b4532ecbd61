-- What is noted of the journals of a dump besides: how many there are, which contents are missing and which are hidden, and whether the
-- purge that made the base was among them.
use Rattle.std.specs.Prelude.{◌≡◌, ℕ, suc, ◌<◌, ◌==◌, ◌&&◌, ◌||◌, if◌then◌else◌, Bool, true, false, nat_lt, bytes_eq, List, [], ◌∷◌, map, fold, All, Option, Some, None, ⊤}
use Rattle.std.specs.BTreeMap.{is_at}
use Rattle.std.specs.Cmp.Lexicographic.{slice_cmp}
use Rattle.std.specs.List.{list_any}
use Rattle.std.specs.Map.{lookup}
use Rattle.std.specs.Ordering.{nat_cmp}
use Rattle.sha2.specs.Sha256.{sha256}
use Rattle.ledger_bytes.specs.declared.digest.Digest.{Digest}
use Rattle.journal_record.specs.Items.{Item}
use Rattle.journal_record.specs.declared.header.Header.{Header}
use Rattle.journal_record.specs.declared.header.Kind.{Kind}
use Rattle.journal_record.specs.declared.header.Kind.TheVariants as kind
use Rattle.member_book.specs.Erasures.{is_record}
use Rattle.pseudo_genesis.specs.declared.base.Base.{Base}
use Rattle.dump_model.specs.Checks.{digest_of_base, is_occult, is_erased, is_hidden}
use Rattle.audit_dump.specs.Ending.{IsFirstWithout}
use Rattle.audit_dump.specs.declared.base_purge.BasePurge.{BasePurge}
use Rattle.audit_dump.specs.declared.erasing.Mark.{Mark}

-- ---- erasures

-- whether a journal is an occult of the one with this number
abbrev pub names : ℕ → Item → Bool
names n item = is_occult item.header.kind && item.header.a == n

-- whether a journal of this kind hides the contents of the records of a clue
abbrev pub is_clue_occult : Kind → Bool
is_clue_occult kind.ClueOccult = true
is_clue_occult other = false

-- whether a journal is an occult by this clue
abbrev pub names_clue : List ℕ → Item → Bool
names_clue clue item = is_clue_occult item.header.kind && bytes_eq item.header.link.0 clue

-- the number of the last of some journals that is an occult by this clue, or else this one
abbrev pub last_named : Option ℕ → List ℕ → List Item → Option ℕ
last_named last clue items = fold (λ so_far item. if names_clue clue item then Some item.header.jsn else so_far) last items

-- the number of the last of some journals that is an occult by this clue
abbrev pub last_occult : List ℕ → List Item → Option ℕ
last_occult clue items = last_named None clue items

-- the clue by which the content of a journal may be hidden: that of a record
abbrev pub record_clue : Header → Option Digest
record_clue x = if is_record x.kind then Some x.clue else None

-- what is marked of a journal among others: whether its content is missing, whether one of them names it, and the clue by which
-- it may be hidden
abbrev pub mark_of : List Item → Item → Mark
mark_of items item = record { erased = is_erased item; named = list_any (names item.header.jsn) items; clue = record_clue item.header }

-- the marks of journals, one for each in order
abbrev pub marks_of : List Item → List Mark
marks_of items = map (mark_of items) items

-- The numbers of journals rise one by one from this one, and an occult that names one names a journal in front of it.
abbrev pub AreInOrder : ℕ → List Item → Type 0
AreInOrder n [] = ⊤
AreInOrder n (item ∷ items) = (item.header.jsn ≡ n) × (is_occult item.header.kind ≡ true → item.header.a < n) × AreInOrder (suc n) items

-- a content is missing exactly where one of these journals hides it
abbrev pub IsErasedRightly : List Item → Item → Type 0
IsErasedRightly items item = is_erased item ≡ is_hidden items item

-- the first of some journals whose content is missing and isn't hidden, or is hidden and there; none where there is none such
abbrev pub IsFirstWrong : List Item → Option ℕ → Type 0
IsFirstWrong items None = All (IsErasedRightly items) items
IsFirstWrong items (Some number) = IsFirstWithout (IsErasedRightly items) items number

-- the marks that are kept, the number of the journal of the first one, and of each clue that occults name the last of them
pub record Erased : Type 0 where
  pub first : ℕ
  pub marks : List Mark
  pub clues : List (List ℕ × ℕ)

-- the last occult by a clue, as it is kept
abbrev pub last_in : List ℕ → List (List ℕ × ℕ) → Option ℕ
last_in clue entries = lookup (is_at (slice_cmp nat_cmp clue)) entries

-- what is kept is that of these journals
pub record AreMarksOf (items : List Item) (kept : Erased) : Type 0 where
  pub marks : kept.marks ≡ marks_of items
  pub clues : (clue : List ℕ) → last_in clue kept.clues ≡ last_occult clue items

-- whether journal n stands in front of another one, where there is one
abbrev pub is_before : ℕ → Option ℕ → Bool
is_before n None = false
is_before n (Some last) = nat_lt n last

-- whether journal n is hidden by its clue, where it may be, as the last occults by clues tell
abbrev pub is_hidden_by_clue : List (List ℕ × ℕ) → ℕ → Option Digest → Bool
is_hidden_by_clue clues n None = false
is_hidden_by_clue clues n (Some clue) = is_before n (last_in clue.0 clues)

-- whether journal n is hidden, as its mark and the last occults by clues tell
abbrev pub is_marked_hidden : List (List ℕ × ℕ) → ℕ → Mark → Bool
is_marked_hidden clues n mark = mark.named || is_hidden_by_clue clues n mark.clue

-- a mark that tells a journal as named
abbrev pub as_named : Mark → Mark
as_named mark = record mark { named = true }

-- The marks of journals whose numbers rise from this one, once journal n is told as named.
-- Example: of the marks of the journals 5 to 9 the third changes where n is 7, and none where it is 4.
abbrev pub named_at : ℕ → ℕ → List Mark → List Mark
named_at first n [] = []
named_at first n (mark ∷ marks) = (if n == first then as_named mark else mark) ∷ named_at (suc first) n marks

-- ---- the base's purge

-- the purge that is looked for is the one that made this base: it names the base's point and links the base's digest
pub record IsOfBase (base : Base) (purge : BasePurge) : Type 0 where
  pub point : purge.point ≡ base.point
  pub digest : purge.digest.0 ≡ digest_of_base sha256 base
