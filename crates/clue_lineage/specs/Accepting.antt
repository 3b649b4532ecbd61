-- When an auditor accepts a lineage, and why not.
use Rattle.std.specs.Prelude.{◌≡◌, ℕ, ◌+◌, Bool, true, false, ◌&&◌, not, ◌==◌, if◌then◌else◌, List, [], ◌∷◌, length, Option, Some, None, option_map, Result, Ok, Err, ⊤}
use Rattle.std.specs.List.{list_all, AllByRecursion}
use Rattle.std.specs.Str.{bytes_eq}
use Rattle.ledger_bytes.specs.declared.digest.Digest.{Digest}
use Rattle.ledger_bytes.specs.declared.failure.Bad.{Bad}
use Rattle.journal_record.specs.declared.header.Header.{Header}
use Rattle.journal_record.specs.declared.header.Kind.{Kind}
use Rattle.journal_record.specs.declared.header.Kind.TheVariants.{Content}
use Rattle.journal_record.specs.Header as headers
use Rattle.journal_record.specs.Rules.{is_no_clue}
use Rattle.tree_model.specs.Tree.{Hash, leaf}
use Rattle.tree_model.specs.Path.{fold_bytes}
use Rattle.merkle_tree.specs.declared.head.Head.{Head}
use Rattle.audit_core.specs.Leading.{path_leads}
use Rattle.clue_lineage.specs.declared.answer.Run.{Run}
use Rattle.clue_lineage.specs.declared.answer.LineageNo.{LineageNo}
use Rattle.clue_lineage.specs.declared.answer.LineageNo.TheVariants.{Malformed, HeadUnknown, LineageClue, LineageLink, LeafPath}
use Rattle.clue_lineage.specs.Lineages.{LineageItem, Lineage, IsLineage, spelling}
use Rattle.clue_lineage.specs.Reading.{lineage_of, break_of}

-- whether a journal of a kind is a member's record
abbrev pub is_record : Kind → Bool
is_record Content = true
is_record kind = false

-- whether a header is that of a record with this clue
abbrev pub is_record_of : Digest → Header → Bool
is_record_of clue x = is_record x.kind && bytes_eq x.clue.0 clue.0

-- whether a header is that of the clue's next record behind another: its ordinal is one more, and it names the other's number
abbrev pub follows : Header → Header → Bool
follows before x = (x.clue_ord == before.clue_ord + 1) && (x.clue_prev == before.jsn)

-- whether a journal leads along its path to a head's root, under the head's size
abbrev pub leads : Hash → Head → LineageItem → Bool
leads hash head item = path_leads hash head.root (leaf hash (headers.spelling item.header)) item.header.jsn head.size item.path

-- the place of the first journal that isn't a record with this clue, where the first of all has this place
abbrev pub first_stranger : Digest → ℕ → List LineageItem → Option ℕ
first_stranger clue at [] = None
first_stranger clue at (item ∷ more) = if is_record_of clue item.header then first_stranger clue (at + 1) more else Some at

-- the place of the first journal that doesn't follow the one in front of it, where the first behind that has this place
abbrev pub first_break_behind : Header → ℕ → List LineageItem → Option ℕ
first_break_behind before at [] = None
first_break_behind before at (item ∷ more) =
    if follows before item.header then first_break_behind item.header (at + 1) more else Some at

-- The place of the first journal that doesn't follow the one in front of it, from 0; the first of all follows none.
-- Example: of ordinals 4, 5 and 7 the place 2.
abbrev pub first_break : List LineageItem → Option ℕ
first_break [] = None
first_break (item ∷ more) = first_break_behind item.header 1 more

-- the ordinal of the last of some journals, behind one with this ordinal
abbrev pub last_ordinal : ℕ → List LineageItem → ℕ
last_ordinal before [] = before
last_ordinal before (item ∷ more) = last_ordinal item.header.clue_ord more

-- the run that journals are: the ordinals of the first and of the last, and how many there are
abbrev pub run_of : List LineageItem → Run
run_of [] = record { first = 0; last = 0; count = 0 }
run_of (item ∷ more) = record { first = item.header.clue_ord; last = last_ordinal item.header.clue_ord more; count = length (item ∷ more) }

-- a refusal where something doesn't hold
abbrev pub unless : Bool → LineageNo → Option LineageNo
unless holds why = if holds then None else Some why

-- what stands against a lineage that was read, in this order: 1. It is of another size. 2. It is of another clue than this, or
-- that is none. 3. A journal isn't a record with the clue. 4. A journal doesn't follow the one in front of it. 5. A journal
-- doesn't lead to the root.
abbrev pub refusals : Hash → Digest → Head → Lineage → List (Option LineageNo)
refusals hash clue head l =
    unless (l.size == head.size) (HeadUnknown l.size)
    ∷ unless (bytes_eq l.clue.0 clue.0 && not (is_no_clue clue)) (LineageClue 0)
    ∷ option_map LineageClue (first_stranger clue 0 l.items)
    ∷ option_map LineageLink (first_break l.items)
    ∷ unless (list_all (leads hash head) l.items) LeafPath
    ∷ []

-- the first refusal that there is, and the run where there is none
abbrev pub first_refusal : Run → List (Option LineageNo) → Result Run LineageNo
first_refusal run [] = Ok run
first_refusal run (None ∷ more) = first_refusal run more
first_refusal run (Some why ∷ more) = Err why

-- the answer to a lineage that was read
unfoldable pub acceptance_under : Hash → Digest → Head → Lineage → Result Run LineageNo
acceptance_under hash clue head l = first_refusal (run_of l.items) (refusals hash clue head l)

-- the answer to what bytes are read as
abbrev pub acceptance_of : Hash → Digest → Head → Result Lineage Bad → Result Run LineageNo
acceptance_of hash clue head (Err bad) = Err (Malformed (break_of bad))
acceptance_of hash clue head (Ok l) = acceptance_under hash clue head l

-- What an auditor answers to the bytes of a lineage of a clue under a head.
-- Example: the records of a clue are journals 11, 51, 92, 133 and 174. A lineage of the last two under the ledger's head is
-- accepted as the run from 4 to 5; with the two exchanged it is refused at place 1, since ordinal 4 doesn't follow 5.
unfoldable pub acceptance : Hash → List ℕ → Digest → Head → Result Run LineageNo
acceptance hash bytes clue head = acceptance_of hash clue head (lineage_of bytes)

-- ---- what is accepted

-- a journal is a record with this clue
pub record IsRecordOf (clue : Digest) (item : LineageItem) : Type 0 where
  pub kind : item.header.kind ≡ Content
  pub clue_is : item.header.clue ≡ clue

-- a header is that of the clue's next record behind another
pub record Follows (before x : Header) : Type 0 where
  pub ordinal : x.clue_ord ≡ before.clue_ord + 1
  pub previous : x.clue_prev ≡ before.jsn

-- each of some journals follows the one in front of it, and the first of them this one
abbrev pub FollowOn : Header → List LineageItem → Type 0
FollowOn before [] = ⊤
FollowOn before (item ∷ more) = Follows before item.header × FollowOn item.header more

-- each journal but the first follows the one in front of it
abbrev pub AreLinked : List LineageItem → Type 0
AreLinked [] = ⊤
AreLinked (item ∷ more) = FollowOn item.header more

-- a journal's leaf leads along its path to a head's root, under the head's size
abbrev pub Leads : Hash → Head → LineageItem → Type 0
Leads hash head item =
    fold_bytes hash (leaf hash (headers.spelling item.header)) item.header.jsn head.size item.path ≡ Some head.root.0

-- The bytes spell a lineage of this size and this clue, which isn't none; its journals are records with the clue, each
-- following the one in front of it, they lead to the root, and they are this run: when the answer is yes.
pub record IsAccepted (hash : Hash) (bytes : List ℕ) (clue : Digest) (head : Head) (run : Run) : Type 0 where
  pub lineage : Lineage
  pub is_lineage : IsLineage lineage
  pub text : bytes ≡ spelling lineage
  pub size : lineage.size ≡ head.size
  pub clue_is : lineage.clue ≡ clue
  pub some : is_no_clue clue ≡ false
  pub records : AllByRecursion (IsRecordOf clue) lineage.items
  pub linked : AreLinked lineage.items
  pub lead : AllByRecursion (Leads hash head) lineage.items
  pub run_is : run ≡ run_of lineage.items
