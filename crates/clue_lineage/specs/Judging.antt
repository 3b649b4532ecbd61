-- What a lineage is worth to one who has all headers of the ledger.
use Rattle.std.specs.Prelude.{◌≡◌, ℕ, ◌<◌, List, [], length, get_or, Option, None, Result, Ok, Err, IsOk}
use Rattle.std.specs.List.{flat_map, AllByRecursion}
use Rattle.ledger_bytes.specs.Digests.{digest}
use Rattle.ledger_bytes.specs.declared.digest.Digest.{Digest}
use Rattle.ledger_bytes.specs.declared.failure.Bad.{Bad}
use Rattle.journal_record.specs.Header as headers
use Rattle.tree_model.specs.Tree.{Hash, leaf, mth}
use Rattle.merkle_tree.specs.declared.head.Head.{Head}
use Rattle.merkle_tree.specs.Strings.{pair_of}
use Rattle.audit_core.specs.Parts.{Part, first_of_parts, placed_parts, PathGives, IsClashOf}
use Rattle.clue_lineage.specs.declared.answer.Run.{Run}
use Rattle.clue_lineage.specs.declared.answer.LineageNo.{LineageNo}
use Rattle.clue_lineage.specs.declared.answer.LineageVerdict.{LineageVerdict}
use Rattle.clue_lineage.specs.declared.answer.LineageVerdict.TheVariants.{Unaccepted, True, Clash}
use Rattle.clue_lineage.specs.Lineages.{LineageItem, Lineage}
use Rattle.clue_lineage.specs.Reading.{lineage_of}
use Rattle.clue_lineage.specs.Accepting.{acceptance, acceptance_under}

-- the head over a list of headers
abbrev pub own_head : Hash → List (List ℕ) → Head
own_head hash list = record { size = length list; root = digest (mth hash list) }

-- the answer under the list's own head
abbrev pub own_acceptance : Hash → List (List ℕ) → List ℕ → Digest → Result Run LineageNo
own_acceptance hash list bytes clue = acceptance hash bytes clue (own_head hash list)

-- a journal of a lineage is the list's at its number
pub record IsOf (list : List (List ℕ)) (item : LineageItem) : Type 0 where
  pub within : item.header.jsn < length list
  pub stands : get_or list item.header.jsn [] ≡ headers.spelling item.header

-- what was read is a lineage of which each journal is the list's at its number
abbrev pub AreOfList : List (List ℕ) → Result Lineage Bad → Type 0
AreOfList list (Ok l) = AllByRecursion (IsOf list) l.items
AreOfList list (Err bad) = ⊥

-- the bytes spell a lineage of which each journal is the list's at its number
unfoldable pub IsTrueOf : List (List ℕ) → List ℕ → Type 0
IsTrueOf list bytes = AreOfList list (lineage_of bytes)

-- a journal's path leads to the list's root
abbrev pub Gives : Hash → List (List ℕ) → LineageItem → Type 0
Gives hash list item = PathGives hash list (leaf hash (headers.spelling item.header)) item.header.jsn item.path

-- the parts of a journal: its leaf's digest with the path, and then its header
abbrev pub item_parts : Hash → List (List ℕ) → LineageItem → List Part
item_parts hash list item = placed_parts hash list (headers.spelling item.header) item.header.jsn item.path

-- the parts of some journals, in their order
abbrev pub parts_of : Hash → List (List ℕ) → List LineageItem → List Part
parts_of hash list items = flat_map (item_parts hash list) items

-- the two strings of the first part that tells what isn't of the list; none of what doesn't read as a lineage
abbrev pub clash_in : Hash → List (List ℕ) → Result Lineage Bad → Option (List ℕ × List ℕ)
clash_in hash list (Ok l) = first_of_parts (parts_of hash list l.items)
clash_in hash list (Err bad) = None

-- The two strings that the bytes of a lineage show: those of the first of its journals that isn't the list's, as its path
-- tells them from the root down, and else those of its leaf.
unfoldable pub clash_of : Hash → List (List ℕ) → List ℕ → Option (List ℕ × List ℕ)
clash_of hash list bytes = clash_in hash list (lineage_of bytes)

-- What each verdict on a lineage's bytes means: 1. This is the answer under the list's own head. 2. They are accepted under
-- it, and each journal is the list's. 3. They are accepted, a journal isn't the list's, and these are two different strings
-- with one digest, the lineage's first.
abbrev pub Judges : Hash → List (List ℕ) → List ℕ → Digest → LineageVerdict → Type 0
Judges hash list bytes clue (Unaccepted why) = own_acceptance hash list bytes clue ≡ Err why
Judges hash list bytes clue True = IsOk (own_acceptance hash list bytes clue) × IsTrueOf list bytes
Judges hash list bytes clue (Clash clash) =
    IsOk (own_acceptance hash list bytes clue) × (IsTrueOf list bytes → ⊥)
    × IsClashOf hash (clash_of hash list bytes) (pair_of clash)

-- the same of a lineage that was read
abbrev pub JudgesRead : Hash → List (List ℕ) → Digest → Lineage → LineageVerdict → Type 0
JudgesRead hash list clue l (Unaccepted why) = acceptance_under hash clue (own_head hash list) l ≡ Err why
JudgesRead hash list clue l True = IsOk (acceptance_under hash clue (own_head hash list) l) × AllByRecursion (IsOf list) l.items
JudgesRead hash list clue l (Clash clash) =
    IsOk (acceptance_under hash clue (own_head hash list) l) × (AllByRecursion (IsOf list) l.items → ⊥)
    × IsClashOf hash (first_of_parts (parts_of hash list l.items)) (pair_of clash)
