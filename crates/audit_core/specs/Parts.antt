-- The parts of a proof, and the two strings that each shows where what it tells isn't that of the lists.
use Rattle.std.specs.Prelude.{◌≡◌, ℕ, Bool, true, if◌then◌else◌, List, [], ◌∷◌, ◌++◌, length, map, get_or, take, Option, None, Some, IfSome}
use Rattle.std.specs.List.{AllByRecursion}
use Rattle.std.specs.Str.{bytes_eq}
use Rattle.ledger_bytes.specs.declared.digest.Digest.{Digest}
use Rattle.ledger_bytes.specs.declared.mark.TimeMark.{TimeMark}
use Rattle.journal_record.specs.Header as journals
use Rattle.tree_model.specs.Tree.{Hash, leaf, mth, cut}
use Rattle.tree_model.specs.Path.{fold_bytes}
use Rattle.tree_model.specs.Extension.{fold_proof_bytes}
use Rattle.tree_model.specs.Clash.{IsClash, path_clash, proof_clash}
use Rattle.merkle_tree.specs.declared.clash.Clash.{Clash}
use Rattle.merkle_tree.specs.Strings.{pair_of}
use Rattle.proof_codec.specs.Proofs.{ShownLower, ShownUpper, Shown}
use Rattle.proof_codec.specs.Claims.{lower_mark}
use Rattle.audit_core.specs.Bounds.{noted_entry}
use Rattle.audit_core.specs.Truth.{Lists}

-- a part of a proof: whether what it tells is of the lists, and the two strings that it shows if not, its own first
abbrev pub Part : Type 0
Part = Bool × Option (List ℕ × List ℕ)

-- The two strings of the first part that tells what isn't of the lists; none where all parts are of them.
-- Example: of three parts the first is of the lists, the second isn't and shows p and q, the third isn't and shows r and s:
-- p and q.
abbrev pub first_of_parts : List Part → Option (List ℕ × List ℕ)
first_of_parts [] = None
first_of_parts (part ∷ parts) = if part.0 then first_of_parts parts else part.1

-- ---- one part

-- the part that a leaf's digest and its path are: it shows the first node, from the root down, that the path tells otherwise
abbrev pub path_part : Hash → List (List ℕ) → List ℕ → ℕ → List ℕ → Part
path_part hash list digest n path =
    (bytes_eq digest (get_or (map (leaf hash) list) n []), path_clash hash digest n (map (leaf hash) list) (cut 32 path))

-- the part that the bytes of leaf n are: it shows what is hashed to a leaf's digest, as told and as the list has it
abbrev pub leaf_part : List (List ℕ) → List ℕ → ℕ → Part
leaf_part list told n = (bytes_eq told (get_or list n []), Some (0 ∷ told, 0 ∷ get_or list n []))

-- the two strings that the digests of an extension from this root of the first m items show, going down from the root
abbrev pub extension_clash : Hash → List (List ℕ) → ℕ → List ℕ → List ℕ → Option (List ℕ × List ℕ)
extension_clash hash list m old digests = proof_clash hash m old (map (leaf hash) list) (cut 32 digests)

-- the part that the root of the first m items and the extension from it are: it shows the first node, from the root down,
-- that they tell otherwise
abbrev pub extension_part : Hash → List (List ℕ) → ℕ → List ℕ → List ℕ → Part
extension_part hash list m old digests =
    (bytes_eq old (mth hash (take m list)), extension_clash hash list m old digests)

-- ---- the parts of a proof

-- the parts of a leaf in a list: its digest with the path, and then the leaf
abbrev pub placed_parts : Hash → List (List ℕ) → List ℕ → ℕ → List ℕ → List Part
placed_parts hash list told n path = path_part hash list (leaf hash told) n path ∷ leaf_part list told n ∷ []

-- the parts of a bound in front, where there is one: its header's digest with the path, the header, and the extension from
-- in front of it
abbrev pub lower_parts : Hash → List (List ℕ) → Option ShownLower → List Part
lower_parts hash headers None = []
lower_parts hash headers (Some l) =
    placed_parts hash headers (journals.spelling l.header) (lower_mark l).jsn l.path
    ++ extension_part hash headers (lower_mark l).jsn l.root.0 l.ext ∷ []

-- the part of a bound behind, where there is one: the extension from in front of it
abbrev pub upper_parts : Hash → List (List ℕ) → Option ShownUpper → List Part
upper_parts hash headers None = []
upper_parts hash headers (Some u) = extension_part hash headers u.mark.jsn u.root.0 u.ext ∷ []

-- the parts of the notary's entry for a bound of the ledger with this id: its digest with the path, and the entry
abbrev pub entry_parts : Hash → Digest → List (List ℕ) → TimeMark → Digest → Digest → List ℕ → List Part
entry_parts hash id entries mark root salt path = placed_parts hash entries (noted_entry hash id mark root.0 salt) mark.index path

-- the parts of the notary's entry for the bound in front, where there is one
abbrev pub lower_entry_parts : Hash → Digest → List (List ℕ) → Option ShownLower → List ℕ → List Part
lower_entry_parts hash id entries None path = []
lower_entry_parts hash id entries (Some l) path = entry_parts hash id entries (lower_mark l) l.root l.header.link path

-- the parts of the notary's entry for the bound behind, where there is one
abbrev pub upper_entry_parts : Hash → Digest → List (List ℕ) → Option ShownUpper → List ℕ → List Part
upper_entry_parts hash id entries None path = []
upper_entry_parts hash id entries (Some u) path = entry_parts hash id entries u.mark u.root u.salt path

-- All parts of a proof, nine at most, in this order: 1. The leaf's path. 2. to 4. Of the bound in front the path of its
-- header, the header, and the extension. 5. The extension of the bound behind. 6. and 7. The path of the first bound's
-- entry, and the entry. 8. and 9. The same of the second.
abbrev pub parts_of : Hash → Lists → Shown → List Part
parts_of hash lists p =
    path_part hash lists.headers p.leaf.0 p.n p.path
    ∷ lower_parts hash lists.headers p.lo ++ (upper_parts hash lists.headers p.hi
    ++ (lower_entry_parts hash lists.id lists.entries p.lo p.lo_path ++ upper_entry_parts hash lists.id lists.entries p.hi p.hi_path))

-- ---- what parts lead to

-- a digest leads along a path to a list's root, as that of leaf n
abbrev pub PathGives : Hash → List (List ℕ) → List ℕ → ℕ → List ℕ → Type 0
PathGives hash list digest n path = fold_bytes hash digest n (length list) path ≡ Some (mth hash list)

-- an old root leads along an extension to a list's root, as that of its first m items
abbrev pub ExtensionGives : Hash → List (List ℕ) → ℕ → List ℕ → List ℕ → Type 0
ExtensionGives hash list m old digests = fold_proof_bytes hash m old (length list) digests ≡ Some (mth hash list)

-- what a bound in front tells of the ledger leads to the root over these headers: its header, and the root in front of it
pub record LowerGives (hash : Hash) (headers : List (List ℕ)) (l : ShownLower) : Type 0 where
  pub stands : PathGives hash headers (leaf hash (journals.spelling l.header)) (lower_mark l).jsn l.path
  pub extends : ExtensionGives hash headers (lower_mark l).jsn l.root.0 l.ext

-- what a bound behind tells of the ledger leads to the root over these headers: the root in front of it
abbrev pub UpperGives : Hash → List (List ℕ) → ShownUpper → Type 0
UpperGives hash headers u = ExtensionGives hash headers u.mark.jsn u.root.0 u.ext

-- the entry for a bound leads along its path to the root of the notary's list
abbrev pub EntryGives : Hash → Digest → List (List ℕ) → TimeMark → Digest → Digest → List ℕ → Type 0
EntryGives hash id entries mark root salt path = PathGives hash entries (leaf hash (noted_entry hash id mark root.0 salt)) mark.index path

-- the entry for the bound in front leads along its path to the root of the notary's list
abbrev pub LowerEntryGives : Hash → Digest → List (List ℕ) → List ℕ → ShownLower → Type 0
LowerEntryGives hash id entries path l = EntryGives hash id entries (lower_mark l) l.root l.header.link path

-- the entry for the bound behind leads along its path to the root of the notary's list
abbrev pub UpperEntryGives : Hash → Digest → List (List ℕ) → List ℕ → ShownUpper → Type 0
UpperEntryGives hash id entries path u = EntryGives hash id entries u.mark u.root u.salt path

-- all that a proof shows leads to the roots of the lists
pub record ShownGives (hash : Hash) (lists : Lists) (p : Shown) : Type 0 where
  pub journal : PathGives hash lists.headers p.leaf.0 p.n p.path
  pub lower : IfSome p.lo (LowerGives hash lists.headers)
  pub upper : IfSome p.hi (UpperGives hash lists.headers)
  pub lower_entry : IfSome p.lo (LowerEntryGives hash lists.id lists.entries p.lo_path)
  pub upper_entry : IfSome p.hi (UpperEntryGives hash lists.id lists.entries p.hi_path)

-- ---- what is found among parts

-- the two strings that are shown were found, the proof's first; they are different, and have one digest
pub record IsClashOf (hash : Hash) (found : Option (List ℕ × List ℕ)) (shown : List ℕ × List ℕ) : Type 0 where
  pub found_is : found ≡ Some shown
  pub clashes : IsClash hash shown.0 shown.1

-- all parts tell what is of the lists, or these are the strings of the first that doesn't
abbrev pub Finds : Hash → List Part → Option Clash → Type 0
Finds hash parts None = AllByRecursion (λ part. part.0 ≡ true) parts
Finds hash parts (Some clash) = IsClashOf hash (first_of_parts parts) (pair_of clash)
