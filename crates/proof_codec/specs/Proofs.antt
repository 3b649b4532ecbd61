-- A journal proof's value and its one spelling.
use Rattle.std.specs.Prelude.{◌≡◌, ℕ, ◌+◌, ◌<◌, ◌≤◌, ◌^◌, ◌/◌, ◌%◌, Bool, true, false, ◌||◌, if◌then◌else◌, List, [], ◌∷◌, ◌++◌, length, Option, Some, None, IfSome, ⊤}
use Rattle.std.specs.Int.{w64, to_be_bytes}
use Rattle.std.specs.Option.{is_some}
use Rattle.ledger_bytes.specs.declared.digest.Digest.{Digest}
use Rattle.journal_record.specs.declared.header.Header.{Header}
use Rattle.journal_record.specs.declared.header.Kind.TheVariants.{Time}
use Rattle.journal_record.specs.Header as headers
use Rattle.journal_record.specs.Rules.{IsHeader}
use Rattle.ledger_bytes.specs.declared.mark.TimeMark.{TimeMark}

-- ---- values; digests that stand one after the other are shown as their bytes

-- what a proof shows of the time journal in front: its header, its path, the root over the journals in front of it, and the
-- proof that the ledger goes on from them
pub record ShownLower : Type 0 where
  -- its header
  pub header : Header
  -- its path
  pub path : List ℕ
  -- the root over the journals in front of it
  pub root : Digest
  -- the proof that the ledger goes on from them
  pub ext : List ℕ

-- what a proof shows of the time journal behind: its mark, the salt of the notary's entry, the root over the journals in front
-- of it, and the proof that the ledger goes on from them
pub record ShownUpper : Type 0 where
  -- its number, and the index and time of the notary's entry
  pub mark : TimeMark
  -- the entry's salt
  pub salt : Digest
  -- the root over the journals in front of it
  pub root : Digest
  -- the proof that the ledger goes on from them
  pub ext : List ℕ

-- what a proof shows: the size of the ledger, the journal's number, leaf digest and path, its bounds in time, and of the notary
-- its size and the paths of the bounds' entries
pub record Shown : Type 0 where
  -- the size of the ledger's tree
  pub size : ℕ
  -- the number of the journal
  pub n : ℕ
  -- the digest of its leaf
  pub leaf : Digest
  -- its path
  pub path : List ℕ
  -- the bounds in time
  pub lo : Option ShownLower
  pub hi : Option ShownUpper
  -- the size of the notary's tree, and the paths of the bounds' entries
  pub notary_size : ℕ
  pub lo_path : List ℕ
  pub hi_path : List ℕ

-- a proof has a bound, in front or behind
abbrev pub is_bounded : Option ShownLower → Option ShownUpper → Bool
is_bounded lo hi = is_some lo || is_some hi

-- ---- bytes

-- digests behind their count, which is one byte
abbrev pub with_count : List ℕ → List ℕ
with_count digests = (length digests / 32) ∷ digests

-- the bytes of the bound in front, behind a flag that says whether there is one
unfoldable pub lower_text : Option ShownLower → List ℕ
lower_text None = 0 ∷ []
lower_text (Some l) = 1 ∷ (headers.spelling l.header ++ (with_count l.path ++ (l.root.0 ++ with_count l.ext)))

-- the bytes of a mark: number, index and time
unfoldable pub mark_text : TimeMark → List ℕ
mark_text m = to_be_bytes w64 m.jsn ++ (to_be_bytes w64 m.index ++ to_be_bytes w64 m.time)

-- the bytes of the bound behind, behind a flag that says whether there is one
unfoldable pub upper_text : Option ShownUpper → List ℕ
upper_text None = 0 ∷ []
upper_text (Some u) = 1 ∷ (mark_text u.mark ++ (u.salt.0 ++ (u.root.0 ++ with_count u.ext)))

-- bytes that stand only where a bound is there, else none
abbrev pub text_if : Bool → List ℕ → List ℕ
text_if true text = text
text_if false text = []

-- the bytes of what the notary shows: the size of its tree, where there is a bound, and the path of each bound's entry
unfoldable pub notary_text : Shown → List ℕ
notary_text p =
    text_if (is_bounded p.lo p.hi) (to_be_bytes w64 p.notary_size)
    ++ (text_if (is_some p.lo) (with_count p.lo_path) ++ text_if (is_some p.hi) (with_count p.hi_path))

-- the bytes of a proof in front of its bounds
unfoldable pub front_text : Shown → List ℕ
front_text p = 1 ∷ (to_be_bytes w64 p.size ++ (to_be_bytes w64 p.n ++ (p.leaf.0 ++ with_count p.path)))

-- the bytes of a proof: its fields one after the other
unfoldable pub spelling : Shown → List ℕ
spelling p = front_text p ++ (lower_text p.lo ++ (upper_text p.hi ++ notary_text p))

-- ---- how long they are

-- how many bytes the bound in front has with its flag
abbrev pub lower_len : Option ShownLower → ℕ
lower_len None = 1
lower_len (Some l) = 209 + length l.path + length l.ext

-- how many bytes the bound behind has with its flag
abbrev pub upper_len : Option ShownUpper → ℕ
upper_len None = 1
upper_len (Some u) = 90 + length u.ext

-- the bound in front isn't longer than its counts allow
abbrev pub HasShortLower : Option ShownLower → Type 0
HasShortLower None = ⊤
HasShortLower (Some l) = (length l.path ≤ 8160) × (length l.ext ≤ 8160)

-- where the flag of the bound in front stands in a proof
abbrev pub lower_place : Shown → ℕ
lower_place p = 50 + length p.path

-- where the flag of the bound behind stands in a proof
abbrev pub upper_place : Shown → ℕ
upper_place p = 50 + length p.path + lower_len p.lo

-- how many bytes a proof has in all
abbrev pub proof_len : Shown → ℕ
proof_len p =
    50 + length p.path + lower_len p.lo + upper_len p.hi + (if is_bounded p.lo p.hi then 8 else 0)
    + (if is_some p.lo then 1 + length p.lo_path else 0) + (if is_some p.hi then 1 + length p.hi_path else 0)

-- ---- what has a spelling

-- at most 255 whole digests
pub record IsDigests (digests : List ℕ) : Type 0 where
  pub whole : length digests % 32 ≡ 0
  pub count : length digests / 32 < 256

-- a header that keeps its rules and is that of a time journal
pub record IsTimeHeader (h : Header) : Type 0 where
  pub rules : IsHeader h
  pub widths : headers.HasWidths h
  pub kind : h.kind ≡ Time

-- the numbers of a mark fit their fields
pub record IsMark (m : TimeMark) : Type 0 where
  pub jsn : m.jsn < 2 ^ 64
  pub index : m.index < 2 ^ 64
  pub time : m.time < 2 ^ 64

-- the parts of a bound in front fit their fields
pub record HasLower (l : ShownLower) : Type 0 where
  pub header : IsTimeHeader l.header
  pub path : IsDigests l.path
  pub root : length l.root.0 ≡ 32
  pub ext : IsDigests l.ext

-- the parts of a bound behind fit their fields
pub record HasUpper (u : ShownUpper) : Type 0 where
  pub mark : IsMark u.mark
  pub salt : length u.salt.0 ≡ 32
  pub root : length u.root.0 ≡ 32
  pub ext : IsDigests u.ext

-- the size of the notary's tree is 0 where there is no bound
abbrev pub IsSizeIf : Bool → ℕ → Type 0
IsSizeIf true size = size < 2 ^ 64
IsSizeIf false size = size ≡ 0

-- a path of the notary's tree is there only where its bound is
abbrev pub IsPathIf : Bool → List ℕ → Type 0
IsPathIf true path = IsDigests path
IsPathIf false path = path ≡ []

-- the parts of a proof fit their fields: each number, each digest of 32 bytes, and what belongs to a bound is there only with
-- it
pub record HasFields (p : Shown) : Type 0 where
  pub size : p.size < 2 ^ 64
  pub n : p.n < 2 ^ 64
  pub leaf : length p.leaf.0 ≡ 32
  pub path : IsDigests p.path
  pub lower : IfSome p.lo HasLower
  pub upper : IfSome p.hi HasUpper
  pub notary_size : IsSizeIf (is_bounded p.lo p.hi) p.notary_size
  pub lo_path : IsPathIf (is_some p.lo) p.lo_path
  pub hi_path : IsPathIf (is_some p.hi) p.hi_path

-- the parts of a proof fit, and its bytes aren't too many
pub record IsProof (p : Shown) : Type 0 where
  pub fields : HasFields p
  pub room : length (spelling p) ≤ 8192
