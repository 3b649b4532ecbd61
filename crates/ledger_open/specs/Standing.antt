-- What a pair of files stands for: a history, of which hidden contents aren't kept, nor blocks before a file's floor.
use Rattle.std.specs.Prelude.{◌≡◌, ◌≢◌, ◌⊎◌, ℕ, ◌+◌, ◌-◌, ◌<◌, ◌≤◌, ◌==◌, Bool, true, false, if◌then◌else◌, All, List, [], ◌∷◌, ◌++◌, length, map, take, slice_get, replicate, Option, Some, None, ⊤}
use Rattle.sha2.specs.Sha256.{sha256}
use Rattle.tree_model.specs.RootFrom.{root_from}
use Rattle.tree_model.specs.Tree.{mth, leaf}
use Rattle.block_file.specs.File.{IsFileOf}
use Rattle.block_file.specs.Head.{HasHead, generation_of, version_in}
use Rattle.journal_record.specs.Blocks.{AreBlocks, written_blocks}
use Rattle.journal_record.specs.Entry.{Entry}
use Rattle.journal_record.specs.Header.{HasWidths}
use Rattle.pseudo_genesis.specs.Bases.{base_spelling}
use Rattle.pseudo_genesis.specs.declared.base.Base.{Base}
use Rattle.ledger_model.specs.Bases.{base_of}
use Rattle.ledger_model.specs.History.{History, journals, journals_of, size, point, greatest_point}
use Rattle.ledger_model.specs.Lawful.{IsLawful}
use Rattle.ledger_model.specs.Targets.{is_hidden_by, is_hidden}
use Rattle.twin_file.specs.Twin.{open_of, other_of, IsPassed}
use Rattle.ledger_open.specs.Heads.{Edition, IsFront}

-- ---- the blocks of a file

-- Where a file begins: with this journal, behind this base. `root` gives the root over all journals, where those from the
-- first one on have these leaves.
pub record Floor : Type 0 where
  pub first : ℕ
  pub base : List ℕ
  pub root : List (List ℕ) → List ℕ

-- where a file begins that has journal 0
abbrev pub ground : Floor
ground = record { first = 0; base = []; root = mth sha256 }

-- where a file begins behind this base: its roots are those over the base's peaks and the leaves from the point on
abbrev pub floor_of : Base → Floor
floor_of b =
    record {
      first = b.point;
      base = base_spelling b;
      root = λ leaves. root_from sha256 (map (λ peak. peak.0) b.peaks) b.point (map (leaf sha256) leaves);
    }

-- where a file begins: behind this base, or with journal 0 where there is none
abbrev pub floor_from : Option Base → Floor
floor_from None = ground
floor_from (Some b) = floor_of b

-- where a file of this history begins that doesn't have these first blocks of it
abbrev pub floor_behind : History → List (List Entry) → Floor
floor_behind h [] = ground
floor_behind h (b ∷ bs) = floor_of (base_of h (length (journals_of (b ∷ bs))))

-- an open file of this edition that begins at this floor, and has these blocks
pub record HasBlocks (floor : Floor) (edition : Edition) (blocks : List (List Entry)) (image : List ℕ) : Type 0 where
  pub front : List ℕ
  pub head : IsFront edition floor.base front
  pub lawful : AreBlocks floor.first blocks
  pub stands : IsFileOf front (written_blocks floor.root [] blocks) image

-- ---- from the blocks of a file to those of a history

-- all of these bytes are zeros
abbrev pub AreZeros : List ℕ → Type 0
AreZeros bytes = bytes ≡ replicate (length bytes) 0

-- f is what is kept of journal e: all of it, but for the content where that is hidden; and where the content is gone
-- it is zeros
pub record IsKept (hid gone : ℕ → Bool) (e f : Entry) : Type 0 where
  pub header : f.header ≡ e.header
  pub who : f.who ≡ e.who
  pub shown : hid e.header.jsn ≡ false → f.content ≡ e.content
  pub zeroed : gone e.header.jsn ≡ true → AreZeros f.content

-- the second journals are what is kept of the first, one by one
abbrev pub AllKept : (ℕ → Bool) → (ℕ → Bool) → List Entry → List Entry → Type 0
AllKept hid gone [] [] = ⊤
AllKept hid gone (e ∷ es) (f ∷ fs) = IsKept hid gone e f × AllKept hid gone es fs
AllKept hid gone _ _ = ⊥

-- blocks of the same journals, one by one, but for contents that are hidden
abbrev pub SameButHidden : (ℕ → Bool) → (ℕ → Bool) → List (List Entry) → List (List Entry) → Type 0
SameButHidden hid gone [] [] = ⊤
SameButHidden hid gone (b ∷ bs) (c ∷ cs) = AllKept hid gone b c × SameButHidden hid gone bs cs
SameButHidden hid gone _ _ = ⊥

-- a file of this edition, from this floor on, keeps these blocks of a history that hides and has given up these contents
pub record KeepsBlocks (floor : Floor) (edition : Edition) (hid gone : ℕ → Bool) (bs : List (List Entry)) (image : List ℕ) : Type 0 where
  pub blocks : List (List Entry)
  pub file : HasBlocks floor edition blocks image
  pub same : SameButHidden hid gone bs blocks

-- ---- histories

-- whether a journal before the last hides the content of journal n
abbrev pub hidden_before : History → ℕ → Bool
hidden_before h n = is_hidden_by (take (size h - 1) (journals h)) (slice_get (journals h) n)

-- the point of a history before its last journal
abbrev pub point_before : History → ℕ
point_before h = greatest_point (take (size h - 1) (journals h))

-- The blocks of a history in two parts: those that a file which begins with this journal doesn't have, and those that it
-- has.
pub record Parts (floor : ℕ) (h : History) : Type 0 where
  pub gone : List (List Entry)
  pub kept : List (List Entry)
  pub are : h.closed ≡ gone ++ kept
  pub at : length (journals_of gone) ≡ floor

-- the first of some journals, which holds keys, has 64 bytes as its content
abbrev pub HasFounders : List Entry → Type 0
HasFounders [] = ⊤
HasFounders (e ∷ es) = length e.content ≡ 64

-- journals that a file could have: their headers are of their widths
pub record AreWide (es : List Entry) : Type 0 where
  pub headers : All (λ e. HasWidths e.header) es
  pub founders : HasFounders es

-- The image has this history from this journal on, where these contents are zeros, and those that are hidden beside them
-- may be any bytes. The generation of a file of the first version is at most the size, and that of a file of the second, into
-- which one of the first may have been carried over, at most one more; each of these bounds is one lower where the file doesn't
-- begin at the point.
pub record StandsBy (floor : ℕ) (zeros : ℕ → Bool) (image : List ℕ) (h : History) : Type 0 where
  pub edition : Edition
  pub parts : Parts floor h
  pub keeps : KeepsBlocks (floor_behind h parts.gone) edition (is_hidden h) zeros parts.kept image
  pub early : edition.number + (if floor == point h then 0 else 1) + 1 ≤ size h + edition.version
  pub none : h.waiting ≡ []
  pub lawful : IsLawful h
  pub wide : AreWide (journals_of parts.gone)

-- The image stands for this history: a content that only the last journal hides may be any bytes, and where the last journal
-- is a purge, the file may still begin at the point before it.
-- Example: blocks [0] [1] [2] [3], where journal 3 is the purge to journal 2. A file of generation 1 with all four blocks
-- stands for it, and so does one of generation 2 with the base at 2 and the blocks [2] [3]. Once journal 4 is there only
-- such a one does.
pub record StandsFor (image : List ℕ) (h : History) : Type 0 where
  pub floor : ℕ
  pub begins : (floor ≡ point h) ⊎ (floor ≡ point_before h)
  pub file : StandsBy floor (hidden_before h) image h

-- the image stands for this history from the point on, and each hidden content is zeros: what was purged and hidden is gone
abbrev pub IsErased : List ℕ → History → Type 0
IsErased image h = StandsBy (point h) (is_hidden h) image h

-- the image is read as this history, whatever stands where contents are hidden
abbrev pub Reads : List ℕ → History → Type 0
Reads image h = StandsBy (point h) (λ n. false) image h

-- the image stands for this history with each hidden content gone, and ends with its tail gate
pub record IsClean (image : List ℕ) (h : History) : Type 0 where
  pub erased : IsErased image h
  pub ends : erased.keeps.file.stands.rest ≡ []

-- What an older file may have left beside one of this generation: fewer bytes than a head has, or a file of the first version that
-- gives way.
abbrev pub IsOld : ℕ → List ℕ → Type 0
IsOld generation other = (length other < 65) ⊎ (HasHead other × (version_in other ≡ 1) × (generation_of other < generation))

-- The file beside an open one of this edition is empty; or it is passed over, where the last journal is a purge or the open file
-- has the first version and may be carried over; or the open file has the second version, and this is what is left of the one
-- that was carried over into it.
abbrev pub IsBeside : History → Edition → List ℕ → Type 0
IsBeside h edition other =
    (length other ≡ 0)
    ⊎ ((((point_before h ≢ point h) ⊎ (edition.version ≡ 1)) × IsPassed false edition.number other)
    ⊎ ((edition.version ≡ 2) × IsOld edition.number other))

-- a pair of files stands for a history: one of them does, and the other may be beside it
pub record PairFor (a b : List ℕ) (h : History) : Type 0 where
  pub in_a : Bool
  pub stands : StandsFor (open_of in_a a b) h
  pub beside : IsBeside h stands.file.edition (other_of in_a a b)

-- A pair of files as a session leaves it: it stands for the history, and the other file is empty, or the last journal is a
-- purge and the other file, which may be an older one or the beginning of a copy, is passed over.
pub record PairOpen (a b : List ℕ) (h : History) : Type 0 where
  pub pair : PairFor a b h
  pub alone : (length (other_of pair.in_a a b) ≡ 0) ⊎ (point_before h ≢ point h)

-- one of two files is clean for a history and has the second version, and the other one is empty
pub record IsCleanPair (a b : List ℕ) (h : History) : Type 0 where
  pub in_a : Bool
  pub clean : IsClean (open_of in_a a b) h
  pub newer : version_in (open_of in_a a b) ≡ 2
  pub empty : length (other_of in_a a b) ≡ 0

-- Two histories of which a file keeps the same, from the point on, or from the point before the last journal: behind the
-- same base the same blocks, but for contents that are hidden in both.
pub record Alike (h k : History) : Type 0 where
  pub floor : ℕ
  pub begins : (floor ≡ point h) ⊎ (floor ≡ point_before h)
  pub first : Parts floor h
  pub second : Parts floor k
  pub base : floor ≢ 0 → base_of h floor ≡ base_of k floor
  pub blocks : SameButHidden (is_hidden h) (λ n. false) first.kept second.kept

-- an image stands for one history at most, but for what isn't kept
abbrev pub IsOneHistory : Type 0
IsOneHistory = (image : List ℕ) (h k : History) → StandsFor image h → StandsFor image k → Alike h k

-- A pair of files stands for one history at most, but for what isn't kept (`a_pair_stands_for_one_history`).
abbrev pub IsOnePair : Type 0
IsOnePair = (a b : List ℕ) (h k : History) → PairFor a b h → PairFor a b k → Alike h k
