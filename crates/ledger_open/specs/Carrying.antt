-- A file of the first version is carried over: its base and its blocks stand in the other file, which has the second version.
use Rattle.std.specs.Prelude.{◌≡◌, ◌≢◌, ◌⊎◌, ℕ, ◌+◌, ◌-◌, ◌≤◌, Bool, IsTrue, not, List, [], length, Option, Some, None, IsSomeAnd}
use Rattle.block_file.specs.File.{IsFileOf, IsSettled}
use Rattle.block_file.specs.FileView.{gate_of}
use Rattle.block_file.specs.Head.{generation_of, version_in}
use Rattle.journal_record.specs.Blocks.{written_blocks}
use Rattle.ledger_disk.specs.Disk.{State, MayLeave, settled_state}
use Rattle.ledger_model.specs.History.{History}
use Rattle.twin_file.specs.Twin.{open_of, other_of, next_generation}
use Rattle.twin_file.specs.Which.{in_a_of, format_in, file_of}
use Rattle.twin_file.specs.declared.twin.Twin.{Twin}
use Rattle.ledger_open.specs.Heads.{edition_from, edition_of, edition_in, IsFront}
use Rattle.ledger_open.specs.Opening.{AreUnchanged}
use Rattle.ledger_open.specs.Purging.{copied_file}
use Rattle.ledger_open.specs.Starts.{base_in}
use Rattle.ledger_open.specs.Standing.{floor_behind, StandsBy, IsClean, PairFor}

-- A file of the second version and of the next generation, with the base of this one, and with what this one has between its base
-- and its last byte, which is its tail gate.
abbrev pub carried_file : List ℕ → List ℕ
carried_file file =
    copied_file (next_generation (generation_of file)) (base_in file) (64 + length (base_in file)) (length file - 1) file

-- The open one of two files had the first version, and was carried over: the other one has its base and its blocks and is the
-- open one now. The old one is empty, and nothing is pending.
pub record WasCarried (in_a now : Bool) (a b a_new b_new : State) : Type 0 where
  pub older : version_in (open_of in_a a b).seen ≡ 1
  pub turned : now ≡ not in_a
  pub open_is : open_of now a_new b_new ≡ settled_state (carried_file (open_of in_a a b).seen)
  pub other_is : other_of now a_new b_new ≡ settled_state []

-- the open one of two files has the second version, and nothing was written
pub record StaysNewer (in_a now : Bool) (a b a_new b_new : State) : Type 0 where
  pub newer : version_in (open_of in_a a b).seen ≡ 2
  pub same : now ≡ in_a
  pub unchanged : AreUnchanged a b a_new b_new

-- ---- what carrying over needs

-- the bytes of the base with which the open file begins, where it has the first version; none are taken where it has another
abbrev pub IsBaseToCarry : Bool → ℕ → List ℕ → Option (List ℕ) → Type 0
IsBaseToCarry tells version file None = version ≢ 1
IsBaseToCarry tells version file (Some base) = (version ≡ 1) × (IsTrue tells → base ≡ base_in file)

-- The open one of two files may be carried over, or has the second version: it ends with its tail gate, behind its base, of which
-- the bytes were taken where it has the first.
pub record MayCarry (twin : Twin) (base : Option (List ℕ)) (a b : State) : Type 0 where
  pub edition : edition_in twin ≡ edition_of (open_of (in_a_of twin) a b).seen
  pub known : (format_in twin ≡ 1) ⊎ (format_in twin ≡ 2)
  pub taken : format_in twin ≡ 1 → IsSomeAnd base (λ bytes. bytes ≡ base_in (open_of (in_a_of twin) a b).seen)
  pub ends : length (open_of (in_a_of twin) a b).seen ≡ gate_of (file_of twin) + 1
  pub behind : format_in twin ≡ 1 → 64 + length (base_in (open_of (in_a_of twin) a b).seen) ≤ gate_of (file_of twin)

-- ---- for a history

-- a file has the base and the blocks of one that stands for a history, and is of the second version and the next generation
pub record IsCarried {floor : ℕ} {zeros : ℕ → Bool} {image : List ℕ} {h : History} (x : StandsBy floor zeros image h) (new : List ℕ) : Type 0 where
  pub front : List ℕ
  pub head : IsFront (edition_from 2 (x.edition.number + 1)) (floor_behind h x.parts.gone).base front
  pub stands : IsFileOf front (written_blocks (floor_behind h x.parts.gone).root [] x.keeps.blocks) new

-- while a file is carried over, a crash at any time leaves a pair that stands for each history for which the file is clean
abbrev pub StandsCarrying : Bool → State → State → State → State → Type 0
StandsCarrying in_a a b a_new b_new =
    IsSettled a → IsSettled b → length (other_of in_a a b).seen ≡ 0 → (h : History) → IsClean (open_of in_a a b).seen h
    → (image_a image_b : List ℕ) → MayLeave a_new image_a → MayLeave b_new image_b → PairFor image_a image_b h
