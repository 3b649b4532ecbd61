-- What a call does to two files, of which one is open.
use Rattle.std.specs.Prelude.{◌≡◌, ℕ, ◌+◌, Bool, not, List, [], ◌∷◌, ◌++◌, drop, length, IsTrue, Option, Some, None, IsSomeAnd, Result}
use Rattle.block_file.specs.File.{open_blocks, whole_file}
use Rattle.block_file.specs.Head.{CountsTwo, CountsTwoAlone, front_of}
use Rattle.block_file.specs.FileView.{gate_of, base_len_of, HasTail}
use Rattle.block_file.specs.declared.file.BlockFile.{BlockFile}
use Rattle.block_file.specs.declared.failure.FileErr.{FileErr}
use Rattle.ledger_disk.specs.Disk.{DiskState, State, KeepsLength, settled_state}
use Rattle.twin_file.specs.Images.{AllOpenTo, AllOpenToEither, AllShut, IsCopied, IsCopying, IsQuiet, KeepsPassed, StaysOpen}
use Rattle.twin_file.specs.Places.{HasCopy, IsBuiltCopy, IsLonger}
use Rattle.twin_file.specs.Twin.{open_of, other_of, next_generation}
use Rattle.twin_file.specs.Which.{in_a_of, generation_in, format_in, file_of, copy_of}
use Rattle.twin_file.specs.declared.twin.Twin.{Twin}

-- both disks were read alone, and a fault was counted by one of them
pub record AreRead {T : Type 0} (tells : Bool) (result : Result T FileErr) (a b a_new b_new : DiskState) : Type 0 where
  pub bytes_a : IsTrue tells → a_new.bytes ≡ a.bytes
  pub bytes_b : IsTrue tells → b_new.bytes ≡ b.bytes
  pub length_a : KeepsLength a.told a_new.told
  pub length_b : KeepsLength b.told b_new.told
  pub faults : CountsTwo result a.faults a_new.faults b.faults b_new.faults

-- it stands at its first block, no copy is begun, and these are the lengths that are told
pub record IsAtFirst (told_a told_b : Option ℕ) (twin : Twin) : Type 0 where
  pub begins : gate_of (file_of twin) ≡ 64 + base_len_of (file_of twin)
  pub copy : copy_of twin ≡ None
  pub told : HasTail (open_of (in_a_of twin) told_a told_b) (file_of twin)

-- The open file's disk was read alone. Nothing but a fault is answered, and one of the disks counted it.
pub record KeepsOpen {T : Type 0} (tells : Bool) (result : Result T FileErr) (in_a : Bool) (a b a_new b_new : DiskState) : Type 0 where
  pub same : IsTrue tells → open_of in_a a_new.bytes b_new.bytes ≡ open_of in_a a.bytes b.bytes
  pub from : KeepsLength (open_of in_a a.told b.told) (open_of in_a a_new.told b_new.told)
  pub faults : CountsTwoAlone result a.faults a_new.faults b.faults b_new.faults

-- A crash at any time leaves the open file as it was, and a file that is passed over.
pub record SparesOpen (in_a : Bool) (a b a_new b_new : State) : Type 0 where
  pub images : StaysOpen in_a a b a_new b_new
  pub passed : KeepsPassed (other_of in_a a b) (other_of in_a a_new b_new)

-- A copy of this generation was begun behind this base, and is shut in every image. So its disk is left, and this length is told.
pub record IsBegun (tells : Bool) (generation : ℕ) (base : List ℕ) (s : State) (told : Option ℕ) (copy : Option BlockFile) : Type 0 where
  pub shut : IsTrue tells → AllShut s
  pub seen : IsTrue tells → IsBuiltCopy (front_of 0 generation base) [] s.seen copy
  pub begun : IsSomeAnd copy (λ file. (gate_of file ≡ 64 + length base) × HasTail told file)

-- A piece of so many bytes was added to a copy, whose disk read old before and reads new afterwards.
pub record AddsPiece (tells : Bool) (piece : List ℕ) (len : ℕ) (old new : List ℕ) (told : Option ℕ) (copy copy_new : Option BlockFile) : Type 0 where
  -- blocks with their gates
  pub seen : IsTrue tells → (front : List ℕ) (blocks more : List (List ℕ)) → IsBuiltCopy front blocks old copy → piece ≡ open_blocks more
      → IsBuiltCopy front (blocks ++ more) new copy_new
  -- .. or whatever bytes they are
  pub longer : IsTrue tells → IsLonger piece old new copy
  pub begun : HasCopy told copy_new
  pub moved : IsSomeAnd copy_new (λ file. IsSomeAnd copy (λ before. gate_of file ≡ gate_of before + len))

-- The copy stays shut in every image, however much of it was written, and each pair of images opens to the open file.
pub record StaysCopying (in_a : Bool) (a b a_new b_new : State) : Type 0 where
  pub shut : AllShut (other_of in_a a_new b_new)
  pub copying : IsCopying in_a a_new b_new
  pub images : AllOpenTo in_a (open_of in_a a b).seen a_new b_new

-- the copy became the open file
pub record TakesOver (old new : Twin) : Type 0 where
  pub in_a : in_a_of new ≡ not (in_a_of old)
  pub generation : generation_in new ≡ next_generation (generation_in old)
  pub version : format_in new ≡ 2
  pub copy : copy_of new ≡ None
  pub file : copy_of old ≡ Some (file_of new)

-- The copy's gate was opened for good, and where the copy was whole and newer, every image opens to it and nothing is pending.
pub record IsSwitched (in_a : Bool) (a b a_new b_new : State) : Type 0 where
  pub ok : other_of in_a a_new b_new ≡ settled_state (1 ∷ drop 1 (other_of in_a a b).seen)
  pub images : (generation : ℕ) (base : List ℕ) (blocks : List (List ℕ)) → IsCopied in_a generation base blocks a b
      → AllOpenTo (not in_a) (whole_file (front_of 1 generation base) blocks) a_new b_new
  pub quiet : (generation : ℕ) (base : List ℕ) (blocks : List (List ℕ)) → IsCopied in_a generation base blocks a b → IsQuiet (not in_a) a_new b_new

-- A crash meanwhile leaves a pair that opens to the old file or to the new one.
abbrev pub IsHalfSwitched : Bool → State → State → State → State → Type 0
IsHalfSwitched in_a a b a_new b_new =
    (generation : ℕ) (base : List ℕ) (blocks : List (List ℕ)) → IsCopied in_a generation base blocks a b
    → AllOpenToEither in_a (open_of in_a a b).seen (whole_file (front_of 1 generation base) blocks) a_new b_new
