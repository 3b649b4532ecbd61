-- What a crash may leave of two files, of which one is open.
use Rattle.std.specs.Prelude.{◌≡◌, ◌⊎◌, ℕ, ◌^◌, ◌<◌, Bool, not, List, [], ◌∷◌, length, take, drop}
use Rattle.ledger_disk.specs.Disk.{State, MayLeave}
use Rattle.block_file.specs.File.{IsSettled, IsVeiled, whole_file}
use Rattle.block_file.specs.Head.{IsShut, HasHead, generation_of, front_of}
use Rattle.twin_file.specs.Twin.{open_of, other_of, IsPassed, IsTaken, OpensTo}

-- whatever a crash leaves of two disks opens to this file
abbrev pub AllOpenTo : Bool → List ℕ → State → State → Type 0
AllOpenTo in_a file a b =
    (image_a image_b : List ℕ) → MayLeave a image_a → MayLeave b image_b → OpensTo in_a file image_a image_b

-- whatever a crash leaves of two disks opens to the first of these files as before, beside one that is shut, or to the second
-- in the other place
abbrev pub AllOpenToEither : Bool → List ℕ → List ℕ → State → State → Type 0
AllOpenToEither in_a old new a b =
    (image_a image_b : List ℕ) → MayLeave a image_a → MayLeave b image_b
    → (OpensTo in_a old image_a image_b × IsShut (other_of in_a image_a image_b)) ⊎ OpensTo (not in_a) new image_a image_b

-- whatever a crash leaves of this disk is shut
abbrev pub AllShut : State → Type 0
AllShut s = (image : List ℕ) → MayLeave s image → IsShut image

-- The second file is shut, and the first is shut too or holds this one block and nothing else.
abbrev pub IsMadeOrShut : List ℕ → List ℕ → List ℕ → Type 0
IsMadeOrShut block a b = IsShut b × (IsShut a ⊎ ((a ≡ whole_file (front_of 1 1 []) (block ∷ [])) × (b ≡ [])))

-- both files are shut, and nothing is pending on either
pub record AreShut (a b : State) : Type 0 where
  pub quiet_a : IsSettled a
  pub quiet_b : IsSettled b
  pub shut_a : IsShut a.seen
  pub shut_b : IsShut b.seen

-- nothing is pending on either disk, and this file is taken
pub record IsQuiet (in_a : Bool) (a b : State) : Type 0 where
  pub quiet_a : IsSettled a
  pub quiet_b : IsSettled b
  pub taken : IsTaken in_a a.seen b.seen

-- a copy is being made: the open file is settled, and the first byte of the copy is 00 on the disk for good
pub record IsCopying (in_a : Bool) (a b : State) : Type 0 where
  pub quiet : IsSettled (open_of in_a a b)
  pub head : HasHead (open_of in_a a b).seen
  pub veiled : IsVeiled (other_of in_a a b)

-- a copy is being made, and this file, which has a head of a greater generation, is what opening the copy makes of it
pub record IsNewer (in_a : Bool) (new : List ℕ) (a b : State) : Type 0 where
  pub copying : IsCopying in_a a b
  pub is : 1 ∷ drop 1 (other_of in_a a b).seen ≡ new
  pub head : HasHead new
  pub less : generation_of (open_of in_a a b).seen < generation_of new

-- a copy was made, and has this generation, which is greater than that of the open file, this base and these blocks; it is still
-- shut
pub record IsCopied (in_a : Bool) (generation : ℕ) (base : List ℕ) (blocks : List (List ℕ)) (a b : State) : Type 0 where
  pub copying : IsCopying in_a a b
  pub seen : (other_of in_a a b).seen ≡ whole_file (front_of 0 generation base) blocks
  pub newer : generation_of (open_of in_a a b).seen < generation
  pub fits : generation < 2 ^ 64

-- where nothing was pending before, whatever a crash leaves afterwards opens to the open file
abbrev pub StaysOpen : Bool → State → State → State → State → Type 0
StaysOpen in_a a b a_new b_new = IsQuiet in_a a b → AllOpenTo in_a (open_of in_a a b).seen a_new b_new

-- where nothing was pending before, whatever a crash leaves afterwards is a front of what was there
abbrev pub LeavesFront : State → State → Type 0
LeavesFront old new = IsSettled old → (image : List ℕ) → MayLeave new image → image ≡ take (length image) old.seen

-- a file that would be passed over beside the open one is so whatever a crash leaves of it
abbrev pub KeepsPassed : State → State → Type 0
KeepsPassed old new =
    IsSettled old → (in_a : Bool) (taken : ℕ) → IsPassed in_a taken old.seen → (image : List ℕ)
    → MayLeave new image → IsPassed in_a taken image
