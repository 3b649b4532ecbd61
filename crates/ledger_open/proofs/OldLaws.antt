-- A front of a file that was there.
use Rattle.std.proofs.Common.{◌≡◌, inl, inr, ℕ, ◌+◌, ◌-◌, ◌<◌, ◌≤◌, List, length, take, drop, sym, ◌∙◌, ap, subst, arith, length-take}
use Rattle.std.proofs.lemmas.Bool.{cases_lt}
use Rattle.std.proofs.lemmas.List.{get_or-take, drop-take, take-take}
use Rattle.std.specs.Int.{from_be_bytes, w64}
use Rattle.block_file.specs.Head.{HasHead, is_format, generation_of, number_at, version_in}
use Rattle.ledger_disk.specs.Disk.{State}
use Rattle.twin_file.proofs.OpenLaws.{scrap_passed}
use Rattle.twin_file.specs.Images.{KeepsPassed, LeavesFront}
use Rattle.ledger_open.specs.Heads.{edition_from, edition_of}
use Rattle.ledger_open.specs.Standing.{IsOld}

-- a part of a front
pub part_of_front : (at n k : ℕ) (file : List ℕ) → at + n ≤ k → take n (drop at (take k file)) ≡ take n (drop at file)
part_of_front at n k file within =
    let m = k - at in
    let is : k ≡ at + m = omega arith in
    ap (λ (j : ℕ). take n (drop at (take j file))) is ∙ ap (λ (l : List ℕ). take n l) (drop-take at m file) ∙ take-take n m (drop at file) (omega arith)

-- a number in a front
pub front_number : (k at : ℕ) (new old : List ℕ) → at + 8 ≤ k → take k new ≡ take k old → number_at at new ≡ number_at at old
front_number k at new old within same =
    ap (λ (l : List ℕ). from_be_bytes w64 l) (sym (part_of_front at 8 k new within) ∙ ap (λ (l : List ℕ). take 8 (drop at l)) same ∙ part_of_front at 8 k old within)

pub front_generation : (k : ℕ) (file : List ℕ) → 64 ≤ k → generation_of (take k file) ≡ generation_of file
front_generation k file long = ap (λ (l : List ℕ). from_be_bytes w64 l) (part_of_front 10 8 k file (omega arith))

pub front_version : (k : ℕ) (file : List ℕ) → 64 ≤ k → version_in (take k file) ≡ version_in file
front_version k file long = get_or-take k file 9 0 (omega arith)

pub front_edition : (k : ℕ) (file : List ℕ) → 64 ≤ k → edition_of (take k file) ≡ edition_of file
front_edition k file long = ap (λ n. edition_from n (generation_of (take k file))) (front_version k file long) ∙ ap (edition_from (version_in file)) (front_generation k file long)

-- files with the same head
pub same_edition : (new old : List ℕ) → take 64 new ≡ take 64 old → edition_of new ≡ edition_of old
same_edition new old is = sym (front_edition 64 new (omega arith)) ∙ ap edition_of is ∙ front_edition 64 old (omega arith)

front_head : (k : ℕ) (file : List ℕ) → 65 ≤ k → HasHead file → HasHead (take k file)
front_head k file long has = record {
  is_open = record { long = omega (arith, has.is_open.long, length-take k file); gate = get_or-take k file 0 0 (omega arith) ∙ has.is_open.gate };
  magic_is = part_of_front 1 8 k file (omega arith) ∙ has.magic_is;
  version = ap is_format (front_version k file (omega arith)) ∙ has.version;
}

-- a front of a file of the first version that gives way is old
pub front_old : (generation : ℕ) (file image : List ℕ) → HasHead file → version_in file ≡ 1 → generation_of file < generation → image ≡ take (length image) file → IsOld generation image
front_old generation file image has one less front = elim (cases_lt (length image) 65) [
  | inl short ↦ inl short
  | inr long ↦ subst (IsOld generation) (sym front) (inr (
    front_head (length image) file long has,
    front_version (length image) file (omega arith) ∙ one,
    omega (arith, front_generation (length image) file (omega arith), less),
  ))
]

-- .. and so is a front of what an older file left
pub old_front : (generation : ℕ) (file image : List ℕ) → IsOld generation file → image ≡ take (length image) file → IsOld generation image
old_front generation file image (inl short) front = inl (omega (arith, short, ap length front, length-take (length image) file))
old_front generation file image (inr old) front = front_old generation file image old.0 old.1 old.2 front

-- what gives way does so in front
pub front_passed : (old new : State) → LeavesFront old new → KeepsPassed old new
front_passed old new leaves quiet in_a taken passed image left = scrap_passed in_a taken old.seen image passed (inl (leaves quiet image left))
