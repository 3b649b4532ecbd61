-- What a crash leaves of two files.
use Rattle.std.specs.Prelude.{Bool, true, false, not}
use Rattle.std.proofs.Common.{◌≡◌, ◌≢◌, ◌⊎◌, inl, inr, ℕ, ◌+◌, ◌-◌, ◌<◌, ◌≤◌, List, ◌∷◌, length, get_or, take, drop, refl, sym, ◌∙◌, ap, subst, arith, length-take}
use Rattle.std.proofs.lemmas.Bool.{cases_lt}
use Rattle.std.proofs.lemmas.List.{get_or-take, drop-take, take-take, take_all}
use Rattle.std.specs.Int.{from_be_bytes, w64}
use Rattle.ledger_disk.specs.Disk.{State, MayLeave, MayHaveCut, cut_to, settled_state}
use Rattle.ledger_disk.proofs.Guarding.{settled_image, cut_image}
use Rattle.block_file.specs.File.{IsSettled, IsVeiled, IsScrapOf}
use Rattle.block_file.specs.Head.{IsShut, HasHead, is_format, generation_of}
use Rattle.block_file.proofs.VeilLaws.{veiled_gate, veiled_shut}
use Rattle.twin_file.specs.Calls.{SparesOpen, StaysCopying}
use Rattle.twin_file.specs.Twin.{choice, Yields, IsPassed, OpensTo}
use Rattle.twin_file.specs.Images.{AllOpenTo, IsCopying, IsNewer, IsQuiet, KeepsPassed, LeavesFront, AllOpenToEither}

-- a part of a front
part_of_front : (at n k : ℕ) (file : List ℕ) → at + n ≤ k → take n (drop at (take k file)) ≡ take n (drop at file)
part_of_front at n k file within =
    let m = k - at in
    let is : k ≡ at + m = omega arith in
    ap (λ (j : ℕ). take n (drop at (take j file))) is ∙ ap (λ (l : List ℕ). take n l) (drop-take at m file) ∙ take-take n m (drop at file) (omega arith)

take_head : (k : ℕ) (file : List ℕ) → 65 ≤ k → HasHead file → HasHead (take k file)
take_head k file long has = record {
  is_open = record { long = omega (arith, has.is_open.long, length-take k file); gate = get_or-take k file 0 0 (omega arith) ∙ has.is_open.gate };
  magic_is = part_of_front 1 8 k file (omega arith) ∙ has.magic_is;
  version = ap is_format (get_or-take k file 9 0 (omega arith)) ∙ has.version;
}

take_passed : (in_a : Bool) (most k : ℕ) (file : List ℕ) → (k < 65) ⊎ (65 ≤ k) → IsPassed in_a most file → IsPassed in_a most (take k file)
take_passed in_a most k file (inl short) passed = inl (inl (omega (arith, length-take k file)))
take_passed in_a most k file (inr long) (inl (inl short)) = inl (inl (omega (arith, length-take k file)))
take_passed in_a most k file (inr long) (inl (inr gate)) = inl (inr (λ one. gate (sym (get_or-take k file 0 0 (omega arith)) ∙ one)))
take_passed in_a most k file (inr long) (inr has) =
    let same : generation_of (take k file) ≡ generation_of file = ap (λ (l : List ℕ). from_be_bytes w64 l) (part_of_front 10 8 k file (omega arith)) in
    inr (take_head k file long has.0, subst (λ (g : ℕ). Yields in_a g most) (sym same) has.1)

-- what a cut leaves is passed over where the file was
pub scrap_passed : (in_a : Bool) (most : ℕ) (file image : List ℕ) → IsPassed in_a most file → IsScrapOf file image → IsPassed in_a most image
scrap_passed in_a most file image passed (inl front) = subst (λ (l : List ℕ). IsPassed in_a most l) (sym front) (take_passed in_a most (length image) file (cases_lt (length image) 65) passed)
scrap_passed in_a most file image passed (inr short) = inl (inl (omega arith))

-- a settled file that was cut, whether the cut fails or not
pub cut_front : (old new : State) (image : List ℕ) → IsSettled old → MayHaveCut 0 old new → MayLeave new image → image ≡ take (length image) old.seen
cut_front old new image quiet (inl same) left =
    let is : image ≡ old.seen = settled_image old.seen image (subst (λ (s : State). MayLeave s image) (same ∙ quiet) left) in
    is ∙ sym (ap (λ (l : List ℕ). take (length l) old.seen) is ∙ take_all (length old.seen) old.seen (omega arith))
cut_front old new image quiet (inr cut) left =
    cut_image old.seen image cut.0 cut.2 (subst (λ (s : State). MayLeave s image) (cut.3 ∙ ap (λ (s : State). cut_to cut.0 s) quiet) left)

pub cut_scrap : (old new : State) (image : List ℕ) → IsSettled old → MayHaveCut 0 old new → MayLeave new image → IsScrapOf old.seen image
cut_scrap old new image quiet cut left = inl (cut_front old new image quiet cut left)

pub front_at : {in_a : Bool} (x : Bool) (a b a_new b_new : State) → in_a ≡ x → LeavesFront (choice x b a) (choice x b_new a_new) → LeavesFront (choice in_a b a) (choice in_a b_new a_new)
front_at x a b a_new b_new here keeps = subst (λ (y : Bool). LeavesFront (choice y b a) (choice y b_new a_new)) (sym here) keeps

-- ---- two of a kind

pub chosen : (x : Bool) (a b : State) (image_a image_b : List ℕ) → MayLeave a image_a → MayLeave b image_b → MayLeave (choice x a b) (choice x image_a image_b) × MayLeave (choice x b a) (choice x image_b image_a)
chosen true a b image_a image_b left_a left_b = (left_a, left_b)
chosen false a b image_a image_b left_a left_b = (left_b, left_a)

-- the one image of a file that stayed as it was, with nothing pending
image_is : (old new : State) (image : List ℕ) → IsSettled old → new ≡ old → MayLeave new image → image ≡ old.seen
image_is old new image quiet same left = settled_image old.seen image (subst (λ (s : State). MayLeave s image) (same ∙ quiet) left)

-- ---- what a pair opens to

opens : (x : Bool) (file image_a image_b : List ℕ) → choice x image_a image_b ≡ file → HasHead file → IsPassed x (generation_of file) (choice x image_b image_a) → OpensTo x file image_a image_b
opens x file image_a image_b is has passed =
    record { taken = record { head = subst HasHead (sym is) has; other = subst (λ (l : List ℕ). IsPassed x (generation_of l) (choice x image_b image_a)) (sym is) passed }; is = is }

-- the new file has the greater generation
opens_new : (x : Bool) (new image_a image_b : List ℕ) → choice x image_b image_a ≡ new → HasHead (choice x image_a image_b) → HasHead new → generation_of (choice x image_a image_b) < generation_of new → OpensTo (not x) new image_a image_b
opens_new true new image_a image_b is has has_new less = opens false new image_a image_b is has_new (inr (has, less))
opens_new false new image_a image_b is has has_new less = opens true new image_a image_b is has_new (inr (has, omega (arith, less)))

-- ---- the other file was worked on

-- what is known where nothing is pending
quiet_of : (x : Bool) (a b : State) → IsQuiet x a b → IsSettled (choice x a b) × IsSettled (choice x b a) × HasHead (choice x a b).seen × IsPassed x (generation_of (choice x a b).seen) (choice x b a).seen
quiet_of true a b quiet = (quiet.quiet_a, quiet.quiet_b, quiet.taken.head, quiet.taken.other)
quiet_of false a b quiet = (quiet.quiet_b, quiet.quiet_a, quiet.taken.head, quiet.taken.other)

-- what is passed over stays so
pub spares : {in_a : Bool} (x : Bool) (a b a_new b_new : State) → in_a ≡ x → choice x a_new b_new ≡ choice x a b → KeepsPassed (choice x b a) (choice x b_new a_new) → SparesOpen in_a a b a_new b_new
spares x a b a_new b_new here same keeps = subst (λ (y : Bool). SparesOpen y a b a_new b_new) (sym here) (record {
  images = λ quiet image_a image_b left_a left_b.
      let both = chosen x a_new b_new image_a image_b left_a left_b in
      let known = quiet_of x a b quiet in
      opens x (choice x a b).seen image_a image_b (image_is (choice x a b) (choice x a_new b_new) (choice x image_a image_b) known.0 same both.0) known.2
      (keeps known.1 x (generation_of (choice x a b).seen) known.3 (choice x image_b image_a) both.1);
  passed = keeps;
})

-- a copy that is shut in every image
copying_opens : (x : Bool) (a b : State) → IsCopying x a b → AllOpenTo x (choice x a b).seen a b
copying_opens x a b copying image_a image_b left_a left_b =
    let both = chosen x a b image_a image_b left_a left_b in
    opens x (choice x a b).seen image_a image_b (image_is (choice x a b) (choice x a b) (choice x image_a image_b) copying.quiet refl both.0) copying.head
    (inl (inr (veiled_gate (choice x b a) (choice x image_b image_a) copying.veiled both.1)))

-- while a range is copied
still_copying : (x : Bool) (a b a_new b_new : State) → choice x a_new b_new ≡ choice x a b → (IsVeiled (choice x b a) → IsVeiled (choice x b_new a_new)) → IsCopying x a b → StaysCopying x a b a_new b_new
still_copying x a b a_new b_new same veils copying =
    let now : IsCopying x a_new b_new = record { quiet = subst IsSettled (sym same) copying.quiet; head = subst (λ (s : State). HasHead s.seen) (sym same) copying.head; veiled = veils copying.veiled } in
    record {
      shut = λ image left. veiled_shut (choice x b_new a_new) image now.veiled left;
      copying = now;
      images = subst (λ (s : State). AllOpenTo x s.seen a_new b_new) same (copying_opens x a_new b_new now);
    }

pub stays_copying : {in_a : Bool} (x : Bool) (a b a_new b_new : State) → in_a ≡ x → choice x a_new b_new ≡ choice x a b → (IsVeiled (choice x b a) → IsVeiled (choice x b_new a_new)) → IsCopying in_a a b → StaysCopying in_a a b a_new b_new
stays_copying x a b a_new b_new here same veils = subst (λ (y : Bool). IsCopying y a b → StaysCopying y a b a_new b_new) (sym here) (still_copying x a b a_new b_new same veils)

-- ---- the copy is opened

-- each image of a copy that is opened
abbrev IsOpening : State → State → Type 0
IsOpening old new = IsVeiled old → (image : List ℕ) → MayLeave new image → (get_or image 0 0 ≢ 1) ⊎ (image ≡ 1 ∷ drop 1 old.seen)

module _ (x : Bool) (a b a_new b_new : State) (same : choice x a_new b_new ≡ choice x a b) (new : List ℕ) (newer : IsNewer x new a b) (image_a image_b : List ℕ) (left_a : MayLeave a_new image_a) (left_b : MayLeave b_new image_b) where
  both : MayLeave (choice x a_new b_new) (choice x image_a image_b) × MayLeave (choice x b_new a_new) (choice x image_b image_a)
  both = chosen x a_new b_new image_a image_b left_a left_b

  old_is : choice x image_a image_b ≡ (choice x a b).seen
  old_is = image_is (choice x a b) (choice x a_new b_new) (choice x image_a image_b) newer.copying.quiet same both.0

  -- the new file is there
  new_opens : choice x image_b image_a ≡ new → OpensTo (not x) new image_a image_b
  new_opens is = opens_new x new image_a image_b is (subst HasHead (sym old_is) newer.copying.head) newer.head (omega (arith, newer.less, ap generation_of old_is))

  either_opens : IsOpening (choice x b a) (choice x b_new a_new) → (OpensTo x (choice x a b).seen image_a image_b × IsShut (choice x image_b image_a)) ⊎ OpensTo (not x) new image_a image_b
  either_opens each = elim (each newer.copying.veiled (choice x image_b image_a) both.1) [
    | inl shut ↦ inl (opens x (choice x a b).seen image_a image_b old_is newer.copying.head (inl (inr shut)), inr shut)
    | inr made ↦ inr (new_opens (made ∙ newer.is))
  ]

  now_opens : choice x b_new a_new ≡ settled_state (1 ∷ drop 1 (choice x b a).seen) → OpensTo (not x) new image_a image_b
  now_opens now = new_opens (settled_image new (choice x image_b image_a) (subst (λ (s : State). MayLeave s (choice x image_b image_a)) (now ∙ ap settled_state newer.is) both.1))

-- meanwhile
pub opening : {in_a : Bool} (x : Bool) (a b a_new b_new : State) → in_a ≡ x → choice x a_new b_new ≡ choice x a b → IsOpening (choice x b a) (choice x b_new a_new) → (new : List ℕ) → IsNewer in_a new a b
    → AllOpenToEither in_a (choice in_a a b).seen new a_new b_new
opening x a b a_new b_new here same each = subst (λ (y : Bool). (new : List ℕ) → IsNewer y new a b → AllOpenToEither y (choice y a b).seen new a_new b_new) (sym here)
    (λ new newer image_a image_b left_a left_b. either_opens x a b a_new b_new same new newer image_a image_b left_a left_b each)

-- and afterwards
pub opened : {in_a : Bool} (x : Bool) (a b a_new b_new : State) → in_a ≡ x → choice x a_new b_new ≡ choice x a b → choice x b_new a_new ≡ settled_state (1 ∷ drop 1 (choice x b a).seen) → (new : List ℕ) → IsNewer in_a new a b
    → AllOpenTo (not in_a) new a_new b_new
opened x a b a_new b_new here same now = subst (λ (y : Bool). (new : List ℕ) → IsNewer y new a b → AllOpenTo (not y) new a_new b_new) (sym here)
    (λ new newer image_a image_b left_a left_b. now_opens x a b a_new b_new same new newer image_a image_b left_a left_b now)

-- ---- what was shut, or wasn't touched

passed_shut : (file : List ℕ) → IsPassed false 0 file → IsShut file
passed_shut file (inl shut) = shut
passed_shut file (inr has) = absurd (omega (arith, has.1))

-- what was shut is so in each image
pub shut_kept : (old new : State) (image : List ℕ) → KeepsPassed old new → IsSettled old → IsShut old.seen → MayLeave new image → IsShut image
shut_kept old new image keeps quiet shut left = passed_shut image (keeps quiet false 0 (inl shut) image left)

-- nothing was done
pub same_passed : (old new : State) → new ≡ old → KeepsPassed old new
same_passed old new same quiet in_a taken passed image left =
    subst (λ (l : List ℕ). IsPassed in_a taken l) (sym (settled_image old.seen image (subst (λ (s : State). MayLeave s image) (same ∙ quiet) left))) passed

pub after_same : (old mid new : State) → mid ≡ old → KeepsPassed mid new → KeepsPassed old new
after_same old mid new same keeps = subst (λ (s : State). KeepsPassed s new) same keeps

-- what was there is a front of itself
pub whole_front : (file image : List ℕ) → image ≡ file → image ≡ take (length image) file
whole_front file image is = is ∙ sym (ap (λ (l : List ℕ). take (length l) file) is ∙ take_all (length file) file (omega arith))

pub same_front : (old new : State) → new ≡ old → LeavesFront old new
same_front old new same quiet image left = whole_front old.seen image (settled_image old.seen image (subst (λ (s : State). MayLeave s image) (same ∙ quiet) left))

pub after_front : (old mid new : State) → mid ≡ old → LeavesFront mid new → LeavesFront old new
after_front old mid new same leaves = subst (λ (s : State). LeavesFront s new) same leaves
