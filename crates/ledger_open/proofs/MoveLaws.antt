-- Two files of which one takes over: what each pair of images is meanwhile.
use Rattle.std.specs.Prelude.{Bool, true, false, not, Option, Some, None, Result, Ok, Err, OnOk}
use Rattle.std.proofs.Common.{◌≡◌, ◌⊎◌, inl, inr, ℕ, ◌+◌, ◌-◌, ◌^◌, ◌<◌, List, [], ◌∷◌, ◌++◌, length, take, drop, refl, sym, ◌∙◌, ap, subst, arith}
use Rattle.block_file.specs.File.{IsSettled, open_blocks, whole_file}
use Rattle.block_file.specs.Head.{IsShut, HasHead, front_of, generation_of}
use Rattle.block_file.specs.declared.file.BlockFile.{BlockFile}
use Rattle.ledger_disk.proofs.Guarding.{settled_image}
use Rattle.ledger_disk.specs.Disk.{State, MayLeave, settled_state}
use Rattle.twin_file.proofs.HeadLaws.{generation_is}
use Rattle.twin_file.proofs.OpenLaws.{chosen, whole_front}
use Rattle.twin_file.specs.Images.{AllShut, AllOpenToEither, IsCopied, IsCopying, IsQuiet, KeepsPassed, LeavesFront}
use Rattle.twin_file.specs.Places.{IsBuiltCopy}
use Rattle.twin_file.specs.Twin.{choice, IsTaken, IsPassed, OpensTo, next_generation}
use Rattle.ledger_open.specs.Purging.{MayMove, IsEither, AllEither}
use Rattle.ledger_open.proofs.OldLaws.{front_passed}

-- ---- two of a kind

pub turned : {A : Type 0} (x : Bool) (i j : A) → choice (not x) i j ≡ choice x j i
turned true i j = refl
turned false i j = refl

pub settled_both : (x : Bool) (a b : State) → IsSettled a → IsSettled b → IsSettled (choice x a b)
settled_both true a b qa qb = qa
settled_both false a b qa qb = qb

-- the same in a place that is told otherwise
pub copying_at : (x y : Bool) → y ≡ x → (a b : State) → IsCopying x a b → IsCopying y a b
copying_at x y e a b copying = subst (λ (v : Bool). IsCopying v a b) (sym e) copying

pub at_choice : {A : Type 0} (x y : Bool) → y ≡ x → (a b c d : A) → choice y a b ≡ choice y c d → choice x a b ≡ choice x c d
at_choice x y e a b c d same = subst (λ (v : Bool). choice v a b ≡ choice v c d) e same

pub passes : (x : Bool) (taken : ℕ) (file : List ℕ) → IsPassed false taken file → IsPassed x taken file
passes x taken file (inl shut) = inl shut
passes true taken file (inr older) = inr (older.0, omega (arith, older.1))
passes false taken file (inr older) = inr older

taken_here : (x : Bool) (a b : State) → HasHead (choice x a b).seen → IsPassed x (generation_of (choice x a b).seen) (choice x b a).seen → IsTaken x a.seen b.seen
taken_here true a b head passed = record { head = head; other = passed }
taken_here false a b head passed = record { head = head; other = passed }

-- what is said of a result that is Ok
pub on_ok : {T E : Type 0} (r : Result T E) (P : Type 0) → P → OnOk r P
on_ok (Ok x) P p = p
on_ok (Err e) P p = tt

-- a range up to a place that is told otherwise
pub range_at : {told place : ℕ} (gate : ℕ) (file bytes : List ℕ) → told ≡ place → take (place - gate) (drop gate file) ≡ bytes → take (told - gate) (drop gate file) ≡ bytes
range_at gate file bytes is taken = ap (λ (n : ℕ). take (n - gate) (drop gate file)) is ∙ taken

-- ---- each pair of images

-- the open file is as it was, and the other one is passed over
pub stays_open : (x : Bool) (a b a_new b_new : State) (new : List ℕ) → IsSettled (choice x a b) → choice x a_new b_new ≡ choice x a b
    → ((image : List ℕ) → MayLeave (choice x b_new a_new) image → IsPassed false (generation_of (choice x a b).seen) image) → AllEither x (choice x a b).seen new a_new b_new
stays_open x a b a_new b_new new quiet same passed image_a image_b la lb =
    let both = chosen x a_new b_new image_a image_b la lb in
    inl (settled_image (choice x a b).seen (choice x image_a image_b) (subst (λ (s : State). MayLeave s (choice x image_a image_b)) (same ∙ quiet) both.0), passed (choice x image_b image_a) both.1)

-- the new one is open, and the old one is passed over
pub took_over : (x : Bool) (a_new b_new : State) (old new : List ℕ) → choice x b_new a_new ≡ settled_state new
    → ((image : List ℕ) → MayLeave (choice x a_new b_new) image → IsPassed false (generation_of new) image × (image ≡ take (length image) old))
    → AllEither x old new a_new b_new
took_over x a_new b_new old new now passed image_a image_b la lb =
    let both = chosen x a_new b_new image_a image_b la lb in
    let there = passed (choice x image_a image_b) both.0 in
    inr (settled_image new (choice x image_b image_a) (subst (λ (s : State). MayLeave s (choice x image_b image_a)) now both.1), there.0, there.1)

module _ (x : Bool) (g : ℕ) (a b : State) (m : MayMove x g a b) where
  old : List ℕ
  old = (choice x a b).seen

  quiet_open : IsSettled (choice x a b)
  quiet_open = settled_both x a b m.quiet_a m.quiet_b

  quiet_other : IsSettled (choice x b a)
  quiet_other = settled_both x b a m.quiet_b m.quiet_a

  pub quiet : IsQuiet x a b
  quiet = record {
    quiet_a = m.quiet_a;
    quiet_b = m.quiet_b;
    taken = taken_here x a b m.head (subst (λ (n : ℕ). IsPassed x n (choice x b a).seen) m.generation_is (passes x g (choice x b a).seen m.passed));
  }

  next_is : next_generation g ≡ g + 1
  next_is = omega (arith, m.fits)

  pub is_newer : generation_of (choice x a b).seen < next_generation g
  is_newer = omega (arith, next_is, m.generation_is)

  pub next_fits : next_generation g < 2 ^ 64
  next_fits = omega (arith, next_is, m.fits)

  -- a copy was begun, or not
  pub begun_pairs : (a1 b1 : State) (new : List ℕ) → choice x a1 b1 ≡ choice x a b → KeepsPassed (choice x b a) (choice x b1 a1) → AllEither x (choice x a b).seen new a1 b1
  begun_pairs a1 b1 new same keeps =
      stays_open x a b a1 b1 new quiet_open same (λ image left. subst (λ (n : ℕ). IsPassed false n image) m.generation_is (keeps quiet_other false g m.passed image left))

  -- .. and something was copied
  pub copied_pairs : (y : Bool) (a1 b1 a2 b2 : State) (new : List ℕ) → y ≡ x → choice x a1 b1 ≡ choice x a b → choice y a2 b2 ≡ choice y a1 b1 → AllShut (choice y b2 a2) → AllEither x (choice x a b).seen new a2 b2
  copied_pairs y a1 b1 a2 b2 new e first same shut =
      stays_open x a b a2 b2 new quiet_open (at_choice x y e a2 b2 a1 b1 same ∙ first) (λ image left. inl (subst (λ (v : Bool). AllShut (choice v b2 a2)) e shut image left))

  -- .. and it is being opened
  pub opening_pairs : (y : Bool) (a3 b3 : State) (base : List ℕ) (blocks : List (List ℕ)) → y ≡ x → choice x a3 b3 ≡ choice x a b
      → AllOpenToEither y (choice x a b).seen (whole_file (front_of 1 (next_generation g) base) blocks) a3 b3
      → AllEither x (choice x a b).seen (whole_file (front_of 1 (next_generation g) base) blocks) a3 b3
  opening_pairs y a3 b3 base blocks e same either image_a image_b la lb = by_case (subst (λ (v : Bool). AllOpenToEither v (choice x a b).seen new a3 b3) e either image_a image_b la lb) where
    new : List ℕ
    new = whole_file (front_of 1 (next_generation g) base) blocks

    one : choice x image_a image_b ≡ (choice x a b).seen
    one = settled_image (choice x a b).seen (choice x image_a image_b) (subst (λ (s : State). MayLeave s (choice x image_a image_b)) (same ∙ quiet_open) (chosen x a3 b3 image_a image_b la lb).0)

    by_case : (OpensTo x (choice x a b).seen image_a image_b × IsShut (choice x image_b image_a)) ⊎ OpensTo (not x) new image_a image_b → IsEither x (choice x a b).seen new image_a image_b
    by_case (inl o) = inl (o.0.is, inl o.1)
    by_case (inr o) =
        inr (sym (turned x image_a image_b) ∙ o.is, inr (subst HasHead (sym one) m.head, omega (arith, ap generation_of one, is_newer, generation_is (next_generation g) base blocks next_fits)), whole_front (choice x a b).seen (choice x image_a image_b) one)

  -- .. and the old one is being wiped
  pub wiped_pairs : (w : Bool) (a3 b3 a4 b4 : State) (base : List ℕ) (blocks : List (List ℕ)) → w ≡ not x → choice x a3 b3 ≡ choice x a b
      → choice x b3 a3 ≡ settled_state (whole_file (front_of 1 (next_generation g) base) blocks) → choice w a4 b4 ≡ choice w a3 b3 → LeavesFront (choice w b3 a3) (choice w b4 a4)
      → AllEither x (choice x a b).seen (whole_file (front_of 1 (next_generation g) base) blocks) a4 b4
  wiped_pairs w a3 b3 a4 b4 base blocks e same now stays leaves =
      took_over x a4 b4 (choice x a b).seen new
      (sym (turned x a4 b4) ∙ at_choice (not x) w e a4 b4 a3 b3 stays ∙ turned x a3 b3 ∙ now)
      (λ image left. (
        subst (λ (n : ℕ). IsPassed false n image) (sym (generation_is (next_generation g) base blocks next_fits)) (front_passed (choice x a3 b3) (choice x a4 b4) here quiet_then false (next_generation g) passed_then image left),
        here quiet_then image left ∙ ap (λ (s : State). take (length image) s.seen) same,
      ))
    where
      new : List ℕ
      new = whole_file (front_of 1 (next_generation g) base) blocks

      here : LeavesFront (choice x a3 b3) (choice x a4 b4)
      here = subst (λ (v : State × State). LeavesFront v.0 v.1) (λ i. (turned x b3 a3 i, turned x b4 a4 i)) (subst (λ (v : Bool). LeavesFront (choice v b3 a3) (choice v b4 a4)) e leaves)

      quiet_then : IsSettled (choice x a3 b3)
      quiet_then = subst IsSettled (sym same) quiet_open

      passed_then : IsPassed false (next_generation g) (choice x a3 b3).seen
      passed_then = subst (λ (s : State). IsPassed false (next_generation g) s.seen) (sym same) (inr (m.head, is_newer))

  -- ---- what a switch asks for

  pub is_copied : (y : Bool) (a2 b2 : State) (base : List ℕ) (blocks : List (List ℕ)) → y ≡ x → choice x a2 b2 ≡ choice x a b → IsCopying y a2 b2 → (choice y b2 a2).seen ≡ whole_file (front_of 0 (next_generation g) base) blocks
      → IsCopied y (next_generation g) base blocks a2 b2
  is_copied y a2 b2 base blocks e same copying seen = record {
    copying = copying;
    seen = seen;
    newer = omega (arith, is_newer, ap (λ (s : State). generation_of s.seen) (subst (λ (v : Bool). choice v a2 b2 ≡ choice x a b) (sym e) same));
    fits = next_fits;
  }

-- the copy that was built
pub built_seen : (front : List ℕ) (blocks : List (List ℕ)) (bytes : List ℕ) (copy : Option BlockFile) → IsBuiltCopy front blocks bytes copy → bytes ≡ whole_file front blocks
built_seen front blocks bytes None built = absurd built
built_seen front blocks bytes (Some file) built = built.seen

-- A copy was begun, a range was added to it, and it is opened. x, y and z tell the place of the open file at these calls.
module _ (x y z : Bool) (g : ℕ) (a b a1 b1 a2 b2 a3 b3 : State) (base : List ℕ) (blocks : List (List ℕ)) (from len : ℕ) (begun added : Option BlockFile) (e : y ≡ x) (f : z ≡ y)
    (same1 : choice x a1 b1 ≡ choice x a b) (same2 : choice y a2 b2 ≡ choice y a1 b1) (same3 : choice z a3 b3 ≡ choice z a2 b2)
    (built : IsBuiltCopy (front_of 0 (next_generation g) base) [] (choice x b1 a1).seen begun)
    (adds : (front : List ℕ) (bs more : List (List ℕ)) → IsBuiltCopy front bs (choice y b1 a1).seen begun → take len (drop from (choice y a1 b1).seen) ≡ open_blocks more → IsBuiltCopy front (bs ++ more) (choice y b2 a2).seen added)
    (taken : take len (drop from (choice x a b).seen) ≡ open_blocks blocks) where
  new : List ℕ
  new = whole_file (front_of 1 (next_generation g) base) blocks

  here : z ≡ x
  here = f ∙ e

  first_two : choice x a2 b2 ≡ choice x a b
  first_two = at_choice x y e a2 b2 a1 b1 same2 ∙ same1

  all_three : choice x a3 b3 ≡ choice x a b
  all_three = at_choice x z here a3 b3 a2 b2 same3 ∙ first_two

  copy_seen : (choice z b2 a2).seen ≡ whole_file (front_of 0 (next_generation g) base) blocks
  copy_seen =
      let there = adds (front_of 0 (next_generation g) base) [] blocks (subst (λ (v : Bool). IsBuiltCopy (front_of 0 (next_generation g) base) [] (choice v b1 a1).seen begun) (sym e) built)
      (ap (λ (s : State). take len (drop from s.seen)) (subst (λ (v : Bool). choice v a1 b1 ≡ choice x a b) (sym e) same1) ∙ taken) in
      ap (λ (v : Bool). (choice v b2 a2).seen) f ∙ built_seen (front_of 0 (next_generation g) base) blocks (choice y b2 a2).seen added there

  -- the copy is open
  pub opened_copy : choice z b3 a3 ≡ settled_state (1 ∷ drop 1 (choice z b2 a2).seen) → choice x b3 a3 ≡ settled_state (whole_file (front_of 1 (next_generation g) base) blocks)
  opened_copy now = subst (λ (v : Bool). choice v b3 a3 ≡ settled_state (whole_file (front_of 1 (next_generation g) base) blocks)) here (now ∙ ap (λ (l : List ℕ). settled_state (1 ∷ drop 1 l)) copy_seen)

  -- .. and the old file was wiped
  pub wiped_copy : (w v : Bool) (a4 b4 : State) → w ≡ not z → v ≡ w → choice z b3 a3 ≡ settled_state (1 ∷ drop 1 (choice z b2 a2).seen) → choice w a4 b4 ≡ choice w a3 b3
      → choice v a4 b4 ≡ settled_state (whole_file (front_of 1 (next_generation g) base) blocks)
  wiped_copy w v a4 b4 turns stays now same =
      ap (λ (u : Bool). choice u a4 b4) stays ∙ same ∙ ap (λ (u : Bool). choice u a3 b3) turns ∙ turned z a3 b3 ∙ now ∙ ap (λ (l : List ℕ). settled_state (1 ∷ drop 1 l)) copy_seen

  module _ (m : MayMove x g a b) (copying1 : IsQuiet x a b → IsCopying x a1 b1) (copying2 : IsCopying y a1 b1 → IsCopying y a2 b2) where
    copying : IsCopying z a2 b2
    copying = subst (λ (v : Bool). IsCopying v a2 b2) (sym f) (copying2 (subst (λ (v : Bool). IsCopying v a1 b1) (sym e) (copying1 (quiet x g a b m))))

    pub switch_failed : ((generation : ℕ) (front : List ℕ) (bs : List (List ℕ)) → IsCopied z generation front bs a2 b2 → AllOpenToEither z (choice z a2 b2).seen (whole_file (front_of 1 generation front) bs) a3 b3)
        → AllEither x (choice x a b).seen (whole_file (front_of 1 (next_generation g) base) blocks) a3 b3
    switch_failed either =
        opening_pairs x g a b m z a3 b3 base blocks here all_three
        (subst (λ (l : List ℕ). AllOpenToEither z l (whole_file (front_of 1 (next_generation g) base) blocks) a3 b3)
        (ap (λ (s : State). s.seen) (subst (λ (v : Bool). choice v a2 b2 ≡ choice x a b) (sym here) first_two))
        (either (next_generation g) base blocks (is_copied x g a b m z a2 b2 base blocks here first_two copying copy_seen)))

    pub wipe_left : (w : Bool) (a4 b4 : State) → w ≡ not z → choice z b3 a3 ≡ settled_state (1 ∷ drop 1 (choice z b2 a2).seen) → choice w a4 b4 ≡ choice w a3 b3 → LeavesFront (choice w b3 a3) (choice w b4 a4)
        → AllEither x (choice x a b).seen (whole_file (front_of 1 (next_generation g) base) blocks) a4 b4
    wipe_left w a4 b4 turns now stays leaves = wiped_pairs x g a b m w a3 b3 a4 b4 base blocks (turns ∙ ap not here) all_three (opened_copy now) stays leaves
