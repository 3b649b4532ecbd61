-- Writes in one range: all else is as before, also what a crash leaves of it.
use Rattle.std.proofs.Common.{◌≡◌, ◌⊎◌, inl, inr, ℕ, zero, suc, ◌+◌, ◌-◌, ◌<◌, ◌≤◌, List, [], ◌∷◌, ◌++◌, length, get_or, take, drop, refl, sym, ◌∙◌, ap, subst, arith}
use Rattle.std.proofs.lemmas.List.{drop-drop, take-take}
use Rattle.ledger_disk.specs.Disk.{State, MayLeave, IsUntouched, MayHaveWritten, with_write}
use Rattle.ledger_disk.specs.Guards.{Outside}
use Rattle.ledger_disk.proofs.Confining.{same_outside}
use Rattle.block_file.specs.Changes.{ChangesWithin}
use Rattle.block_file.proofs.ZeroLaws.{outside_may}

-- ---- a file with some bytes of another one

-- k bytes from a place on are those of the other file
pub patched : (at k : ℕ) (file other : List ℕ) → List ℕ
patched zero zero file other = file
patched zero (suc k) [] other = []
patched zero (suc k) (x ∷ file) [] = x ∷ file
patched zero (suc k) (x ∷ file) (y ∷ other) = y ∷ patched zero k file other
patched (suc at) k [] other = []
patched (suc at) k (x ∷ file) [] = x ∷ file
patched (suc at) k (x ∷ file) (y ∷ other) = x ∷ patched at k file other

patched_size : (at k : ℕ) (file other : List ℕ) → length (patched at k file other) ≡ length file
unfolding patched
patched_size zero zero file other = refl
patched_size zero (suc k) [] other = refl
patched_size zero (suc k) (x ∷ file) [] = refl
patched_size zero (suc k) (x ∷ file) (y ∷ other) = ap suc (patched_size zero k file other)
patched_size (suc at) k [] other = refl
patched_size (suc at) k (x ∷ file) [] = refl
patched_size (suc at) k (x ∷ file) (y ∷ other) = ap suc (patched_size at k file other)

patched_before : (at k : ℕ) (file other : List ℕ) → take at (patched at k file other) ≡ take at file
unfolding patched
patched_before zero k file other = refl
patched_before (suc at) k [] other = refl
patched_before (suc at) k (x ∷ file) [] = refl
patched_before (suc at) k (x ∷ file) (y ∷ other) = ap (λ (l : List ℕ). x ∷ l) (patched_before at k file other)

patched_rest : (at k : ℕ) (file other : List ℕ) → drop k (drop at (patched at k file other)) ≡ drop k (drop at file)
unfolding patched
patched_rest zero zero file other = refl
patched_rest zero (suc k) [] other = refl
patched_rest zero (suc k) (x ∷ file) [] = refl
patched_rest zero (suc k) (x ∷ file) (y ∷ other) = patched_rest zero k file other
patched_rest (suc at) k [] other = refl
patched_rest (suc at) k (x ∷ file) [] = refl
patched_rest (suc at) k (x ∷ file) (y ∷ other) = patched_rest at k file other

patched_after : (at k : ℕ) (file other : List ℕ) → drop (at + k) (patched at k file other) ≡ drop (at + k) file
patched_after at k file other = sym (drop-drop k at (patched at k file other)) ∙ patched_rest at k file other ∙ drop-drop k at file

pub patched_outside : (at k : ℕ) (file other : List ℕ) → Outside at k (patched at k file other) file
patched_outside at k file other = record { size = sym (patched_size at k file other); before = sym (patched_before at k file other); after = sym (patched_after at k file other) }

-- each byte is the file's own, outside of them, or the other one's
patched_byte : (at k : ℕ) (file other : List ℕ) (i : ℕ) → at + k ≤ length other
    → ((get_or (patched at k file other) i 0 ≡ get_or file i 0) × ((i < at) ⊎ (at + k ≤ i))) ⊎ (((get_or (patched at k file other) i 0 ≡ get_or other i 0) × (i < length other)) ⊎ (length file ≤ i))
unfolding patched
patched_byte zero zero file other i le = inl (refl, inr (omega arith))
patched_byte zero (suc k) [] other i le = inr (inr (omega arith))
patched_byte zero (suc k) (x ∷ file) [] i le = absurd (omega (arith, le))
patched_byte zero (suc k) (x ∷ file) (y ∷ other) zero le = inr (inl (refl, omega arith))
patched_byte zero (suc k) (x ∷ file) (y ∷ other) (suc i) le =
    elim (patched_byte zero k file other i (omega (arith, le))) [
      | inl own ↦ inl (own.0, elim own.1 [ inl below ↦ absurd (omega (arith, below)) | inr above ↦ inr (omega (arith, above)) ])
      | inr rest ↦ inr (elim rest [ inl same ↦ inl (same.0, omega (arith, same.1)) | inr past ↦ inr (omega (arith, past)) ])
    ]
patched_byte (suc at) k [] other i le = inr (inr (omega arith))
patched_byte (suc at) k (x ∷ file) [] i le = absurd (omega (arith, le))
patched_byte (suc at) k (x ∷ file) (y ∷ other) zero le = inl (refl, inl (omega arith))
patched_byte (suc at) k (x ∷ file) (y ∷ other) (suc i) le =
    elim (patched_byte at k file other i (omega (arith, le))) [
      | inl own ↦ inl (own.0, elim own.1 [ inl below ↦ inl (omega (arith, below)) | inr above ↦ inr (omega (arith, above)) ])
      | inr rest ↦ inr (elim rest [ inl same ↦ inl (same.0, omega (arith, same.1)) | inr past ↦ inr (omega (arith, past)) ])
    ]

-- ---- what a crash leaves behind one write

pushed_untouched : (i : ℕ) (rs : List (ℕ × ℕ)) (b k : ℕ) → IsUntouched i rs → (i < b) ⊎ (b + k ≤ i) → IsUntouched i (rs ++ (b, k) ∷ [])
pushed_untouched i [] b k untouched out = (out, tt)
pushed_untouched i (r ∷ rs) b k untouched out = (untouched.0, pushed_untouched i rs b k untouched.1 out)

wrote_image : (b k : ℕ) (file : List ℕ) (old : State) (image : List ℕ) → MayLeave old old.seen → b + k ≤ length old.seen → length file ≡ length old.seen → MayLeave (with_write b k file old) image
    → (other : List ℕ) × MayLeave old other × Outside b k other image
wrote_image b k file old image seen within size left =
    let other = patched b k image old.seen in
    let long : length other ≡ length image = patched_size b k image old.seen in (
      other,
      record {
        no_shorter = omega (arith, left.no_shorter, long);
        no_longer = omega (arith, left.no_longer, long, seen.no_longer, size);
        kept = λ i inside stable untouched. elim (patched_byte b k image old.seen i within) [
          | inl own ↦ own.0 ∙ left.kept i (omega (arith, inside, long)) stable (pushed_untouched i old.ranges b k untouched own.1)
          | inr rest ↦ elim rest [
            | inl same ↦ same.0 ∙ seen.kept i same.1 stable untouched
            | inr past ↦ absurd (omega (arith, past, inside, long))
          ]
        ];
      },
      patched_outside b k image old.seen,
    )

pub may_image : (b k : ℕ) (old new : State) (image : List ℕ) → MayLeave old old.seen → b + k ≤ length old.seen → MayHaveWritten b k old new → MayLeave new image
    → (other : List ℕ) × MayLeave old other × Outside b k other image
may_image b k old new image seen within (inl same) left = (image, subst (λ (s : State). MayLeave s image) same left, same_outside b k image)
may_image b k old new image seen within (inr torn) left =
    wrote_image b k torn.0 old image seen within (omega (arith, torn.1.no_shorter, torn.1.no_longer, within)) (subst (λ (s : State). MayLeave s image) torn.2 left)

-- ---- several writes in one range

wider : (at n b k : ℕ) (old new : List ℕ) → at ≤ b → b + k ≤ at + n → Outside b k old new → Outside at n old new
wider at n b k old new low high out =
    let far = at + n - (b + k) in
    let to : b + k + far ≡ at + n = omega (arith, high) in
    record {
      size = out.size;
      before = sym (take-take at b new low) ∙ ap (λ (l : List ℕ). take at l) out.before ∙ take-take at b old low;
      after = ap (λ (m : ℕ). drop m new) (sym to) ∙ sym (drop-drop far (b + k) new) ∙ ap (λ (l : List ℕ). drop far l) out.after ∙ drop-drop far (b + k) old ∙ ap (λ (m : ℕ). drop m old) to;
    }

further : (at n : ℕ) (old mid new : List ℕ) → Outside at n old mid → Outside at n mid new → Outside at n old new
further at n old mid new x y = record { size = y.size ∙ x.size; before = y.before ∙ x.before; after = y.after ∙ x.after }

pub within_may : (at n b k : ℕ) (old mid new : State) → MayLeave mid mid.seen → ChangesWithin at n old mid → at ≤ b → b + k ≤ at + n → at + n ≤ length old.seen → MayHaveWritten b k mid new → ChangesWithin at n old new
within_may at n b k old mid new seen within low high long may = record {
  seen = outside_may at n b k old.seen mid new within.seen low high long may;
  images = λ image left.
      let one = may_image b k mid new image seen (omega (arith, high, long, within.seen.size)) may left in
      let more = within.images one.0 one.1 in
      (more.0, more.1, further at n more.0 one.0 image more.2 (wider at n b k one.0 image low high one.2));
}
