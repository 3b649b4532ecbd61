-- The file that is picked is the one that is taken.
use Rattle.std.specs.Prelude.{true, false, Option, Some, None, Ok}
use Rattle.std.proofs.Common.{◌≡◌, inl, inr, ℕ, List, sym, subst, arith}
use Rattle.block_file.specs.Head.{IsHead, Names, IsResumeErr}
use Rattle.block_file.specs.declared.head.FileHead.{FileHead}
use Rattle.block_file.specs.declared.failure.FileErr.{FileErr}
use Rattle.twin_file.specs.Twin.{choice, IsTaken, IsReopenErr}
use Rattle.twin_file.specs.Picking.{IsPicked}
use Rattle.twin_file.specs.declared.picking.Picked.{Picked}

-- the file of a pick, and what its head tells
abbrev IsRight : List ℕ → List ℕ → Picked → Type 0
IsRight a b p = IsTaken p.in_a a b × Names (choice p.in_a a b) p.head

some_same : {A : Type 0} (x y : A) → Some x ≡ Some y → x ≡ y
some_same x y is = cc

right_of : (a b : List ℕ) (p q : Picked) → Some p ≡ Some q → IsRight a b q → IsRight a b p
right_of a b p q is right = subst (λ (r : Picked). IsRight a b r) (sym (some_same p q is)) right

pub picked_right : (a b : List ℕ) (first second : Option FileHead) (p : Picked) → IsHead a (Ok first) → IsHead b (Ok second) → IsPicked first second (Some p) → IsRight a b p
picked_right a b None None p one two is = absurd (cc is)
picked_right a b (Some x) None p one two is = right_of a b p (record { in_a = true; head = x }) is (record { head = one.has; other = inl two }, one)
picked_right a b None (Some y) p one two is = right_of a b p (record { in_a = false; head = y }) is (record { head = two.has; other = inl one }, two)
picked_right a b (Some x) (Some y) p one two (inl is) =
    right_of a b p (record { in_a = true; head = x }) is.1 (record { head = one.has; other = inr (two.has, omega (arith, is.0, one.generation, two.generation)) }, one)
picked_right a b (Some x) (Some y) p one two (inr is) =
    right_of a b p (record { in_a = false; head = y }) is.1 (record { head = two.has; other = inr (one.has, omega (arith, is.0, one.generation, two.generation)) }, two)

pub taken_err : (a b : List ℕ) (p : Picked) (e : FileErr) → IsRight a b p → IsResumeErr (choice p.in_a a b) p.head.base_len e → IsReopenErr a b e
taken_err a b p e right err =
    inr (inr (p.in_a, right.0, subst (λ (n : ℕ). IsResumeErr (choice p.in_a a b) n e) right.1.base_len err))
