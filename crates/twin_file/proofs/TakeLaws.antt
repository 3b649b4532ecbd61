-- One file is taken of two.
use Rattle.std.specs.Prelude.{Bool, true, false, Option, Some, None, IsSomeAnd, option_map}
use Rattle.std.proofs.Common.{◌≡◌, ◌⊎◌, inl, inr, ℕ, ◌<◌, ◌≤◌, List, refl, sym, ◌∙◌, ap, subst, arith}
use Rattle.std.proofs.lemmas.Bool.{true≢false}
use Rattle.block_file.specs.Head.{IsShut, IsOpen, HasHead, IsHeadErr, IsResumeErr, is_format, generation_of, number_at}
use Rattle.block_file.specs.declared.failure.Damage.TheVariants.{Magic, BaseForm, Base, Length, Entry, Root, Content}
use Rattle.block_file.specs.declared.failure.FileErr.{FileErr}
use Rattle.block_file.specs.declared.failure.FileErr.TheVariants.{DiskFault, Damaged, NewerFormat, NoMemory}
use Rattle.twin_file.specs.Twin.{choice, IsTaken, IsPassed, OpensTo, IsReopenErr}
use Rattle.twin_file.specs.Picking.{IsReopened}
use Rattle.twin_file.specs.Which.{in_a_of, view_of}
use Rattle.twin_file.specs.declared.twin.Twin.{Twin}

shut_open : {P : Type 0} (file : List ℕ) → IsShut file → IsOpen file → P
shut_open file (inl short) open_ = absurd (omega (arith, short, open_.long))
shut_open file (inr gate) open_ = absurd (gate open_.gate)

never : (m n : ℕ) → n ≤ m → m < n → ⊥
never m n le less = omega (arith, le, less)

both_no_by : {P : Type 0} (a b : List ℕ) → HasHead a → HasHead b → IsPassed true (generation_of a) b → IsPassed false (generation_of b) a → P
both_no_by a b one two (inl shut) other = shut_open b shut two.is_open
both_no_by a b one two (inr le) (inl shut) = shut_open a shut one.is_open
both_no_by a b one two (inr le) (inr less) = absurd (never (generation_of a) (generation_of b) le.1 less.1)

both_no : {P : Type 0} (a b : List ℕ) → IsTaken true a b → IsTaken false a b → P
both_no a b one two = both_no_by a b one.head two.head one.other two.other

pub taken_once : (a b : List ℕ) (x y : Bool) → IsTaken x a b → IsTaken y a b → x ≡ y
taken_once a b true true one two = refl
taken_once a b false false one two = refl
taken_once a b true false one two = both_no a b one two
taken_once a b false true one two = both_no a b two one

none_taken : {P : Type 0} (a b : List ℕ) (x : Bool) → IsShut a → IsShut b → IsTaken x a b → P
none_taken a b true shut_a shut_b taken = shut_open a shut_a taken.head.is_open
none_taken a b false shut_a shut_b taken = shut_open b shut_b taken.head.is_open

-- the file that a pair opens to is the one that is taken
pub reopened_takes : (a b : List ℕ) (found : Option Twin) → IsReopened a b (option_map view_of found) → (x : Bool) (file : List ℕ) → OpensTo x file a b → IsSomeAnd found (λ twin. in_a_of twin ≡ x)
reopened_takes a b None is x file opens = none_taken a b x is.0 is.1 opens.taken
reopened_takes a b (Some twin) is x file opens = taken_once a b (in_a_of twin) x is.0 opens.taken

-- a file that is shut, or has a head that is known, has no damage in its head
pub head_err : (file : List ℕ) (e : FileErr) → (IsShut file ⊎ HasHead file) → IsHeadErr file e → e ≡ DiskFault
head_err file DiskFault side err = refl
head_err file NoMemory side err = absurd err
head_err file (NewerFormat found) (inl shut) err = shut_open file shut err.0
head_err file (NewerFormat found) (inr has) err = absurd (true≢false (sym has.version ∙ ap is_format (sym err.2) ∙ err.3))
head_err file (Damaged Magic) (inl shut) err = shut_open file shut err.0
head_err file (Damaged Magic) (inr has) err = absurd (err.1 has.magic_is)
head_err file (Damaged (BaseForm at)) side err = absurd err
head_err file (Damaged (Base kept found)) side err = absurd err
head_err file (Damaged (Length at kept found)) side err = absurd err
head_err file (Damaged (Entry jsn)) side err = absurd err
head_err file (Damaged (Root block kept found)) side err = absurd err
head_err file (Damaged (Content jsn kept found)) side err = absurd err

side_of : (in_a : Bool) (most : ℕ) (file : List ℕ) → IsPassed in_a most file → IsShut file ⊎ HasHead file
side_of in_a most file (inl shut) = inl shut
side_of in_a most file (inr has) = inr has.0

pub side_a : (a b : List ℕ) (x : Bool) → IsTaken x a b → IsShut a ⊎ HasHead a
side_a a b true taken = inr taken.head
side_a a b false taken = side_of false (generation_of b) a taken.other

pub side_b : (a b : List ℕ) (x : Bool) → IsTaken x a b → IsShut b ⊎ HasHead b
side_b a b true taken = side_of true (generation_of a) b taken.other
side_b a b false taken = inr taken.head

-- what else is answered on a pair that opens to a file
pub reopen_err : (a b : List ℕ) (e : FileErr) (x : Bool) (file : List ℕ) → OpensTo x file a b → IsReopenErr a b e → (e ≡ DiskFault) ⊎ IsResumeErr file (number_at 18 file) e
reopen_err a b e x file opens (inl err) = inl (head_err a e (side_a a b x opens.taken) err)
reopen_err a b e x file opens (inr (inl err)) = inl (head_err b e (side_b a b x opens.taken) err.1)
reopen_err a b e x file opens (inr (inr err)) =
    let same : choice err.0 a b ≡ file = ap (λ (y : Bool). choice y a b) (taken_once a b err.0 x err.1 opens.taken) ∙ opens.is in
    inr (subst (λ (l : List ℕ). IsResumeErr l (number_at 18 l) e) same err.2)
