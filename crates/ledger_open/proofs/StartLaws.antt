-- A file begins in one way, and its roots are digests.
use Rattle.std.specs.Prelude.{All, true, false, cond, nat_eq, nat_le, ◌^◌, zero, suc, Option, Some, None, Result, Ok, Err}
use Rattle.std.proofs.Common.{◌≡◌, ℕ, ◌+◌, ◌-◌, ◌≤◌, List, [], ◌∷◌, ◌++◌, length, get_or, map, take, drop, refl, sym, ◌∙◌, ap, subst, arith}
use Rattle.std.proofs.lemmas.Bool.{and_parts, leb-true}
use Rattle.std.proofs.lemmas.Nat.{zero_from_ones}
use Rattle.sha2.specs.Sha256.{sha256}
use Rattle.sha2.proofs.Facts256.{length-sha256}
use Rattle.tree_model.specs.Tree.{node, leaf, root_at}
use Rattle.tree_model.specs.RootFrom.{root_from, root_from_at}
use Rattle.block_file.specs.Head.{IsBaseErr, number_at}
use Rattle.block_file.specs.declared.failure.Damage.TheVariants as damages
use Rattle.block_file.specs.declared.failure.FileErr.TheVariants.{Damaged}
use Rattle.ledger_model.specs.Behind.{first_of}
use Rattle.ledger_bytes.specs.declared.digest.Digest.{Digest}
use Rattle.ledger_bytes.specs.declared.failure.Bad.{Bad}
use Rattle.ledger_bytes.specs.declared.failure.Bad.TheVariants as bad
use Rattle.pseudo_genesis.specs.Bases.{IsWide, base_spelling, front_text}
use Rattle.pseudo_genesis.specs.Reading.{base_of}
use Rattle.pseudo_genesis.specs.declared.base.Base.{Base}
use Rattle.pseudo_genesis.proofs.Wholes.{base_of_only}
use Rattle.ledger_open.specs.Standing.{floor_from}
use Rattle.ledger_open.specs.Starts.{IsDecoded, HasDigest, IsStart, IsFormErr, IsBadForm, base_in}
use Rattle.ledger_open.proofs.SizeLaws.{GivesDigests, mth_size, root_at_size, leaves_size}

-- ---- roots behind a base

root_from_size : (h : ℕ) (ps : List (List ℕ)) (p : ℕ) (xs : List (List ℕ)) → All (λ d. length d ≡ 32) xs → length (get_or ps 0 []) ≡ 32 → length (root_from_at sha256 h ps p xs) ≡ 32
unfolding root_from_at
root_from_size zero ps p xs all first = elim (nat_eq p 0) as (λ v. length (cond v (root_at sha256 zero xs) (get_or ps 0 [])) ≡ 32) [ true ↦ root_at_size zero xs all | false ↦ first ]
root_from_size (suc h) ps p xs all first =
    let left : List ℕ = node sha256 (get_or ps 0 []) (root_from_at sha256 h (drop 1 ps) (p - 2 ^ h) xs) in
    let right : List ℕ = node sha256 (root_from_at sha256 h ps p (take (2 ^ h - p) xs)) (root_at sha256 h (drop (2 ^ h - p) xs)) in
    elim (nat_le (p + length xs) (2 ^ h)) as (λ v. length (cond v (root_from_at sha256 h ps p xs) (cond (nat_eq p (2 ^ suc h)) (get_or ps 0 []) (cond (nat_le (2 ^ h) p) left right))) ≡ 32) [
      | true ↦ root_from_size h ps p xs all first
      | false ↦ elim (nat_eq p (2 ^ suc h)) as (λ v. length (cond v (get_or ps 0 []) (cond (nat_le (2 ^ h) p) left right)) ≡ 32) [
        | true ↦ first
        | false ↦ elim (nat_le (2 ^ h) p) as (λ v. length (cond v left right) ≡ 32) [
          | true ↦ length-sha256 (1 ∷ get_or ps 0 [] ++ root_from_at sha256 h (drop 1 ps) (p - 2 ^ h) xs)
          | false ↦ length-sha256 (1 ∷ root_from_at sha256 h ps p (take (2 ^ h - p) xs) ++ root_at sha256 h (drop (2 ^ h - p) xs))
        ]
      ]
    ]

first_peak : (ds : List Digest) → All IsWide ds → 1 ≤ length ds → length (get_or (map (λ (d : Digest). d.0) ds) 0 []) ≡ 32
first_peak [] all some = absurd (omega (arith, some))
first_peak (d ∷ ds) all some = all 0 d (omega arith)

-- at least journal 0 stands in front of a base
pub point_some : (b : Base) → IsDecoded (Some b) → 1 ≤ b.point
point_some b d = leb-true 1 b.point (and_parts _ _ d.0.point).0

some_peaks : (b : Base) → IsDecoded (Some b) → 1 ≤ length b.peaks
some_peaks b d = by (length b.peaks) refl where
  by : (n : ℕ) → length b.peaks ≡ n → 1 ≤ length b.peaks
  by zero is = absurd (omega (arith, zero_from_ones b.point (sym d.0.peaks ∙ is), point_some b d))
  by (suc n) is = omega (arith, is)

pub digests_from : (start : Option Base) → IsDecoded start → GivesDigests (floor_from start).root
unfolding root_from
digests_from None d xs = mth_size xs
digests_from (Some b) d xs = root_from_size _ (map (λ (p : Digest). p.0) b.peaks) b.point (map (leaf sha256) xs) (leaves_size xs) (first_peak b.peaks d.1.peaks (some_peaks b d))

-- ---- one beginning

-- a base has bytes
pub spelled_some : (b : Base) → 1 ≤ length (base_spelling b)
unfolding base_spelling front_text
spelled_some b = omega arith

pub first_same : (start : Option Base) → first_of start ≡ (floor_from start).first
first_same None = refl
first_same (Some b) = refl

pub decoded : (file : List ℕ) (start : Option Base) → IsStart file start → IsDecoded start
decoded file None s = tt
decoded file (Some b) s = s.2

base_or : Base → Result Base Bad → Base
base_or b (Ok c) = c
base_or b (Err e) = b

reads_base : (file : List ℕ) (b : Base) → IsStart file (Some b) → base_of (base_in file) ≡ Ok b
reads_base file b s = base_of_only (base_in file) b s.2.0 s.2.1 s.3

pub start_once : (file : List ℕ) (s t : Option Base) → IsStart file s → IsStart file t → s ≡ t
unfolding base_or
start_once file None None x y = refl
start_once file None (Some c) x y = absurd (y.1.some x.1)
start_once file (Some b) None x y = absurd (x.1.some y.1)
start_once file (Some b) (Some c) x y = ap Some (ap (base_or b) (sym (reads_base file b x) ∙ reads_base file c y))

-- a base whose bytes break begins no file
pub form_begins : {P : Type 0} (file : List ℕ) (place : ℕ) (start : Option Base) → HasDigest file → IsBadForm (base_in file) place → IsStart file start → P
form_begins file place None d f s = absurd (d.some s.1)
form_begins file place (Some b) d f s = absurd (let is : Err f.0 ≡ Ok b = sym f.1 ∙ reads_base file b s in let no : ⊥ = cc is in no)

-- .. nor does one with another digest than its head names
pub other_digest : {P : Type 0} (file : List ℕ) (kept found : Digest) → HasDigest file → IsBaseErr (base_in file) (take 32 (drop 26 file)) (Damaged (damages.Base kept found)) → P
other_digest file kept found d e = absurd (e.3 (e.2 ∙ sym d.digest ∙ sym e.1))

base_bytes : (file : List ℕ) → number_at 18 file ≡ 0 → length (base_in file) ≡ 0
base_bytes file none = ap (λ (n : ℕ). length (take n (drop 64 file))) none

pub digest_begins : {P : Type 0} (file : List ℕ) (kept found : Digest) (start : Option Base) → IsStart file start → IsBaseErr (base_in file) (take 32 (drop 26 file)) (Damaged (damages.Base kept found)) → P
digest_begins file kept found None s e = absurd (omega (arith, e.0, base_bytes file s.1))
digest_begins file kept found (Some b) s e = other_digest file kept found s.1 e

place_once : (e : Bad) (i j : ℕ) → IsFormErr e i → IsFormErr e j → i ≡ j
place_once (bad.Short at) i j x y = x ∙ sym y
place_once (bad.Trailing at) i j x y = x ∙ sym y
place_once (bad.BadKind found) i j x y = absurd x
place_once (bad.BadFixedField at) i j x y = x ∙ sym y
place_once (bad.NewerFormat found) i j x y = x ∙ sym y
place_once bad.TooLong i j x y = absurd x

-- the bytes of a base break at one place
pub form_once : (bytes : List ℕ) (i j : ℕ) → IsBadForm bytes i → IsBadForm bytes j → i ≡ j
form_once bytes i j x y = let is : Err x.0 ≡ Err y.0 = sym x.1 ∙ y.1 in let same : x.0 ≡ y.0 = cc is in place_once y.0 i j (subst (λ (e : Bad). IsFormErr e i) same x.2) y.2
