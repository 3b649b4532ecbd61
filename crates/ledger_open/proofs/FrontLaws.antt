-- The front of a file that is written with a base.
use Rattle.std.specs.Int.{from_be_bytes, to_be_bytes, w64}
use Rattle.std.specs.Prelude.{replicate}
use Rattle.std.proofs.Common.{◌≡◌, ℕ, ◌<◌, ◌^◌, List, [], ◌∷◌, ◌++◌, length, take, drop, refl, sym, ◌∙◌, ap, arith, append_assoc, append-nil, drop-drop}
use Rattle.std.proofs.lemmas.List.{take_at, drop_at}
use Rattle.std.proofs.lemmas.Nat.{from_be_bytes-to_be_bytes_8}
use Rattle.sha2.proofs.Facts256.{length-sha256}
use Rattle.block_file.specs.File.{IsFileOf, whole_file}
use Rattle.block_file.specs.Head.{front_of, digest_of, magic}
use Rattle.ledger_open.specs.Heads.{edition_from, IsFront}
use Rattle.twin_file.proofs.HeadLaws.{tail_size}

module _ (gate generation : ℕ) (base : List ℕ) where
  abbrev g : List ℕ
  g = to_be_bytes w64 generation

  abbrev n : List ℕ
  n = to_be_bytes w64 (length base)

  abbrev z : List ℕ
  z = replicate {A = ℕ} 6 0

  abbrev ten : List ℕ
  ten = (gate ∷ magic) ++ 2 ∷ []

  regroup : (t a b c d e : List ℕ) → ((((t ++ a) ++ b) ++ c) ++ d) ++ e ≡ t ++ (a ++ (b ++ (c ++ (d ++ e))))
  regroup t a b c d e = simp append_assoc

  flat : front_of gate generation base ≡ ten ++ (g ++ (n ++ (digest_of base ++ (z ++ base))))
  flat = regroup ten g n (digest_of base) z base

  behind_ten : drop 10 (front_of gate generation base) ≡ g ++ (n ++ (digest_of base ++ (z ++ base)))
  behind_ten = ap (drop 10) flat

  behind_g : drop 18 (front_of gate generation base) ≡ n ++ (digest_of base ++ (z ++ base))
  behind_g = sym (drop-drop 8 10 (front_of gate generation base)) ∙ ap (drop 8) behind_ten ∙ drop_at g (n ++ (digest_of base ++ (z ++ base))) 8 refl

  behind_n : drop 26 (front_of gate generation base) ≡ digest_of base ++ (z ++ base)
  behind_n = sym (drop-drop 8 18 (front_of gate generation base)) ∙ ap (drop 8) behind_g ∙ drop_at n (digest_of base ++ (z ++ base)) 8 refl

  wide : length (digest_of base) ≡ 32
  wide = length-sha256 (7 ∷ base)

  behind_digest : drop 58 (front_of gate generation base) ≡ z ++ base
  behind_digest = sym (drop-drop 32 26 (front_of gate generation base)) ∙ ap (drop 32) behind_n ∙ drop_at (digest_of base) (z ++ base) 32 wide

  pub front_is : gate ≡ 1 → generation < 2 ^ 64 → length base < 2 ^ 64 → IsFront (edition_from 2 generation) base (front_of gate generation base)
  front_is open_now few short = record {
    size = sym (ap length (append-nil (front_of gate generation base))) ∙ tail_size gate generation base;
    gate = open_now;
    magic_is = refl;
    version = refl;
    format = refl;
    generation_is = ap (λ (l : List ℕ). from_be_bytes w64 (take 8 l)) behind_ten ∙ ap (λ (l : List ℕ). from_be_bytes w64 l) (take_at g (n ++ (digest_of base ++ (z ++ base))) 8 refl) ∙ from_be_bytes-to_be_bytes_8 generation few;
    base_len = ap (λ (l : List ℕ). from_be_bytes w64 (take 8 l)) behind_g ∙ ap (λ (l : List ℕ). from_be_bytes w64 l) (take_at n (digest_of base ++ (z ++ base)) 8 refl) ∙ from_be_bytes-to_be_bytes_8 (length base) short;
    digest = λ some. ap (take 32) behind_n ∙ take_at (digest_of base) (z ++ base) 32 wide;
    base_is = sym (drop-drop 6 58 (front_of gate generation base)) ∙ ap (drop 6) behind_digest ∙ drop_at z base 6 refl;
  }

pub whole_stands : (front : List ℕ) (blocks : List (List ℕ)) → IsFileOf front blocks (whole_file front blocks)
whole_stands front blocks = record { gate = 0; rest = []; is = refl; shut = λ one. omega (arith, one) }
