-- The head that a new file gets is read again.
use Rattle.std.proofs.Common.{◌≡◌, ℕ, ◌+◌, ◌<◌, ◌≤◌, ◌^◌, List, [], ◌∷◌, ◌++◌, length, take, replicate, refl, ◌∙◌, ap, arith, length-append, append_assoc}
use Rattle.std.specs.Int.{from_be_bytes, to_be_bytes, w64}
use Rattle.std.proofs.lemmas.Nat.{from_be_bytes-to_be_bytes_8}
use Rattle.std.proofs.lemmas.List.{take_at, append-nil}
use Rattle.sha2.proofs.Facts256.{length-sha256}
use Rattle.block_file.specs.File.{whole_file, open_blocks, tail_of}
use Rattle.block_file.specs.Head.{front_of, HasHead, generation_of, digest_of}

size_of : (a b c d e f g : List ℕ) → length a ≡ 8 → length b ≡ 8 → length c ≡ 32 → length d ≡ 6 → length g ≡ 1 → 55 ≤ length ((((((a ++ b) ++ c) ++ d) ++ e) ++ f) ++ g)
size_of a b c d e f g a8 b8 c32 d6 g1 = omega (arith, a8, b8, c32, d6, g1, length-append (((((a ++ b) ++ c) ++ d) ++ e) ++ f) g, length-append ((((a ++ b) ++ c) ++ d) ++ e) f, length-append (((a ++ b) ++ c) ++ d) e, length-append ((a ++ b) ++ c) d, length-append (a ++ b) c, length-append a b)

sizes : (a b c d e : List ℕ) → length a ≡ 8 → length b ≡ 8 → length c ≡ 32 → length d ≡ 6 → length ((((a ++ b) ++ c) ++ d) ++ e) ≡ 54 + length e
sizes a b c d e a8 b8 c32 d6 = omega (arith, a8, b8, c32, d6, length-append (((a ++ b) ++ c) ++ d) e, length-append ((a ++ b) ++ c) d, length-append (a ++ b) c, length-append a b)

front_piece : (a b c d e f g : List ℕ) → length a ≡ 8 → take 8 ((((((a ++ b) ++ c) ++ d) ++ e) ++ f) ++ g) ≡ a
front_piece a b c d e f g size =
    let same : (((((a ++ b) ++ c) ++ d) ++ e) ++ f) ++ g ≡ a ++ (b ++ (c ++ (d ++ (e ++ (f ++ g))))) = simp append_assoc in
    ap (λ (l : List ℕ). take 8 l) same ∙ take_at a (b ++ (c ++ (d ++ (e ++ (f ++ g))))) 8 size

-- .. whatever stands behind it
pub generation_before : (generation : ℕ) (base piece : List ℕ) → generation < 2 ^ 64 → generation_of (front_of 1 generation base ++ piece ++ 0 ∷ []) ≡ generation
generation_before generation base piece fits =
    ap (λ (l : List ℕ). from_be_bytes w64 l) (front_piece (to_be_bytes w64 generation) (to_be_bytes w64 (length base)) (digest_of base) (replicate {A = ℕ} 6 0) base piece (0 ∷ []) refl)
    ∙ from_be_bytes-to_be_bytes_8 generation fits

module _ (generation : ℕ) (base : List ℕ) (blocks : List (List ℕ)) where
  pub has_head : HasHead (whole_file (front_of 1 generation base) blocks)
  has_head = record {
    is_open = record { long = omega (arith, size_of (to_be_bytes w64 generation) (to_be_bytes w64 (length base)) (digest_of base) (replicate {A = ℕ} 6 0) base (open_blocks blocks) (0 ∷ []) refl refl (length-sha256 (7 ∷ base)) refl refl); gate = refl };
    magic_is = refl;
    version = refl;
  }

  pub generation_is : generation < 2 ^ 64 → generation_of (whole_file (front_of 1 generation base) blocks) ≡ generation
  generation_is fits = generation_before generation base (open_blocks blocks) fits

pub tail_size : (gate generation : ℕ) (base : List ℕ) → tail_of (front_of gate generation base) [] ≡ 64 + length base
tail_size gate generation base =
    let head : length (front_of gate generation base ++ []) ≡ length (front_of gate generation base) = ap length (append-nil (front_of gate generation base)) in
    omega (arith, head, sizes (to_be_bytes w64 generation) (to_be_bytes w64 (length base)) (digest_of base) (replicate {A = ℕ} 6 0) base refl refl (length-sha256 (7 ∷ base)) refl)
