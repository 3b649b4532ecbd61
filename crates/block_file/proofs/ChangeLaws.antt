-- A file of blocks with one content changed in its place.
use Rattle.std.proofs.Common.{◌≡◌, ℕ, ◌+◌, ◌≤◌, List, ◌∷◌, ◌++◌, length, take, drop, replicate, sym, ◌∙◌, ap, subst, arith, append_assoc, length-append, length-take, length-drop}
use Rattle.std.proofs.lemmas.List.{take_at, drop_at, drop-drop, take-append-drop, length-replicate}
use Rattle.std.proofs.lemmas.List.Concat.{flat_map-append}
use Rattle.ledger_disk.specs.Disk.{overlay}
use Rattle.ledger_disk.specs.Guards.{Outside}
use Rattle.block_file.specs.File.{IsFileOf, open_blocks, tail_of}

-- a file in three parts, of which the middle one is changed
outside_parts : (a c b image : List ℕ) (at n : ℕ) → length a ≡ at → length c ≡ n → Outside at n (a ++ c ++ b) image → image ≡ a ++ take n (drop at image) ++ b
outside_parts a c b image at n at_is n_is outside =
    let before : take at image ≡ a = outside.before ∙ ap (λ (l : List ℕ). take at l) (append_assoc a c b) ∙ take_at a (c ++ b) at at_is in
    let after : drop (at + n) image ≡ b = outside.after ∙ drop_at (a ++ c) b (at + n) (omega (arith, length-append a c)) in
    let split : image ≡ take at image ++ take n (drop at image) ++ drop (at + n) image =
    sym (take-append-drop at image) ∙ ap (λ (l : List ℕ). take at image ++ l) (sym (take-append-drop n (drop at image)) ∙ ap (λ (l : List ℕ). take n (drop at image) ++ l) (drop-drop n at image))
    ∙ sym (append_assoc (take at image) (take n (drop at image)) (drop (at + n) image)) in
    split ∙ ap (λ (l : List ℕ). l ++ take n (drop at image) ++ drop (at + n) image) before ∙ ap (λ (l : List ℕ). a ++ take n (drop at image) ++ l) after

regroup : (f o h c r a t : List ℕ) → f ++ (o ++ ((h ++ c ++ r) ++ a)) ++ t ≡ ((f ++ o) ++ h) ++ c ++ (r ++ (a ++ t))
regroup f o h c r a t = simp append_assoc

module _ (front : List ℕ) (before after : List (List ℕ)) (head rest : List ℕ) where
  -- what stands before the content
  abbrev up_to : List ℕ
  up_to = (front ++ open_blocks before) ++ (1 ∷ head)

  -- a file by the content of one of its blocks
  parts : (c tail : List ℕ) → front ++ open_blocks (before ++ (head ++ c ++ rest) ∷ after) ++ tail ≡ ((front ++ open_blocks before) ++ (1 ∷ head)) ++ c ++ (rest ++ (open_blocks after ++ tail))
  parts c tail =
      ap (λ (l : List ℕ). front ++ l ++ tail) (flat_map-append (λ b. 1 ∷ b) before ((head ++ c ++ rest) ∷ after)) ∙ regroup front (open_blocks before) (1 ∷ head) c rest (open_blocks after) tail

  size_up_to : length ((front ++ open_blocks before) ++ (1 ∷ head)) ≡ tail_of front before + 1 + length head
  size_up_to = omega (arith, length-append (front ++ open_blocks before) (1 ∷ head))

  -- an image with all else as before has the same blocks, but for that content
  pub changed : (content file image : List ℕ) (at n : ℕ) → IsFileOf front (before ++ (head ++ content ++ rest) ∷ after) file → tail_of front before + 1 + length head ≡ at → length content ≡ n
      → Outside at n file image → IsFileOf front (before ++ (head ++ take n (drop at image) ++ rest) ∷ after) image
  changed content file image at n stands place size outside =
      let tail = stands.gate ∷ stands.rest in
      let is = stands.is ∙ parts content tail in
      let image_is = outside_parts up_to content (rest ++ (open_blocks after ++ tail)) image at n (size_up_to ∙ place) size (subst (λ (l : List ℕ). Outside at n l image) is outside) in
      record { gate = stands.gate; rest = stands.rest; is = image_is ∙ sym (parts (take n (drop at image)) tail); shut = stands.shut }

  -- and where zeros stand there now, it is zeros
  pub zeroed : (content file : List ℕ) (at n : ℕ) → IsFileOf front (before ++ (head ++ content ++ rest) ∷ after) file → tail_of front before + 1 + length head ≡ at → length content ≡ n
      → IsFileOf front (before ++ (head ++ replicate n 0 ++ rest) ∷ after) (overlay at (replicate n 0) file)
  zeroed content file at n stands place size =
      let tail = stands.gate ∷ stands.rest in
      let behind = rest ++ (open_blocks after ++ tail) in
      let is = stands.is ∙ parts content tail in
      let zeros : length (replicate {A = ℕ} n 0) ≡ n = length-replicate {A = ℕ} n 0 in
      let first : take at file ≡ up_to = ap (λ (l : List ℕ). take at l) (is ∙ append_assoc up_to content behind) ∙ take_at up_to (content ++ behind) at (size_up_to ∙ place) in
      let last : drop (at + length (replicate {A = ℕ} n 0)) file ≡ behind = ap (λ (l : List ℕ). drop (at + length (replicate {A = ℕ} n 0)) l) is ∙ drop_at (up_to ++ content) behind (at + length (replicate {A = ℕ} n 0)) (omega (arith, size_up_to, place, size, zeros, length-append up_to content)) in
      record {
        gate = stands.gate;
        rest = stands.rest;
        is = ap (λ (l : List ℕ). l ++ replicate n 0 ++ drop (at + length (replicate {A = ℕ} n 0)) file) first ∙ ap (λ (l : List ℕ). up_to ++ replicate n 0 ++ l) last ∙ sym (parts (replicate n 0) tail);
        shut = stands.shut;
      }

  pub changed_some : (content file image : List ℕ) (at n : ℕ) → IsFileOf front (before ++ (head ++ content ++ rest) ∷ after) file → tail_of front before + 1 + length head ≡ at → length content ≡ n
      → Outside at n file image → (other : List ℕ) × (length other ≡ n) × IsFileOf front (before ++ (head ++ other ++ rest) ∷ after) image
  changed_some content file image at n stands place size outside =
      let tail = stands.gate ∷ stands.rest in
      let is = stands.is ∙ parts content tail in
      let long : at + n ≤ length file = omega (arith, ap length is, size_up_to, place, size, length-append (up_to ++ content) (rest ++ (open_blocks after ++ tail)), length-append up_to content) in
      (take n (drop at image), omega (arith, long, outside.size, length-take n (drop at image), length-drop at image), changed content file image at n stands place size outside)
