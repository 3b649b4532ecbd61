-- Bytes of which those behind an offset are a block: room in front, and what stands behind it.
use Rattle.std.proofs.Common.{◌≡◌, ◌≢◌, ℕ, ◌+◌, ◌-◌, ◌≤◌, ◌⊎◌, inl, inr, List, [], ◌∷◌, ◌++◌, length, take, drop, sym, ap, ◌∙◌, arith, append_assoc, length-append, length-take, length-drop, take-take}
use Rattle.std.proofs.lemmas.List.{take_at, drop_at, take-append-le, take-append-drop, take_all, drop_all, append-nil}
use Rattle.block_file.specs.File.{open_blocks, IsGroupOf}
use Rattle.block_file.specs.Writing.{ended_blocks}
use lib.Seq.{drop-append-le}

pub long : (n : ℕ) (xs : List ℕ) → length (take 44 (drop n xs)) ≡ 44 → n + 44 ≤ length xs
long n xs is = omega (arith, is, length-take 44 (drop n xs), length-drop n xs)

-- ---- a piece behind all

behind : (n : ℕ) (xs ys zs : List ℕ) → length (take 44 (drop n xs)) ≡ 44 → zs ≡ xs ++ ys → drop n zs ≡ drop n xs ++ ys
behind n xs ys zs room is = ap (drop n) is ∙ drop-append-le n xs ys (omega (arith, long n xs room))

pub add_room : (n : ℕ) (xs ys zs : List ℕ) → length (take 44 (drop n xs)) ≡ 44 → zs ≡ xs ++ ys → length (take 44 (drop n zs)) ≡ 44
add_room n xs ys zs room is = omega (arith, length-take 44 (drop n zs), length-drop n zs, ap length is, length-append xs ys, long n xs room)

pub add_body : (n : ℕ) (xs ys zs : List ℕ) → length (take 44 (drop n xs)) ≡ 44 → zs ≡ xs ++ ys → drop 44 (drop n zs) ≡ drop 44 (drop n xs) ++ ys
add_body n xs ys zs room is = ap (drop 44) (behind n xs ys zs room is) ∙ drop-append-le 44 (drop n xs) ys (omega (arith, long n xs room, length-drop n xs))

pub add_before : (n : ℕ) (xs ys zs : List ℕ) → n ≤ length xs → zs ≡ xs ++ ys → take n zs ≡ take n xs
add_before n xs ys zs le is = ap (take n) is ∙ take-append-le n xs ys le

-- ---- room behind the offset

pub room_kept : (n : ℕ) (xs : List ℕ) → (length xs ≡ n) ⊎ (n + 44 ≤ length xs) → length xs ≢ n → length (take 44 (drop n xs)) ≡ 44
room_kept n xs room some = elim room [ inl here ↦ absurd (some here) | inr far ↦ omega (arith, far, length-take 44 (drop n xs), length-drop n xs) ]

-- ---- a head over the first bytes behind the offset

module _ (n len : ℕ) (items old new head : List ℕ) (is : new ≡ take n old ++ (head ++ drop 44 (drop n old))) (same : old ≡ items) (size : length old ≡ len) (head_size : length head ≡ 44) (inside : n + 44 ≤ length items) where
  whole : take len (new ++ drop (length new) items) ≡ take n items ++ (head ++ drop 44 (drop n items))
  whole =
      let here : length new ≡ len = omega (
        arith,
        ap length is,
        length-append (take n old) (head ++ drop 44 (drop n old)),
        length-append head (drop 44 (drop n old)),
        length-take n old,
        length-drop 44 (drop n old),
        length-drop n old,
        head_size,
        inside,
        ap length same,
        size,
      ) in
      take_at new (drop (length new) items) len here ∙ is ∙ ap (λ (l : List ℕ). take n l ++ (head ++ drop 44 (drop n l))) same

  begin : length (take n items) ≡ n
  begin = omega (arith, inside, length-take n items)

  rest : drop n (take len (new ++ drop (length new) items)) ≡ head ++ drop 44 (drop n items)
  rest = ap (drop n) whole ∙ drop_at (take n items) (head ++ drop 44 (drop n items)) n begin

  pub back_before : take n (take len (new ++ drop (length new) items)) ≡ take n items
  back_before = ap (take n) whole ∙ take_at (take n items) (head ++ drop 44 (drop n items)) n begin

  pub back_head : take 44 (drop n (take len (new ++ drop (length new) items))) ≡ head
  back_head = ap (take 44) rest ∙ take_at head (drop 44 (drop n items)) 44 head_size

  pub back_body : drop 44 (drop n (take len (new ++ drop (length new) items))) ≡ drop 44 (drop n items)
  back_body = ap (drop 44) rest ∙ drop_at head (drop 44 (drop n items)) 44 head_size

-- ---- a group

pub parts : (n : ℕ) (xs : List ℕ) → xs ≡ take n xs ++ (take 44 (drop n xs) ++ drop 44 (drop n xs))
parts n xs = sym (take-append-drop n xs) ∙ ap (λ (l : List ℕ). take n xs ++ l) (sym (take-append-drop 44 (drop n xs)))

pub next_before : (n : ℕ) (xs zs : List ℕ) → zs ≡ xs ++ 1 ∷ [] → take (length zs) zs ≡ take n xs ++ (take 44 (drop n xs) ++ drop 44 (drop n xs)) ++ 1 ∷ []
next_before n xs zs is =
    take_all (length zs) zs (omega arith) ∙ is ∙ ap (λ (l : List ℕ). l ++ 1 ∷ []) (parts n xs)

pub next_body : (zs : List ℕ) → drop 44 (drop (length zs) zs) ≡ []
next_body zs = drop_all 44 (drop (length zs) zs) (omega (arith, length-drop (length zs) zs))

-- blocks that ended are a group with the open gate of the next one behind it
gate_behind : (first : List ℕ) (more : List (List ℕ)) → ended_blocks (first ∷ more) ≡ (first ++ open_blocks more) ++ 1 ∷ []
gate_behind first [] = append-nil (first ++ 1 ∷ []) ∙ ap (λ (l : List ℕ). l ++ 1 ∷ []) (sym (append-nil first))
gate_behind first (second ∷ more) =
    append_assoc first (1 ∷ []) (ended_blocks (second ∷ more)) ∙ ap (λ (l : List ℕ). first ++ 1 ∷ l) (gate_behind second more)
    ∙ sym (append_assoc first (1 ∷ second ++ open_blocks more) (1 ∷ []))

pub ended_group : (ended : List (List ℕ)) → 1 ≤ length ended → IsGroupOf ended (take (length (ended_blocks ended) - 1) (ended_blocks ended))
ended_group [] some = absurd (omega (arith, some))
ended_group (first ∷ more) some =
    let is = gate_behind first more in record {
      some = some;
      is = ap (λ (l : List ℕ). take (length l - 1) l) is
          ∙ take_at (first ++ open_blocks more) (1 ∷ []) (length ((first ++ open_blocks more) ++ 1 ∷ []) - 1) (omega (arith, length-append (first ++ open_blocks more) (1 ∷ [])));
    }

-- the bytes in front of an offset, but for the last
pub but_last : (n : ℕ) (xs : List ℕ) → n ≤ length xs → take (n - 1) xs ≡ take (length (take n xs) - 1) (take n xs)
but_last n xs le =
    let size : length (take n xs) ≡ n = omega (arith, le, length-take n xs) in
    sym (take-take (n - 1) n xs (omega arith)) ∙ ap (λ (m : ℕ). take (m - 1) (take n xs)) (sym size)
