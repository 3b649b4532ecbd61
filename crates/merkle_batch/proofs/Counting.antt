-- How many digests paths, proofs and peaks have, whatever the kept digests are: over one level, whose digests in front of
-- the kept ones may be any, the lists of that level say it.
use Rattle.std.proofs.Common.{◌≡◌, ℕ, ◌+◌, ◌-◌, ◌*◌, ◌/◌, ◌%◌, ◌<◌, ◌≤◌, Option, Some, None, true, List, [], ◌∷◌, ◌++◌, length, take, drop, sym, ap, ◌∙◌, arith, length-append, length-drop, length-take-le, drop_at, replicate, map, count_ones}
use Rattle.std.proofs.lemmas.List.{length-replicate, length-map}
use Rattle.std.proofs.lemmas.Nat.{ones_le_self}
use Rattle.std.specs.Int.Count.{ones_step}
use Rattle.tree_model.specs.Tree.{Hash}
use Rattle.tree_model.specs.Path.{path, path_length}
use Rattle.tree_model.specs.Extension.{proof_length}
use Rattle.tree_model.specs.Halves.{pairs, halve, edge, beside, own_part}
use Rattle.tree_model.proofs.Halves.{length-pairs, length-halve, path-halve}
use Rattle.tree_model.proofs.Paths.{length-path, path_one}
use Rattle.tree_model.proofs.Extensions.{length-sub, sub_all}
use Rattle.tree_model.proofs.ProofHalves.{proof-halve, proof-odd}
use Rattle.merkle_batch.specs.Rows.{Row, first_of}

module _ (hash : Hash) (cs : List (List ℕ)) where
  -- a path has the digest beside the leaf, and those of the next level
  path_count : (n : ℕ) → n < length cs → path_length n (length cs) ≡ length (beside n cs) + path_length (n / 2) (length (halve hash cs))
  path_count n within =
      sym (length-path hash n cs) ∙ ap length (path-halve hash n cs within) ∙ length-append (beside n cs) (path hash (n / 2) (halve hash cs))
      ∙ ap (λ j. length (beside n cs) + j) (length-path hash (n / 2) (halve hash cs))

  -- a proof from an even number has those of the next level
  even_count : (m : ℕ) → 0 < m → m < length cs → m % 2 ≡ 0 → proof_length m (length cs) ≡ proof_length (m / 2) (length (halve hash cs))
  even_count m some less even =
      sym (length-sub hash m true cs some (omega arith)) ∙ ap length (proof-halve hash m cs some (omega arith) even)
      ∙ length-sub hash (m / 2) true (halve hash cs) (omega arith) (omega (arith, length-halve hash cs))

  -- from an odd number the last of these, unless it is the only one, and those of its path
  odd_count : (m : ℕ) → m < length cs → m % 2 ≡ 1 → proof_length m (length cs) ≡ length (own_part true m cs) + path_length (m - 1) (length cs)
  odd_count m less odd =
      sym (length-sub hash m true cs (omega arith) (omega arith)) ∙ ap length (proof-odd hash m cs less odd) ∙ length-append (own_part true m cs) (path hash (m - 1) cs)
      ∙ ap (λ j. length (own_part true m cs) + j) (length-path hash (m - 1) cs)

-- the path of what stands at the edge alone has none
pub end_count : (hash : Hash) (n count : ℕ) (b : Option (List ℕ)) → count ≡ 0 → n < count + length (edge b) → path_length n (count + length (edge b)) ≡ 0
end_count hash n count None none within = absurd (omega arith)
end_count hash n count (Some d) none within =
    let first : n ≡ 0 = omega arith in
    let one : count + 1 ≡ 1 = omega arith in
    ap (λ j. path_length j (count + 1)) first ∙ ap (path_length 0) one ∙ sym (length-path hash 0 (d ∷ [])) ∙ ap length (path_one hash d)

-- digests that were put behind others
pub pushed : {A : Type 0} (f : A → List ℕ) (old new : List A) (side : List (List ℕ)) → map f new ≡ map f old ++ side → length new ≡ length old + length side
pushed f old new side is = sym (length-map new f) ∙ ap length is ∙ length-append (map f old) side ∙ ap (λ j. j + length side) (length-map old f)

module _ (p count : ℕ) (row : Row) (floor : p ≤ count) (there : count ≤ first_of p + length row.nodes) where
  -- a level with these kept digests
  abbrev level : List (List ℕ)
  level = replicate (first_of p) [] ++ row.nodes

  kept : row.nodes ≡ drop (first_of p) level
  kept = sym (drop_at (replicate (first_of p) []) row.nodes (first_of p) (length-replicate (first_of p) []))

  held : count ≤ length level
  held =
      let none : List (List ℕ) = replicate (first_of p) [] in
      let junk : length none ≡ first_of p = length-replicate (first_of p) [] in
      omega (arith, length-append none row.nodes, junk, there)

  -- the peaks of the next level, and an odd last
  pub peak_count : (side : List (List ℕ)) (old mid new : ℕ) → ((ds : List (List ℕ)) → row.nodes ≡ drop (first_of p) ds → count ≤ length ds → drop (2 * (length (take count ds) / 2)) (take count ds) ≡ side)
      → mid ≡ old + count_ones (count / 2) → new ≡ mid + length side → new ≡ old + count_ones count
  peak_count side old mid new last up more =
      let len : length (take count level) ≡ count = length-take-le count level held in
      let odd : length (drop (2 * (length (take count level) / 2)) (take count level)) ≡ count % 2 = omega (arith, len, length-drop (2 * (length (take count level) / 2)) (take count level)) in
      omega (arith, up, more, odd, ap length (last level kept held), ones_step count)

  module _ (hash : Hash) (b : Option (List ℕ)) where
    abbrev nodes : List (List ℕ)
    nodes = take count level ++ edge b

    len_nodes : length nodes ≡ count + length (edge b)
    len_nodes = omega (arith, length-append (take count level) (edge b), length-take-le count level held)

    len_half : (r : Option (List ℕ)) → halve hash nodes ≡ take (count / 2) (pairs hash level) ++ edge r → length (halve hash nodes) ≡ count / 2 + length (edge r)
    len_half r join =
        omega (arith, ap length join, length-append (take (count / 2) (pairs hash level)) (edge r), length-take-le (count / 2) (pairs hash level) (omega (arith, length-pairs hash level, held)))

    -- a path
    pub up_count : (n : ℕ) (side r : Option (List ℕ)) (old mid new : ℕ)
        → ((ds : List (List ℕ)) → row.nodes ≡ drop (first_of p) ds → p ≤ length ds → count ≤ length ds → beside n (take count ds ++ edge b) ≡ edge side)
        → ((ds : List (List ℕ)) → row.nodes ≡ drop (first_of p) ds → count ≤ length ds → halve hash (take count ds ++ edge b) ≡ take (count / 2) (pairs hash ds) ++ edge r)
        → mid ≡ old + length (edge side) → (n / 2 < count / 2 + length (edge r) → new ≡ mid + path_length (n / 2) (count / 2 + length (edge r)))
        → n < count + length (edge b) → new ≡ old + path_length n (count + length (edge b))
    up_count n side r old mid new sibling join first rest within =
        let half = len_half r (join level kept held) in
        let all : path_length n (length nodes) ≡ path_length n (count + length (edge b)) = ap (path_length n) len_nodes in
        let above : path_length (n / 2) (length (halve hash nodes)) ≡ path_length (n / 2) (count / 2 + length (edge r)) = ap (path_length (n / 2)) half in
        let law = path_count hash nodes n (omega (arith, len_nodes, within)) in
        let beside_len = ap length (sibling level kept (omega (arith, floor, held)) held) in
        omega (arith, first, rest (omega (arith, half, length-halve hash nodes, len_nodes, within)), all, above, law, beside_len)

    -- a proof from an even number
    pub even_up : (m : ℕ) (r : Option (List ℕ)) (old new : ℕ) → 0 < m → m % 2 ≡ 0
        → ((ds : List (List ℕ)) → row.nodes ≡ drop (first_of p) ds → count ≤ length ds → halve hash (take count ds ++ edge b) ≡ take (count / 2) (pairs hash ds) ++ edge r)
        → (m / 2 < count / 2 + length (edge r) → new ≡ old + proof_length (m / 2) (count / 2 + length (edge r)))
        → m < count + length (edge b) → new ≡ old + proof_length m (count + length (edge b))
    even_up m r old new some even join rest less =
        let half = len_half r (join level kept held) in
        rest (omega (arith, half, length-halve hash nodes, len_nodes, less, even))
        ∙ ap (λ j. old + j) (ap (proof_length (m / 2)) (sym half) ∙ sym (even_count hash nodes m some (omega (arith, len_nodes, less)) even) ∙ ap (proof_length m) len_nodes)

    -- from an odd number
    pub odd_up : (m : ℕ) (side : Option (List ℕ)) (old mid new : ℕ) → m % 2 ≡ 1
        → ((ds cs : List (List ℕ)) → row.nodes ≡ drop (first_of p) ds → count ≤ length ds → own_part true m (take count ds ++ cs) ≡ edge side)
        → mid ≡ old + length (edge side) → (m - 1 < count + length (edge b) → new ≡ mid + path_length (m - 1) (count + length (edge b)))
        → m < count + length (edge b) → new ≡ old + proof_length m (count + length (edge b))
    odd_up m side old mid new odd last first rest less =
        let all : proof_length m (length nodes) ≡ proof_length m (count + length (edge b)) = ap (proof_length m) len_nodes in
        let path_all : path_length (m - 1) (length nodes) ≡ path_length (m - 1) (count + length (edge b)) = ap (path_length (m - 1)) len_nodes in
        let law = odd_count hash nodes m (omega (arith, len_nodes, less)) odd in
        let own_len = ap length (last level (edge b) kept held) in
        omega (arith, first, rest (omega (arith, less)), all, path_all, law, own_len)

-- no peaks of nothing
pub none_count : (count old : ℕ) → count ≡ 0 → old ≡ old + count_ones count
none_count count old none =
    let few : count_ones 0 ≡ 0 = omega (arith, ones_le_self 0) in
    omega (arith, few, ap (λ j. count_ones j) none)

-- a proof of all has none
pub all_count : (m size : ℕ) → m ≡ size → 0 < m → proof_length m size ≡ 0
all_count m size all some =
    let ds : List (List ℕ) = replicate size [] in
    let hash : Hash = λ x. [] in
    let len : length ds ≡ size = length-replicate size [] in
    ap (proof_length m) (sym len) ∙ sym (length-sub hash m true ds some (omega (arith, len, all))) ∙ ap length (sub_all hash true m ds (omega (arith, len, all)))
