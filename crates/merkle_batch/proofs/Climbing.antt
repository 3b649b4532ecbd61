-- One level up: what the rows above keep, and the root and the path over them.
use Rattle.std.proofs.Common.{◌≡◌, ℕ, zero, suc, ◌+◌, ◌-◌, ◌/◌, ◌%◌, ◌<◌, ◌≤◌, Option, Some, None, true, List, [], ◌∷◌, ◌++◌, length, get_or, take, drop, refl, sym, ap, ap₂, ◌∙◌, subst, arith, append_assoc, take_all, take-append-drop, length-append, length-take-le}
use Rattle.std.proofs.lemmas.List.{append-nil, get_or-drop, get_or_append_left, drop_more}
use Rattle.std.proofs.lemmas.Bool.{lt-leb}
use Rattle.std.proofs.lemmas.Option.{none-some}
use Rattle.std.proofs.Math.Seq.{take-nil}
use Rattle.std.specs.Prelude.{Result, Ok, Err, OnOk}
use Rattle.tree_model.specs.Tree.{Hash, root}
use Rattle.tree_model.specs.Path.{path}
use Rattle.tree_model.specs.Extension.{proof}
use Rattle.tree_model.specs.Halves.{pairs, halve, edge, beside, own_part}
use Rattle.tree_model.proofs.ProofHalves.{proof-halve, proof-odd}
use Rattle.tree_model.proofs.Levels.{root_one, root_none}
use Rattle.tree_model.proofs.Paths.{path_one}
use Rattle.tree_model.proofs.Halves.{length-halve, root-halve, path-halve}
use Rattle.merkle_batch.specs.Rows.{Row, first_of, KeepsNodes, HasNodes, root_of}

-- the rows behind the first
abbrev pub above : List Row → List Row
above rows = take (length rows - 1) (drop 1 rows)

-- rows are the first and those behind it
pub parts : (rows : List Row) (row : Row) → 1 ≤ length rows → row ≡ get_or rows 0 row → rows ≡ row ∷ above rows
parts [] row some is = absurd (omega arith)
parts (r ∷ rest) row some is = ap₂ (λ a b. a ∷ b) (sym is) (sym (take_all (length (r ∷ rest) - 1) rest (omega arith)))

module _ (rows : List Row) (row : Row) (some : 1 ≤ length rows) (is : row ≡ get_or rows 0 row) where
  -- the first row has the nodes that are asked for
  pub nodes_here : (p count : ℕ) → HasNodes p count rows → count ≤ first_of p + length row.nodes
  unfolding HasNodes
  nodes_here p count there = let both = subst (HasNodes p count) (parts rows row some is) there in both.0

  -- those behind it have the others
  pub nodes_above : (p count : ℕ) → HasNodes p count rows → HasNodes (p / 2) (count / 2) (above rows)
  unfolding HasNodes
  nodes_above p count there = let both = subst (HasNodes p count) (parts rows row some is) there in both.1

  -- the first row keeps nodes of this level
  pub keeps_here : (hash : Hash) (p : ℕ) (ds : List (List ℕ)) → KeepsNodes hash p rows ds → row.nodes ≡ drop (first_of p) ds
  unfolding KeepsNodes
  keeps_here hash p ds keeps = let both = subst (λ t. KeepsNodes hash p t ds) (parts rows row some is) keeps in both.0

  -- those behind it keep nodes of the levels above
  pub keeps_above : (hash : Hash) (p : ℕ) (ds : List (List ℕ)) → KeepsNodes hash p rows ds → KeepsNodes hash (p / 2) (above rows) (pairs hash ds)
  unfolding KeepsNodes
  keeps_above hash p ds keeps = let both = subst (λ t. KeepsNodes hash p t ds) (parts rows row some is) keeps in both.1

-- where there are no rows there are no digests
pub no_digests : (hash : Hash) (p : ℕ) (rows : List Row) (ds : List (List ℕ)) → length rows < 1 → KeepsNodes hash p rows ds → ds ≡ []
unfolding KeepsNodes
no_digests hash p [] ds few keeps = keeps
no_digests hash p (row ∷ rows) ds few keeps = absurd (omega arith)

module _ (hash : Hash) where
  -- the root over some digests is that over the next level
  root_of-halve : (cs : List (List ℕ)) → root_of hash cs ≡ root_of hash (halve hash cs)
  unfolding halve root_of
  root_of-halve [] = refl
  root_of-halve (x ∷ []) = refl
  root_of-halve (x ∷ y ∷ rest) = ap Some (root-halve hash (x ∷ y ∷ rest))

  -- the root over what stands at the edge alone
  pub edge_root : (behind : Option (List ℕ)) → behind ≡ root_of hash (edge behind)
  unfolding root_of
  edge_root None = refl
  edge_root (Some d) = ap Some (sym (root_one hash d))

  -- no digests but those at the edge
  pub take_none : (count : ℕ) (ds cs : List (List ℕ)) → ds ≡ [] → take count ds ++ cs ≡ cs
  take_none count ds cs none = ap (λ t. take count t ++ cs) none ∙ ap (λ t. t ++ cs) (take-nil count)

  -- the root above the last row
  pub climb_end : (count : ℕ) (ds : List (List ℕ)) (behind : Option (List ℕ)) → ds ≡ [] → behind ≡ root_of hash (take count ds ++ edge behind)
  climb_end count ds behind none = edge_root behind ∙ ap (root_of hash) (sym (take_none count ds (edge behind) none))

  -- the root of this level is that of the next
  pub climb_up : (cs next : List (List ℕ)) (result : Option (List ℕ)) → halve hash cs ≡ next → result ≡ root_of hash next → result ≡ root_of hash cs
  climb_up cs next result up is = is ∙ ap (root_of hash) (sym up) ∙ sym (root_of-halve cs)

  -- the path of what stands at the edge alone
  path_edge : (n : ℕ) (behind : Option (List ℕ)) → n < length (edge behind) → path hash n (edge behind) ≡ []
  path_edge n None within = absurd (omega arith)
  path_edge zero (Some d) within = path_one hash d
  path_edge (suc n) (Some d) within = absurd (omega arith)

  -- a path over no digests but that is empty
  pub path_end : (n count : ℕ) (ds : List (List ℕ)) (behind : Option (List ℕ)) (old : List (List ℕ)) → ds ≡ [] → n < length (take count ds ++ edge behind) → old ≡ old ++ path hash n (take count ds ++ edge behind)
  path_end n count ds behind old none within =
      let only : take count ds ++ edge behind ≡ edge behind = take_none count ds (edge behind) none in
      sym (append-nil old) ∙ ap (λ t. old ++ t) (sym (path_edge n behind (subst (λ t. n < length t) only within)) ∙ ap (path hash n) (sym only))

  -- a path of this level is the digest beside the leaf, and the path of the next
  pub path_up : (n : ℕ) (cs next side old mid new : List (List ℕ)) → n < length cs → halve hash cs ≡ next → beside n cs ≡ side → mid ≡ old ++ side
      → (n / 2 < length next → new ≡ mid ++ path hash (n / 2) next) → new ≡ old ++ path hash n cs
  path_up n cs next side old mid new within up is first rest =
      let below : n / 2 < length next = omega (arith, length-halve hash cs, ap length up) in
      rest below ∙ ap₂ (λ a b. a ++ path hash (n / 2) b) first (sym up) ∙ append_assoc old side (path hash (n / 2) (halve hash cs))
      ∙ ap (λ t. old ++ t) (ap (λ t. t ++ path hash (n / 2) (halve hash cs)) (sym is) ∙ sym (path-halve hash n cs within))

-- what holds at an Ok, from what holds at it
pub on_ok : {A E X Y : Type 0} (r : Result A E) → (Y → X) → OnOk r Y → OnOk r X
on_ok (Ok a) f y = f y
on_ok (Err e) f y = y

-- the digest that is there
digest_of : Option (List ℕ) → List ℕ
digest_of None = []
digest_of (Some d) = d

-- the root over some digests
pub root_some : (hash : Hash) (cs : List (List ℕ)) (d : List ℕ) → Some d ≡ root_of hash cs → d ≡ root hash cs
unfolding root_of digest_of
root_some hash [] d is = absurd (none-some d (sym is))
root_some hash (c ∷ cs) d is = ap digest_of is

-- and over none
pub root_empty : (hash : Hash) (cs : List (List ℕ)) (d : List ℕ) → None ≡ root_of hash cs → d ≡ hash [] → d ≡ root hash cs
unfolding root_of
root_empty hash [] d is empty = empty ∙ sym (root_none hash)
root_empty hash (c ∷ cs) d is empty = absurd (none-some (root hash (c ∷ cs)) is)

-- where there are no rows there are no nodes
pub no_nodes : (p count : ℕ) (rows : List Row) → length rows < 1 → HasNodes p count rows → count ≡ 0
unfolding HasNodes
no_nodes p count [] few there = there
no_nodes p count (row ∷ rows) few there = absurd (omega arith)

-- a kept leaf is that of the list
pub leaf_is : (p place n : ℕ) (row : Row) (ds : List (List ℕ)) → row.nodes ≡ drop (first_of p) ds → place + first_of p ≡ n → get_or row.nodes place [] ≡ get_or ds n []
leaf_is p place n row ds is at =
    ap (λ t. get_or t place []) is ∙ get_or-drop (first_of p) ds place [] ∙ ap (λ j. get_or ds j []) (omega arith)

-- from two things that hold at it
pub on_both : {A E X Y Z : Type 0} (r : Result A E) → (Y → Z → X) → OnOk r Y → OnOk r Z → OnOk r X
on_both (Ok a) f y z = f y z
on_both (Err e) f y z = y

module _ (hash : Hash) where
  -- there is no proof of fewer leaves over what stands at the edge alone
  pub proof_end : (m count : ℕ) (ds : List (List ℕ)) (behind : Option (List ℕ)) → ds ≡ [] → 0 < m → m < length (take count ds ++ edge behind) → ⊥
  proof_end m count ds None none some less = omega (arith, ap length (take_none hash count ds (edge None) none))
  proof_end m count ds (Some d) none some less = omega (arith, ap length (take_none hash count ds (edge (Some d)) none))

  -- a proof of an even number is that of the next level
  pub proof_up : (m : ℕ) (cs next old new : List (List ℕ)) → 0 < m → m < length cs → m % 2 ≡ 0 → halve hash cs ≡ next
      → (m / 2 < length next → new ≡ old ++ proof hash (m / 2) next) → new ≡ old ++ proof hash m cs
  proof_up m cs next old new some less even up rest =
      let below : m / 2 < length next = omega (arith, length-halve hash cs, ap length up) in
      rest below ∙ ap (λ t. old ++ t) (ap (proof hash (m / 2)) (sym up) ∙ sym (proof-halve hash m cs some (omega arith) even))

  -- of an odd number it is the last node and its path
  pub proof_here : (m : ℕ) (cs side old mid new : List (List ℕ)) → m < length cs → m % 2 ≡ 1 → own_part true m cs ≡ side → mid ≡ old ++ side
      → new ≡ mid ++ path hash (m - 1) cs → new ≡ old ++ proof hash m cs
  proof_here m cs side old mid new less odd is first rest =
      rest ∙ ap (λ t. t ++ path hash (m - 1) cs) first ∙ append_assoc old side (path hash (m - 1) cs)
      ∙ ap (λ t. old ++ t) (ap (λ t. t ++ path hash (m - 1) cs) (sym is) ∙ sym (proof-odd hash m cs less odd))

-- the last of one is the whole older tree
pub own_one : (m : ℕ) (xs : List (List ℕ)) → m ≡ 1 → own_part true m xs ≡ []
unfolding own_part
own_one m xs one = rw one refl

-- the last of more is a kept node
pub own_more : (p place m count : ℕ) (row : Row) (ds cs : List (List ℕ)) (x : List ℕ) → 1 < m → m ≤ count → count ≤ length ds → row.nodes ≡ drop (first_of p) ds → place + first_of p ≡ m - 1
    → x ≡ get_or row.nodes place [] → own_part true m (take count ds ++ cs) ≡ x ∷ []
unfolding own_part
own_more p place m count row ds cs x more le within is at made =
    let front : length (take count ds) ≡ count = length-take-le count ds within in
    let len : m - 1 < length (take count ds ++ cs) = omega (arith, front, length-append (take count ds) cs) in
    let here : get_or (take count ds ++ cs) (m - 1) [] ≡ get_or ds (m - 1) [] =
    get_or_append_left (take count ds) cs [] (m - 1) (omega (arith, front))
    ∙ sym (get_or_append_left (take count ds) (drop count ds) [] (m - 1) (omega (arith, front)))
    ∙ ap (λ t. get_or t (m - 1) []) (take-append-drop count ds) in
    rw (lt-leb m 1 more)
    (ap (take 1) (drop_more (take count ds ++ cs) (m - 1) [] len)
    ∙ ap (λ t. t ∷ []) (here ∙ sym (leaf_is p place (m - 1) row ds is at) ∙ sym made))
