-- What differs first, as it is looked for.
use Rattle.std.proofs.Common.{◌≡◌, ℕ, suc, ◌+◌, ◌-◌, ◌*◌, ◌/◌, ◌≤◌, ◌<◌, inl, inr, List, [], ◌∷◌, ◌++◌, length, take, drop, replicate, Option, Some, None, refl, sym, ap, ap₂, subst, ◌∙◌, arith, drop_at}
use Rattle.std.specs.Str.{bytes_eq}
use Rattle.std.proofs.lemmas.Bool.{cases_Bool}
use Rattle.std.proofs.lemmas.List.{drop-replicate}
use Rattle.tree_model.specs.Tree.{Hash, mth, IsSplit, cut}
use Rattle.tree_model.proofs.Splits.{one_split, split_pos}
use Rattle.tree_model.proofs.Pieces.{cut_one, length-cut, whole_is}
use Rattle.merkle_tree.specs.Part.{IsPart}
use Rattle.tree_model.specs.Clash.{or_below, node_bytes}
use Rattle.std.specs.Option.{option_or}
use Rattle.chain_sign.specs.Lists.{lists_clash}
use Rattle.chain_sign.specs.Steps.{chain_clash, chains_clash}
use Rattle.chain_sign.specs.Chain.{step_string, walk, values_at}
use Rattle.chain_sign.proofs.Walks.{cut_first}
use Rattle.chain_sign.proofs.Lists.{lists_clash_one, lists_clash_split}

module _ (hash : Hash) where
  -- at the end of a chain nothing differs
  pub chain_end : (c p : ℕ) (told truth : List ℕ) → p ≡ 15 → None ≡ chain_clash hash c (15 - p) p told truth
  unfolding chain_clash
  chain_end c p told truth end = let none : 15 - p ≡ 0 = omega arith in rw none refl

  -- one step: what is found behind it, or here
  pub chain_on : (c p : ℕ) (told truth s t ds dt : List ℕ) (found : Option (List ℕ × List ℕ)) → p < 15 → s ≡ step_string c p told → t ≡ step_string c p truth → ds ≡ hash s → dt ≡ hash t
      → found ≡ option_or (chain_clash hash c (15 - (p + 1)) (p + 1) ds dt) (or_below s t None) → found ≡ chain_clash hash c (15 - p) p told truth
  unfolding chain_clash
  chain_on c p told truth s t ds dt found low si ti di ei is =
      let count : 15 - p ≡ suc (15 - (p + 1)) = omega arith in
      let next : p + 1 ≡ suc p = omega arith in
      let d : ds ≡ hash (step_string c p told) = di ∙ ap hash si in
      let e : dt ≡ hash (step_string c p truth) = ei ∙ ap hash ti in
      is ∙ ap₂ (λ a b. option_or (chain_clash hash c (15 - (p + 1)) (p + 1) a b) (or_below s t None)) d e
      ∙ ap₂ (λ a b. option_or (chain_clash hash c (15 - (p + 1)) (p + 1) (hash (step_string c p told)) (hash (step_string c p truth))) (or_below a b None)) si ti
      ∙ ap (λ q. option_or (chain_clash hash c (15 - (p + 1)) q (hash (step_string c p told)) (hash (step_string c p truth))) (or_below (step_string c p told) (step_string c p truth) None)) next
      ∙ ap (λ k. chain_clash hash c k p told truth) (sym count)

  -- no chains differ in nothing
  pub chains_none : (c : ℕ) (ds : List ℕ) (told truth : List (List ℕ)) → length ds ≡ 0 → None ≡ chains_clash hash c ds told truth
  unfolding chains_clash
  chains_none c [] told truth none = refl
  chains_none c (d ∷ ds) told truth none = absurd (omega arith)

  -- the first chain, or else the others
  pub chains_on : (c d : ℕ) (ds others told truth value tolds secret secrets walked : List ℕ) (found : Option (List ℕ × List ℕ)) → ds ≡ d ∷ others → 32 ≤ length told → 32 ≤ length truth
      → value ≡ take 32 told → tolds ≡ drop 32 told → secret ≡ take 32 truth → secrets ≡ drop 32 truth → walked ≡ walk hash c (d - 0) 0 secret
      → found ≡ option_or (chain_clash hash c (15 - d) d value walked) (chains_clash hash (c + 1) others (cut 32 tolds) (values_at hash (c + 1) others (cut 32 secrets)))
      → found ≡ chains_clash hash c ds (cut 32 told) (values_at hash c ds (cut 32 truth))
  unfolding chains_clash values_at
  chains_on c d ds others told truth value tolds secret secrets walked found is tl vl vi ti si ssi wi fi =
      let next : c + 1 ≡ suc c = omega arith in
      let all : d - 0 ≡ d = omega arith in
      let told_cut : cut 32 told ≡ value ∷ cut 32 tolds = cut_first told tl ∙ ap₂ (λ a b. a ∷ cut 32 b) (sym vi) (sym ti) in
      let true_cut : cut 32 truth ≡ secret ∷ cut 32 secrets = cut_first truth vl ∙ ap₂ (λ a b. a ∷ cut 32 b) (sym si) (sym ssi) in
      let w : walked ≡ walk hash c d 0 secret = wi ∙ ap (λ n. walk hash c n 0 secret) all in
      fi ∙ ap₂ (λ x n. option_or (chain_clash hash c (15 - d) d value x) (chains_clash hash n others (cut 32 tolds) (values_at hash n others (cut 32 secrets)))) w next
      ∙ sym (ap₂ (λ a b. chains_clash hash c ds a (values_at hash c ds b)) told_cut true_cut
      ∙ ap (λ t. chains_clash hash c t (value ∷ cut 32 tolds) (values_at hash c t (secret ∷ cut 32 secrets))) is)

-- zeros stand behind a string
pub string_rest : (n : ℕ) (front back : List ℕ) → length front ≡ n → back ≡ drop n (replicate 175 0) → drop n (front ++ back) ≡ replicate (175 - n) 0
string_rest n front back size is = drop_at front back n size ∙ is ∙ drop-replicate n 175 0

-- nothing in place of what is below shows that the strings are one
pub or_none : (told truth : List ℕ) (below : Option (List ℕ × List ℕ)) → None ≡ or_below told truth None → below ≡ or_below told truth below
or_none told truth below e = elim (cases_Bool (bytes_eq told truth)) [
  | inl same ↦ rw same refl
  | inr other ↦ absurd (let never : None ≡ Some (told, truth) = e ∙ (rw other refl) in cc)
]

-- and a pair that they differ
pub or_some : (told truth : List ℕ) (pair : List ℕ × List ℕ) (below : Option (List ℕ × List ℕ)) → Some pair ≡ or_below told truth None → Some pair ≡ or_below told truth below
or_some told truth pair below e = elim (cases_Bool (bytes_eq told truth)) [
  | inl same ↦ absurd (let never : Some pair ≡ None = e ∙ (rw same refl) in cc)
  | inr other ↦ rw other (rw other at e)
]

module _ (hash : Hash) (told truth : List ℕ) where
  -- one leaf each
  pub lists_one : length told ≡ 32 → length truth ≡ length told → (found : Option (List ℕ × List ℕ)) (s t : List ℕ) → s ≡ 0 ∷ told → t ≡ 0 ∷ truth → found ≡ or_below s t None → found ≡ lists_clash hash (cut 32 told) (cut 32 truth)
  lists_one one same found s t si ti is =
      is ∙ ap₂ (λ a b. or_below a b None) si ti ∙ sym (ap₂ (λ a b. lists_clash hash a b) (cut_one 32 (omega arith) told one) (cut_one 32 (omega arith) truth (same ∙ one)) ∙ lists_clash_one hash told truth)

  module _ (k j : ℕ) (s : IsSplit k (length told / 32)) (t : IsSplit j (length truth / 32)) (same : length truth ≡ length told) (tf tb f b tl tr l r : List ℕ)
      (tfi : IsPart 32 tf (take k (cut 32 told)) k (length told)) (tbi : IsPart 32 tb (drop k (cut 32 told)) (length told / 32 - k) (length told))
      (fi : IsPart 32 f (take j (cut 32 truth)) j (length truth)) (bi : IsPart 32 b (drop j (cut 32 truth)) (length truth / 32 - j) (length truth))
      (tli : tl ≡ mth hash (cut 32 tf)) (tri : tr ≡ mth hash (cut 32 tb)) (li : l ≡ mth hash (cut 32 f)) (ri : r ≡ mth hash (cut 32 b)) where
    both : or_below (node_bytes tl tr) (node_bytes l r) (option_or (lists_clash hash (cut 32 tf) (cut 32 f)) (lists_clash hash (cut 32 tb) (cut 32 b))) ≡ lists_clash hash (cut 32 told) (cut 32 truth)
    both =
        let counts : length truth / 32 ≡ length told / 32 = ap (λ n. n / 32) same in
        let one : j ≡ k = one_split j k (length told / 32) (subst (IsSplit j) counts t) s in
        let f_is : cut 32 f ≡ take k (cut 32 truth) = fi.is ∙ ap (λ n. take n (cut 32 truth)) one in
        let b_is : cut 32 b ≡ drop k (cut 32 truth) = bi.is ∙ ap (λ n. drop n (cut 32 truth)) one in
        ap₂ (λ x y. or_below x y (option_or (lists_clash hash (cut 32 tf) (cut 32 f)) (lists_clash hash (cut 32 tb) (cut 32 b))))
        (ap₂ (λ x y. node_bytes x y) (tli ∙ ap (mth hash) tfi.is) (tri ∙ ap (mth hash) tbi.is)) (ap₂ (λ x y. node_bytes x y) (li ∙ ap (mth hash) f_is) (ri ∙ ap (mth hash) b_is))
        ∙ ap₂ (λ x y. or_below (node_bytes (mth hash (take k (cut 32 told))) (mth hash (drop k (cut 32 told)))) (node_bytes (mth hash (take k (cut 32 truth))) (mth hash (drop k (cut 32 truth)))) (option_or x y))
        (ap₂ (λ x y. lists_clash hash x y) tfi.is f_is) (ap₂ (λ x y. lists_clash hash x y) tbi.is b_is)
        ∙ sym (lists_clash_split hash k (cut 32 told) (cut 32 truth) (subst (IsSplit k) (sym (length-cut 32 told)) s))

    pub lists_here : (pair : List ℕ × List ℕ) → Some pair ≡ or_below (node_bytes tl tr) (node_bytes l r) None → Some pair ≡ lists_clash hash (cut 32 told) (cut 32 truth)
    lists_here pair e = or_some (node_bytes tl tr) (node_bytes l r) pair _ e ∙ both

    pub lists_below : (found : Option (List ℕ × List ℕ)) → None ≡ or_below (node_bytes tl tr) (node_bytes l r) None → found ≡ option_or (lists_clash hash (cut 32 tf) (cut 32 f)) (lists_clash hash (cut 32 tb) (cut 32 b)) → found ≡ lists_clash hash (cut 32 told) (cut 32 truth)
    lists_below found none is = is ∙ or_none (node_bytes tl tr) (node_bytes l r) _ none ∙ both

-- the parts of two lists of one length are as long as one another
pub same_parts : (told truth tf tb f b : List ℕ) (k j : ℕ) → IsSplit k (length told / 32) → IsSplit j (length truth / 32) → length truth ≡ length told
    → IsPart 32 tf (take k (cut 32 told)) k (length told) → IsPart 32 tb (drop k (cut 32 told)) (length told / 32 - k) (length told)
    → IsPart 32 f (take j (cut 32 truth)) j (length truth) → IsPart 32 b (drop j (cut 32 truth)) (length truth / 32 - j) (length truth)
    → (0 < length tf / 32) × (length f ≡ length tf) × (0 < length tb / 32) × (length b ≡ length tb)
same_parts told truth tf tb f b k j s t same tfi tbi fi bi =
    let counts : length truth / 32 ≡ length told / 32 = ap (λ n. n / 32) same in
    let one : j ≡ k = one_split j k (length told / 32) (subst (IsSplit j) counts t) s in
    let pos : 0 < k = split_pos k (length told / 32) s in
    let front : length f / 32 ≡ length tf / 32 = fi.count_is ∙ one ∙ sym tfi.count_is in
    let back : length b / 32 ≡ length tb / 32 = bi.count_is ∙ ap₂ (λ m n. m - n) counts one ∙ sym tbi.count_is in
    let left : 0 < length told / 32 - k = omega (arith, s.below) in (
      omega (arith, tfi.count_is),
      sym (whole_is (length f) 32 fi.whole) ∙ ap (λ n. n * 32) front ∙ whole_is (length tf) 32 tfi.whole,
      omega (arith, tbi.count_is),
      sym (whole_is (length b) 32 bi.whole) ∙ ap (λ n. n * 32) back ∙ whole_is (length tb) 32 tbi.whole,
    )
