-- A told tree with the root of a list either is the list's tree, or shows a clash.
use Rattle.std.proofs.Common.{◌≡◌, ◌≢◌, ◌⊎◌, ℕ, zero, suc, ◌+◌, ◌-◌, ◌*◌, ◌^◌, ◌<◌, ◌≤◌, inl, inr, List, [], ◌∷◌, length, map, get_or, take, drop, All, Option, Some, None, refl, sym, ap, ap₂, ◌∙◌, subst, arith, le-leb, length-take, length-take-le, length-drop, drop-drop, take_all, take-take, take-append-drop, ◌++◌, count_ones, pow_pos}
use Rattle.std.specs.Str.{bytes_eq}
use Rattle.std.specs.Option.{option_or}
use Rattle.std.proofs.lemmas.Bool.{cases_lt, cases_eq, cases_Bool, lt-leb, eq-eqb, ne_eqb, false≢true}
use Rattle.std.proofs.lemmas.List.{take-map, drop-map, length-map, nil_from_length, drop-take}
use Rattle.std.proofs.lemmas.List.Elements.{All-nil, All-head, All-drop, All-map, All-from_get_or}
use Rattle.std.proofs.lemmas.Slice.Eq.{bytes_eq-Decides}
use Rattle.tree_model.specs.Tree.{Hash, leaf, node, root_at, root}
use Rattle.tree_model.specs.Peaks.{peaks}
use Rattle.tree_model.specs.RootFrom.{root_from_at, root_from}
use Rattle.tree_model.specs.Clash.{IsClash, node_bytes, or_below}
use Rattle.tree_model.specs.TreeClash.{tree_clash_at, tree_clash, ShowsOr, told_at, true_at, true_node, leaf_bytes, leaf_clash}
use Rattle.tree_model.proofs.Splits.{pow_twice, le_pow}
use Rattle.tree_model.proofs.Levels.{root_at_same, root_at_node, root_enough}
use Rattle.tree_model.proofs.Peaks.{peaks_none, peaks_first, length-peaks}
use Rattle.tree_model.proofs.RootsFrom.{from_same, from_peak, from_front, from_behind, from_enough, from_none}
use Rattle.tree_model.proofs.PathClashes.{Makes, AreDigests, parts_of, front_long, root_long}

-- ---- what is found

-- what holds may be said otherwise
pub shows_map : (hash : Hash) (A B : Type 0) (found : Option (List ℕ × List ℕ)) → (A → B) → ShowsOr hash A found → ShowsOr hash B found
shows_map hash A B None f x = f x
shows_map hash A B (Some pair) f x = x

-- two strings with one digest either differ and clash, or what is below shows it
pub shows_below : (hash : Hash) (A : Type 0) (told truth : List ℕ) (below : Option (List ℕ × List ℕ)) → hash told ≡ hash truth
    → (told ≡ truth → ShowsOr hash A below) → ShowsOr hash A (or_below told truth below)
shows_below hash A told truth below one later = elim (cases_Bool (bytes_eq told truth)) [
  | inl same ↦ rw same (later ((bytes_eq-Decides told truth).0 same))
  | inr other ↦
      let differ : told ≢ truth = λ e. false≢true (sym other ∙ (bytes_eq-Decides told truth).1 e) in
      rw other (record { differ = differ; one_digest = one })
]

-- the left before the right
pub shows_both : (hash : Hash) (A B : Type 0) (left right : Option (List ℕ × List ℕ)) → ShowsOr hash A left → ShowsOr hash B right → ShowsOr hash (A × B) (option_or left right)
shows_both hash A B None right x y = shows_map hash B (A × B) right (λ b. (x, b)) y
shows_both hash A B (Some pair) right x y = x

-- ---- what the peaks say

-- there is one peak more than over what stands behind the first
module _ (hash : Hash) where
  ones_more : (h p : ℕ) (ds : List (List ℕ)) → length ds ≡ p → 2 ^ h ≤ p → p < 2 * 2 ^ h → count_ones p ≡ suc (count_ones (p - 2 ^ h))
  ones_more h p ds len le lt =
      let behind : length (drop (2 ^ h) ds) ≡ p - 2 ^ h = omega (arith, length-drop (2 ^ h) ds, len) in
      ap (λ j. count_ones j) (sym len) ∙ sym (length-peaks hash ds)
      ∙ ap length (peaks_first hash h ds (omega (arith, len)) (omega (arith, len)))
      ∙ ap suc (length-peaks hash (drop (2 ^ h) ds) ∙ ap (λ j. count_ones j) behind)

-- a list that has a first item is that and the rest
first_and_rest : (ps : List (List ℕ)) (n : ℕ) → length ps ≡ suc n → ps ≡ get_or ps 0 [] ∷ drop 1 ps
first_and_rest [] n len = absurd (omega arith)
first_and_rest (x ∷ ps) n len = refl

-- a list of one item
only_first : (ps : List (List ℕ)) → length ps ≡ 1 → ps ≡ get_or ps 0 [] ∷ []
only_first [] len = absurd (omega arith)
only_first (x ∷ []) len = refl
only_first (x ∷ y ∷ ps) len = absurd (omega arith)

-- ---- trees

-- the told tree is that of the list: the leaves are those behind the first p, and the peaks those of the first p
abbrev pub Same : Hash → List (List ℕ) → ℕ → List (List ℕ) → List (List ℕ) → Type 0
Same hash ps p xs ls = (xs ≡ drop p ls) × (ps ≡ peaks hash (map (leaf hash) (take p ls)))

module _ (hash : Hash) (makes : Makes hash) where
  -- digests of leaves have 32 bytes
  leaves_long : (xs : List (List ℕ)) → AreDigests (map (leaf hash) xs)
  leaves_long xs = All-map (λ d. length d ≡ 32) (leaf hash) xs (All-from_get_or (λ x. length (leaf hash x) ≡ 32) xs [] (λ i lt. makes _))

  -- so has the root over some leaves, at enough levels
  true_long : (h : ℕ) (ls : List (List ℕ)) → length ls ≤ 2 ^ h → 0 < length ls → length (true_at hash h ls) ≡ 32
  true_long h ls fits some =
      let len : length (map (leaf hash) ls) ≡ length ls = length-map ls (leaf hash) in
      ap length (root_enough hash h (map (leaf hash) ls) (omega (arith, len))) ∙ root_long hash makes (map (leaf hash) ls) (omega (arith, len)) (leaves_long ls)

  -- over no peaks the told root is that of the leaves
  told_none : (h : ℕ) (xs : List (List ℕ)) → length xs ≤ 2 ^ h → told_at hash h [] 0 xs ≡ true_at hash h xs
  told_none h xs fits =
      let ds = map (leaf hash) xs in
      let len : length ds ≡ length xs = length-map xs (leaf hash) in
      from_enough hash h [] 0 ds (omega (arith, len)) ∙ from_none hash ds ∙ sym (root_enough hash h ds (omega (arith, len)))

  Shows : ℕ → List (List ℕ) → ℕ → List (List ℕ) → List (List ℕ) → Type 0
  Shows h ps p xs ls = p + length xs ≤ 2 ^ h → length ls ≡ p + length xs → length ps ≡ count_ones p → AreDigests ps
      → told_at hash h ps p xs ≡ true_at hash h ls → ShowsOr hash (Same hash ps p xs ls) (tree_clash_at hash h ps p xs ls)

  AllShow : ℕ → Type 0
  AllShow h = (ps : List (List ℕ)) (p : ℕ) (xs ls : List (List ℕ)) → Shows h ps p xs ls

  -- a leaf at most
  show_leaf : AllShow 0
  unfolding Shows AllShow tree_clash_at root_from_at root_at root
  show_leaf ps zero [] [] fits len count each e = (refl, nil_from_length ps (count ∙ sym (length-peaks hash []) ∙ ap length (peaks_none hash)) ∙ sym (peaks_none hash))
  show_leaf ps zero [] (l ∷ ls) fits len count each e = absurd (omega arith)
  show_leaf ps zero (x ∷ []) [] fits len count each e = absurd (omega arith)
  show_leaf ps zero (x ∷ []) (l ∷ []) fits len count each e =
      let none : ps ≡ [] = nil_from_length ps (count ∙ sym (length-peaks hash []) ∙ ap length (peaks_none hash)) in
      shows_below hash (Same hash ps 0 (x ∷ []) (l ∷ [])) (leaf_bytes x) (leaf_bytes l) None e
      (λ same. let is : x ≡ l = cc in (ap (λ t. t ∷ []) is, none ∙ sym (peaks_none hash)))
  show_leaf ps zero (x ∷ []) (l ∷ m ∷ ls) fits len count each e = absurd (omega arith)
  show_leaf ps zero (x ∷ y ∷ xs) ls fits len count each e = absurd (omega arith)
  show_leaf ps (suc zero) [] [] fits len count each e = absurd (omega arith)
  show_leaf ps (suc zero) [] (l ∷ []) fits len count each e =
      let ds = leaf hash l ∷ [] in
      let one : length ps ≡ 1 = count ∙ sym (length-peaks hash ds) ∙ ap length (peaks_first hash 0 ds (omega arith) (omega arith)) ∙ ap suc (ap length (peaks_none hash)) in
      (refl, only_first ps one ∙ ap (λ d. d ∷ []) (e ∙ sym (root_enough hash 0 ds (omega arith))) ∙ sym (peaks_first hash 0 ds (omega arith) (omega arith) ∙ ap (λ t. leaf hash l ∷ t) (peaks_none hash)))
  show_leaf ps (suc zero) [] (l ∷ m ∷ ls) fits len count each e = absurd (omega arith)
  show_leaf ps (suc zero) (x ∷ xs) ls fits len count each e = absurd (omega arith)
  show_leaf ps (suc (suc p)) xs ls fits len count each e = absurd (omega arith)

  module _ (h : ℕ) (low : AllShow h) (ps : List (List ℕ)) (p : ℕ) (xs ls : List (List ℕ)) (fits : p + length xs ≤ 2 ^ suc h) (len : length ls ≡ p + length xs)
      (count : length ps ≡ count_ones p) (each : AreDigests ps) (e : told_at hash (suc h) ps p xs ≡ true_at hash (suc h) ls) where
    twice : 2 ^ suc h ≡ 2 * 2 ^ h
    twice = pow_twice h

    heads : length (map (leaf hash) xs) ≡ length xs
    heads = length-map xs (leaf hash)

    truths : length (map (leaf hash) ls) ≡ length ls
    truths = length-map ls (leaf hash)

    -- the level isn't needed
    show_same : p + length xs ≤ 2 ^ h → ShowsOr hash (Same hash ps p xs ls) (tree_clash_at hash (suc h) ps p xs ls)
    unfolding Shows AllShow tree_clash_at
    show_same small = rw (le-leb (p + length xs) (2 ^ h) small)
        (low ps p xs ls small len count each (sym (from_same hash h ps p (map (leaf hash) xs) (omega (arith, heads))) ∙ e ∙ root_at_same hash h (map (leaf hash) ls) (omega (arith, truths))))

    -- all is one peak
    show_peak : 2 ^ h < p + length xs → p ≡ 2 ^ suc h → ShowsOr hash (Same hash ps p xs ls) (tree_clash_at hash (suc h) ps p xs ls)
    unfolding tree_clash_at
    show_peak more whole =
        let ds = map (leaf hash) ls in
        let none : xs ≡ [] = nil_from_length xs (omega arith) in
        let all : take p ls ≡ ls = take_all p ls (omega arith) in
        let size : length ds ≡ 2 ^ suc h = omega (arith, truths, whole) in
        let first = peaks_first hash (suc h) ds (omega (arith, size)) (omega (arith, size, pow_pos (suc h))) in
        let rest : drop (2 ^ suc h) ds ≡ [] = nil_from_length (drop (2 ^ suc h) ds) (omega (arith, length-drop (2 ^ suc h) ds, size)) in
        let is : peaks hash ds ≡ root hash ds ∷ [] = first ∙ ap₂ (λ a b. root hash a ∷ peaks hash b) (take_all (2 ^ suc h) ds (omega (arith, size))) rest ∙ ap (λ t. root hash ds ∷ t) (peaks_none hash) in
        let one : length ps ≡ 1 = count ∙ ap (λ j. count_ones j) (whole ∙ sym size) ∙ sym (length-peaks hash ds) ∙ ap length is in
        let told : get_or ps 0 [] ≡ root hash ds = sym (from_peak hash h ps p (map (leaf hash) xs) (omega (arith, heads)) whole) ∙ e ∙ root_enough hash (suc h) ds (omega (arith, size)) in
        rw (lt-leb (p + length xs) (2 ^ h) more, eq-eqb p (2 ^ suc h) whole)
        (none ∙ sym (nil_from_length (drop p ls) (omega (arith, length-drop p ls))), only_first ps one ∙ ap (λ d. d ∷ []) told ∙ sym is ∙ ap (λ t. peaks hash (map (leaf hash) t)) (sym all))

    -- the truth splits at the level
    true_split : 2 ^ h < p + length xs → true_at hash (suc h) ls ≡ node hash (true_at hash h (take (2 ^ h) ls)) (true_at hash h (drop (2 ^ h) ls))
    true_split more = root_at_node hash h (map (leaf hash) ls) (omega (arith, truths)) ∙ ap₂ (λ l r. node hash (root_at hash h l) (root_at hash h r)) (take-map (leaf hash) (2 ^ h) ls) (drop-map (leaf hash) (2 ^ h) ls)

    -- the leaves and the peaks behind the first one are those behind the split
    front_same : 2 ^ h ≤ p → p < 2 * 2 ^ h → p ≤ length ls → ps ≡ get_or ps 0 [] ∷ drop 1 ps → get_or ps 0 [] ≡ true_at hash h (take (2 ^ h) ls) → Same hash (drop 1 ps) (p - 2 ^ h) xs (drop (2 ^ h) ls) → Same hash ps p xs ls
    front_same front under some parts first is =
        let q = p - 2 ^ h in
        let sum : 2 ^ h + q ≡ p = omega arith in
        let ds = map (leaf hash) (take p ls) in
        let size : length ds ≡ p = length-map (take p ls) (leaf hash) ∙ length-take-le p ls some in
        let fore : take (2 ^ h) ds ≡ map (leaf hash) (take (2 ^ h) ls) = take-map (leaf hash) (2 ^ h) (take p ls) ∙ ap (map (leaf hash)) (take-take (2 ^ h) p ls front) in
        let aft : drop (2 ^ h) ds ≡ map (leaf hash) (take q (drop (2 ^ h) ls)) =
        drop-map (leaf hash) (2 ^ h) (take p ls) ∙ ap (map (leaf hash)) (ap (λ j. drop (2 ^ h) (take j ls)) (sym sum) ∙ drop-take (2 ^ h) q ls) in
        let len_fore : length (map (leaf hash) (take (2 ^ h) ls)) ≡ 2 ^ h = length-map (take (2 ^ h) ls) (leaf hash) ∙ length-take-le (2 ^ h) ls (omega arith) in
        let is_peaks : peaks hash ds ≡ get_or ps 0 [] ∷ drop 1 ps =
        peaks_first hash h ds (omega (arith, size)) (omega (arith, size))
        ∙ ap₂ (λ a b. a ∷ b) (ap (root hash) fore ∙ sym (root_enough hash h (map (leaf hash) (take (2 ^ h) ls)) (omega (arith, len_fore))) ∙ sym first) (ap (peaks hash) aft ∙ sym is.1) in
        (is.0 ∙ drop-drop q (2 ^ h) ls ∙ ap (λ j. drop j ls) sum, parts ∙ sym is_peaks)

    -- the first peak stands in front of the split
    show_front : 2 ^ h < p + length xs → p ≢ 2 ^ suc h → 2 ^ h ≤ p → ShowsOr hash (Same hash ps p xs ls) (tree_clash_at hash (suc h) ps p xs ls)
    unfolding Shows AllShow tree_clash_at
    show_front more part front =
        let under : p < 2 ^ suc h = elim (cases_eq p (2 ^ suc h)) [ inl is ↦ absurd (part is) | inr isnt ↦ omega (arith, isnt) ] in
        let top = get_or ps 0 [] in
        let others = drop 1 ps in
        let q = p - 2 ^ h in
        let sum : 2 ^ h + q ≡ p = omega arith in
        let ones : count_ones p ≡ suc (count_ones q) = ones_more hash h p (map (leaf hash) (take p ls)) (length-map (take p ls) (leaf hash) ∙ length-take-le p ls (omega arith)) front (omega (arith, twice, under)) in
        let parts : ps ≡ top ∷ others = first_and_rest ps (count_ones q) (count ∙ ones) in
        let top_long : length top ≡ 32 = All-head (λ d. length d ≡ 32) top others (subst AreDigests parts each) in
        let fewer : length others ≡ count_ones q = omega (arith, length-drop 1 ps, count, ones) in
        let left : length (take (2 ^ h) ls) ≡ 2 ^ h = length-take-le (2 ^ h) ls (omega arith) in
        let right : length (drop (2 ^ h) ls) ≡ q + length xs = omega (arith, length-drop (2 ^ h) ls) in
        let one : node hash top (told_at hash h others q xs) ≡ node hash (true_at hash h (take (2 ^ h) ls)) (true_at hash h (drop (2 ^ h) ls)) = sym (from_front hash h ps p (map (leaf hash) xs) (omega (arith, heads)) front under) ∙ e ∙ true_split more in
        rw (lt-leb (p + length xs) (2 ^ h) more, ne_eqb p (2 ^ suc h) part, le-leb (2 ^ h) p front)
        (shows_below hash (Same hash ps p xs ls) (node_bytes top (told_at hash h others q xs)) (true_node hash h ls) (tree_clash_at hash h others q xs (drop (2 ^ h) ls)) one
        (λ same.
        let both = parts_of top (true_at hash h (take (2 ^ h) ls)) (told_at hash h others q xs) (true_at hash h (drop (2 ^ h) ls)) (top_long ∙ sym (true_long h (take (2 ^ h) ls) (omega (arith, left)) (omega (arith, left, pow_pos h)))) same in
        shows_map hash (Same hash others q xs (drop (2 ^ h) ls)) (Same hash ps p xs ls) (tree_clash_at hash h others q xs (drop (2 ^ h) ls))
        (front_same front (omega (arith, twice, under)) (omega arith) parts both.0)
        (low others q xs (drop (2 ^ h) ls) (omega (arith, twice, fits)) right fewer (All-drop (λ d. length d ≡ 32) 1 ps each) both.1)))

    -- leaves and peaks of both sides of the split are those of all
    behind_same : p < 2 ^ h → Same hash ps p (take (2 ^ h - p) xs) (take (2 ^ h) ls) × Same hash [] 0 (drop (2 ^ h - p) xs) (drop (2 ^ h) ls) → Same hash ps p xs ls
    behind_same under is =
        let k = 2 ^ h - p in
        let sum : p + k ≡ 2 ^ h = omega arith in
        let fore : drop p (take (2 ^ h) ls) ≡ take k (drop p ls) = ap (λ j. drop p (take j ls)) (sym sum) ∙ drop-take p k ls in
        let aft : drop (2 ^ h) ls ≡ drop k (drop p ls) = ap (λ j. drop j ls) (sym sum) ∙ sym (drop-drop k p ls) in (
          sym (take-append-drop k xs) ∙ ap₂ (λ a b. a ++ b) (is.0.0 ∙ fore) (is.1.0 ∙ aft) ∙ take-append-drop k (drop p ls),
          is.0.1 ∙ ap (λ t. peaks hash (map (leaf hash) t)) (take-take p (2 ^ h) ls (omega arith)),
        )

    -- all peaks stand in front of the split, and leaves with them
    show_behind : 2 ^ h < p + length xs → p ≢ 2 ^ suc h → p < 2 ^ h → ShowsOr hash (Same hash ps p xs ls) (tree_clash_at hash (suc h) ps p xs ls)
    unfolding Shows AllShow tree_clash_at
    show_behind more part under =
        let k = 2 ^ h - p in
        let fore = take k xs in
        let aft = drop k xs in
        let len_fore : length fore ≡ k = length-take-le k xs (omega arith) in
        let len_aft : length aft ≡ length xs - k = length-drop k xs in
        let left : length (take (2 ^ h) ls) ≡ 2 ^ h = length-take-le (2 ^ h) ls (omega arith) in
        let right : length (drop (2 ^ h) ls) ≡ length ls - 2 ^ h = length-drop (2 ^ h) ls in
        let told_left = told_at hash h ps p fore in
        let told_right = true_at hash h aft in
        let true_left = true_at hash h (take (2 ^ h) ls) in
        let true_right = true_at hash h (drop (2 ^ h) ls) in
        let one : node hash told_left told_right ≡ node hash true_left true_right =
        ap₂ (λ l r. node hash (root_from_at hash h ps p l) (root_at hash h r)) (sym (take-map (leaf hash) k xs)) (sym (drop-map (leaf hash) k xs))
        ∙ sym (from_behind hash h ps p (map (leaf hash) xs) (omega (arith, heads)) under) ∙ e ∙ true_split more in
        let rights : length told_right ≡ length true_right = true_long h aft (omega (arith, len_aft, twice)) (omega (arith, len_aft)) ∙ sym (true_long h (drop (2 ^ h) ls) (omega (arith, right, twice)) (omega (arith, right))) in
        let no_ones : length {A = List ℕ} [] ≡ count_ones 0 = sym (ap length (peaks_none hash)) ∙ length-peaks hash [] in
        rw (lt-leb (p + length xs) (2 ^ h) more, ne_eqb p (2 ^ suc h) part, lt-leb (2 ^ h) p under)
        (shows_below hash (Same hash ps p xs ls) (node_bytes told_left told_right) (true_node hash h ls)
        (option_or (tree_clash_at hash h ps p fore (take (2 ^ h) ls)) (tree_clash_at hash h [] 0 aft (drop (2 ^ h) ls))) one
        (λ same.
        let both = parts_of told_left true_left told_right true_right (front_long told_left true_left told_right true_right rights same) same in
        shows_map hash (Same hash ps p fore (take (2 ^ h) ls) × Same hash [] 0 aft (drop (2 ^ h) ls)) (Same hash ps p xs ls)
        (option_or (tree_clash_at hash h ps p fore (take (2 ^ h) ls)) (tree_clash_at hash h [] 0 aft (drop (2 ^ h) ls))) (behind_same under)
        (shows_both hash (Same hash ps p fore (take (2 ^ h) ls)) (Same hash [] 0 aft (drop (2 ^ h) ls)) (tree_clash_at hash h ps p fore (take (2 ^ h) ls)) (tree_clash_at hash h [] 0 aft (drop (2 ^ h) ls))
        (low ps p fore (take (2 ^ h) ls) (omega (arith, len_fore)) (omega (arith, left, len_fore)) count each both.0)
        (low [] 0 aft (drop (2 ^ h) ls) (omega (arith, len_aft, twice)) (omega (arith, right, len_aft)) no_ones (All-nil (λ d. length d ≡ 32)) (told_none h aft (omega (arith, len_aft, twice)) ∙ both.1)))))

  -- at each number of levels
  show_up : (h : ℕ) → AllShow h
  unfolding Shows AllShow
  show_up zero ps p xs ls fits len count each e = show_leaf ps p xs ls fits len count each e
  show_up (suc h) ps p xs ls fits len count each e = elim (cases_lt (2 ^ h) (p + length xs)) [
    | inr small ↦ show_same h (show_up h) ps p xs ls fits len count each e small
    | inl more ↦ elim (cases_eq p (2 ^ suc h)) [
      | inl whole ↦ show_peak h (show_up h) ps p xs ls fits len count each e more whole
      | inr part ↦ elim (cases_lt p (2 ^ h)) [
        | inl under ↦ show_behind h (show_up h) ps p xs ls fits len count each e more part under
        | inr front ↦ show_front h (show_up h) ps p xs ls fits len count each e more part front
      ]
    ]
  ]

  -- a told tree with the root of a list
  pub tree_shows : (ps : List (List ℕ)) (p : ℕ) (xs ls : List (List ℕ)) → length ls ≡ p + length xs → length ps ≡ count_ones p → AreDigests ps
      → root_from hash ps p (map (leaf hash) xs) ≡ root hash (map (leaf hash) ls) → ShowsOr hash (Same hash ps p xs ls) (tree_clash hash ps p xs ls)
  unfolding tree_clash Shows AllShow
  tree_shows ps p xs ls len count each e =
      let n = p + length xs in
      let heads : length (map (leaf hash) xs) ≡ length xs = length-map xs (leaf hash) in
      let truths : length (map (leaf hash) ls) ≡ length ls = length-map ls (leaf hash) in
      show_up n ps p xs ls (le_pow n) len count each
      (from_enough hash n ps p (map (leaf hash) xs) (omega (arith, heads, le_pow n)) ∙ e ∙ sym (root_enough hash n (map (leaf hash) ls) (omega (arith, truths, len, le_pow n))))
