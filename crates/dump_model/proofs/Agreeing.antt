-- A tree that is told as a list has it shows no strings.
use Rattle.std.proofs.Common.{◌≡◌, ℕ, zero, suc, ◌+◌, ◌-◌, ◌*◌, ◌^◌, ◌≤◌, inl, inr, List, [], ◌∷◌, ◌++◌, length, map, get_or, take, drop, Option, None, refl, sym, ap, ap₂, ◌∙◌, arith, le-leb, length-take-le, length-drop, length-append, drop-drop, drop_at, take-append-drop}
use Rattle.std.specs.Option.{option_or}
use Rattle.std.proofs.lemmas.Bool.{cases_lt, cases_eq, lt-leb, eq-eqb, ne_eqb}
use Rattle.std.proofs.lemmas.List.{take-map, drop-map, length-map, map-append, take-append-le, drop-append-le}
use Rattle.std.proofs.lemmas.Slice.Eq.{bytes_eq-Decides}
use Rattle.std.proofs.Math.Seq.{take-append-add}
use Rattle.tree_model.specs.Tree.{Hash, leaf, root_at}
use Rattle.tree_model.specs.Peaks.{peaks}
use Rattle.tree_model.specs.RootFrom.{root_from_at}
use Rattle.tree_model.specs.Clash.{node_bytes, or_below}
use Rattle.tree_model.specs.TreeClash.{tree_clash_at, tree_clash, told_at, true_at, true_node, leaf_bytes}
use Rattle.tree_model.proofs.Splits.{pow_twice, le_pow}
use Rattle.tree_model.proofs.Levels.{root_enough}
use Rattle.tree_model.proofs.Peaks.{peaks_none, peaks_first}
use Rattle.tree_model.proofs.RootsFrom.{from_enough, from_list}
use Rattle.dump_model.specs.Dumps.{Dump, first_of, peaks_of, leaves_of}
use Rattle.dump_model.specs.Truth.{IsTrueDump, dump_clash}

module _ (hash : Hash) where
  -- strings that are the same aren't shown
  same_below : (told truth : List ℕ) (below : Option (List ℕ × List ℕ)) → told ≡ truth → or_below told truth below ≡ below
  same_below told truth below same = rw ((bytes_eq-Decides told truth).1 same) refl

  -- the peaks of some leaves and the leaves behind them have the root of all
  told_list : (h : ℕ) (front xs : List (List ℕ)) → length front + length xs ≤ 2 ^ h → told_at hash h (peaks hash (map (leaf hash) front)) (length front) xs ≡ true_at hash h (front ++ xs)
  told_list h front xs fits =
      let ds = map (leaf hash) front in
      let es = map (leaf hash) xs in
      let count : length ds ≡ length front = length-map front (leaf hash) in
      let more : length es ≡ length xs = length-map xs (leaf hash) in
      ap (λ n. root_from_at hash h (peaks hash ds) n es) (sym count)
      ∙ from_enough hash h (peaks hash ds) (length ds) es (omega (arith, count, more, fits))
      ∙ from_list hash ds es
      ∙ sym (root_enough hash h (ds ++ es) (omega (arith, length-append ds es, count, more, fits)))
      ∙ ap (root_at hash h) (sym (map-append (leaf hash) front xs))

  none_shown : (h : ℕ) (front xs : List (List ℕ)) → length front + length xs ≤ 2 ^ h → tree_clash_at hash h (peaks hash (map (leaf hash) front)) (length front) xs (front ++ xs) ≡ None
  unfolding tree_clash_at
  none_shown zero [] [] fits = refl
  none_shown zero [] (x ∷ []) fits = same_below (leaf_bytes x) (leaf_bytes x) None refl
  none_shown zero [] (x ∷ y ∷ xs) fits = absurd (omega arith)
  none_shown zero (f ∷ front) xs fits = rw (ne_eqb (length (f ∷ front)) 0 (λ e. omega (arith, e))) refl
  none_shown (suc h) front xs fits =
      let n = length front in
      let ds = map (leaf hash) front in
      let ps = peaks hash ds in
      let ls = front ++ xs in
      let twice : 2 ^ suc h ≡ 2 * 2 ^ h = pow_twice h in
      let count : length ds ≡ n = length-map front (leaf hash) in
      elim (cases_lt (2 ^ h) (n + length xs)) [
        | inr small ↦ rw (le-leb (n + length xs) (2 ^ h) small) (none_shown h front xs small)
        | inl more ↦ elim (cases_eq n (2 ^ suc h)) [
          | inl whole ↦ rw (lt-leb (n + length xs) (2 ^ h) more, eq-eqb n (2 ^ suc h) whole) refl
          | inr part ↦ elim (cases_lt n (2 ^ h)) [
            | inr over ↦
                let rest = drop (2 ^ h) front in
                let first = peaks_first hash h ds (omega (arith, count, over)) (omega (arith, count, twice, part)) in
                let left : length (take (2 ^ h) ds) ≡ 2 ^ h = length-take-le (2 ^ h) ds (omega (arith, count, over)) in
                let top : get_or ps 0 [] ≡ true_at hash h (take (2 ^ h) ls) =
                ap (λ t. get_or t 0 []) first ∙ sym (root_enough hash h (take (2 ^ h) ds) (omega (arith, left)))
                ∙ ap (root_at hash h) (take-map (leaf hash) (2 ^ h) front ∙ ap (map (leaf hash)) (sym (take-append-le (2 ^ h) front xs over))) in
                let others : drop 1 ps ≡ peaks hash (map (leaf hash) rest) = ap (drop 1) first ∙ ap (peaks hash) (drop-map (leaf hash) (2 ^ h) front) in
                let fewer : length rest ≡ n - 2 ^ h = length-drop (2 ^ h) front in
                let behind : drop (2 ^ h) ls ≡ rest ++ xs = drop-append-le (2 ^ h) front xs over in
                let small : length rest + length xs ≤ 2 ^ h = omega (arith, fewer, twice, fits, over) in
                let told : told_at hash h (drop 1 ps) (n - 2 ^ h) xs ≡ true_at hash h (drop (2 ^ h) ls) =
                ap₂ (λ t j. told_at hash h t j xs) others (sym fewer) ∙ told_list h rest xs small ∙ ap (true_at hash h) (sym behind) in
                let low : tree_clash_at hash h (drop 1 ps) (n - 2 ^ h) xs (drop (2 ^ h) ls) ≡ None =
                ap₂ (λ t j. tree_clash_at hash h t j xs (drop (2 ^ h) ls)) others (sym fewer)
                ∙ ap (tree_clash_at hash h (peaks hash (map (leaf hash) rest)) (length rest) xs) behind ∙ none_shown h rest xs small in
                rw (lt-leb (n + length xs) (2 ^ h) more, ne_eqb n (2 ^ suc h) part, le-leb (2 ^ h) n over)
                (same_below (node_bytes (get_or ps 0 []) (told_at hash h (drop 1 ps) (n - 2 ^ h) xs)) (true_node hash h ls) (tree_clash_at hash h (drop 1 ps) (n - 2 ^ h) xs (drop (2 ^ h) ls))
                (ap₂ node_bytes top told) ∙ low)
            | inl under ↦
                let k = 2 ^ h - n in
                let sum : n + k ≡ 2 ^ h = omega (arith, under) in
                let near = take k xs in
                let far = drop k xs in
                let len_near : length near ≡ k = length-take-le k xs (omega (arith, more)) in
                let len_far : length far ≡ length xs - k = length-drop k xs in
                let fore : front ++ near ≡ take (2 ^ h) ls = sym (take-append-add front xs k) ∙ ap (λ j. take j ls) sum in
                let aft : far ≡ drop (2 ^ h) ls = sym (ap (drop k) (drop_at front xs n refl)) ∙ drop-drop k n ls ∙ ap (λ j. drop j ls) sum in
                let fits_near : n + length near ≤ 2 ^ h = omega (arith, len_near, sum) in
                let fits_far : 0 + length far ≤ 2 ^ h = omega (arith, len_far, twice, fits, sum) in
                let left : tree_clash_at hash h ps n near (take (2 ^ h) ls) ≡ None = ap (tree_clash_at hash h ps n near) (sym fore) ∙ none_shown h front near fits_near in
                let right : tree_clash_at hash h [] 0 far (drop (2 ^ h) ls) ≡ None =
                ap (tree_clash_at hash h [] 0 far) (sym aft) ∙ ap (λ t. tree_clash_at hash h t 0 far far) (sym (peaks_none hash)) ∙ none_shown h [] far fits_far in
                rw (lt-leb (n + length xs) (2 ^ h) more, ne_eqb n (2 ^ suc h) part, lt-leb (2 ^ h) n under)
                (same_below (node_bytes (told_at hash h ps n near) (true_at hash h far)) (true_node hash h ls) (option_or (tree_clash_at hash h ps n near (take (2 ^ h) ls)) (tree_clash_at hash h [] 0 far (drop (2 ^ h) ls)))
                (ap₂ node_bytes (told_list h front near fits_near ∙ ap (true_at hash h) fore) (ap (true_at hash h) aft))
                ∙ ap₂ option_or left right)
          ]
        ]
      ]

  -- the tree of a list, told by the peaks of its first leaves and those behind
  tree_agrees : (p : ℕ) (ls : List (List ℕ)) → p ≤ length ls → tree_clash hash (peaks hash (map (leaf hash) (take p ls))) p (drop p ls) ls ≡ None
  unfolding tree_clash
  tree_agrees p ls within =
      let front = take p ls in
      let xs = drop p ls in
      let count : length front ≡ p = length-take-le p ls within in
      ap₂ (λ n t. tree_clash_at hash (n + length xs) (peaks hash (map (leaf hash) front)) n xs t) (sym count) (sym (take-append-drop p ls))
      ∙ none_shown (length front + length xs) front xs (le_pow (length front + length xs))

  -- a true dump
  pub true_shows_none : (dump : Dump) (headers entries : List (List ℕ)) → IsTrueDump hash headers entries dump → dump_clash hash headers entries dump ≡ None
  true_shows_none dump headers entries is =
      let ledger : tree_clash hash (peaks_of dump.base) (first_of dump.base) (leaves_of dump) headers ≡ None =
      ap₂ (λ tops leaves. tree_clash hash tops (first_of dump.base) leaves headers) is.peaks_are is.headers_are ∙ tree_agrees (first_of dump.base) headers is.within in
      let notary : tree_clash hash [] 0 dump.entries entries ≡ None =
      ap₂ (λ tops es. tree_clash hash tops 0 es entries) (sym (peaks_none hash)) is.entries_are ∙ tree_agrees 0 entries (omega arith) in
      ap₂ option_or ledger notary
