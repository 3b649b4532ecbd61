-- What rows keep over peaks stays right as they change, and gives the root.
use Rattle.std.proofs.Common.{◌≡◌, ℕ, suc, ◌+◌, ◌-◌, ◌/◌, ◌%◌, ◌<◌, ◌≤◌, inl, inr, Option, Some, None, List, [], ◌∷◌, ◌++◌, length, get_or, set, take, drop, refl, sym, ap, ap₂, ◌∙◌, subst, arith, append_assoc, length-append, length-drop, length-take, length-take-le, drop-drop, drop_at, take_at, replicate, count_ones}
use Rattle.std.proofs.lemmas.Bool.{cases_eq}
use Rattle.std.proofs.lemmas.List.{append-nil, nil_from_length, drop-append-le, get_or-drop, get_or-append_right, get_or_append_left, drop-take, drop_all, drop-set, drop-set-lt, length-replicate}
use Rattle.std.proofs.Math.Seq.{take-append-add, drop-nil}
use Rattle.std.proofs.lemmas.Bool.{eq-eqb, ne_eqb}
use Rattle.tree_model.specs.Tree.{Hash, node}
use Rattle.tree_model.specs.Halves.{pairs, halve, edge}
use Rattle.tree_model.specs.RootFrom.{root_from, last_peak, other_peaks}
use Rattle.tree_model.proofs.Levels.{root_one, root_none}
use Rattle.tree_model.proofs.Halves.{length-pairs, length-halve, halve-drop}
use Rattle.tree_model.proofs.Peaks.{pairs-drop}
use Rattle.tree_model.proofs.Rising.{pairs_more, pairs_next}
use Rattle.tree_model.proofs.RootsFrom.{from_none}
use Rattle.tree_model.proofs.PeakHalves.{length-last_peak, length-other_peaks, from-halve}
use Rattle.merkle_batch.specs.Rows.{Row, first_of, Levels, Grown, Forgot}
use Rattle.merkle_batch.specs.Over.{KeepsOver, StandsOver, root_over}
use Rattle.merkle_batch.proofs.Placing.{at_level, after_set}
use Rattle.merkle_batch.proofs.Climbing.{parts, above}
use Rattle.merkle_batch.proofs.Peaking.{behind}
use Rattle.std.proofs.lemmas.Option.{none-some}
use Rattle.std.proofs.lemmas.Nat.{ones_le_self}
use Rattle.std.specs.Int.Count.{ones_step}

-- the peaks of a level and the digests behind them
module _ (p : ℕ) (ps xs : List (List ℕ)) (count : length ps ≡ count_ones p) where
  -- how many stand on the level, from the last peak on
  pub length-level : length (last_peak p ps ++ xs) ≡ p % 2 + length xs
  length-level = omega (arith, length-append (last_peak p ps) xs, length-last_peak ps p count)

  module _ (floor : ℕ) (le : p ≤ floor) (within : floor ≤ p + length xs) (row new : Row) (d : List ℕ) (push : new.nodes ≡ row.nodes ++ d ∷ [])
      (is : row.nodes ≡ drop (first_of floor - first_of p) (last_peak p ps ++ xs))
    where
      -- as many are kept as stand from the first on
      kept_over : length row.nodes + (first_of floor - first_of p) ≡ p % 2 + length xs
      kept_over = omega (arith, ap length is, length-drop (first_of floor - first_of p) (last_peak p ps ++ xs), length-level)

      len_over : length new.nodes ≡ suc (length row.nodes)
      len_over = omega (arith, ap length push, length-append row.nodes (d ∷ []))

      -- the first row with one digest more
      pub first_over : new.nodes ≡ drop (first_of floor - first_of p) (last_peak p ps ++ (xs ++ d ∷ []))
      first_over =
          push ∙ ap (λ t. t ++ d ∷ []) is
          ∙ sym (drop-append-le (first_of floor - first_of p) (last_peak p ps ++ xs) (d ∷ []) (omega (arith, length-level)))
          ∙ ap (drop (first_of floor - first_of p)) (append_assoc (last_peak p ps) xs (d ∷ []))

      -- a digest without another beside it adds none above
      pub pairs_stay : (hash : Hash) → length new.nodes % 2 ≡ 1 → pairs hash (last_peak p ps ++ (xs ++ d ∷ [])) ≡ pairs hash (last_peak p ps ++ xs)
      pairs_stay hash odd =
          ap (pairs hash) (sym (append_assoc (last_peak p ps) xs (d ∷ [])))
          ∙ pairs_more hash (last_peak p ps ++ xs) d (omega (arith, length-level, kept_over, len_over))

      -- one that makes a pair adds its node
      pub pairs_go : (hash : Hash) (x : List ℕ) → length new.nodes % 2 ≡ 0 → x ≡ node hash (get_or new.nodes (length new.nodes - 2) []) d
          → pairs hash (last_peak p ps ++ (xs ++ d ∷ [])) ≡ pairs hash (last_peak p ps ++ xs) ++ x ∷ []
      pairs_go hash x even made =
          let c = last_peak p ps ++ xs in
          let k = first_of floor - first_of p in
          let odd : length c % 2 ≡ 1 = omega (arith, length-level, kept_over, len_over) in
          let last : get_or new.nodes (length new.nodes - 2) [] ≡ get_or c (length c - 1) [] =
          ap (λ t. get_or t (length new.nodes - 2) []) push ∙ get_or_append_left row.nodes (d ∷ []) [] (length new.nodes - 2) (omega (arith, len_over, even))
          ∙ ap (λ t. get_or t (length new.nodes - 2) []) is ∙ get_or-drop k c (length new.nodes - 2) []
          ∙ ap (λ j. get_or c j []) (omega (arith, length-level, kept_over, len_over, even)) in
          ap (pairs hash) (sym (append_assoc (last_peak p ps) xs (d ∷ []))) ∙ pairs_next hash c d odd
          ∙ ap (λ t. pairs hash c ++ t ∷ []) (ap (λ l. node hash l d) (sym last) ∙ sym made)

module _ (hash : Hash) (p floor : ℕ) (ps xs : List (List ℕ)) (count : length ps ≡ count_ones p) (le : p ≤ floor) (within : floor ≤ p + length xs)
    (row new : Row) (d : List ℕ) (push : new.nodes ≡ row.nodes ++ d ∷ []) (rows : List Row)
  where
    -- a digest without another beside it changes its row alone
    pub over_stay : length new.nodes % 2 ≡ 1 → KeepsOver hash p floor (row ∷ rows) ps xs → KeepsOver hash p floor (new ∷ rows) ps (xs ++ d ∷ [])
    unfolding KeepsOver
    over_stay odd keeps = (
      first_over p ps xs count floor le within row new d push keeps.0,
      subst (λ t. KeepsOver hash (p / 2) (floor / 2) rows (other_peaks p ps) t) (sym (pairs_stay p ps xs count floor le within row new d push keeps.0 hash odd)) keeps.1,
    )

    -- one that makes a pair adds its node above
    pub over_go : (after : List Row) (x : List ℕ) → length new.nodes % 2 ≡ 0 → x ≡ node hash (get_or new.nodes (length new.nodes - 2) []) d
        → ((q f : ℕ) (qs es : List (List ℕ)) → length qs ≡ count_ones q → q ≤ f → f ≤ q + length es → KeepsOver hash q f rows qs es → KeepsOver hash q f after qs (es ++ x ∷ []))
        → KeepsOver hash p floor (row ∷ rows) ps xs → KeepsOver hash p floor (new ∷ after) ps (xs ++ d ∷ [])
    unfolding KeepsOver
    over_go after x even made above keeps = (
      first_over p ps xs count floor le within row new d push keeps.0,
      subst (λ t. KeepsOver hash (p / 2) (floor / 2) after (other_peaks p ps) t) (sym (pairs_go p ps xs count floor le within row new d push keeps.0 hash x even made))
          (above (p / 2) (floor / 2) (other_peaks p ps) (pairs hash (last_peak p ps ++ xs)) (length-other_peaks ps p count) (omega arith)
          (omega (arith, length-pairs hash (last_peak p ps ++ xs), length-level p ps xs count)) keeps.1),
    )

-- rows that have forgotten keep what is from the higher floor on
pub forgot_over : (hash : Hash) (p floor to : ℕ) (old rows : List Row) (ps xs : List (List ℕ)) → p ≤ floor → floor ≤ to → Forgot floor to old rows → KeepsOver hash p floor old ps xs → KeepsOver hash p to rows ps xs
unfolding Forgot KeepsOver
forgot_over hash p floor to [] [] ps xs low le forgot keeps = keeps
forgot_over hash p floor to [] (row ∷ rows) ps xs low le forgot keeps = absurd forgot
forgot_over hash p floor to (old ∷ olds) [] ps xs low le forgot keeps = absurd forgot
forgot_over hash p floor to (old ∷ olds) (row ∷ rows) ps xs low le forgot keeps =
    let sum : (first_of floor - first_of p) + (first_of to - first_of floor) ≡ first_of to - first_of p = omega arith in (
      forgot.0 ∙ ap (drop (first_of to - first_of floor)) keeps.0
          ∙ drop-drop (first_of to - first_of floor) (first_of floor - first_of p) (last_peak p ps ++ xs) ∙ ap (λ j. drop j (last_peak p ps ++ xs)) sum,
      forgot_over hash (p / 2) (floor / 2) (to / 2) olds rows (other_peaks p ps) (pairs hash (last_peak p ps ++ xs)) (omega arith) (omega arith) forgot.1 keeps.1,
    )

-- rows that keep none, over nothing
empty_over : (hash : Hash) (floor : ℕ) (rows : List Row) → Grown [] rows → KeepsOver hash 0 floor rows [] []
unfolding Grown KeepsOver pairs
empty_over hash floor [] grown = (refl, refl, refl)
empty_over hash floor (row ∷ rows) grown = (
  grown.0 ∙ sym (drop-nil (first_of floor - first_of 0)),
  empty_over hash (floor / 2) rows grown.1,
)

-- rows that have grown keep what they did
pub grown_over : (hash : Hash) (p floor : ℕ) (old rows : List Row) (ps xs : List (List ℕ)) → Grown old rows → KeepsOver hash p floor old ps xs → KeepsOver hash p floor rows ps xs
unfolding Grown KeepsOver
grown_over hash p floor [] rows ps xs grown keeps =
    subst (λ q. KeepsOver hash q floor rows ps xs) (sym keeps.0)
    (subst (λ t. KeepsOver hash 0 floor rows t xs) (sym keeps.1)
    (subst (KeepsOver hash 0 floor rows []) (sym keeps.2) (empty_over hash floor rows grown)))
grown_over hash p floor (old ∷ olds) [] ps xs grown keeps = absurd grown
grown_over hash p floor (old ∷ olds) (row ∷ rows) ps xs grown keeps =
    (grown.0 ∙ keeps.0, grown_over hash (p / 2) (floor / 2) olds rows (other_peaks p ps) (pairs hash (last_peak p ps ++ xs)) grown.2 keeps.1)

-- one row made from peaks, and those above it
pub peaks_over : (hash : Hash) (p : ℕ) (row : Row) (rows : List Row) (all rest : List (List ℕ)) → length all ≡ count_ones p → length row.nodes ≡ p % 2 → all ≡ rest ++ row.nodes
    → (length rest ≡ count_ones (p / 2) → KeepsOver hash (p / 2) (p / 2) rows rest []) → KeepsOver hash p p (row ∷ rows) all []
unfolding KeepsOver
peaks_over hash p row rows all rest count len parts above =
    let sizes : length all ≡ length rest + p % 2 = omega (arith, ap length parts, length-append rest row.nodes, len) in
    let last : last_peak p all ≡ row.nodes = ap (drop (length all - p % 2)) parts ∙ drop_at rest row.nodes (length all - p % 2) (omega (arith, sizes)) in
    let others : other_peaks p all ≡ rest = ap (take (length all - p % 2)) parts ∙ take_at rest row.nodes (length all - p % 2) (omega (arith, sizes)) in
    let none : first_of p - first_of p ≡ 0 = omega arith in
    let level : last_peak p all ++ [] ≡ row.nodes = append-nil (last_peak p all) ∙ last in
    let up : pairs hash (last_peak p all ++ []) ≡ [] = nil_from_length (pairs hash (last_peak p all ++ [])) (omega (arith, length-pairs hash (last_peak p all ++ []), ap length level, len)) in (
      sym (ap (λ j. drop j (last_peak p all ++ [])) none ∙ level),
      subst (KeepsOver hash (p / 2) (p / 2) rows (other_peaks p all)) (sym up)
          (subst (λ t. KeepsOver hash (p / 2) (p / 2) rows t []) (sym others)
          (above (sym (ap length others) ∙ length-other_peaks all p count))),
    )

module _ (hash : Hash) where
  -- the root over what stands at the edge alone
  pub over_edge : (behind : Option (List ℕ)) → behind ≡ root_over hash [] 0 (edge behind)
  unfolding root_over
  over_edge None = refl
  over_edge (Some d) = ap Some (sym (from_none hash (d ∷ []) ∙ root_one hash d))

  -- above the last row
  pub over_end : (p count : ℕ) (ps xs : List (List ℕ)) (behind : Option (List ℕ)) → (p ≡ 0) × (ps ≡ []) × (xs ≡ []) → behind ≡ root_over hash ps p (take (count - p) xs ++ edge behind)
  over_end p count ps xs behind none =
      let front : take (count - p) xs ≡ [] = nil_from_length (take (count - p) xs) (omega (arith, length-take (count - p) xs, ap length none.2)) in
      over_edge behind ∙ ap₂ (λ t j. root_over hash t j (edge behind)) (sym none.1) (sym none.0) ∙ ap (λ t. root_over hash ps p (t ++ edge behind)) (sym front)

  -- the root of this level is that of the next
  pub over_up : (p : ℕ) (ps cs next : List (List ℕ)) (result : Option (List ℕ)) → length ps ≡ count_ones p → halve hash (last_peak p ps ++ cs) ≡ next
      → result ≡ root_over hash (other_peaks p ps) (p / 2) next → result ≡ root_over hash ps p cs
  unfolding root_over
  over_up p ps cs next result count up is =
      let half : length next ≡ (p % 2 + length cs + 1) / 2 = omega (arith, ap length up, length-halve hash (last_peak p ps ++ cs), length-append (last_peak p ps) cs, length-last_peak ps p count) in
      is ∙ elim (cases_eq (p + length cs) 0) [
        | inl none ↦ rw (eq-eqb (p + length cs) 0 none, eq-eqb (p / 2 + length next) 0 (omega (arith, half, none))) refl
        | inr some ↦ rw (ne_eqb (p + length cs) 0 some, ne_eqb (p / 2 + length next) 0 (λ e. some (omega (arith, half, e))))
            (ap Some (ap (root_from hash (other_peaks p ps) (p / 2)) (sym up) ∙ sym (from-halve hash ps p cs count)))
      ]

  module _ (p floor count : ℕ) (ps xs : List (List ℕ)) (ones : length ps ≡ count_ones p) (le : p ≤ floor) (low : floor ≤ count) (within : count ≤ p + length xs) (row : Row)
      (is : row.nodes ≡ drop (first_of floor - first_of p) (last_peak p ps ++ xs)) (behind result : Option (List ℕ))
    where
      -- a level whose digests below the last peak are none that anyone knows
      abbrev level : List (List ℕ)
      level = replicate (first_of p) [] ++ (last_peak p ps ++ xs)

      len_level : length level ≡ p + length xs
      len_level =
          let none : List (List ℕ) = replicate (first_of p) [] in
          let junk : length none ≡ first_of p = length-replicate (first_of p) [] in
          omega (arith, length-append none (last_peak p ps ++ xs), junk, length-level p ps xs ones)

      drop_level : (k : ℕ) → first_of p ≤ k → drop k level ≡ drop (k - first_of p) (last_peak p ps ++ xs)
      drop_level k le_k =
          let sum : first_of p + (k - first_of p) ≡ k = omega arith in
          ap (λ j. drop j level) (sym sum) ∙ sym (drop-drop (k - first_of p) (first_of p) level)
          ∙ ap (drop (k - first_of p)) (drop_at (replicate (first_of p) []) (last_peak p ps ++ xs) (first_of p) (length-replicate (first_of p) []))

      take_level : drop (first_of p) (take count level) ≡ last_peak p ps ++ take (count - p) xs
      take_level =
          let sum : count ≡ first_of p + (p % 2 + (count - p)) = omega arith in
          let none : first_of p - first_of p ≡ 0 = omega arith in
          ap (λ j. drop (first_of p) (take j level)) sum ∙ drop-take (first_of p) (p % 2 + (count - p)) level
          ∙ ap (take (p % 2 + (count - p))) (drop_level (first_of p) (omega arith) ∙ ap (λ j. drop j (last_peak p ps ++ xs)) none)
          ∙ ap (λ j. take (j + (count - p)) (last_peak p ps ++ xs)) (sym (length-last_peak ps p ones))
          ∙ take-append-add (last_peak p ps) xs (count - p)

      -- the level's first nodes and the edge, joined as any level's are
      pub over_join : ((ds : List (List ℕ)) → row.nodes ≡ drop (first_of floor) ds → count ≤ length ds → halve hash (take count ds ++ edge behind) ≡ take (count / 2) (pairs hash ds) ++ edge result)
          → halve hash (last_peak p ps ++ (take (count - p) xs ++ edge behind)) ≡ take (count / 2 - p / 2) (pairs hash (last_peak p ps ++ xs)) ++ edge result
      over_join join =
          let k = p / 2 in
          let none : first_of p - first_of p ≡ 0 = omega arith in
          let here = join level (is ∙ sym (drop_level (first_of floor) (omega arith))) (omega (arith, len_level)) in
          let front : first_of p ≤ length (take count level) = omega (arith, length-take-le count level (omega (arith, len_level))) in
          let above : length (pairs hash level) ≡ (p + length xs) / 2 = omega (arith, length-pairs hash level, len_level) in
          let some : k ≤ length (take (count / 2) (pairs hash level)) = omega (arith, length-take-le (count / 2) (pairs hash level) (omega (arith, above))) in
          let rest : count / 2 ≡ k + (count / 2 - k) = omega arith in
          ap (halve hash) (sym (append_assoc (last_peak p ps) (take (count - p) xs) (edge behind)) ∙ ap (λ t. t ++ edge behind) (sym take_level) ∙ sym (drop-append-le (first_of p) (take count level) (edge behind) front))
          ∙ halve-drop hash k (take count level ++ edge behind)
          ∙ ap (drop k) here
          ∙ drop-append-le k (take (count / 2) (pairs hash level)) (edge result) some
          ∙ ap (λ t. t ++ edge result)
          (ap (λ j. drop k (take j (pairs hash level))) rest ∙ drop-take k (count / 2 - k) (pairs hash level)
          ∙ ap (take (count / 2 - k)) (sym (pairs-drop hash k level) ∙ ap (pairs hash) (drop_level (first_of p) (omega arith) ∙ ap (λ j. drop j (last_peak p ps ++ xs)) none)))

module _ (rows : List Row) (level : ℕ) (within : level < length rows) (default new : Row) (x : List ℕ) (push : new.nodes ≡ (get_or rows level default).nodes ++ x ∷ []) where
  -- where a digest without another beside it is put
  pub put_stay : (hash : Hash) → length new.nodes % 2 ≡ 1 → (p floor : ℕ) (ps xs : List (List ℕ)) → length ps ≡ count_ones p → p ≤ floor → floor ≤ p + length xs
      → KeepsOver hash p floor (drop level rows) ps xs → KeepsOver hash p floor (drop level (set rows level new)) ps (xs ++ x ∷ [])
  put_stay hash odd p floor ps xs count le fits keeps =
      subst (λ t. KeepsOver hash p floor t ps (xs ++ x ∷ [])) (sym (drop-set rows level new within))
      (over_stay hash p floor ps xs count le fits (get_or rows level default) new x push (drop (level + 1) rows) odd
      (subst (λ t. KeepsOver hash p floor t ps xs) (at_level rows level within default) keeps))

  -- and where one that makes a pair is
  pub put_go : (after : List Row) → take (level + 1) after ≡ take (level + 1) (set rows level new)
      → (hash : Hash) (y : List ℕ) → length new.nodes % 2 ≡ 0 → y ≡ node hash (get_or new.nodes (length new.nodes - 2) []) x
      → ((q f : ℕ) (qs es : List (List ℕ)) → length qs ≡ count_ones q → q ≤ f → f ≤ q + length es → KeepsOver hash q f (drop (level + 1) (set rows level new)) qs es → KeepsOver hash q f (drop (level + 1) after) qs (es ++ y ∷ []))
      → (p floor : ℕ) (ps xs : List (List ℕ)) → length ps ≡ count_ones p → p ≤ floor → floor ≤ p + length xs
      → KeepsOver hash p floor (drop level rows) ps xs → KeepsOver hash p floor (drop level after) ps (xs ++ x ∷ [])
  put_go after front hash y even made above p floor ps xs count le fits keeps =
      let stays = drop-set-lt (level + 1) rows level new (omega arith) in
      subst (λ t. KeepsOver hash p floor t ps (xs ++ x ∷ [])) (sym (after_set rows level within new after front))
      (over_go hash p floor ps xs count le fits (get_or rows level default) new x push (drop (level + 1) rows) (drop (level + 1) after) y even made
      (λ q f qs es ones low within_f k. above q f qs es ones low within_f (subst (λ t. KeepsOver hash q f t qs es) (sym stays) k))
      (subst (λ t. KeepsOver hash p floor t ps xs) (at_level rows level within default) keeps))

module _ (rows : List Row) (row : Row) (some : 1 ≤ length rows) (is : row ≡ get_or rows 0 row) (hash : Hash) (p floor : ℕ) (ps xs : List (List ℕ)) where
  -- the first row keeps nodes of this level
  pub over_here : KeepsOver hash p floor rows ps xs → row.nodes ≡ drop (first_of floor - first_of p) (last_peak p ps ++ xs)
  unfolding KeepsOver
  over_here keeps = let both = subst (λ t. KeepsOver hash p floor t ps xs) (parts rows row some is) keeps in both.0

  -- those behind it keep nodes of the levels above
  pub over_above : KeepsOver hash p floor rows ps xs → KeepsOver hash (p / 2) (floor / 2) (above rows) (other_peaks p ps) (pairs hash (last_peak p ps ++ xs))
  unfolding KeepsOver
  over_above keeps = let both = subst (λ t. KeepsOver hash p floor t ps xs) (parts rows row some is) keeps in both.1

-- where there are no rows there is nothing
pub no_over : (hash : Hash) (p floor : ℕ) (rows : List Row) (ps xs : List (List ℕ)) → length rows < 1 → KeepsOver hash p floor rows ps xs → (p ≡ 0) × (ps ≡ []) × (xs ≡ [])
unfolding KeepsOver
no_over hash p floor [] ps xs few keeps = keeps
no_over hash p floor (row ∷ rows) ps xs few keeps = absurd (omega arith)

-- nothing is kept over nothing
nothing_over : (hash : Hash) (p : ℕ) (ps : List (List ℕ)) → p ≡ 0 → ps ≡ [] → KeepsOver hash p p [] ps []
unfolding KeepsOver
nothing_over hash p ps none is = (none, is, refl)

-- rows over no peaks
pub none_over : (hash : Hash) (p : ℕ) (rows : List Row) (ps : List (List ℕ)) → p ≡ 0 → length ps ≡ count_ones p → KeepsOver hash p p (drop (length rows) rows) ps []
none_over hash p rows ps none count =
    let few : count_ones 0 ≡ 0 = omega (arith, ones_le_self 0) in
    subst (λ t. KeepsOver hash p p t ps []) (sym (drop_all (length rows) rows (omega arith)))
    (nothing_over hash p ps none (nil_from_length ps (count ∙ ap (λ j. count_ones j) none ∙ few)))

-- rows over peaks, of which one row more was made
pub more_over : (hash : Hash) (p : ℕ) (old mid after : List Row) (row : Row) (all rest : List (List ℕ)) → mid ≡ old ++ row ∷ [] → take (length mid) after ≡ mid → length row.nodes ≡ p % 2
    → (p % 2 ≤ length all → all ≡ rest ++ row.nodes) → (length rest ≡ count_ones (p / 2) → KeepsOver hash (p / 2) (p / 2) (drop (length mid) after) rest [])
    → length all ≡ count_ones p → KeepsOver hash p p (drop (length old) after) all []
more_over hash p old mid after row all rest push front len made up count =
    subst (λ t. KeepsOver hash p p t all []) (sym (behind old mid after row push front))
    (peaks_over hash p row (drop (length mid) after) all rest count len (made (omega (arith, count, ones_step p))) up)

-- what a tree stands for over peaks
module _ (hash : Hash) (tree : Levels) (p : ℕ) (ps xs : List (List ℕ)) where
  pub over_ones : StandsOver hash tree p ps xs → length ps ≡ count_ones p
  unfolding StandsOver
  over_ones stands = stands.0

  pub over_floor : StandsOver hash tree p ps xs → p ≤ tree.floor
  unfolding StandsOver
  over_floor stands = stands.1

  pub over_size : StandsOver hash tree p ps xs → p + length xs ≡ tree.size
  unfolding StandsOver
  over_size stands = stands.2

  pub over_keeps : StandsOver hash tree p ps xs → KeepsOver hash p tree.floor tree.rows ps xs
  unfolding StandsOver
  over_keeps stands = stands.3

  pub over_of : length ps ≡ count_ones p → p ≤ tree.floor → p + length xs ≡ tree.size → KeepsOver hash p tree.floor tree.rows ps xs → StandsOver hash tree p ps xs
  unfolding StandsOver
  over_of ones floor size keeps = (ones, floor, size, keeps)

-- a tree over no leaves
pub over_new : (hash : Hash) (rows : List Row) → rows ≡ [] → StandsOver hash (record { rows = rows; size = 0; floor = 0; spare = 0 }) 0 [] []
over_new hash rows is =
    let few : count_ones 0 ≡ 0 = omega (arith, ones_le_self 0) in
    over_of hash (record { rows = rows; size = 0; floor = 0; spare = 0 }) 0 [] [] (sym few) (omega arith) refl
    (subst (λ t. KeepsOver hash 0 0 t [] []) (sym is) (nothing_over hash 0 [] refl refl))

-- one leaf more
pub over_more : (hash : Hash) (old new : Levels) (x : List ℕ) → old.floor ≤ old.size → new.size ≡ old.size + 1 → new.floor ≡ old.floor
    → ((q f : ℕ) (qs es : List (List ℕ)) → length qs ≡ count_ones q → q ≤ f → f ≤ q + length es → KeepsOver hash q f old.rows qs es → KeepsOver hash q f new.rows qs (es ++ x ∷ []))
    → (p : ℕ) (ps xs : List (List ℕ)) → StandsOver hash old p ps xs → StandsOver hash new p ps (xs ++ x ∷ [])
over_more hash old new x floor size same keeps p ps xs stands =
    let ones = over_ones hash old p ps xs stands in
    let low = over_floor hash old p ps xs stands in
    let len = over_size hash old p ps xs stands in
    over_of hash new p ps (xs ++ x ∷ []) ones (omega (arith, low, same)) (omega (arith, len, size, length-append xs (x ∷ [])))
    (subst (λ f. KeepsOver hash p f new.rows ps (xs ++ x ∷ [])) (sym same) (keeps p old.floor ps xs ones low (omega (arith, len, floor)) (over_keeps hash old p ps xs stands)))

-- a tree whose rows have grown stands for the same
pub over_grown : (hash : Hash) (old new : Levels) → new.size ≡ old.size → new.floor ≡ old.floor → Grown old.rows new.rows → (p : ℕ) (ps xs : List (List ℕ)) → StandsOver hash old p ps xs → StandsOver hash new p ps xs
over_grown hash old new size floor grown p ps xs stands =
    over_of hash new p ps xs (over_ones hash old p ps xs stands) (omega (arith, floor, over_floor hash old p ps xs stands)) (over_size hash old p ps xs stands ∙ sym size)
    (subst (λ f. KeepsOver hash p f new.rows ps xs) (sym floor) (grown_over hash p old.floor old.rows new.rows ps xs grown (over_keeps hash old p ps xs stands)))

-- and so does one that has forgotten
pub over_forgot : (hash : Hash) (old new : Levels) → old.floor ≤ new.floor → new.size ≡ old.size → Forgot old.floor new.floor old.rows new.rows → (p : ℕ) (ps xs : List (List ℕ)) → StandsOver hash old p ps xs → StandsOver hash new p ps xs
over_forgot hash old new le size forgot p ps xs stands =
    let low = over_floor hash old p ps xs stands in
    over_of hash new p ps xs (over_ones hash old p ps xs stands) (omega (arith, low, le)) (over_size hash old p ps xs stands ∙ sym size)
    (forgot_over hash p old.floor new.floor old.rows new.rows ps xs low le forgot (over_keeps hash old p ps xs stands))

-- a tree made from peaks
pub over_peaks : (hash : Hash) (tree : Levels) (p : ℕ) (ps : List (List ℕ)) → tree.size ≡ p → tree.floor ≡ p → length ps ≡ count_ones p → KeepsOver hash p p tree.rows ps [] → StandsOver hash tree p ps []
over_peaks hash tree p ps size floor ones keeps =
    over_of hash tree p ps [] ones (omega (arith, floor)) (omega (arith, size)) (subst (λ f. KeepsOver hash p f tree.rows ps []) (sym floor) keeps)

-- the digest that is there
digest_of : Option (List ℕ) → List ℕ
digest_of None = []
digest_of (Some d) = d

module _ (hash : Hash) (ps : List (List ℕ)) (p : ℕ) (cs : List (List ℕ)) (d : List ℕ) (ones : length ps ≡ count_ones p) where
  -- the root over some leaves
  pub over_some : Some d ≡ root_over hash ps p cs → d ≡ root_from hash ps p cs
  unfolding root_over digest_of
  over_some is = elim (cases_eq (p + length cs) 0) [
    | inl none ↦
        let empty : root_over hash ps p cs ≡ None = rw (eq-eqb (p + length cs) 0 none) refl in
        absurd (none-some d (sym (is ∙ empty)))
    | inr some ↦
        let there : root_over hash ps p cs ≡ Some (root_from hash ps p cs) = rw (ne_eqb (p + length cs) 0 some) refl in
        ap digest_of (is ∙ there)
  ]

  -- and over none
  pub over_none : None ≡ root_over hash ps p cs → d ≡ hash [] → d ≡ root_from hash ps p cs
  unfolding root_over
  over_none is empty = elim (cases_eq (p + length cs) 0) [
    | inl none ↦
        let few : count_ones 0 ≡ 0 = omega (arith, ones_le_self 0) in
        let zero_p : p ≡ 0 = omega (arith, none) in
        let no_peaks : ps ≡ [] = nil_from_length ps (ones ∙ ap (λ j. count_ones j) zero_p ∙ few) in
        let no_leaves : cs ≡ [] = nil_from_length cs (omega (arith, none)) in
        empty ∙ sym (ap₂ (λ t j. root_from hash t j cs) no_peaks zero_p ∙ ap (root_from hash [] 0) no_leaves ∙ from_none hash [] ∙ root_none hash)
    | inr some ↦
        let there : root_over hash ps p cs ≡ Some (root_from hash ps p cs) = rw (ne_eqb (p + length cs) 0 some) refl in
        absurd (none-some (root_from hash ps p cs) (is ∙ there))
  ]

-- a kept leaf is that behind the peaks
pub leaf_over : (p floor place n : ℕ) (row : Row) (ps xs : List (List ℕ)) → length ps ≡ count_ones p → p ≤ floor → floor ≤ n → row.nodes ≡ drop (first_of floor - first_of p) (last_peak p ps ++ xs) → place + first_of floor ≡ n
    → get_or row.nodes place [] ≡ get_or xs (n - p) []
leaf_over p floor place n row ps xs ones low above is at =
    let one : length (last_peak p ps) ≡ p % 2 = length-last_peak ps p ones in
    ap (λ t. get_or t place []) is ∙ get_or-drop (first_of floor - first_of p) (last_peak p ps ++ xs) place []
    ∙ ap (λ j. get_or (last_peak p ps ++ xs) j []) (let same : first_of floor - first_of p + place ≡ n - first_of p = omega (arith, at, low) in same)
    ∙ get_or-append_right (last_peak p ps) xs (p % 2) (n - first_of p) [] one (omega (arith, low, above))
    ∙ ap (λ j. get_or xs j []) (let same : n - first_of p - p % 2 ≡ n - p = omega arith in same)
