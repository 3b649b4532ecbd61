-- Flat bytes as pieces of one width.
use Rattle.std.proofs.Common.{◌≡◌, ℕ, zero, suc, ◌+◌, ◌-◌, ◌*◌, ◌/◌, ◌%◌, ◌<◌, ◌≤◌, List, [], ◌∷◌, ◌++◌, length, take, drop, All, refl, sym, ap, ◌∙◌, ap₂, arith, length-append, length-drop, length-take-le, take-take, drop-drop, take_all, take-append-drop, take_at, drop_at, take-add, mul-div_cancel, div-mul-le_self, div-add-mod', mod-lt, suc-mul, one-mul, add-mul, mul-le-mul_right}
use Rattle.std.proofs.Math.Nat.{mul-mod_left, mod_self, div_self, add-mod_left}
use Rattle.std.proofs.lemmas.Nat.{div-mul-add, mod-mul-add, le-div}
use Rattle.std.proofs.lemmas.List.{drop-take}
use Rattle.std.proofs.lemmas.List.Elements.{All-nil, All-cons, All-head, All-tail}
use Rattle.std.specs.List.{concat}
use Rattle.tree_model.specs.Tree.{Hash, leaf, mth, pieces, cut}
use Rattle.tree_model.proofs.Levels.{root_none, root_one}

-- a number without some of its whole widths
sub-widths : (n q k w r : ℕ) → k ≤ q → q * w + r ≡ n → n - k * w ≡ (q - k) * w + r
sub-widths n q k w r le is =
    let parts : q ≡ k + (q - k) = omega arith in
    let widths : q * w ≡ k * w + (q - k) * w = ap (λ t. t * w) parts ∙ add-mul k (q - k) w in
    omega (arith, widths)

-- a whole number of widths less leaves as many pieces less
pub div-sub_widths : (n k w : ℕ) → 0 < w → k ≤ n / w → (n - k * w) / w ≡ n / w - k
div-sub_widths n k w wide le =
    ap (λ m. m / w) (sub-widths n (n / w) k w (n % w) le (div-add-mod' n w)) ∙ div-mul-add (n / w - k) w (n % w) (mod-lt n wide)

-- a whole number of widths less leaves the same rest
pub mod-sub_widths : (n k w : ℕ) → 0 < w → k ≤ n / w → (n - k * w) % w ≡ n % w
mod-sub_widths n k w wide le =
    ap (λ m. m % w) (sub-widths n (n / w) k w (n % w) le (div-add-mod' n w)) ∙ mod-mul-add (n / w - k) w (n % w) (mod-lt n wide)

-- no more widths than a number holds do not pass it
pub widths_le : (n k w : ℕ) → k ≤ n / w → k * w ≤ n
widths_le n k w le = omega (arith, mul-le-mul_right w le, div-mul-le_self n w)

-- a number with no rest is its whole widths
pub whole_is : (n w : ℕ) → n % w ≡ 0 → n / w * w ≡ n
whole_is n w whole = omega (arith, div-add-mod' n w)

-- there are as many pieces as are asked for
pub length-pieces : (n w : ℕ) (b : List ℕ) → length (pieces n w b) ≡ n
unfolding pieces
length-pieces zero w b = refl
length-pieces (suc n) w b = ap suc (length-pieces n w (drop w b))

-- there are as many pieces as fit
pub length-cut : (w : ℕ) (b : List ℕ) → length (cut w b) ≡ length b / w
unfolding cut
length-cut w b = length-pieces (length b / w) w b

-- a cut by the number of its pieces
pub cut_is : (n w : ℕ) (b : List ℕ) → length b / w ≡ n → cut w b ≡ pieces n w b
unfolding cut
cut_is n w b count = ap (λ j. pieces j w b) count

-- the front of the pieces
pub take-pieces : (k n w : ℕ) (b : List ℕ) → k ≤ n → take k (pieces n w b) ≡ pieces k w b
unfolding pieces
take-pieces zero n w b le = refl
take-pieces (suc k) zero w b le = absurd (omega arith)
take-pieces (suc k) (suc n) w b le = ap (λ t. take w b ∷ t) (take-pieces k n w (drop w b) (omega arith))

-- the back of the pieces
pub drop-pieces : (k n w : ℕ) (b : List ℕ) → k ≤ n → drop k (pieces n w b) ≡ pieces (n - k) w (drop (k * w) b)
unfolding pieces
drop-pieces zero n w b le =
    let none : 0 * w ≡ 0 = omega arith in
    let all : n - 0 ≡ n = omega arith in
    rw (none, all) refl
drop-pieces (suc k) zero w b le = absurd (omega arith)
drop-pieces (suc k) (suc n) w b le =
    let fewer : suc n - suc k ≡ n - k = omega arith in
    let past : suc k * w ≡ w + k * w = omega (arith, suc-mul k w) in
    rw (fewer, past) (drop-pieces k n w (drop w b) (omega arith) ∙ ap (pieces (n - k) w) (drop-drop (k * w) w b))

-- pieces are read from their own bytes alone
pub pieces-take : (n w m : ℕ) (b : List ℕ) → n * w ≤ m → pieces n w (take m b) ≡ pieces n w b
unfolding pieces
pieces-take zero w m b le = refl
pieces-take (suc n) w m b le =
    let more : n * w + w ≤ m = omega (arith, suc-mul n w) in
    let rest : m ≡ w + (m - w) = omega arith in
    let front : take w (take m b) ≡ take w b = take-take w m b (omega arith) in
    let back : drop w (take m b) ≡ take (m - w) (drop w b) = ap (λ j. drop w (take j b)) rest ∙ drop-take w (m - w) b in
    ap (λ t. t ∷ pieces n w (drop w (take m b))) front
    ∙ ap (λ t. take w b ∷ pieces n w t) back
    ∙ ap (λ t. take w b ∷ t) (pieces-take n w (m - w) (drop w b) (omega arith))

module _ (w : ℕ) (wide : 0 < w) where
  -- the length of the front bytes
  pub length-front : (k : ℕ) (b : List ℕ) → k ≤ length b / w → length (take (k * w) b) ≡ k * w
  length-front k b le = length-take-le (k * w) b (widths_le (length b) k w le)

  -- the front bytes hold as many pieces as were taken
  pub front_count : (k : ℕ) (b : List ℕ) → k ≤ length b / w → length (take (k * w) b) / w ≡ k
  front_count k b le = ap (λ n. n / w) (length-front k b le) ∙ mul-div_cancel k wide

  -- the front bytes are whole pieces
  pub front_whole : (k : ℕ) (b : List ℕ) → k ≤ length b / w → length (take (k * w) b) % w ≡ 0
  front_whole k b le = ap (λ n. n % w) (length-front k b le) ∙ mul-mod_left k w

  -- the bytes behind hold the other pieces
  pub back_count : (k : ℕ) (b : List ℕ) → k ≤ length b / w → length (drop (k * w) b) / w ≡ length b / w - k
  back_count k b le = ap (λ n. n / w) (length-drop (k * w) b) ∙ div-sub_widths (length b) k w wide le

  -- the bytes behind are whole pieces, where all of them are
  pub back_whole : (k : ℕ) (b : List ℕ) → k ≤ length b / w → length b % w ≡ 0 → length (drop (k * w) b) % w ≡ 0
  back_whole k b le whole = ap (λ n. n % w) (length-drop (k * w) b) ∙ mod-sub_widths (length b) k w wide le ∙ whole

  -- the first pieces are the cut of the front bytes
  pub take-cut : (k : ℕ) (b : List ℕ) → k ≤ length b / w → take k (cut w b) ≡ cut w (take (k * w) b)
  take-cut k b le =
      ap (take k) (cut_is (length b / w) w b refl) ∙ take-pieces k (length b / w) w b le
      ∙ sym (cut_is k w (take (k * w) b) (front_count k b le) ∙ pieces-take k w (k * w) b (omega arith))

  -- the other pieces are the cut of the bytes behind
  pub drop-cut : (k : ℕ) (b : List ℕ) → k ≤ length b / w → drop k (cut w b) ≡ cut w (drop (k * w) b)
  drop-cut k b le =
      ap (drop k) (cut_is (length b / w) w b refl) ∙ drop-pieces k (length b / w) w b le
      ∙ sym (cut_is (length b / w - k) w (drop (k * w) b) (back_count k b le))

  -- no bytes are no pieces
  pub cut-nil : cut w [] ≡ []
  unfolding cut pieces
  cut-nil = let none : 0 / w ≡ 0 = omega arith in rw none refl

  -- bytes of one width are one piece
  pub cut_one : (x : List ℕ) → length x ≡ w → cut w x ≡ x ∷ []
  unfolding pieces
  cut_one x is =
      let count : length x / w ≡ 1 = ap (λ n. n / w) is ∙ div_self wide in
      let all : length x ≤ w = omega arith in
      cut_is 1 w x count ∙ ap (λ t. t ∷ []) (take_all w x all)

  -- whole pieces in front are cut by themselves
  pub cut-append : (xs ys : List ℕ) → length xs % w ≡ 0 → cut w (xs ++ ys) ≡ cut w xs ++ cut w ys
  cut-append xs ys whole =
      let k : ℕ = length xs / w in
      let len : length xs ≡ k * w = sym (whole_is (length xs) w whole) in
      let le : k ≤ length (xs ++ ys) / w = le-div k (length (xs ++ ys)) w wide (omega (arith, length-append xs ys)) in
      sym (take-append-drop k (cut w (xs ++ ys)))
      ∙ ap (λ t. t ++ drop k (cut w (xs ++ ys))) (take-cut k (xs ++ ys) le ∙ ap (cut w) (take_at xs ys (k * w) len))
      ∙ ap (λ t. cut w xs ++ t) (drop-cut k (xs ++ ys) le ∙ ap (cut w) (drop_at xs ys (k * w) len))

  -- one piece more at the end
  pub cut_more : (xs last : List ℕ) → length xs % w ≡ 0 → length last ≡ w → cut w (xs ++ last) ≡ cut w xs ++ last ∷ []
  cut_more xs last whole is = cut-append xs last whole ∙ ap (λ t. cut w xs ++ t) (cut_one last is)

  -- pieces of one width, joined, are cut into the same pieces
  pub cut-concat : (xs : List (List ℕ)) → All (λ x. length x ≡ w) xs → cut w (concat xs) ≡ xs
  cut-concat [] each = cut-nil
  cut-concat (x ∷ xs) each =
      let is : length x ≡ w = All-head (λ y. length y ≡ w) x xs each in
      cut-append x (concat xs) (ap (λ n. n % w) is ∙ mod_self w)
      ∙ ap₂ (λ s t. s ++ t) (cut_one x is) (cut-concat xs (All-tail (λ y. length y ≡ w) x xs each))

  -- pieces of one width, joined, leave nothing over
  pub concat-whole : (xs : List (List ℕ)) → All (λ x. length x ≡ w) xs → length (concat xs) % w ≡ 0
  concat-whole [] each = let none : 0 % w ≡ 0 = omega arith in none
  concat-whole (x ∷ xs) each =
      let is : length x ≡ w = All-head (λ y. length y ≡ w) x xs each in
      let rest : length (concat xs) % w ≡ 0 = concat-whole xs (All-tail (λ y. length y ≡ w) x xs each) in
      ap (λ n. n % w) (length-append x (concat xs)) ∙ ap (λ n. (n + length (concat xs)) % w) is ∙ add-mod_left w (length (concat xs)) ∙ rest

  -- the tree over no whole piece
  pub mth_cut_none : (hash : Hash) (b : List ℕ) → length b / w ≡ 0 → mth hash (cut w b) ≡ hash []
  unfolding pieces
  mth_cut_none hash b none = ap (mth hash) (cut_is 0 w b none) ∙ root_none hash

  -- the tree over bytes that are one piece
  pub mth_cut_one : (hash : Hash) (b : List ℕ) → length b % w ≡ 0 → length b / w ≡ 1 → mth hash (cut w b) ≡ leaf hash b
  mth_cut_one hash b whole count =
      let is : length b ≡ w = sym (whole_is (length b) w whole) ∙ ap (λ n. n * w) count ∙ one-mul w in
      ap (mth hash) (cut_one b is) ∙ root_one hash (leaf hash b)

-- pieces in a row are the bytes that they were read from
concat-pieces : (n w : ℕ) (b : List ℕ) → concat (pieces n w b) ≡ take (n * w) b
unfolding pieces
concat-pieces zero w b = let none : 0 * w ≡ 0 = omega arith in rw none refl
concat-pieces (suc n) w b =
    let past : suc n * w ≡ w + n * w = omega (arith, suc-mul n w) in
    rw past (ap (λ t. take w b ++ t) (concat-pieces n w (drop w b)) ∙ sym (take-add w (n * w) b))

-- where nothing is left over, the pieces in a row are the bytes
pub concat-cut : (w : ℕ) (b : List ℕ) → length b % w ≡ 0 → concat (cut w b) ≡ b
unfolding cut
concat-cut w b whole =
    concat-pieces (length b / w) w b ∙ take_all (length b / w * w) b (omega (arith, whole_is (length b) w whole))

-- each piece has the width
pieces-width : (n w : ℕ) (b : List ℕ) → n * w ≤ length b → All (λ x. length x ≡ w) (pieces n w b)
unfolding pieces
pieces-width zero w b le = All-nil (λ x. length x ≡ w)
pieces-width (suc n) w b le =
    let more : w + n * w ≤ length b = omega (arith, suc-mul n w) in
    All-cons (λ x. length x ≡ w) (take w b) (pieces n w (drop w b)) (length-take-le w b (omega arith))
    (pieces-width n w (drop w b) (omega (arith, length-drop w b)))

-- each piece of a cut has the width
pub cut-width : (w : ℕ) (b : List ℕ) → All (λ x. length x ≡ w) (cut w b)
unfolding cut
cut-width w b = pieces-width (length b / w) w b (div-mul-le_self (length b) w)
