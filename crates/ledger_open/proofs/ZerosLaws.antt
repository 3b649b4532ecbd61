-- Zeros in place of some contents of a file, one after the other.
use Rattle.std.specs.List.{Contains}
use Rattle.std.specs.Prelude.{slice_get}
use Rattle.std.proofs.Common.{◌≡◌, ℕ, zero, suc, ◌+◌, ◌-◌, ◌≤◌, ◌<◌, Bool, true, false, cond, List, [], ◌∷◌, ◌++◌, length, take, drop, replicate, Some, refl, sym, ◌∙◌, ap, subst, arith, append_assoc, append-nil, length-append, length-take, length-drop}
use Rattle.std.proofs.lemmas.List.{take_all, take_at, drop_at, drop-drop, take-append-drop, length-replicate}
use Rattle.std.proofs.lemmas.List.Elements.{All-head, All-tail, All-weaker, All-contains}
use Rattle.std.proofs.lemmas.Option.{none-some, slice_get_within, get_or_from_slice_get}
use Rattle.ledger_disk.specs.Disk.{overlay}
use Rattle.ledger_disk.specs.Guards.{Outside}
use Rattle.ledger_open.specs.Erasing.{AreBetween, ErasesSome, with_zeros, places_of}
use Rattle.ledger_open.specs.Standing.{AreZeros}
use Rattle.block_file.specs.declared.place.PlaceAt.{PlaceAt}
use Rattle.ledger_open.proofs.RestLaws.{outside_wider, outside_same, outside_more}

-- ---- zeros in one place

pub zeros_outside : (at n : ℕ) (file : List ℕ) → at + n ≤ length file → Outside at n file (overlay at (replicate n 0) file) × AreZeros (take n (drop at (overlay at (replicate n 0) file)))
zeros_outside at n file le =
    let middle : length (replicate {A = ℕ} n 0) ≡ n = length-replicate n 0 in
    let is : overlay at (replicate n 0) file ≡ take at file ++ (replicate n 0 ++ drop (at + n) file) =
    append_assoc (take at file) (replicate n 0) (drop (at + length (replicate {A = ℕ} n 0)) file) ∙ ap (λ (k : ℕ). take at file ++ (replicate n 0 ++ drop (at + k) file)) middle in
    let front : length (take at file) ≡ at = omega (arith, length-take at file, le) in
    let read : take n (drop at (take at file ++ (replicate n 0 ++ drop (at + n) file))) ≡ replicate n 0 =
    ap (λ (l : List ℕ). take n l) (drop_at (take at file) (replicate n 0 ++ drop (at + n) file) at front) ∙ take_at (replicate n 0) (drop (at + n) file) n middle in
    subst (λ (l : List ℕ). Outside at n file l × AreZeros (take n (drop at l))) (sym is) (
      record {
        size = omega (arith, front, middle, le, length-drop (at + n) file, length-append (take at file) (replicate n 0 ++ drop (at + n) file), length-append (replicate n 0) (drop (at + n) file));
        before = take_at (take at file) (replicate n 0 ++ drop (at + n) file) at front;
        after =
            ap (λ (l : List ℕ). drop (at + n) l) (sym (append_assoc (take at file) (replicate n 0) (drop (at + n) file)))
            ∙ drop_at (take at file ++ replicate n 0) (drop (at + n) file) (at + n) (omega (arith, front, middle, length-append (take at file) (replicate n 0)));
      },
      subst AreZeros (sym read) (ap (λ (k : ℕ). replicate k 0) (sym middle)),
    )

pub zeros_same : (at n : ℕ) (file : List ℕ) → at + n ≤ length file → AreZeros (take n (drop at file)) → overlay at (replicate n 0) file ≡ file
zeros_same at n file le zeros =
    let long : length (take n (drop at file)) ≡ n = omega (arith, le, length-take n (drop at file), length-drop at file) in
    let is : replicate n 0 ≡ take n (drop at file) = ap (λ (k : ℕ). replicate k 0) (sym long) ∙ sym zeros in
    ap (λ (l : List ℕ). overlay at l file) is
    ∙ ap (λ (k : ℕ). (take at file ++ take n (drop at file)) ++ drop (at + k) file) long
    ∙ append_assoc (take at file) (take n (drop at file)) (drop (at + n) file)
    ∙ ap (λ (l : List ℕ). take at file ++ (take n (drop at file) ++ l)) (sym (drop-drop n at file))
    ∙ ap (λ (l : List ℕ). take at file ++ l) (take-append-drop n (drop at file))
    ∙ take-append-drop at file

-- ---- in several places

pub with_more : (ps qs : List PlaceAt) (file : List ℕ) → with_zeros (ps ++ qs) file ≡ with_zeros qs (with_zeros ps file)
with_more [] qs file = refl
with_more (p ∷ ps) qs file = with_more ps qs (overlay p.content_at (replicate p.content_len 0) file)

-- the file in front of and behind these places is as it was
pub zeros_between : (low high : ℕ) (ps : List PlaceAt) (file : List ℕ) → AreBetween low high ps → high ≤ length file → Outside low (high - low) file (with_zeros ps file)
zeros_between low high [] file all le = outside_same low (high - low) file
zeros_between low high (p ∷ ps) file all le =
    let first = All-head (λ (q : PlaceAt). (low ≤ q.content_at) × (q.content_at + q.content_len ≤ high)) p ps all in
    let one = (zeros_outside p.content_at p.content_len file (omega (arith, first.1, le))).0 in
    outside_more low (high - low) file _ _ (outside_wider low high p.content_at p.content_len file _ first.0 first.1 one)
    (zeros_between low high ps _ (All-tail (λ (q : PlaceAt). (low ≤ q.content_at) × (q.content_at + q.content_len ≤ high)) p ps all) (omega (arith, le, one.size)))

pub some_between : (low high : ℕ) (places : List PlaceAt) (old new : List ℕ) → ErasesSome places old new → AreBetween low high places → high ≤ length old → Outside low (high - low) old new
some_between low high places old new erases all le =
    subst (Outside low (high - low) old) (sym erases.is)
    (zeros_between low high erases.some old (All-weaker (Contains places) (λ (q : PlaceAt). (low ≤ q.content_at) × (q.content_at + q.content_len ≤ high)) (λ q there. All-contains (λ (q : PlaceAt). (low ≤ q.content_at) × (q.content_at + q.content_len ≤ high)) places q all there) erases.some erases.listed) le)

-- ---- those of some journals

take_next : (i : ℕ) (ps : List PlaceAt) (p : PlaceAt) → slice_get ps i ≡ Some p → take (i + 1) ps ≡ take i ps ++ p ∷ []
take_next i [] p is = absurd (none-some p is)
take_next zero (q ∷ ps) p is = let same : q ≡ p = cc is in ap (λ (x : PlaceAt). x ∷ []) same
take_next (suc i) (q ∷ ps) p is = let at : suc i + 1 ≡ suc (i + 1) = omega arith in ap (λ (n : ℕ). take n (q ∷ ps)) at ∙ ap (λ (l : List PlaceAt). q ∷ l) (take_next i ps p is)

places_next : (is : ℕ → Bool) (first : ℕ) (ps : List PlaceAt) (p : PlaceAt) → places_of is first (ps ++ p ∷ []) ≡ places_of is first ps ++ cond (is (first + length ps)) (p ∷ []) []
places_next is first [] p = let at : first ≡ first + 0 = omega arith in ap (λ (n : ℕ). cond (is n) (p ∷ []) []) at
places_next is first (q ∷ ps) p =
    let more = places_next is (first + 1) ps p in
    let at : first + 1 + length ps ≡ first + length (q ∷ ps) = omega arith in
    let here : places_of is (first + 1) (ps ++ p ∷ []) ≡ places_of is (first + 1) ps ++ cond (is (first + length (q ∷ ps))) (p ∷ []) [] =
    more ∙ ap (λ (n : ℕ). places_of is (first + 1) ps ++ cond (is n) (p ∷ []) []) at in
    elim (is first) as (λ v. cond v (q ∷ places_of is (first + 1) (ps ++ p ∷ [])) (places_of is (first + 1) (ps ++ p ∷ [])) ≡ cond v (q ∷ places_of is (first + 1) ps) (places_of is (first + 1) ps) ++ cond (is (first + length (q ∷ ps))) (p ∷ []) []) [
      | true ↦ ap (λ (l : List PlaceAt). q ∷ l) here
      | false ↦ here
    ]

-- zeros in place of the first contents of these, where they are of journals whose numbers are such
abbrev pub zeros_to : (ℕ → Bool) → ℕ → ℕ → List PlaceAt → List ℕ → List ℕ
zeros_to is first i ps file = with_zeros (places_of is first (take i ps)) file

module _ (is : ℕ → Bool) (first i : ℕ) (ps : List PlaceAt) (p : PlaceAt) (got : slice_get ps i ≡ Some p) where
  next_is : (v : Bool) → is (first + i) ≡ v → places_of is first (take (i + 1) ps) ≡ places_of is first (take i ps) ++ cond v (p ∷ []) []
  next_is v at =
      let there : first + length (take i ps) ≡ first + i = omega (arith, length-take i ps, slice_get_within ps i p got) in
      ap (places_of is first) (take_next i ps p got) ∙ places_next is first (take i ps) p ∙ ap (λ (w : Bool). places_of is first (take i ps) ++ cond w (p ∷ []) []) (ap is there ∙ at)

  pub zeroed_next : (file : List ℕ) → is (first + i) ≡ true → zeros_to is first (i + 1) ps file ≡ overlay p.content_at (replicate p.content_len 0) (zeros_to is first i ps file)
  zeroed_next file at = ap (λ (l : List PlaceAt). with_zeros l file) (next_is true at) ∙ with_more (places_of is first (take i ps)) (p ∷ []) file

  pub left_next : (file : List ℕ) → is (first + i) ≡ false → zeros_to is first (i + 1) ps file ≡ zeros_to is first i ps file
  left_next file at = ap (λ (l : List PlaceAt). with_zeros l file) (next_is false at ∙ append-nil (places_of is first (take i ps)))

-- where none of those between two is such, there are no more
over : (is : ℕ → Bool) (first i j : ℕ) (ps : List PlaceAt) → i ≤ j → ((n : ℕ) → i ≤ n → n < j → is (first + n) ≡ false) → places_of is first (take j ps) ≡ places_of is first (take i ps)
over is first zero zero ps le none = refl
over is first zero (suc j) [] le none = refl
over is first zero (suc j) (p ∷ ps) le none =
    let here : is first ≡ false = ap is (let at : first ≡ first + 0 = omega arith in at) ∙ none 0 (omega arith) (omega arith) in
    ap (λ (v : Bool). cond v (p ∷ places_of is (first + 1) (take j ps)) (places_of is (first + 1) (take j ps))) here
    ∙ over is (first + 1) zero j ps (omega arith) (λ n low high. ap is (let at : first + 1 + n ≡ first + suc n = omega arith in at) ∙ none (suc n) (omega arith) (omega (arith, high)))
over is first (suc i) zero ps le none = absurd (omega (arith, le))
over is first (suc i) (suc j) [] le none = refl
over is first (suc i) (suc j) (p ∷ ps) le none =
    let more = over is (first + 1) i j ps (omega (arith, le)) (λ n low high. ap is (let at : first + 1 + n ≡ first + suc n = omega arith in at) ∙ none (suc n) (omega (arith, low)) (omega (arith, high))) in
    elim (is first) as (λ v. cond v (p ∷ places_of is (first + 1) (take j ps)) (places_of is (first + 1) (take j ps)) ≡ cond v (p ∷ places_of is (first + 1) (take i ps)) (places_of is (first + 1) (take i ps))) [
      | true ↦ ap (λ (l : List PlaceAt). p ∷ l) more
      | false ↦ more
    ]

pub zeros_over : (is : ℕ → Bool) (first i j : ℕ) (ps : List PlaceAt) (file : List ℕ) → i ≤ j → ((n : ℕ) → i ≤ n → n < j → is (first + n) ≡ false) → zeros_to is first j ps file ≡ zeros_to is first i ps file
zeros_over is first i j ps file le none = ap (λ (l : List PlaceAt). with_zeros l file) (over is first i j ps le none)

pub zeros_all : (is : ℕ → Bool) (first i : ℕ) (ps : List PlaceAt) (file : List ℕ) → length ps ≤ i → zeros_to is first i ps file ≡ with_zeros (places_of is first ps) file
zeros_all is first i ps file le = ap (λ (l : List PlaceAt). with_zeros (places_of is first l) file) (take_all i ps le)

-- where there is none, the file is as it was
none_of : (is : ℕ → Bool) → ((n : ℕ) → is n ≡ false) → (first : ℕ) (ps : List PlaceAt) → places_of is first ps ≡ []
none_of is none first [] = refl
none_of is none first (p ∷ ps) = ap (λ (v : Bool). cond v (p ∷ places_of is (first + 1) ps) (places_of is (first + 1) ps)) (none first) ∙ none_of is none (first + 1) ps

pub zeros_none : (is : ℕ → Bool) → ((n : ℕ) → is n ≡ false) → (first : ℕ) (ps : List PlaceAt) (file : List ℕ) → with_zeros (places_of is first ps) file ≡ file
zeros_none is none first ps file = ap (λ (l : List PlaceAt). with_zeros l file) (none_of is none first ps)

pub place_there : (i : ℕ) (ps : List PlaceAt) → i < length ps → (p : PlaceAt) × (slice_get ps i ≡ Some p)
place_there i [] lt = absurd (omega (arith, lt))
place_there zero (p ∷ ps) lt = (p, refl)
place_there (suc i) (p ∷ ps) lt = place_there i ps (omega (arith, lt))

pub place_listed : (ps : List PlaceAt) (i : ℕ) (p : PlaceAt) → slice_get ps i ≡ Some p → Contains ps p
place_listed ps i p is = (i, slice_get_within ps i p is, get_or_from_slice_get ps i p p is)
