-- Who is missing depends on who is needed, and not on how often or in which order.
use Rattle.std.specs.List.{reduce, fold}
use Rattle.std.specs.Prelude.{Bool, true, false, cond, not, filter, min, nat_le, Some, ◌==◌}
use Rattle.std.proofs.Common.{◌≡◌, ℕ, ◌≤◌, ◌||◌, ◌&&◌, List, [], ◌∷◌, refl, sym, ◌∙◌, ap, arith}
use Rattle.std.proofs.lemmas.Bool.{true≢false, eqb-true, eq-eqb, leb-true, leb-false, false_from_ne_true}
use Rattle.journal_record.specs.declared.approval.Approval.{Approval}
use Rattle.member_book.specs.Approvals.{approves, least_missing}
use Rattle.ledger_model.specs.Needs.{is_among, HaveSame}

fold_in : (d : ℕ) (ns : List ℕ) → ((fold min d ns == d) || is_among (fold min d ns) ns) ≡ true
fold_in d [] = ap (λ v. v || false) (eq-eqb d d refl)
fold_in d (n ∷ ns) =
    let later = fold_in (min d n) ns in
    let least = fold min (min d n) ns in
    elim (is_among least ns) as (λ v. is_among least ns ≡ v → ((least == d) || ((n == least) || v)) ≡ true) [
      | true ↦ λ is. both (least == d) (n == least)
      | false ↦ λ none.
          let at : least ≡ min d n = eqb-true least (min d n) (one (least == min d n) (ap (λ v. (least == min d n) || v) (sym none) ∙ later)) in
          elim (least == d) as (λ v. (least == d) ≡ v → (v || ((n == least) || false)) ≡ true) [
            | true ↦ λ _. refl
            | false ↦ λ other.
                let same : n ≡ least = by_min other at in
                ap (λ v. v || false) (eq-eqb n least same)
          ] refl
    ] refl
  where
    both : (v w : Bool) → (v || (w || true)) ≡ true
    both true w = refl
    both false true = refl
    both false false = refl

    one : (v : Bool) → (v || false) ≡ true → v ≡ true
    one true is = refl
    one false is = absurd (true≢false (sym is))

    by_min : (fold min (min d n) ns == d) ≡ false → fold min (min d n) ns ≡ min d n → n ≡ fold min (min d n) ns
    by_min other at = elim (nat_le d n) as (λ v. nat_le d n ≡ v → n ≡ fold min (min d n) ns) [
      | true ↦ λ le.
          let small = leb-true d n le in
          absurd (true≢false (sym (eq-eqb (fold min (min d n) ns) d (omega (arith, at, small))) ∙ other))
      | false ↦ λ gt.
          let great = leb-false d n gt in
          omega (arith, at, great)
    ] refl

fold_low : (d : ℕ) (ns : List ℕ) → fold min d ns ≤ d
fold_low d [] = omega arith
fold_low d (n ∷ ns) = omega (arith, fold_low (min d n) ns)

fold_least : (d : ℕ) (ns : List ℕ) (k : ℕ) → is_among k ns ≡ true → fold min d ns ≤ k
fold_least d [] k is = absurd (true≢false (sym is))
fold_least d (n ∷ ns) k is = elim (n == k) as (λ v. (n == k) ≡ v → (v || is_among k ns) ≡ true → fold min (min d n) ns ≤ k) [
  | true ↦ λ same _. omega (arith, eqb-true n k same, fold_low (min d n) ns)
  | false ↦ λ other more. fold_least (min d n) ns k more
] refl is

reduce_same : (xs ys : List ℕ) → HaveSame xs ys → reduce min xs ≡ reduce min ys
reduce_same [] [] same = refl
reduce_same [] (y ∷ ys) same = absurd (true≢false (sym (same y ∙ ap (λ v. v || is_among y ys) (eq-eqb y y refl))))
reduce_same (x ∷ xs) [] same = absurd (true≢false (sym (ap (λ v. v || is_among x xs) (eq-eqb x x refl)) ∙ same x))
reduce_same (x ∷ xs) (y ∷ ys) same =
    let a = fold min x xs in
    let b = fold min y ys in
    let a_in : is_among a (x ∷ xs) ≡ true = flip x a xs ∙ fold_in x xs in
    let b_in : is_among b (y ∷ ys) ≡ true = flip y b ys ∙ fold_in y ys in
    let ab : b ≤ a = least y ys a (sym (same a) ∙ a_in) in
    let ba : a ≤ b = least x xs b (same b ∙ b_in) in
    let eq : a ≡ b = omega (arith, ab, ba) in
    ap Some eq
  where
    flip : (d n : ℕ) (ns : List ℕ) → ((d == n) || is_among n ns) ≡ ((n == d) || is_among n ns)
    flip d n ns = ap (λ v. v || is_among n ns) (turn d n) where
      turn : (d n : ℕ) → (d == n) ≡ (n == d)
      turn d n = elim (d == n) as (λ v. (d == n) ≡ v → v ≡ (n == d)) [
        | true ↦ λ is. sym (eq-eqb n d (sym (eqb-true d n is)))
        | false ↦ λ is. sym (false_from_ne_true (n == d) (λ eq. true≢false (sym (eq-eqb d n (sym (eqb-true n d eq))) ∙ is)))
      ] refl

    least : (d : ℕ) (ns : List ℕ) (k : ℕ) → is_among k (d ∷ ns) ≡ true → fold min d ns ≤ k
    least d ns k is = elim (d == k) as (λ v. (d == k) ≡ v → (v || is_among k ns) ≡ true → fold min d ns ≤ k) [
      | true ↦ λ same _. omega (arith, eqb-true d k same, fold_low d ns)
      | false ↦ λ other more. fold_least d ns k more
    ] refl is

pub filtered_in : (p : ℕ → Bool) (n : ℕ) (ns : List ℕ) → is_among n (filter p ns) ≡ (p n && is_among n ns)
filtered_in p n [] = by_p (p n) where
  by_p : (v : Bool) → false ≡ (v && false)
  by_p true = refl
  by_p false = refl
filtered_in p n (m ∷ ns) =
    let later = filtered_in p n ns in
    elim (m == n) as (λ v. (m == n) ≡ v → is_among n (cond (p m) (m ∷ filter p ns) (filter p ns)) ≡ (p n && (v || is_among n ns))) [
      | true ↦ λ same. let is : m ≡ n = eqb-true m n same in
          elim (p m) as (λ v. p m ≡ v → is_among n (cond v (m ∷ filter p ns) (filter p ns)) ≡ (p n && true)) [
            | true ↦ λ yes_p. ap (λ v. v || is_among n (filter p ns)) same ∙ sym (ap (λ v. v && true) (ap p (sym is) ∙ yes_p))
            | false ↦ λ no_p. later ∙ ap (λ v. v && is_among n ns) (ap p (sym is) ∙ no_p) ∙ sym (ap (λ v. v && true) (ap p (sym is) ∙ no_p))
          ] refl
      | false ↦ λ other. elim (p m) as (λ v. is_among n (cond v (m ∷ filter p ns) (filter p ns)) ≡ (p n && is_among n ns)) [
        | true ↦ ap (λ v. v || is_among n (filter p ns)) other ∙ later
        | false ↦ later
      ]
    ] refl

pub missing_same : (given : List Approval) (xs ys : List ℕ) → HaveSame xs ys → least_missing given xs ≡ least_missing given ys
missing_same given xs ys same =
    reduce_same (filter (λ member. not (approves given member)) xs) (filter (λ member. not (approves given member)) ys)
    (λ n. filtered_in (λ member. not (approves given member)) n xs ∙ ap (λ v. not (approves given n) && v) (same n) ∙ sym (filtered_in (λ member. not (approves given member)) n ys))
