-- Lemmas on the clues of a base: none is of zeros, as an index asks of those that it begins with.
use Rattle.std.specs.Cmp.Lexicographic.{slice_cmp}
use Rattle.std.specs.Ordering.{nat_cmp, is_lt, ordering_then}
use Rattle.std.specs.declared.cmp.Ordering.TheVariants.{Less, Equal, Greater}
use Rattle.std.specs.Prelude.{All, false, cond, zero, suc, max, nat_eq, replicate}
use Rattle.std.proofs.Common.{◌≡◌, ◌≢◌, ℕ, List, [], ◌∷◌, length, refl, sym, ◌∙◌, ap, subst, arith}
use Rattle.std.proofs.lemmas.Bool.{true≢false, le-ltb, eqb-true, false_from_ne_true}
use Rattle.std.proofs.lemmas.List.Elements.{All-nil, All-cons, All-head, All-tail}
use Rattle.ledger_bytes.specs.Digests.{zero_digest}
use Rattle.ledger_bytes.specs.declared.digest.Digest.{Digest}
use Rattle.clue_index.specs.Added.{Added, added_at_first, no_clue, with_floor}
use Rattle.clue_index.specs.Index as index
use Rattle.clue_index.specs.declared.state.ClueState.{ClueState}
use Rattle.pseudo_genesis.specs.Bases.{IsWide, AreStates, HasStateWidths, IsBase, HasWidths}
use Rattle.pseudo_genesis.specs.declared.base.Base.{Base}

-- no digest stands in front of zeros
never_below : (n : ℕ) (c : List ℕ) → length c ≡ n → is_lt (slice_cmp nat_cmp c (replicate n 0)) ≡ false
never_below zero [] wide = refl
never_below zero (x ∷ c) wide = absurd (omega (arith, wide))
never_below (suc n) [] wide = absurd (omega (arith, wide))
never_below (suc n) (zero ∷ c) wide = never_below n c (omega (arith, wide))
never_below (suc n) (suc x ∷ c) wide =
    ap (λ v. is_lt (ordering_then (cond v Less (cond (nat_eq (suc x) 0) Equal Greater)) (slice_cmp nat_cmp c (replicate n 0)))) (le-ltb (suc x) 0 (omega arith))
    ∙ ap (λ v. is_lt (ordering_then (cond false Less (cond v Equal Greater)) (slice_cmp nat_cmp c (replicate n 0)))) (false_from_ne_true (nat_eq (suc x) 0) (λ is. let bad : ⊥ = omega (arith, eqb-true (suc x) 0 is) in bad))

named : (p : ℕ) (before : Digest) (ss : List ClueState) → IsWide before → All HasStateWidths ss → AreStates p before ss → All (λ (s : ClueState). s.clue.0 ≢ no_clue) ss
named p before [] wide all are = All-nil (λ (s : ClueState). s.clue.0 ≢ no_clue)
named p before (s ∷ ss) wide all are =
    All-cons (λ (s : ClueState). s.clue.0 ≢ no_clue) s ss
    (λ same. true≢false (sym are.0.clue ∙ ap (λ (c : List ℕ). is_lt (slice_cmp nat_cmp before.0 c)) same ∙ never_below 32 before.0 wide))
    (named p s.clue ss (All-head HasStateWidths s ss all).clue (All-tail HasStateWidths s ss all) are.1)

base_named : (b : Base) → IsBase b → HasWidths b → All (λ (s : ClueState). s.clue.0 ≢ no_clue) b.clues
base_named b rules widths = named b.point zero_digest b.clues refl widths.clues rules.clues

-- an index that begins with them, and keeps no journal in front of the base's point
pub clues_begun : (b : Base) (given : List ClueState) (old new : index.KeptTrails) → IsBase b → HasWidths b → given ≡ b.clues → (All (λ (s : ClueState). s.clue.0 ≢ no_clue) given → index.StandsForTrails old (added_at_first given))
    → ((a : Added) → index.StandsForTrails old a → index.StandsForTrails new (with_floor (max a.floor b.point) a)) → index.StandsForTrails new (with_floor b.point (added_at_first b.clues))
clues_begun b given old new rules widths is begun dropped =
    let most : max 0 b.point ≡ b.point = omega arith in
    let start : index.StandsForTrails old (added_at_first b.clues) = subst (λ (l : List ClueState). index.StandsForTrails old (added_at_first l)) is (begun (subst (All (λ (s : ClueState). s.clue.0 ≢ no_clue)) (sym is) (base_named b rules widths))) in
    subst (λ n. index.StandsForTrails new (with_floor n (added_at_first b.clues))) most (dropped (added_at_first b.clues) start)
