-- Lemmas on the purge to a base's own point, among the journals behind the base.
use Rattle.std.specs.Prelude.{Bool, true, false, cond, ◌==◌, ◌||◌, Option, Some, None}
use Rattle.std.specs.List.{list_any}
use Rattle.std.proofs.Common.{◌≡◌, ℕ, ◌≤◌, List, [], ◌∷◌, ◌++◌, refl, sym, ◌∙◌, ap, arith}
use Rattle.std.proofs.lemmas.Bool.{true≢false, and_parts, eqb-true}
use Rattle.std.proofs.lemmas.List.Folds.{list_any-append}
use Rattle.journal_record.specs.Entry.{Entry}
use Rattle.ledger_model.specs.Behind.{first_of, has_own_purge, is_purge_to}
use Rattle.ledger_model.specs.History.{is_purge, purge_point, greatest_point}
use Rattle.ledger_model.proofs.LawfulLaws.{two_points}
use Rattle.pseudo_genesis.specs.declared.base.Base.{Base}
use Rattle.ledger_book.specs.Steps.{reached_with}

-- a journal is the purge to this point
abbrev pub leads_to : ℕ → Entry → Bool
leads_to p e = is_purge_to p e.header

-- its point, where it is such a purge
pub point_is : (p : ℕ) (e : Entry) → leads_to p e ≡ true → purge_point e ≡ p
point_is p e is =
    let both = and_parts (is_purge e.header.kind) (e.header.a == p) is in
    ap (λ v. cond v e.header.a 0) both.0 ∙ eqb-true e.header.a p both.1

least_by : (p : ℕ) (e : Entry) (es : List Entry) (v : Bool) → leads_to p e ≡ v → (leads_to p e || list_any (leads_to p) es) ≡ true → (list_any (leads_to p) es ≡ true → p ≤ greatest_point es) → p ≤ greatest_point (e ∷ es)
least_by p e es true one is later = omega (arith, point_is p e one, two_points (e ∷ []) es)
least_by p e es false none is later =
    let least = later (sym (ap (λ v. v || list_any (leads_to p) es) none) ∙ is) in
    omega (arith, least, two_points (e ∷ []) es)

-- the point of a purge is at most the greatest
pub purge_least : (p : ℕ) (es : List Entry) → list_any (leads_to p) es ≡ true → p ≤ greatest_point es
purge_least p [] is = absurd (true≢false (sym is))
purge_least p (e ∷ es) is = least_by p e es (leads_to p e) refl is (purge_least p es)

-- where the purge to a base's own point is there, no purge is to a greater point in front of the base
pub own_least : (start : Option Base) (es : List Entry) → has_own_purge start es ≡ true → first_of start ≤ greatest_point es
own_least None es own = omega arith
own_least (Some b) es own = purge_least b.point es own

-- one of two holds, whichever comes first
or_swaps : (v w : Bool) → (v || (w || false)) ≡ (w || v)
or_swaps true true = refl
or_swaps true false = refl
or_swaps false true = refl
or_swaps false false = refl

or_true : (v : Bool) → (v || true) ≡ true
or_true true = refl
or_true false = refl

-- what holds is still so with a journal more
pub reached_still : (v w : Bool) → w ≡ true → (v || w) ≡ true
reached_still v w is = ap (λ x. v || x) is ∙ or_true v

-- whether it is there with a journal more
pub own_more : (start : Option Base) (es : List Entry) (j : Entry) → has_own_purge start (es ++ j ∷ []) ≡ reached_with j.header (first_of start) (has_own_purge start es)
own_more None es j = sym (or_true (is_purge_to 0 j.header))
own_more (Some b) es j = list_any-append (leads_to b.point) es (j ∷ []) ∙ or_swaps (list_any (leads_to b.point) es) (leads_to b.point j)

-- what leads to nothing isn't so
pub false_where : (v : Bool) → (v ≡ true → ⊥) → v ≡ false
false_where true never = absurd (never refl)
false_where false never = refl
