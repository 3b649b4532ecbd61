-- The purge to a base's point, among the journals behind it.
use Rattle.std.specs.Prelude.{true, false, cond, ◌==◌, ◌&&◌, ◌||◌, Option, Some, None}
use Rattle.std.specs.List.{list_any}
use Rattle.std.proofs.Common.{◌≡◌, ◌≢◌, ◌⊎◌, inl, inr, ℕ, ◌-◌, ◌<◌, ◌≤◌, Bool, List, [], ◌∷◌, ◌++◌, length, take, drop, refl, sym, ◌∙◌, ap, subst, arith}
use Rattle.std.proofs.lemmas.Bool.{true≢false, eq-eqb}
use Rattle.std.proofs.lemmas.List.{take-append-drop, drop-append-le}
use Rattle.std.proofs.lemmas.List.Folds.{list_any-append}
use Rattle.journal_record.specs.Entry.{Entry}
use Rattle.ledger_model.specs.History.{History, history, journals, size, point, is_purge, purge_point, greatest_point}
use Rattle.ledger_model.specs.Lawful.{AreLawful}
use Rattle.ledger_model.proofs.LawfulLaws.{two_points, take_few, point_below, front_from, lawful_from}
use Rattle.ledger_model.proofs.PointLaws.{points_few}
use Rattle.pseudo_genesis.specs.declared.base.Base.{Base}
use Rattle.ledger_open.specs.Standing.{floor_from, point_before}
use Rattle.ledger_open.specs.Starts.{HasOwnPurge}
use Rattle.ledger_book.proofs.OwnLaws.{leads_to, purge_least}
use Rattle.ledger_open.proofs.NextLaws.{lawful_front}

-- ---- one journal

-- a journal whose point is this one is such a purge, where that isn't 0
leads_there : (p : ℕ) (e : Entry) → purge_point e ≡ p → p ≢ 0 → leads_to p e ≡ true
leads_there p e at some = by (is_purge e.header.kind) refl where
  by : (v : Bool) → is_purge e.header.kind ≡ v → leads_to p e ≡ true
  by true is =
      let same : e.header.a ≡ p = sym (ap (λ v. cond v e.header.a 0) is) ∙ at in
      ap (λ v. v && (e.header.a == p)) is ∙ ap (λ n. e.header.a == n) (sym same) ∙ eq-eqb e.header.a e.header.a refl
  by false is = absurd (some (sym at ∙ ap (λ v. cond v e.header.a 0) is))

-- ---- some journals

greatest_by : (p : ℕ) (e : Entry) (es : List Entry) (v : Bool) → leads_to p e ≡ v → greatest_point (e ∷ es) ≡ p → p ≢ 0 → (greatest_point es ≡ p → list_any (leads_to p) es ≡ true) → (leads_to p e || list_any (leads_to p) es) ≡ true
greatest_by p e es true one at some later = ap (λ v. v || list_any (leads_to p) es) one
greatest_by p e es false none at some later =
    let other : purge_point e ≢ p = λ same. true≢false (sym (leads_there p e same some) ∙ none) in
    let rest : greatest_point es ≡ p = omega (arith, two_points (e ∷ []) es, at, other) in
    ap (λ v. v || list_any (leads_to p) es) none ∙ later rest

-- the greatest point, where it isn't 0, is that of a purge
pub greatest_leads : (p : ℕ) (es : List Entry) → greatest_point es ≡ p → p ≢ 0 → list_any (leads_to p) es ≡ true
greatest_leads p [] at some = absurd (some (sym at))
greatest_leads p (e ∷ es) at some = greatest_by p e es (leads_to p e) refl at some (λ rest. greatest_leads p es rest some)

-- .. and it stands behind that point
pub greatest_behind : (p : ℕ) (es : List Entry) → AreLawful es → greatest_point es ≡ p → p ≢ 0 → list_any (leads_to p) (drop p es) ≡ true
unfolding point
greatest_behind p es lawful at some =
    by (list_any (leads_to p) (take p es)) refl
  where
    front : List Entry
    front = take p es

    all : (list_any (leads_to p) front || list_any (leads_to p) (drop p es)) ≡ true
    all = sym (list_any-append (leads_to p) front (drop p es)) ∙ ap (list_any (leads_to p)) (take-append-drop p es) ∙ greatest_leads p es at some

    by : (v : Bool) → list_any (leads_to p) (take p es) ≡ v → list_any (leads_to p) (drop p es) ≡ true
    by false none = sym (ap (λ v. v || list_any (leads_to p) (drop p es)) none) ∙ all
    by true one =
        let least = purge_least p front one in
        let low : greatest_point front < p = point_below p 0 0 front (front_from 0 p es (lawful_from es lawful)) (take_few p es) (omega (arith, some)) in
        absurd (omega (arith, least, low))

-- some of a list's first ones are some of it
any_more : (f : Entry → Bool) (es fs : List Entry) → list_any f es ≡ true → list_any f (es ++ fs) ≡ true
any_more f es fs some = list_any-append f es fs ∙ ap (λ v. v || list_any f fs) some

-- the purge to the point, or to the point before the last journal, stands behind it
pub reaches : (h : History) (floor : ℕ) → AreLawful (journals h) → (floor ≡ point h) ⊎ (floor ≡ point_before h) → floor ≢ 0 → list_any (leads_to floor) (drop floor (journals h)) ≡ true
unfolding point
reaches h floor lawful (inl at) some = greatest_behind floor (journals h) lawful (sym at) some
reaches h floor lawful (inr at) some = by (take (size h - 1) (journals h)) refl where
  by : (es : List Entry) → es ≡ take (size h - 1) (journals h) → list_any (leads_to floor) (drop floor (journals h)) ≡ true
  by [] is = absurd (some (at ∙ ap greatest_point (sym is)))
  by (e ∷ es) is =
      let front = e ∷ es in
      let rest = drop (size h - 1) (journals h) in
      let parts : journals h ≡ front ++ rest = sym (take-append-drop (size h - 1) (journals h)) ∙ ap (λ (l : List Entry). l ++ rest) (sym is) in
      let own : AreLawful front = lawful_front front rest (omega arith) (subst AreLawful parts lawful) in
      let here : greatest_point front ≡ floor = ap greatest_point is ∙ sym at in
      let few : floor ≤ length front = let n = (points_few (history [] front) 0 own).0 in omega (arith, n, here) in
      ap (λ (l : List Entry). list_any (leads_to floor) (drop floor l)) parts
      ∙ ap (list_any (leads_to floor)) (drop-append-le floor front rest few)
      ∙ any_more (leads_to floor) (drop floor front) rest (greatest_behind floor front own here some)

-- ---- behind a base

pub first_reached : (start : Option Base) (es : List Entry) → HasOwnPurge start es → (floor_from start).first ≤ greatest_point es
first_reached None es own = omega arith
first_reached (Some b) es own = purge_least b.point es own
