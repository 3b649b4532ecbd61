-- Which blocks a file has of a history, and which of two files has them.
use Rattle.std.specs.Prelude.{All, Bool, true, false, ◌==◌, if◌then◌else◌, max}
use Rattle.std.proofs.Common.{◌≡◌, ◌⊎◌, inl, inr, ℕ, ◌+◌, ◌-◌, ◌<◌, ◌≤◌, List, [], ◌∷◌, ◌++◌, length, take, drop, refl, sym, ◌∙◌, ap, subst, arith, append-nil, length-append}
use Rattle.std.proofs.lemmas.Bool.{eq-eqb, true≢false}
use Rattle.std.proofs.lemmas.List.{take_at, drop_at, take-append-drop}
use Rattle.std.proofs.lemmas.List.Concat.{flat_map-append}
use Rattle.std.proofs.lemmas.List.Elements.{All-head, All-tail, All-take}
use Rattle.journal_record.specs.Entry.{Entry}
use Rattle.ledger_model.specs.History.{History, journals, journals_of, size, point, greatest_point}
use Rattle.ledger_model.specs.Lawful.{IsBlock, IsLawful}
use Rattle.ledger_model.proofs.LawfulLaws.{two_points}
use Rattle.ledger_model.proofs.PointLaws.{points_few, splits_at_point}
use Rattle.ledger_open.specs.Standing.{Parts, StandsBy, StandsFor, PairFor, hidden_before, point_before}

-- ---- the parts of a history

-- its journals are those of both parts
pub halves : (floor : ℕ) (h : History) → h.waiting ≡ [] → (x : Parts floor h) → journals h ≡ journals_of x.gone ++ journals_of x.kept
halves floor h none x =
    ap (λ (l : List Entry). journals_of h.closed ++ l) none ∙ append-nil (journals_of h.closed) ∙ ap (λ (bs : List (List Entry)). journals_of bs) x.are
    ∙ flat_map-append (λ (b : List Entry). b) x.gone x.kept

-- .. and those that are kept are the ones from the floor on
pub kept_from : (floor : ℕ) (h : History) → h.waiting ≡ [] → (x : Parts floor h) → journals_of x.kept ≡ drop floor (journals h)
kept_from floor h none x = sym (ap (drop floor) (halves floor h none x) ∙ drop_at (journals_of x.gone) (journals_of x.kept) floor x.at)

pub size_parts : (floor : ℕ) (h : History) → h.waiting ≡ [] → (x : Parts floor h) → size h ≡ floor + length (journals_of x.kept)
size_parts floor h none x = omega (arith, x.at, ap length (halves floor h none x), length-append (journals_of x.gone) (journals_of x.kept))

-- the blocks that are gone are blocks, and so each of them has a journal
pub first_ones : (floor : ℕ) (h : History) → All IsBlock h.closed → (x : Parts floor h) → All IsBlock x.gone
first_ones floor h all x = subst (All IsBlock) (ap (take (length x.gone)) x.are ∙ take_at x.gone x.kept (length x.gone) refl) (All-take IsBlock (length x.gone) h.closed all)

-- blocks fall into two parts with so many journals in one way
pub one_split : (g i k l : List (List Entry)) → All IsBlock g → All IsBlock i → g ++ k ≡ i ++ l → length (journals_of g) ≡ length (journals_of i) → (g ≡ i) × (k ≡ l)
one_split [] [] k l all other is at = (refl, is)
one_split [] (c ∷ cs) k l all other is at = absurd (omega (arith, at, (All-head IsBlock c cs other).some, length-append c (journals_of cs)))
one_split (b ∷ bs) [] k l all other is at = absurd (omega (arith, at, (All-head IsBlock b bs all).some, length-append b (journals_of bs)))
one_split (b ∷ bs) (c ∷ cs) k l all other is at =
    let same : b ≡ c = cc is in
    let more = one_split bs cs k l (All-tail IsBlock b bs all) (All-tail IsBlock c cs other) (ap (drop 1) is)
    (omega (arith, at, ap length same, length-append b (journals_of bs), length-append c (journals_of cs))) in
    (ap (λ (x : List Entry). x ∷ bs) same ∙ ap (λ (xs : List (List Entry)). c ∷ xs) more.0, more.1)

-- a history has its parts in one way
pub one_parts : (floor : ℕ) (h : History) → All IsBlock h.closed → (x y : Parts floor h) → (x.gone ≡ y.gone) × (x.kept ≡ y.kept)
one_parts floor h all x y = one_split x.gone y.gone x.kept y.kept (first_ones floor h all x) (first_ones floor h all y) (sym x.are ∙ y.are) (x.at ∙ sym y.at)

-- .. at the point there are such
pub parts_at_point : (h : History) → IsLawful h → h.waiting ≡ [] → Parts (point h) h
parts_at_point h lawful none =
    let s = splits_at_point h lawful none in
    record { gone = s.front; kept = s.behind; are = s.are; at = s.at }

-- no block is gone in front of journal 0
pub none_gone : (h : History) → All IsBlock h.closed → (x : Parts 0 h) → x.gone ≡ []
none_gone h all x = (one_parts 0 h all x (record { gone = []; kept = h.closed; are = refl; at = refl })).0

-- ---- where a file begins

pub none_before : (h : History) → point h ≡ 0 → point_before h ≡ 0
unfolding point
none_before h none =
    let all : greatest_point (journals h) ≡ 0 = none in
    let parts : greatest_point (journals h) ≡ max (greatest_point (take (size h - 1) (journals h))) (greatest_point (drop (size h - 1) (journals h))) =
    ap greatest_point (sym (take-append-drop (size h - 1) (journals h))) ∙ two_points (take (size h - 1) (journals h)) (drop (size h - 1) (journals h)) in
    omega (arith, all, parts)

pub begins_first : (floor : ℕ) (h : History) → point h ≡ 0 → (floor ≡ point h) ⊎ (floor ≡ point_before h) → floor ≡ 0
begins_first floor h none (inl at) = at ∙ none
begins_first floor h none (inr at) = at ∙ none_before h none

-- a file that stands for a history begins before its end
pub floor_few : (image : List ℕ) (h : History) (s : StandsFor image h) → s.floor < size h
floor_few image h s = by_floor s.begins where
  few : (point h < size h) × (point_before h < size h)
  few = points_few h (size h - 1) s.file.lawful.journals_are

  by_floor : (s.floor ≡ point h) ⊎ (s.floor ≡ point_before h) → s.floor < size h
  by_floor (inl at) = omega (arith, at, few.0)
  by_floor (inr at) = omega (arith, at, few.1)

pub stands_whole : (image : List ℕ) (h : History) (s : StandsFor image h) → s.floor ≡ point h → StandsBy (point h) (hidden_before h) image h
stands_whole image h s at = subst (λ (n : ℕ). StandsBy n (hidden_before h) image h) at s.file

-- ---- what the floor of a file is

-- ---- the generation of a file

early_by : (begins : Bool) (generation most : ℕ) → begins ≡ true → generation + 1 ≤ most → generation + (if begins then 0 else 1) + 1 ≤ most
early_by true generation most is le = omega (arith, le)
early_by false generation most is le = absurd (true≢false (sym is))

pub early_at : (floor at generation most : ℕ) → floor ≡ at → generation + 1 ≤ most → generation + (if floor == at then 0 else 1) + 1 ≤ most
early_at floor at generation most is le = early_by (floor == at) generation most (eq-eqb floor at is) le

pub early_most : (begins : Bool) (generation most : ℕ) → generation + (if begins then 0 else 1) + 1 ≤ most → generation + 1 ≤ most
early_most true generation most le = omega (arith, le)
early_most false generation most le = omega (arith, le)

-- ---- which of two files it is

pub sides_pair : (a b : List ℕ) (h : History) → (StandsFor a h × (length b ≡ 0)) ⊎ (StandsFor b h × (length a ≡ 0)) → PairFor a b h
sides_pair a b h (inl x) = record { in_a = true; stands = x.0; beside = inl x.1 }
sides_pair a b h (inr x) = record { in_a = false; stands = x.0; beside = inl x.1 }
