-- Where the point of a history stands among the blocks of a file.
use Rattle.std.specs.Prelude.{All}
use Rattle.std.proofs.Common.{◌≡◌, ℕ, ◌+◌, ◌<◌, ◌≤◌, List, [], ◌∷◌, ◌++◌, length, drop, refl, sym, ◌∙◌, ap, subst, arith, length-append}
use Rattle.std.proofs.lemmas.List.{drop_at}
use Rattle.std.proofs.lemmas.List.Concat.{flat_map-append}
use Rattle.std.proofs.lemmas.List.Elements.{All-head, All-tail, All-drop}
use Rattle.journal_record.specs.Entry.{Entry}
use Rattle.ledger_model.proofs.PointLaws.{points_few}
use Rattle.ledger_model.specs.Bases.{base_of}
use Rattle.ledger_model.specs.History.{History, journals_of, point}
use Rattle.ledger_model.specs.Lawful.{IsBlock, IsLawful}
use Rattle.ledger_open.specs.Cutting.{BeginsSome}
use Rattle.ledger_open.specs.Standing.{Parts, floor_behind, floor_of}
use Rattle.ledger_open.proofs.PartLaws.{first_ones, parts_at_point, size_parts}

nested : (g i k l : List (List Entry)) → All IsBlock g → g ++ k ≡ i ++ l → length (journals_of g) ≤ length (journals_of i) → (front : List (List Entry)) × (i ≡ g ++ front) × (k ≡ front ++ l)
nested [] i k l all is less = (i, refl, is)
nested (b ∷ bs) [] k l all is less = absurd (omega (arith, less, (All-head IsBlock b bs all).some, length-append b (journals_of bs)))
nested (b ∷ bs) (c ∷ cs) k l all is less =
    let same : b ≡ c = cc is in
    let more = nested bs cs k l (All-tail IsBlock b bs all) (ap (drop 1) is) (omega (arith, less, ap length same, length-append b (journals_of bs), length-append c (journals_of cs))) in
    (more.0, ap (λ (y : List Entry). y ∷ cs) (sym same) ∙ ap (λ (ys : List (List Entry)). b ∷ ys) more.1, more.2)

pub begins_some : (bs : List (List Entry)) → All IsBlock bs → 1 ≤ length (journals_of bs) → BeginsSome bs
begins_some [] all some = absurd (omega (arith, some))
begins_some ([] ∷ bs) all some = absurd (omega (arith, (All-head IsBlock [] bs all).some))
begins_some ((e ∷ es) ∷ bs) all some = tt

pub behind_some : (h : History) (bs : List (List Entry)) (p : ℕ) → length (journals_of bs) ≡ p → 0 < p → floor_behind h bs ≡ floor_of (base_of h p)
behind_some h [] p is some = absurd (omega (arith, is, some))
behind_some h (b ∷ bs) p is some = ap (λ n. floor_of (base_of h n)) is

module _ (h : History) (lawful : IsLawful h) (none : h.waiting ≡ []) (floor : ℕ) (x : Parts floor h) (below : floor < point h) where
  whole : Parts (point h) h
  whole = parts_at_point h lawful none

  mid : (front : List (List Entry)) × (whole.gone ≡ x.gone ++ front) × (x.kept ≡ front ++ whole.kept)
  mid = nested x.gone whole.gone x.kept whole.kept (first_ones floor h lawful.blocks_are x) (sym x.are ∙ whole.are) (omega (arith, x.at, whole.at, below))

  -- the blocks in front of the point that the file has, and those behind
  pub front : List (List Entry)
  front = mid.0

  pub behind : List (List Entry)
  behind = whole.kept

  pub kept_are : x.kept ≡ front ++ behind
  unfolding front behind
  kept_are = mid.2

  pub closed_are : h.closed ≡ (x.gone ++ front) ++ behind
  unfolding front behind
  closed_are = whole.are ∙ ap (λ (l : List (List Entry)). l ++ whole.kept) mid.1

  pub gone_at : length (journals_of (x.gone ++ front)) ≡ point h
  unfolding front behind
  gone_at = ap (λ (l : List (List Entry)). length (journals_of l)) (sym mid.1) ∙ whole.at

  pub front_at : floor + length (journals_of front) ≡ point h
  front_at = omega (arith, gone_at, x.at, ap length (flat_map-append (λ (b : List Entry). b) x.gone front), length-append (journals_of x.gone) (journals_of front))

  pub behind_begins : BeginsSome behind
  unfolding front behind
  behind_begins =
      begins_some whole.kept
      (subst (All IsBlock) (ap (drop (length whole.gone)) whole.are ∙ drop_at whole.gone whole.kept (length whole.gone) refl) (All-drop IsBlock (length whole.gone) h.closed lawful.blocks_are))
      (omega (arith, size_parts (point h) h none whole, (points_few h 0 lawful.journals_are).0))

  pub floor_there : floor_behind h (x.gone ++ front) ≡ floor_of (base_of h (point h))
  floor_there = behind_some h (x.gone ++ front) (point h) gone_at (omega (arith, below))

  -- its parts at the point
  abbrev pub parts_there : Parts (point h) h
  parts_there = record { gone = x.gone ++ front; kept = behind; are = closed_are; at = gone_at }
