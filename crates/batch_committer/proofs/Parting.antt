-- The blocks of a history in two parts: those that its file has, and those in front of them.
use Rattle.std.specs.Prelude.{All}
use Rattle.std.proofs.Common.{◌≡◌, ℕ, ◌≤◌, List, [], ap, sym, ◌∙◌, arith}
use Rattle.journal_record.specs.Entry.{Entry}
use Rattle.ledger_model.specs.History.{History, size, point}
use Rattle.ledger_model.specs.Lawful.{IsBlock}
use Rattle.ledger_open.specs.Cutting.{gate_behind}
use Rattle.ledger_open.specs.Standing.{floor_behind, Parts}
use Rattle.ledger_open.proofs.PartLaws.{one_parts, size_parts}

module _ (h : History) (all : All IsBlock h.closed) (m n : ℕ) (same : m ≡ n) (x : Parts m h) (y : Parts n h) where
  parts_one : (x.gone ≡ y.gone) × (x.kept ≡ y.kept)
  parts_one = one_parts m h all x (record { gone = y.gone; kept = y.kept; are = y.are; at = y.at ∙ sym same })

  -- the gate behind the blocks that a file has
  pub gate_one : gate_behind (floor_behind h x.gone) x.kept ≡ gate_behind (floor_behind h y.gone) y.kept
  gate_one = ap (λ (bs : List (List Entry)). gate_behind (floor_behind h bs) x.kept) (parts_one).0 ∙ ap (gate_behind (floor_behind h y.gone)) (parts_one).1

-- where the gate stands behind the blocks of a file that begins at the point
abbrev pub TailsAt : ℕ → History → Type 0
TailsAt place h = (x : Parts (point h) h) → place ≡ gate_behind (floor_behind h x.gone) x.kept

pub tails_at : (h : History) (place n : ℕ) (y : Parts n h) → All IsBlock h.closed → n ≡ point h → place ≡ gate_behind (floor_behind h y.gone) y.kept → TailsAt place h
tails_at h place n y all at is = λ x. is ∙ gate_one h all n (point h) at y x

-- how many journals the blocks have that the file hasn't
pub gone_few : (n : ℕ) (h : History) → h.waiting ≡ [] → Parts n h → n ≤ size h
gone_few n h none x = omega (arith, size_parts n h none x)
