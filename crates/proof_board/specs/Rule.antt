-- The rule of a board's snapshot: of what its copies have in common, and of what each seat knows.
use Rattle.std.specs.Prelude.{◌≡◌, ℕ, true, false, All, List, []}
use mathlib.Core.Option.{some}
use mathlib.Core.List.{IsPrefix}
use lib.ListN.{get_elem?}
use Rattle.proof_board.specs.History.{Mark, IsWide, mark, all_leaves}
use Rattle.proof_board.specs.Growing.{base_of}
use Rattle.proof_board.specs.declared.view.Base.{Base}
use Rattle.proof_board.specs.declared.view.Growth.{Growth}
use Rattle.proof_board.specs.declared.view.View.{View}

-- a seat that knows all of a history
abbrev pub aware_of : Base → Mark → View
aware_of base at = record { aware = true; base = base; at = at }

-- a seat that knows nothing
abbrev pub unaware : View
unaware = record { aware = false; base = base_of 0 []; at = mark (record { number = 0; log_name = 0; cells_name = 0 }) [] }

-- what a seat knows of a snapshot: its base, which history it is made of, and a beginning of that
pub record Knows (v : View) (x : Growth) : Type 0 where
  pub base : v.base ≡ x.base
  pub book : v.at.book ≡ x.at.book
  pub log : IsPrefix v.at.log x.at.log

-- the rule: the leaves are those of the batches, in order, each digest with its 32 bytes, and each seat that knows something
-- knows a beginning of the history
pub record KeepsRule (x : Growth) (views : List View) : Type 0 where
  pub whole : x.leaves ≡ all_leaves x.at.log
  pub wide : All IsWide x.leaves
  pub each_seat : (port : ℕ) (v : View) → get_elem? views port ≡ some v → v.aware ≡ true → Knows v x

-- what a look tells: what is seen, and that it begins with what was known
pub record Saw (v : View) (y : Growth) (w : View) : Type 0 where
  pub whole : y.leaves ≡ all_leaves y.at.log
  pub wide : All IsWide y.leaves
  pub known : v.aware ≡ true → Knows v y
  pub is : w ≡ aware_of y.base y.at
