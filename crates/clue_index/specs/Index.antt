-- What an index of clues keeps, and what it is to stand for all that it was given.
use Rattle.std.specs.Prelude.{◌≡◌, ℕ, List, map, Option, Some, None, option_map}
use Rattle.std.specs.Cmp.Lexicographic.{slice_cmp}
use Rattle.std.specs.Ordering.{nat_cmp}
use Rattle.std.specs.BTreeMap.{is_at}
use Rattle.std.specs.Map.{lookup}
use Rattle.std.specs.FinMap.{get}
use Rattle.clue_index.specs.Added.{Added, no_clue, table_of}
use Rattle.clue_index.specs.Trail.{Trail, seen_from, Ascends}

-- what an index keeps: the trails of the clues, and the first journal that is kept
pub record KeptTrails : Type 0 where
  pub trails : List (List ℕ × Trail)
  pub floor : ℕ

-- the trail of a clue among some, where there is one
abbrev pub trail_in : List ℕ → List (List ℕ × Trail) → Option Trail
trail_in clue trails = lookup (is_at (slice_cmp nat_cmp clue)) trails

-- what is kept of a clue's journals, where it has any: those from the floor on, how many there were before them, and the
-- last of these
abbrev pub kept_trail : KeptTrails → List ℕ → Option Trail
kept_trail k clue = option_map (seen_from k.floor) (trail_in clue k.trails)

-- the same of all that the index was given
abbrev pub added_trail : Added → List ℕ → Option Trail
added_trail a clue = option_map (seen_from a.floor) (get (table_of a) clue)

-- an index stands for what it was given: of each clue it keeps what is to be kept
pub record StandsForTrails (k : KeptTrails) (a : Added) : Type 0 where
  pub floor : k.floor ≡ a.floor
  pub at : (clue : List ℕ) → kept_trail k clue ≡ added_trail a clue
  pub ascend : (clue : List ℕ) (t : Trail) → trail_in clue k.trails ≡ Some t → Ascends t.jsns
  pub rises : Ascends (map (λ m. m.jsn) a.marks)
  pub clear : get (table_of a) no_clue ≡ None
