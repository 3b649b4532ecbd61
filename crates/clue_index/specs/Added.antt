-- All that an index of clues was given, as plain lists, and what is asked of it.
use Rattle.std.specs.Prelude.{ℕ, List, [], ◌∷◌, ◌++◌, map, filter, fold, nat_lt, nat_le, bytes_eq, if◌then◌else◌}
use Rattle.std.specs.Cmp.Lexicographic.{slice_cmp}
use Rattle.std.specs.Ordering.{nat_cmp}
use Rattle.std.specs.FinMap.{FinMap, from_entries, keys}
use Rattle.ledger_bytes.specs.Digests.{digest, zero_digest}
use Rattle.clue_index.specs.Trail.{Trail, no_trail, count_of, last_of, below}
use Rattle.clue_index.specs.declared.state.ClueState.{ClueState}

-- a journal that has a clue, by its number
pub record Mark : Type 0 where
  pub clue : List ℕ
  pub jsn : ℕ

-- the clues' states with which an index began, the journals that were added since, and the first journal that is kept
pub record Added : Type 0 where
  pub states : List ClueState
  pub marks : List Mark
  pub floor : ℕ

-- what a new index was given: the states of clues, and no journal
abbrev pub added_at_first : List ClueState → Added
added_at_first states = record { states = states; marks = []; floor = 0 }

-- what an index was given, and a journal more
abbrev pub with_mark : List ℕ → ℕ → Added → Added
with_mark clue jsn a = record { states = a.states; marks = a.marks ++ record { clue = clue; jsn = jsn } ∷ []; floor = a.floor }

-- what an index was given, where journals are kept from another one on
abbrev pub with_floor : ℕ → Added → Added
with_floor floor a = record { states = a.states; marks = a.marks; floor = floor }

-- the 32 zero bytes that stand for no clue
abbrev pub no_clue : List ℕ
no_clue = zero_digest.0

-- the state with which an index began for a clue: the last of these that is its own, or none
abbrev pub state_of : List ℕ → List ClueState → Trail
state_of clue states =
    fold (λ t s. if bytes_eq clue s.clue.0 then record { count = s.count; last = s.last; jsns = [] } else t) no_trail states

-- the numbers of a clue's journals
abbrev pub jsns_of : List ℕ → List Mark → List ℕ
jsns_of clue marks = map (λ m. m.jsn) (filter (λ m. bytes_eq clue m.clue) marks)

-- all journals of a clue that an index was given
abbrev pub trail_of : Added → List ℕ → Trail
trail_of a clue =
    let state = state_of clue a.states in
    record { count = state.count; last = state.last; jsns = jsns_of clue a.marks }

-- the clues that were given, each as often as it was
abbrev pub clues_of : Added → List (List ℕ)
clues_of a = map (λ s. s.clue.0) a.states ++ map (λ m. m.clue) a.marks

-- the journals of each different clue
abbrev pub table_of : Added → FinMap (slice_cmp nat_cmp) Trail
table_of a = from_entries (map (λ clue. (clue, trail_of a clue)) (clues_of a))

-- the different clues, ascending by their bytes
abbrev pub different_clues : Added → List (List ℕ)
different_clues a = keys (table_of a)

-- a clue's state when the journals below p had been placed, from its trail
abbrev pub state_below : ℕ → List ℕ → Trail → ClueState
state_below p clue t = record { clue = digest clue; count = count_of (below p t); last = last_of (below p t) }

-- a clue's state when the journals below p had been placed, from all that an index was given
abbrev pub state_at : ℕ → Added → List ℕ → ClueState
state_at p a clue = state_below p clue (trail_of a clue)

-- those of some states of which the clue had a journal
abbrev pub begun_states : List ClueState → List ClueState
begun_states states = filter (λ s. nat_lt 0 s.count) states

-- the states of all clues that had a journal when the journals below p had been placed, ascending by their bytes
abbrev pub states_at : ℕ → Added → List ClueState
states_at p a = begun_states (map (state_at p a) (different_clues a))

-- what an index is given that begins at p: the states there, and the journals from p on
abbrev pub from_point : ℕ → Added → Added
from_point p a = record { states = states_at p a; marks = filter (λ m. nat_le p m.jsn) a.marks; floor = p }
