-- What a book keeps of a base and of the journals behind it, where no history of them is known.
use Rattle.std.specs.Prelude.{◌≡◌, ◌-◌, ◌<◌, ◌≤◌, ℕ, slice_get, false, List, [], map, Option, Some, None, ⊤, length}
use Rattle.std.specs.List.{list_any}
use Rattle.std.specs.Option.{is_some}
use Rattle.sha2.specs.Sha256.{sha256}
use Rattle.tree_model.specs.RootFrom.{root_from}
use Rattle.tree_model.specs.Tree.{root}
use Rattle.merkle_batch.specs.Rows.{Levels, StandsFor}
use Rattle.merkle_batch.specs.Over.{StandsOver}
use Rattle.clue_index.specs.Index as index
use Rattle.journal_record.specs.Entry.{Entry}
use Rattle.ledger_model.specs.Bases.{base_of}
use Rattle.ledger_model.specs.History.{History, journals, size, greatest_point, leaf_digest}
use Rattle.ledger_model.specs.Lawful.{AreLawful}
use Rattle.pseudo_genesis.specs.Bases.{IsBase}
use Rattle.pseudo_genesis.specs.declared.base.Base.{Base}
use Rattle.ledger_model.specs.Targets.{names, is_hidden_by}
use Rattle.ledger_model.specs.Behind.{AreBehind, first_of, count_behind, clues_behind, has_own_purge, next_number}
use Rattle.ledger_book.specs.Books.{Kept}
use Rattle.ledger_book.specs.Fronts.{namer_in}
use Rattle.ledger_book.specs.Hiders.{hider_in}

-- what stands in front of the journals keeps the rules of a base
abbrev pub IsStart : Option Base → Type 0
IsStart None = ⊤
IsStart (Some base) = IsBase base

-- a tree stands for the leaves of these journals, behind the peaks of the base where there is one
abbrev pub HasLeaves : Option Base → Levels → List Entry → Type 0
HasLeaves None tree journals = StandsFor sha256 tree (map leaf_digest journals)
HasLeaves (Some base) tree journals = StandsOver sha256 tree base.point (map (λ d. d.0) base.peaks) (map leaf_digest journals)

-- the root over these journals and those that the base in front of them stands for
abbrev pub root_behind : Option Base → List Entry → List ℕ
root_behind None journals = root sha256 (map leaf_digest journals)
root_behind (Some base) journals = root_from sha256 (map (λ d. d.0) base.peaks) base.point (map leaf_digest journals)

-- the book keeps these journals, each of which is the next one, and what the base in front of them says
pub record StandsBehind (k : Kept) (start : Option Base) (journals : List Entry) : Type 0 where
  pub begins : IsStart start
  pub are : AreBehind start [] journals
  pub floor : k.floor ≡ first_of start
  pub size_is : k.size ≡ next_number start journals
  pub point : k.point ≡ greatest_point journals
  pub reached : k.reached ≡ has_own_purge start journals
  pub members : length k.members ≡ count_behind start journals
  pub clues : index.StandsForTrails k.clues (clues_behind start journals)
  pub hiders : (n : ℕ) → first_of start ≤ n → is_some (hider_in k.floor k.hiders n) ≡ is_hidden_by journals (slice_get journals (n - first_of start))
  -- of those in front of the base, until the purge to its point is there
  pub fronts : k.reached ≡ false → (n : ℕ) → n < first_of start → is_some (namer_in n k.fronts) ≡ list_any (names n) journals
  pub headers_are : k.headers ≡ map (λ journal. journal.header) journals
  pub leaves : HasLeaves start k.tree journals

-- a history that has this base, and no journal more
pub record EndsWith (base : Base) (h : History) : Type 0 where
  pub lawful : AreLawful (journals h)
  pub none : h.waiting ≡ []
  pub size_is : size h ≡ base.point
  pub base_is : base_of h base.point ≡ base

-- a base is that of a lawful history at one of its journals
pub record IsBaseIn (base : Base) (h : History) : Type 0 where
  pub lawful : AreLawful (journals h)
  pub some : 1 ≤ base.point
  pub within : base.point ≤ size h
  pub base_is : base_of h base.point ≡ base
