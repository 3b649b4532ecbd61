-- What is known of the journal that an occult names, and of the clue that one by clue names.
use Rattle.std.specs.Prelude.{◌≡◌, ℕ, ◌-◌, ◌<◌, ◌≤◌, List, [], length, map, get_or, slice_get, Option}
use Rattle.std.specs.Option.{is_some}
use Rattle.ledger_bytes.specs.Digests.{digest}
use Rattle.ledger_bytes.specs.declared.digest.Digest.{Digest}
use Rattle.clue_index.specs.Added.{trail_of}
use Rattle.clue_index.specs.Trail.{count_of}
use Rattle.journal_record.specs.Entry.{Entry}
use Rattle.journal_record.specs.declared.header.Header.{Header}
use Rattle.journal_record.specs.declared.header.Kind.{Kind}
use Rattle.journal_record.specs.declared.header.Kind.TheVariants as kind
use Rattle.erase_rules.specs.declared.clue_occult.ClueFacts.{ClueFacts}
use Rattle.erase_rules.specs.declared.occult.OccultFacts.{OccultFacts}
use Rattle.ledger_model.specs.Clues.{jsns_with}
use Rattle.ledger_model.specs.History.{History, history, size, point, greatest_point}
use Rattle.ledger_model.specs.Targets.{is_hidden_by, hider, kind_at, leaf_at, shown_with}
use Rattle.pseudo_genesis.specs.declared.base.Base.{Base}
use Rattle.ledger_model.specs.Behind.{first_of, clues_behind, shown_behind, next_number}

-- the kind that header n tells, where there is one
abbrev pub kind_in : List Header → ℕ → Kind
kind_in headers n = get_or (map (λ x. x.kind) headers) n kind.Genesis

-- what a book tells of the journal that an occult names is so in this history, as far as it is looked at
pub record AreFacts (h : History) (facts : OccultFacts) (n : ℕ) : Type 0 where
  pub target_is : facts.target ≡ n
  pub size_is : facts.size ≡ size h
  pub point_is : facts.point ≡ point h
  pub kind_is : point h ≤ n → n < size h → facts.kind ≡ kind_at h n
  pub by_is : point h ≤ n → facts.by ≡ hider h n
  pub leaf_is : point h ≤ n → n < size h → facts.leaf ≡ digest (leaf_at h n)

-- the same of a journal that stands behind a base, by the journals there
pub record AreFactsBehind (start : Option Base) (journals : List Entry) (facts : OccultFacts) (n : ℕ) : Type 0 where
  pub target_is : facts.target ≡ n
  pub size_is : facts.size ≡ next_number start journals
  pub point_is : facts.point ≡ greatest_point journals
  pub kind_is : facts.kind ≡ kind_at (history [] journals) (n - first_of start)
  pub by_is : is_some facts.by ≡ is_hidden_by journals (slice_get journals (n - first_of start))
  pub leaf_is : n < next_number start journals → facts.leaf.0 ≡ leaf_at (history [] journals) (n - first_of start)

-- what a book tells of a clue is so in this history: how many records it has, and how many of them are kept and shown
pub record AreClueFacts (h : History) (facts : ClueFacts) (clue : Digest) : Type 0 where
  pub count : facts.count ≡ length (jsns_with h clue)
  pub shown : facts.shown ≡ length (shown_with h clue)

-- the same behind a base, by the journals there
pub record AreClueFactsBehind (start : Option Base) (journals : List Entry) (facts : ClueFacts) (clue : Digest) : Type 0 where
  pub count : facts.count ≡ count_of (trail_of (clues_behind start journals) clue.0)
  pub shown : facts.shown ≡ length (shown_behind journals clue)
