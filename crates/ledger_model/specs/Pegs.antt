-- Which entries of a notary's list are those of a history.
use Rattle.std.specs.Prelude.{◌≡◌, ℕ, ◌<◌, ◌≤◌, List, Some, slice_get}
use Rattle.journal_record.specs.Entry.{Entry}
use Rattle.journal_record.specs.declared.header.Kind.TheVariants as kind
use Rattle.time_peg.specs.Entries.{IsList, entry_of}
use Rattle.ledger_model.specs.Anchors.{peg_at}
use Rattle.ledger_model.specs.History.{History, journals, point}

-- Each time journal from journal p on has its entry in the notary's list, at its index: its time, the peg over the journals
-- in front of it, and its salt. The indexes rise along the history.
pub record PeggedFrom (p : ℕ) (h : History) (es : List (List ℕ)) : Type 0 where
  pub list : IsList es
  pub each : (j : ℕ) (e : Entry) → p ≤ j → slice_get (journals h) j ≡ Some e → e.header.kind ≡ kind.Time
      → slice_get es e.header.a ≡ Some (entry_of e.header.b (peg_at h j) e.header.link.0)
  pub rises : (i j : ℕ) (d e : Entry) → i < j → p ≤ i → slice_get (journals h) i ≡ Some d → d.header.kind ≡ kind.Time
      → slice_get (journals h) j ≡ Some e → e.header.kind ≡ kind.Time → d.header.a < e.header.a

-- Each time journal that is kept has its entry in the notary's list. `a_run_keeps_its_pegs` says that it stays so along a
-- run.
abbrev pub Pegged : History → List (List ℕ) → Type 0
Pegged h es = PeggedFrom (point h) h es
