-- The marks of a journal's bounds, and whether a purge has left them.
use Rattle.std.proofs.Common.{◌≡◌, ℕ, ◌<◌, ◌≤◌, Option, Some, None, refl, sym, subst}
use Rattle.std.specs.Prelude.{IfSome}
use Rattle.std.specs.Option.{option_map}
use Rattle.sha2.specs.Sha256.{sha256}
use Rattle.merkle_batch.specs.Rows.{Levels, StandsFor}
use Rattle.ledger_bytes.specs.declared.mark.TimeMark.{TimeMark}
use Rattle.journal_record.specs.Entry.{Entry}
use Rattle.proof_codec.specs.Claims.{mark_of}
use Rattle.ledger_model.specs.Bounds.{lower_journal, upper_journal, IsKeptTime, IsNearestBefore, IsNearestBehind}
use Rattle.ledger_model.specs.History.{History, journals}
use Rattle.ledger_model.specs.Lawful.{AreLawful}
use Rattle.ledger_model.proofs.BoundLaws.{nearest_lower, nearest_upper}
use Rattle.ledger_book.specs.Books.{Kept, Stands, Serves, leaf_digests}
use Rattle.proof_maker.specs.Parts.{IsAt, IsMarkOf}
use Rattle.proof_maker.proofs.TreeLaws.{time_kept, time_there}

-- a bound is a time journal that is kept
pub kept_before : (h : History) (n : ℕ) (o : Option Entry) → IsNearestBefore h n o → IfSome o (λ e. IsKeptTime h e × (e.header.jsn < n))
kept_before h n None near = tt
kept_before h n (Some e) near = (near.0, near.1)

pub kept_behind : (h : History) (n : ℕ) (o : Option Entry) → IsNearestBehind h n o → IfSome o (λ e. IsKeptTime h e × (n < e.header.jsn))
kept_behind h n None near = tt
kept_behind h n (Some e) near = (near.0, near.1)

only_kept : (h : History) (P : Entry → Type 0) (o : Option Entry) → IfSome o (λ e. IsKeptTime h e × P e) → IfSome o (IsKeptTime h)
only_kept h P None both = tt
only_kept h P (Some e) both = both.0

module _ (h : History) (n : ℕ) (mark : Option TimeMark) (lawful : AreLawful (journals h)) where
  pub lower_marked : mark ≡ option_map (λ (e : Entry). mark_of e.header) (lower_journal h n) → IsMarkOf h (lower_journal h n) mark
  lower_marked is = record { kept = only_kept h (λ e. e.header.jsn < n) (lower_journal h n) (kept_before h n (lower_journal h n) (nearest_lower h lawful n)); mark_is = is }

  pub upper_marked : mark ≡ option_map (λ (e : Entry). mark_of e.header) (upper_journal h n) → IsMarkOf h (upper_journal h n) mark
  upper_marked is = record { kept = only_kept h (λ e. n < e.header.jsn) (upper_journal h n) (kept_behind h n (upper_journal h n) (nearest_upper h lawful n)); mark_is = is }

-- its leaf is kept
module _ (k : Kept) (t : Levels) (stands : (h : History) → Stands k h → StandsFor sha256 t (leaf_digests h)) (floor : t.floor ≡ k.floor) (h : History) (s : Serves k h) where
  mark_there : (o : Option Entry) → IfSome o (IsKeptTime h) → IfSome (option_map (λ (e : Entry). mark_of e.header) o) (λ m. (t.floor ≤ m.jsn) × (m.jsn < t.size))
  mark_there None kept = tt
  mark_there (Some e) kept =
      let at : IsAt h e.header.jsn e = record { kept = kept; number = refl } in
      (time_kept k t stands floor h s e.header.jsn e at, time_there k t stands floor h s e.header.jsn e at)

  pub leaf_marked : (o : Option Entry) (mark : Option TimeMark) → IsMarkOf h o mark → IfSome mark (λ m. (t.floor ≤ m.jsn) × (m.jsn < t.size))
  leaf_marked o mark is = subst (λ (m : Option TimeMark). IfSome m (λ m. (t.floor ≤ m.jsn) × (m.jsn < t.size))) (sym is.mark_is) (mark_there o is.kept)
