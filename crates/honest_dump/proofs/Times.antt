-- The time journals in the dump of a history that runs make are entries of the notary's list with which it is pegged.
use Rattle.std.specs.Prelude.{slice_get}
use Rattle.std.proofs.Common.{◌≡◌, ℕ, List, [], ◌∷◌, ◌++◌, length, drop, Some, refl, sym, ap, ◌∙◌, arith}
use Rattle.std.proofs.lemmas.List.Elements.{All-map}
use Rattle.sha2.specs.Sha256.{sha256}
use Rattle.journal_record.specs.Entry.{Entry}
use Rattle.time_peg.specs.Entries.{entry_of, peg_string}
use Rattle.ledger_model.specs.Anchors.{peg_at}
use Rattle.ledger_model.specs.History.{History, id, journals, point}
use Rattle.ledger_model.specs.Pegs.{Pegged}
use Rattle.dump_model.specs.Shown.{base_at, shown, ledger_dump}
use Rattle.audit_dump.specs.Ending.{HasItsEntry}
use Rattle.audit_dump.specs.Ending.Late.{of_times}
use Rattle.audit_dump.specs.Known.{root_behind}
use Rattle.honest_dump.specs.Runs.{PassesHonestly}
use Rattle.honest_dump.proofs.Facts.{IsMade, all_places, before, whole_is, before_long, number_there, point_there}
use Rattle.honest_dump.proofs.Order.{journals_are}
use Rattle.honest_dump.proofs.Seen.{root_seen}

got_there : (front : List Entry) (e : Entry) (more : List Entry) → slice_get (front ++ e ∷ more) (length front) ≡ Some e
got_there [] e more = refl
got_there (x ∷ front) e more = got_there front e more

module _ (h : History) (m : IsMade h) (entries : List (List ℕ)) (pegged : Pegged h entries) where
  abbrev kept : List Entry
  kept = drop (point h) (journals h)

  has_entry : (front : List Entry) (e : Entry) (more : List Entry) → kept ≡ front ++ e ∷ more → HasItsEntry (ledger_dump h entries) (shown h e)
  unfolding ledger_dump peg_at
  has_entry front e more is = λ time.
      let n = e.header.jsn in
      let number = number_there h m front e more is in
      let got : slice_get (journals h) n ≡ Some e =
      ap (slice_get (journals h)) (number ∙ sym (before_long h m front e more is)) ∙ ap (λ (l : List Entry). slice_get l (length (before h m front e more is))) (whole_is h m front e more is)
      ∙ got_there (before h m front e more is) e more in
      let root_is = ap (λ (l : List Entry). root_behind (base_at h (point h)) l n) (journals_are h kept) ∙ root_seen h (point h) n (omega (arith, number)) (omega (arith, point_there h m)) in
      pegged.each n e (omega (arith, number)) got time
      ∙ ap (λ (r : List ℕ). Some (entry_of e.header.b (sha256 (peg_string (id h) n r)) e.header.link.0)) (sym root_is)

  pub has_times : PassesHonestly h entries of_times
  unfolding ledger_dump
  has_times = All-map (HasItsEntry (ledger_dump h entries)) (shown h) kept (all_places (λ (e : Entry). HasItsEntry (ledger_dump h entries) (shown h e)) [] kept has_entry)
