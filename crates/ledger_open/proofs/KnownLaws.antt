-- What is known of a ledger.
use Rattle.std.specs.Prelude.{Bool, false, Option, None}
use Rattle.std.proofs.Common.{◌≡◌, ℕ, ◌≤◌, List, [], ◌∷◌, ◌++◌, drop, length, refl, sym, ◌∙◌, ap, subst, arith, append-nil, true}
use Rattle.std.proofs.lemmas.Bool.{true≢false}
use Rattle.journal_record.specs.Blocks.{AreBlocks}
use Rattle.journal_record.specs.Entry.{Entry}
use Rattle.pseudo_genesis.specs.declared.base.Base.{Base}
use Rattle.ledger_book.specs.Books.{Kept, Serves}
use Rattle.ledger_model.proofs.HideLaws.{first_shown}
use Rattle.ledger_model.specs.History.{History, history, journals_of, greatest_point, seen_point}
use Rattle.ledger_model.specs.Targets.{is_hidden}
use Rattle.ledger_open.specs.Opening.{Known, Knows, GoesOn, HasTaken}
use Rattle.block_file.specs.Places.{places_at, after_at}
use Rattle.ledger_open.specs.Standing.{AllKept, SameButHidden, floor_from}
use Rattle.ledger_open.specs.Starts.{AreLegal, HasOwnPurge}
use Rattle.ledger_model.specs.Behind.{has_own_purge}
use Rattle.ledger_open.proofs.GoesLaws.{goes_as}
use Rattle.ledger_open.proofs.KeptLaws.{same_back}
use Rattle.ledger_open.proofs.LikeLaws.{serves_alike}
use Rattle.ledger_open.proofs.OwnPurges.{first_reached}
use Rattle.ledger_open.proofs.PartLaws.{none_gone}
use Rattle.ledger_open.proofs.StartLaws.{first_same}

module _ (hid : ℕ → Bool) where
  all_self : (es : List Entry) → AllKept hid (λ n. false) es es
  all_self [] = tt
  all_self (e ∷ es) = (record { header = refl; who = refl; shown = λ s. refl; zeroed = λ z. let no : ⊥ = true≢false (sym z) in absurd no }, all_self es)

  pub same_self : (bs : List (List Entry)) → SameButHidden hid (λ n. false) bs bs
  same_self [] = tt
  same_self (b ∷ bs) = (all_self b, same_self bs)

-- ---- from blocks of which nothing is gone to a whole history, and back

-- what of a history that goes on with these blocks they are
pub all_kept_on : (blocks : List (List Entry)) (h : History) → GoesOn None blocks h → SameButHidden (is_hidden h) (λ n. false) h.closed blocks
all_kept_on blocks h g =
    let whole : g.parts.kept ≡ h.closed = sym (g.parts.are ∙ ap (λ (l : List (List Entry)). l ++ g.parts.kept) (none_gone h g.lawful.blocks_are g.parts)) in
    subst (λ (bs : List (List Entry)). SameButHidden (is_hidden h) (λ n. false) bs blocks) whole g.same

-- a book of these blocks is one of each history that goes on with them
serves_on : (blocks : List (List Entry)) (h : History) (b : Kept) → GoesOn None blocks h → Serves b (history blocks []) → Serves b h
serves_on blocks h b g s =
    serves_alike (is_hidden h) (λ n. false) (history blocks []) h (same_back (is_hidden h) (λ n. false) h.closed blocks (all_kept_on blocks h g)) refl g.none (first_shown h g.lawful.journals_are) g.lawful.journals_are b s

pub knows_whole : (k : Known) (blocks : List (List Entry)) → AreBlocks 0 blocks → AreLegal None blocks → Serves k.book (history blocks []) → k.book.floor ≡ 0 → k.places ≡ places_at 64 blocks → k.gate ≡ after_at 64 blocks → Knows k None blocks
unfolding seen_point
knows_whole k blocks lawful legal serves floor places tail = record {
  base = tt;
  legal = legal;
  reached = refl;
  lawful = lawful;
  serves = λ h g. serves_on blocks h k.book g serves;
  floor = floor;
  point = serves.stands.counts.point ∙ ap (λ (n : ℕ). greatest_point (drop n (journals_of blocks ++ []))) floor ∙ ap greatest_point (append-nil (journals_of blocks));
  places = places;
  tail = tail;
  size = omega (arith, serves.stands.counts.size, ap length (append-nil (journals_of blocks)));
  settled = omega (arith, serves.stands.counts.size, serves.stands.counts.sealed_is, ap length (append-nil (journals_of blocks)));
}

-- the purge to the base's point is among the blocks that were taken, where the book tells so
pub own_read : (k : Known) (start : Option Base) (blocks : List (List Entry)) → HasTaken k start blocks → k.book.reached ≡ true → HasOwnPurge start (journals_of blocks)
own_read k start blocks t reached = sym (ap (has_own_purge start) (append-nil (journals_of blocks))) ∙ sym t.goes.behind.reached ∙ reached

-- what was taken, once that purge was read
pub knows_taken : (k : Known) (start : Option Base) (blocks : List (List Entry)) → HasTaken k start blocks → HasOwnPurge start (journals_of blocks) → Knows k start blocks
knows_taken k start blocks t own =
    let b = t.goes.behind in
    let point : k.book.point ≡ greatest_point (journals_of blocks) = b.point ∙ ap greatest_point (append-nil (journals_of blocks)) in
    let first : (floor_from start).first ≤ greatest_point (journals_of blocks) = first_reached start (journals_of blocks) own in
    record {
      base = t.goes.base;
      legal = t.legal;
      reached = own;
      lawful = t.lawful;
      serves = λ h g. record { stands = t.goes.stands h (goes_as start blocks h g); reached = b.reached ∙ ap (has_own_purge start) (append-nil (journals_of blocks)) ∙ own; seen = omega (arith, first, point, b.floor, first_same start) };
      floor = b.floor ∙ first_same start;
      point = point;
      places = t.places;
      tail = t.tail;
      size = omega (arith, b.size_is, ap length (append-nil (journals_of blocks)), first_same start);
      settled = t.settled;
    }
