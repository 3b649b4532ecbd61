-- A block was committed, and then what its journal hides or purges is given up.
use Rattle.std.specs.Prelude.{Bool, true, false}
use Rattle.std.proofs.Common.{◌≡◌, ◌⊎◌, inl, inr, ℕ, ◌+◌, ◌≤◌, List, [], ◌++◌, length, refl, ap, sym, subst, ◌∙◌, append-nil}
use Rattle.std.proofs.lemmas.List.{nil_from_length}
use Rattle.block_file.specs.File.{IsSettled, IsGroupOf}
use Rattle.journal_record.specs.Entry.{Entry}
use Rattle.ledger_bytes.specs.declared.limits.TheConstants.{BLOCK_LIMIT}
use Rattle.ledger_disk.specs.Disk.{State, settled_state}
use Rattle.ledger_model.specs.History.{History, point, close}
use Rattle.ledger_model.proofs.GrowLaws.{close_none}
use Rattle.ledger_book.specs.Books as books
use Rattle.ledger_book.specs.Books.{Serves}
use Rattle.ledger_book.specs.Steps.{IsSame}
use Rattle.twin_file.specs.Twin.{open_of, other_of}
use Rattle.ledger_open.proofs.OldLaws.{same_edition}
use Rattle.ledger_open.specs.Heads.{Edition, edition_of}
use Rattle.ledger_open.specs.Opening.{known_from}
use Rattle.block_file.specs.Places.{body_from, places_in}
use Rattle.ledger_open.specs.Places.{places_from}
use Rattle.ledger_open.specs.Cutting.{gate_behind}
use Rattle.ledger_open.specs.Purging.{Ledger, open_disk, other_disk, IsCleanOpen}
use Rattle.ledger_open.specs.Standing.{floor_behind, point_before}
use Rattle.batch_committer.specs.Committed.{IsCommitted, IsStanding, open_bytes, other_bytes}
use Rattle.batch_committer.specs.Steps.{last_bytes}
use Rattle.batch_committer.specs.World.{CommitterState, World, Pair, IsGathering, Located, IsCleanFor, Holds, sealed_part}
use Rattle.batch_committer.proofs.Closing.{sealed_same, clean_length}
use Rattle.batch_committer.proofs.Grouped.{group_last, last_begins, commit_quiet, commit_stands, parts_close, places_close, tail_close}
use Rattle.batch_committer.proofs.Parting.{TailsAt, tails_at}

-- ---- two disks, of which one is open

settled_empty : (s : State) → s ≡ settled_state [] → IsSettled s
settled_empty s is = is ∙ ap settled_state (sym (ap (λ (t : State). t.seen) is))

-- nothing is pending on either, where the other is empty
pub both_quiet : (in_a : Bool) (a b : State) → IsSettled (open_of in_a a b) → other_of in_a a b ≡ settled_state [] → IsSettled a × IsSettled b
both_quiet true a b quiet empty = (quiet, settled_empty b empty)
both_quiet false a b quiet empty = (settled_empty a empty, quiet)

pub quiet_open : (in_a : Bool) (a b : State) → IsSettled a → IsSettled b → IsSettled (open_of in_a a b)
quiet_open true a b x y = x
quiet_open false a b x y = y

pub quiet_other : (in_a : Bool) (a b : State) → IsSettled a → IsSettled b → IsSettled (other_of in_a a b)
quiet_other true a b x y = y
quiet_other false a b x y = x

-- ---- a ledger where nothing is left undone

-- what a committer keeps, with what its disks hold
abbrev pub held_ledger : CommitterState → Pair → Ledger
held_ledger k disks = record { known = known_from k.book k.places k.gate; in_a = k.in_a; edition = k.edition; a = disks.a.bytes; b = disks.b.bytes }

pub tails_clean : (l : Ledger) (h : History) → IsCleanOpen l h → TailsAt l.known.gate h
tails_clean l h c = tails_at h l.known.gate l.known.book.floor c.ends.parts c.clean.erased.lawful.blocks_are c.floor c.tail

pub clean_for : (l : Ledger) (h : History) → IsCleanOpen l h → IsCleanFor l.in_a l.known.gate h l.a l.b
clean_for l h c = record {
  quiet = quiet_open l.in_a l.a l.b c.quiet_a c.quiet_b;
  empty = quiet_other l.in_a l.a l.b c.quiet_a c.quiet_b ∙ ap settled_state (nil_from_length (other_disk l).seen c.empty);
  erased = c.clean.erased;
  newer = c.newer;
  ends = clean_length (point h) _ (open_disk l).seen h l.known.gate c.clean.erased c.clean.ends (tails_clean l h c c.clean.erased.parts);
}

-- what is gathered and where all stands, where no journal waits and no block is gathered
abbrev pub gathers_none : (k : CommitterState) (h : History) → k.ended ≡ 0 → k.before ≡ [] → IsGathering k h
gathers_none k h ended before = record { stored = h.closed; blocks = []; are = sym (append-nil h.closed); count = sym ended; follow = tt; alike = refl; bytes = before }

pub located_clean : (k : CommitterState) (disks : Pair) (h : History) → h.waiting ≡ [] → k.next ≡ k.gate → IsCleanOpen (held_ledger k disks) (sealed_part h) → Located k h h.closed []
located_clean k disks h none next c =
    let parts = c.ends.parts in
    let from = floor_behind (sealed_part h) parts.gone in
    let kept : parts.kept ++ [] ≡ parts.kept = append-nil parts.kept in record {
      parts = parts;
      places = c.ends.places_are ∙ ap (places_from from) (sym kept) ∙ sym (append-nil (places_from from (parts.kept ++ []))) ∙ ap (λ (es : List Entry). places_from from (parts.kept ++ []) ++ places_in (body_from k.next) es) (sym none);
      tail = c.tail;
      next = next ∙ c.tail ∙ ap (gate_behind from) (sym kept);
    }

-- ---- the block was committed

module _ (tells : Bool) (w : World) (h : History) (p : Holds tells w h) (some : 1 ≤ length h.waiting) (most : length h.waiting ≤ BLOCK_LIMIT) (book : books.Kept) (serves : Serves book (close h)) (same : IsSame w.kept.book book)
    (bytes : List ℕ) (g : IsGroupOf (group_last tells w h p some most) bytes) (mid : Pair) (c : IsCommitted tells w.kept.in_a w.kept.gate bytes w.disks mid) (next : ℕ) (at : next ≡ w.kept.gate + 1 + length bytes) (behind : next ≡ w.kept.next + 1 + length (last_bytes h)) where
  floor_is : book.floor ≡ point (sealed_part h)
  floor_is = same.floor ∙ p.keeps.floor

  book_begins : (book.floor ≡ point (sealed_part (close h))) ⊎ (book.floor ≡ point_before (sealed_part (close h)))
  book_begins = elim (last_begins tells w h p some most) [ inl is ↦ inl (floor_is ∙ is) | inr is ↦ inr (floor_is ∙ is) ]

  empty : other_bytes w.kept.in_a mid ≡ settled_state []
  empty = c.other ∙ p.disks.empty

  -- the ledger with the block behind its file stands for the history, as far as the block leaves something undone
  pub standing : w.kept.edition ≡ edition_of (open_bytes w.kept.in_a mid).seen → IsStanding (held_ledger (record w.kept { book = book; gate = next }) mid) (sealed_part (close h))
  standing named =
      let parts = parts_close tells w h p some most in
      let quiet = both_quiet w.kept.in_a mid.a.bytes mid.b.bytes (commit_quiet tells w h p some most bytes g mid c) (empty) in record {
        stands = record {
          quiet_a = quiet.0;
          quiet_b = quiet.1;
          ends = record {
            serves = subst (Serves book) (sym (sealed_same (close h) (close_none h))) serves;
            begins = book_begins;
            parts = record { gone = parts.gone; kept = parts.kept; are = parts.are; at = parts.at ∙ sym same.floor };
            places_are = places_close tells w h p some most;
            none = refl;
          };
          tail = tail_close tells w h p some most next behind;
          stands = record { floor = point (sealed_part h); begins = last_begins tells w h p some most; file = commit_stands tells w h p some most bytes g mid c };
          floor = sym (floor_is);
          beside = inl (ap (λ (s : State). length s.seen) (empty));
          edition = named;
        };
        newer = ap (λ (e : Edition). e.version) (same_edition _ _ (c.head p.told)) ∙ p.disks.newer;
        ends = c.ends p.told p.disks.ends ∙ ap (λ (n : ℕ). n + 1) (sym at);
        empty = empty;
      }
