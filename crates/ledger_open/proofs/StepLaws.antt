-- The steps that finish opening a ledger, by what each call does to its two disks.
use Rattle.std.specs.Prelude.{Bool, IsTrue}
use Rattle.std.proofs.Common.{◌≡◌, ℕ, ◌+◌, ◌≤◌, [], length, take, sym, ◌∙◌, ap, subst}
use Rattle.block_file.specs.File.{IsSettled}
use Rattle.block_file.specs.FileView.{gate_of}
use Rattle.ledger_disk.specs.Disk.{State, DiskState, settled_state}
use Rattle.ledger_model.specs.History.{History}
use Rattle.twin_file.specs.Images.{LeavesFront}
use Rattle.twin_file.specs.Twin.{choice}
use Rattle.twin_file.specs.Which.{in_a_of, file_of}
use Rattle.twin_file.specs.declared.twin.Twin.{Twin}
use Rattle.ledger_open.specs.Erasing.{StandsMeanwhile, LeavesShown, LeavesErased, LeavesRest, WritesZeros, WritesSome}
use Rattle.ledger_open.specs.Opening.{known_from, AreUnchanged}
use Rattle.ledger_open.specs.Purging.{Ledger, ledger_at, other_disk, StandsOpen, FinishesPurge, StandsPurging, IsPurgedStill, Purges}
use Rattle.ledger_open.specs.Heads.{edition_in, edition_of}
use Rattle.ledger_open.specs.Reopened.{KnowsMended, WasReadHere, IsCleanStill, PairStandsStill, StandsTrimmed}
use Rattle.ledger_open.specs.Standing.{PairFor, IsCleanPair}
use Rattle.ledger_open.specs.declared.opened.Opened.{Opened}
use Rattle.ledger_open.proofs.FinishedLaws.{settled_is}
use Rattle.ledger_open.proofs.LeftLaws.{IsErasedHere, cut_erased, known_left, edition_left}
use Rattle.ledger_open.proofs.MoveLaws.{settled_both}
use Rattle.ledger_open.proofs.OpenedLaws.{by_bytes, on_bytes, cut_pairs, given_pairs, edition_given, opened_stands, cleared_pairs, clean_cut, clean_given, clean_point, clean_cleared}

-- the same of the bytes of two disks, where the open file is told by another value
on_twin : (P : State → State → Type 0) (t u : Twin) → t ≡ u → (a b c d : DiskState) → P (choice (in_a_of t) a b).bytes (choice (in_a_of t) c d).bytes → P (choice (in_a_of u) a.bytes b.bytes) (choice (in_a_of u) c.bytes d.bytes)
on_twin P t u e a b c d p = on_bytes P (in_a_of u) a b c d (subst (λ (v : Twin). P (choice (in_a_of v) a b).bytes (choice (in_a_of v) c d).bytes) e p)

same_twin : (t u : Twin) → t ≡ u → (a b c d : DiskState) → choice (in_a_of t) c d ≡ choice (in_a_of t) a b → choice (in_a_of u) c.bytes d.bytes ≡ choice (in_a_of u) a.bytes b.bytes
same_twin t u e a b c d same = by_bytes (in_a_of u) a b c d (subst (λ (v : Twin). choice (in_a_of v) c d ≡ choice (in_a_of v) a b) e same)

module _ (tells : Bool) (o : Opened) (a b : DiskState) (read : WasReadHere tells (ledger_at o a.bytes b.bytes)) where
  abbrev x : Bool
  x = in_a_of o.twin

  abbrev place : ℕ
  place = gate_of (file_of o.twin)

  abbrev old : State
  old = choice x a.bytes b.bytes

  -- what stood behind the tail gate is cut
  module _ (a1 b1 : DiskState) (images1 : IsTrue tells → StandsTrimmed place old (choice x a1.bytes b1.bytes)) (other1 : choice x b1 a1 ≡ choice x b a) where
    abbrev mid : State
    mid = choice x a1.bytes b1.bytes

    left1 : choice x b1.bytes a1.bytes ≡ choice x b.bytes a.bytes
    left1 = by_bytes x b a b1 a1 other1

    pub trim_pairs : IsTrue tells → PairStandsStill a.bytes b.bytes a1.bytes b1.bytes
    trim_pairs told = cut_pairs _ read.start read.blocks read.knows x (edition_in o.twin) a.bytes b.bytes (read.has told) (read.here told) a1.bytes b1.bytes (images1 told) left1

    pub trim_clean : (IsTrue tells → length old.seen ≡ place + 1 → mid ≡ old) → IsTrue tells → IsCleanStill a.bytes b.bytes a1.bytes b1.bytes
    trim_clean idle told qa qb h c = clean_cut _ read.start read.blocks read.knows x (edition_in o.twin) a.bytes b.bytes (read.has told) (read.here told) h c a1.bytes b1.bytes (idle told) left1

    -- what the last journal hides is given up
    module _ (t : Twin) (e : t ≡ o.twin) (cut : IsTrue tells → mid ≡ settled_state (take (place + 1) old.seen)) (a2 b2 : DiskState)
        (images2 : IsTrue tells → StandsMeanwhile o.book o.places.list (choice (in_a_of t) a1 b1).bytes (choice (in_a_of t) a2 b2).bytes)
        (shown2 : IsTrue tells → LeavesShown o.book o.places.list (choice (in_a_of t) a1 b1).bytes (choice (in_a_of t) a2 b2).bytes)
        (idle2 : IsTrue tells → LeavesErased o.book o.places.list (choice (in_a_of t) a1 b1).bytes (choice (in_a_of t) a2 b2).bytes)
        (other2 : choice (in_a_of t) b2 a2 ≡ choice (in_a_of t) b1 a1) where
      abbrev new : State
      new = choice x a2.bytes b2.bytes

      left2 : choice x b2.bytes a2.bytes ≡ choice x b1.bytes a1.bytes
      left2 = same_twin t o.twin e b1 a1 b2 a2 other2

      meanwhile : IsTrue tells → StandsMeanwhile o.book o.places.list mid new
      meanwhile told = on_twin (StandsMeanwhile o.book o.places.list) t o.twin e a1 b1 a2 b2 (images2 told)

      shown : IsTrue tells → LeavesShown o.book o.places.list mid new
      shown told = on_twin (LeavesShown o.book o.places.list) t o.twin e a1 b1 a2 b2 (shown2 told)

      pub erase_pairs : IsTrue tells → PairStandsStill a.bytes b.bytes a2.bytes b2.bytes
      erase_pairs told =
          given_pairs _ read.start read.blocks read.knows x (edition_in o.twin) a.bytes b.bytes (read.has told) (read.here told) a1.bytes b1.bytes (images1 told) left1 (cut told) a2.bytes b2.bytes (meanwhile told) (shown told) left2

      erased_clean : IsTrue tells → (h : History) → IsCleanPair a.bytes.seen b.bytes.seen h → AreUnchanged a.bytes b.bytes a2.bytes b2.bytes
      erased_clean told h c =
          clean_given _ read.start read.blocks read.knows x (edition_in o.twin) a.bytes b.bytes (read.has told) (read.here told) h c a1.bytes b1.bytes a2.bytes b2.bytes (cut told) left1
          (on_twin (LeavesErased o.book o.places.list) t o.twin e a1 b1 a2 b2 (idle2 told)) left2

      pub erase_clean : IsTrue tells → IsCleanStill a.bytes b.bytes a2.bytes b2.bytes
      erase_clean told qa qb h c = erased_clean told h c

      -- the purge is finished
      module _ (bytes2 : IsTrue tells → WritesZeros o.book o.places.list (choice (in_a_of t) a1 b1).bytes (choice (in_a_of t) a2 b2).bytes)
          (some2 : IsTrue tells → WritesSome o.places.list (choice (in_a_of t) a1 b1).bytes (choice (in_a_of t) a2 b2).bytes)
          (rest2 : IsTrue tells → LeavesRest o.places.list (choice (in_a_of t) a1 b1).bytes (choice (in_a_of t) a2 b2).bytes) (p : Opened) (f : p ≡ o) (q : Opened) (a3 b3 : DiskState)
          (images3 : IsTrue tells → StandsPurging (ledger_at p a2.bytes b2.bytes) a3.bytes b3.bytes) (still3 : IsTrue tells → IsPurgedStill (ledger_at p a2.bytes b2.bytes) a3.bytes b3.bytes)
          (same3 : p.book.point ≤ p.book.floor → q ≡ p) where
        abbrev l : Ledger
        l = ledger_at o a2.bytes b2.bytes

        abbrev m : Ledger
        m = ledger_at q a3.bytes b3.bytes

        quiet : IsTrue tells → IsSettled new
        quiet told =
            let w = on_twin (WritesSome o.places.list) t o.twin e a1 b1 a2 b2 (some2 told) (settled_is mid (take (place + 1) old.seen) (cut told)) in
            settled_is new w.0 w.2

        rest : IsTrue tells → LeavesRest o.places.list mid new
        rest told = on_twin (LeavesRest o.places.list) t o.twin e a1 b1 a2 b2 (rest2 told)

        still : IsTrue tells → IsPurgedStill l a3.bytes b3.bytes
        still told = subst (λ (r : Opened). IsPurgedStill (ledger_at r a2.bytes b2.bytes) a3.bytes b3.bytes) f (still3 told)

        same : l.known.book.point ≤ l.known.book.floor → q ≡ o
        same = subst (λ (r : Opened). r.book.point ≤ r.book.floor → q ≡ r) f same3

        here : IsTrue tells → (h : History) → PairFor a.bytes.seen b.bytes.seen h → StandsOpen l h
        here told h s =
            opened_stands _ read.start read.blocks read.knows x (edition_in o.twin) a.bytes b.bytes (read.has told) (read.here told) a1.bytes b1.bytes (images1 told) left1 (cut told) a2.bytes b2.bytes (meanwhile told) (shown told) left2 (quiet told) (rest told) h s

        pub purge_pairs : IsTrue tells → PairStandsStill a.bytes b.bytes a3.bytes b3.bytes
        purge_pairs told h s = subst (λ (r : Opened). StandsPurging (ledger_at r a2.bytes b2.bytes) a3.bytes b3.bytes) f (images3 told) h (here told h s)

        most : IsTrue tells → (h : History) → IsCleanPair a.bytes.seen b.bytes.seen h → o.book.point ≤ o.book.floor
        most told h c = clean_point _ read.start read.blocks read.knows x (edition_in o.twin) a.bytes b.bytes (read.has told) (read.here told) h c

        purged_clean : IsTrue tells → (h : History) → IsCleanPair a.bytes.seen b.bytes.seen h → AreUnchanged a.bytes b.bytes a3.bytes b3.bytes
        purged_clean told h c =
            let now = still told (most told h c) in
            let before = erased_clean told h c in
            (now.0 ∙ before.0, now.1 ∙ before.1)

        pub purge_clean : IsTrue tells → IsCleanStill a.bytes b.bytes a3.bytes b3.bytes
        purge_clean told qa qb h c = purged_clean told h c

        -- the other file is cleared
        module _ (finishes3 : IsTrue tells → FinishesPurge (ledger_at p a2.bytes b2.bytes) m) (purges3 : Purges tells (ledger_at p a2.bytes b2.bytes) m) (y : Bool) (g : y ≡ in_a_of q.twin) (a4 b4 : DiskState) (stays4 : choice y a4 b4 ≡ choice y a3 b3)
            (front4 : IsTrue tells → LeavesFront (choice y b3.bytes a3.bytes) (choice y b4.bytes a4.bytes))
            (idle4 : IsTrue tells → (choice y b3.bytes a3.bytes).seen ≡ [] → choice y b4.bytes a4.bytes ≡ choice y b3.bytes a3.bytes) where
          stays : choice m.in_a a4.bytes b4.bytes ≡ choice m.in_a a3.bytes b3.bytes
          stays = by_bytes m.in_a a3 b3 a4 b4 (subst (λ (v : Bool). choice v a4 b4 ≡ choice v a3 b3) g stays4)

          idle : IsTrue tells → (other_disk m).seen ≡ [] → choice m.in_a b4.bytes a4.bytes ≡ other_disk m
          idle told = subst (λ (v : Bool). (choice v b3.bytes a3.bytes).seen ≡ [] → choice v b4.bytes a4.bytes ≡ choice v b3.bytes a3.bytes) g (idle4 told)

          pub clear_pairs : IsTrue tells → PairStandsStill a.bytes b.bytes a4.bytes b4.bytes
          clear_pairs told h s =
              cleared_pairs l m a4.bytes b4.bytes h (here told h s) (subst (λ (r : Opened). FinishesPurge (ledger_at r a2.bytes b2.bytes) m) f (finishes3 told)) (still told) (λ le. ap (λ (r : Opened). in_a_of r.twin) (same le)) stays
              (subst (λ (v : Bool). LeavesFront (choice v b3.bytes a3.bytes) (choice v b4.bytes a4.bytes)) g (front4 told)) (idle told)

          pub clear_clean : IsTrue tells → IsCleanStill a.bytes b.bytes a4.bytes b4.bytes
          clear_clean told qa qb h c =
              clean_cleared _ read.start read.blocks read.knows x (edition_in o.twin) a.bytes b.bytes (read.has told) (read.here told) h c m a4.bytes b4.bytes (ap (λ (r : Opened). in_a_of r.twin) (same (most told h c))) (purged_clean told h c) stays (idle told)

          done : IsTrue tells → IsErasedHere read.start read.blocks l a.bytes b.bytes
          done told = record {
            has = read.has told;
            here = read.here told;
            erased = cut_erased _ read.start read.blocks read.knows x old.seen mid new (cut told) (on_twin (WritesZeros o.book o.places.list) t o.twin e a1 b1 a2 b2 (bytes2 told)) (on_twin (WritesSome o.places.list) t o.twin e a1 b1 a2 b2 (some2 told));
            quiet = quiet told;
            other_quiet = subst IsSettled (sym (left2 ∙ left1)) (settled_both x b.bytes a.bytes (read.here told).quiet_b (read.here told).quiet_a);
            edition =
                edition_given _ read.start read.blocks read.knows x (edition_in o.twin) a.bytes b.bytes (read.has told) (read.here told) a1.bytes b1.bytes (images1 told) left1 (cut told) a2.bytes b2.bytes (meanwhile told) (shown told) left2 (quiet told) (rest told);
          }

          same_known : l.known.book.point ≤ l.known.book.floor → (m.known ≡ l.known) × (m.in_a ≡ l.in_a) × (m.edition ≡ l.edition)
          same_known le = (ap (λ (r : Opened). known_from r.book r.places.list (gate_of (file_of r.twin))) (same le), ap (λ (r : Opened). in_a_of r.twin) (same le), ap (λ (r : Opened). edition_in r.twin) (same le))

          purges : Purges tells l m
          purges = subst (λ (r : Opened). Purges tells (ledger_at r a2.bytes b2.bytes) m) f purges3

          pub clear_known : (IsTrue tells → IsSettled (choice y b3.bytes a3.bytes) → choice y b4.bytes a4.bytes ≡ settled_state []) → KnowsMended tells m.in_a m.known a.bytes b.bytes a4.bytes b4.bytes
          clear_known cleared =
              known_left tells l m read.start read.blocks read.knows a.bytes b.bytes a4.bytes b4.bytes done same_known still purges (λ told. stays)
              (λ told. subst (λ (v : Bool). IsSettled (choice v b3.bytes a3.bytes) → choice v b4.bytes a4.bytes ≡ settled_state []) g (cleared told))

          pub clear_edition : IsTrue tells → edition_in q.twin ≡ edition_of (choice (in_a_of q.twin) a4.bytes b4.bytes).seen
          clear_edition told = edition_left tells l m read.start read.blocks read.knows a.bytes b.bytes a4.bytes b4.bytes done same_known still purges (λ told. stays) told
