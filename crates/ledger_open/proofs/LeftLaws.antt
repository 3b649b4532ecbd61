-- What is known of a ledger once it was opened, and what its files are then.
use Rattle.std.specs.Prelude.{Bool, true, false, IsTrue, Option, Some}
use Rattle.std.proofs.Common.{◌≡◌, inl, inr, ℕ, ◌+◌, ◌<◌, ◌≤◌, List, [], ◌∷◌, ◌++◌, length, take, refl, sym, ◌∙◌, ap, subst, arith, append_assoc, length-append}
use Rattle.std.proofs.lemmas.Bool.{cases_lt}
use Rattle.std.proofs.lemmas.List.Concat.{flat_map-append}
use Rattle.block_file.specs.File.{IsSettled}
use Rattle.block_file.specs.Head.{generation_of}
use Rattle.journal_record.specs.Blocks.{AreBlocks}
use Rattle.journal_record.specs.Entry.{Entry}
use Rattle.ledger_book.proofs.StandsLaws.{point_is}
use Rattle.ledger_book.specs.Books.{Serves}
use Rattle.ledger_disk.specs.Disk.{State, settled_state}
use Rattle.ledger_model.specs.Bases.{base_of}
use Rattle.ledger_model.specs.History.{History, journals_of}
use Rattle.ledger_model.specs.Targets.{is_hidden}
use Rattle.pseudo_genesis.specs.declared.base.Base.{Base}
use Rattle.twin_file.specs.Twin.{choice, IsTaken, next_generation}
use Rattle.ledger_open.specs.Cutting.{gate_behind}
use Rattle.ledger_open.specs.Erasing.{ErasesSome, given_up, WritesZeros, WritesSome}
use Rattle.ledger_open.specs.Heads.{Edition, edition_of}
use Rattle.ledger_open.specs.Opening.{Known, Knows, GoesOn, HasFile}
use Rattle.ledger_open.specs.Purging.{Ledger, open_disk, other_disk, copied_file, IsPurged, Purges, IsPurgedStill}
use Rattle.ledger_open.specs.Reopened.{Remembers, OpenFile, open_file, WasRead, IsHere, IsCutAndErased, IsMended, WasMoved, KnowsMended}
use Rattle.ledger_open.specs.Standing.{Floor, SameButHidden, floor_from}
use Rattle.ledger_open.proofs.OwnPurges.{first_reached}
use Rattle.ledger_open.proofs.ByteLaws.{copied_edition}
use Rattle.ledger_open.proofs.CopyLaws.{blocks_behind}
use Rattle.ledger_open.proofs.ErasingLaws.{given_alike}
use Rattle.ledger_open.proofs.FallLaws.{FallsThere, falls_there}
use Rattle.ledger_open.proofs.FinishedLaws.{settled_is}
use Rattle.ledger_open.proofs.KeptLaws.{all_kept}
use Rattle.ledger_open.proofs.LikeLaws.{count_kept}
use Rattle.ledger_open.proofs.OpenedLaws.{floor_goes, known_goes}

-- ---- what becomes of a file that was read

module _ (k : Known) (start : Option Base) (blocks : List (List Entry)) (knows : Knows k start blocks) where
  -- the file that was read, cut and with zeros for what its last journal hides
  pub cut_erased : (x : Bool) (old : List ℕ) (cut new : State) → cut ≡ settled_state (take (k.gate + 1) old) → WritesZeros k.book k.places cut new → WritesSome k.places cut new → IsCutAndErased (open_file x start blocks k.gate) k.places old new.seen
  cut_erased x old cut new is writes some =
      let quiet : IsSettled cut = settled_is cut (take (k.gate + 1) old) is in
      let seen : cut.seen ≡ take (k.gate + 1) old = ap (λ (s : State). s.seen) is in
      let w = some quiet in
      record {
        some = subst (λ (bytes : List ℕ). ErasesSome k.places bytes new.seen) seen (subst (ErasesSome k.places cut.seen) (sym (ap (λ (s : State). s.seen) w.2)) w.1);
        hidden = λ h g.
            ap (λ (s : State). s.seen) (writes h (known_goes k start blocks knows h g) quiet) ∙ ap (λ (f : Floor). given_up h f g.parts.kept cut.seen) (floor_goes start blocks h g knows.base)
            ∙ given_alike h (floor_from start) (is_hidden h) (λ n. false) g.parts.kept blocks cut.seen g.same ∙ ap (given_up h (floor_from start) blocks) seen;
      }

  -- it stays the open one
  remembers_here : Remembers k start blocks
  remembers_here = record { serves = λ none. knows.serves; lawful = knows.lawful; floor = knows.floor; places = knows.places; tail = knows.tail; settled = knows.settled }

-- ---- a history that goes on with the last of some blocks

record Parted (hid gone : ℕ → Bool) (bs front behind : List (List Entry)) : Type 0 where
  first : List (List Entry)
  second : List (List Entry)
  are : bs ≡ first ++ second
  one : SameButHidden hid gone first front
  two : SameButHidden hid gone second behind

parted : (hid gone : ℕ → Bool) (bs front behind : List (List Entry)) → SameButHidden hid gone bs (front ++ behind) → Parted hid gone bs front behind
parted hid gone bs [] behind s = record { first = []; second = bs; are = refl; one = tt; two = s }
parted hid gone [] (f ∷ front) behind s = absurd s
parted hid gone (b ∷ bs) (f ∷ front) behind s =
    let p = parted hid gone bs front behind s.1 in
    record { first = b ∷ p.first; second = p.second; are = ap (λ (l : List (List Entry)). b ∷ l) p.are; one = (s.0, p.one); two = p.two }

goes_behind : (start : Option Base) (front behind : List (List Entry)) (h : History) (base : Base) → GoesOn start (front ++ behind) h → (floor_from start).first + length (journals_of front) ≡ base.point → base ≡ base_of h base.point → GoesOn (Some base) behind h
goes_behind start front behind h base g at is =
    let p = parted (is_hidden h) (λ n. false) g.parts.kept front behind g.same in
    record {
      lawful = g.lawful;
      none = g.none;
      parts = record {
        gone = g.parts.gone ++ p.first;
        kept = p.second;
        are = g.parts.are ∙ ap (λ (l : List (List Entry)). g.parts.gone ++ l) p.are ∙ sym (append_assoc g.parts.gone p.first p.second);
        at = omega (
          arith,
          at,
          g.parts.at,
          ap length (flat_map-append (λ (b : List Entry). b) g.parts.gone p.first),
          length-append (journals_of g.parts.gone) (journals_of p.first),
          count_kept (is_hidden h) (λ n. false) (journals_of p.first) (journals_of front) (all_kept (is_hidden h) (λ n. false) p.first front p.one),
        );
      };
      base = sym is;
      same = p.two;
    }

-- ---- an open ledger whose file was read, cut and erased

pub record IsErasedHere (start : Option Base) (blocks : List (List Entry)) (l : Ledger) (a b : State) : Type 0 where
  pub has : HasFile start blocks (choice l.in_a a b).seen
  pub here : IsHere l.in_a l.edition a b
  pub erased : IsCutAndErased (open_file l.in_a start blocks l.known.gate) l.known.places (choice l.in_a a b).seen (open_disk l).seen
  pub quiet : IsSettled (open_disk l)
  pub other_quiet : IsSettled (other_disk l)
  pub edition : l.edition ≡ edition_of (open_disk l).seen

module _ (tells : Bool) (l m : Ledger) (start : Option Base) (blocks : List (List Entry)) (knows : Knows l.known start blocks) (a b a4 b4 : State) (done : IsTrue tells → IsErasedHere start blocks l a b)
    (same : l.known.book.point ≤ l.known.book.floor → (m.known ≡ l.known) × (m.in_a ≡ l.in_a) × (m.edition ≡ l.edition)) (still : IsTrue tells → IsPurgedStill l m.a m.b) (purges : Purges tells l m)
    (stays : IsTrue tells → choice m.in_a a4 b4 ≡ choice m.in_a m.a m.b) where
  abbrev was : OpenFile
  was = open_file l.in_a start blocks l.known.gate

  abbrev was_read : IsTrue tells → WasRead was a b
  was_read told = let d = done told in record { taken = d.here.taken; has = d.has; known = l.known; knows = knows; tail = refl }

  -- no purge was left undone
  module _ (most : l.known.book.point ≤ l.known.book.floor) where
    open_same : IsTrue tells → choice m.in_a a4 b4 ≡ open_disk l
    open_same told = stays told ∙ ap (λ (v : Bool). choice v m.a m.b) (same most).1 ∙ ap (λ (s : State). choice l.in_a s m.b) (still told most).0 ∙ ap (λ (s : State). choice l.in_a l.a s) (still told most).1

    other_same : IsTrue tells → other_disk m ≡ other_disk l
    other_same told = ap (λ (v : Bool). choice v m.b m.a) (same most).1 ∙ ap (λ (s : State). choice l.in_a m.b s) (still told most).0 ∙ ap (λ (s : State). choice l.in_a s l.a) (still told most).1

    stays_known : (IsTrue tells → IsSettled (other_disk m) → choice m.in_a b4 a4 ≡ settled_state []) → KnowsMended tells m.in_a m.known a b a4 b4
    stays_known cleared = (
      start,
      blocks,
      subst (λ (k : Known). Remembers k start blocks) (sym (same most).0) (remembers_here l.known start blocks knows),
      λ told.
          let d = done told in
          record {
            was = was;
            read = was_read told;
            bytes = (open_disk l).seen;
            erased = d.erased;
            goes = λ h g. g;
            serves = λ h g. subst (λ (k : Known). Serves k.book h) (sym (same most).0) (knows.serves h g);
            left = inl (record {
              same = ap (λ (v : Bool). open_file v start blocks m.known.gate) (same most).1 ∙ ap (λ (k : Known). open_file l.in_a start blocks k.gate) (same most).0;
              at_point = omega (arith, most, knows.point, knows.floor, first_reached start (journals_of blocks) knows.reached);
              open_is = open_same told ∙ d.quiet;
            });
            other_is = cleared told (subst IsSettled (sym (other_same told)) d.other_quiet);
          },
    )

  -- a purge was finished
  module _ (below : l.known.book.floor < l.known.book.point) where
    there : FallsThere l.known (floor_from start) blocks
    there = falls_there l.known start blocks knows below

    purged : IsPurged tells (floor_from start) there.front there.behind l m
    purged = purges (floor_from start) there.front there.behind there.falls (omega (arith, below, there.falls.first))

    at : (floor_from start).first + length (journals_of there.front) ≡ purged.base.base.point
    at = there.falls.point ∙ sym purged.base.point

    moved_known : (IsTrue tells → IsSettled (other_disk m) → choice m.in_a b4 a4 ≡ settled_state []) → KnowsMended tells m.in_a m.known a b a4 b4
    moved_known cleared = (
      Some purged.base.base,
      there.behind,
      record {
        serves = λ none. absurd cc;
        lawful = subst (λ (n : ℕ). AreBlocks n there.behind) at (blocks_behind (floor_from start).first there.front there.behind (subst (AreBlocks (floor_from start).first) there.are knows.lawful));
        floor = purged.book.floor ∙ sym purged.base.point;
        places = purged.places;
        tail = purged.tail;
        settled = purged.book.size ∙ knows.settled ∙ sym purged.book.sealed;
      },
      λ told.
          let d = done told in
          record {
            was = was;
            read = was_read told;
            bytes = (open_disk l).seen;
            erased = d.erased;
            goes = λ h g.
                goes_behind start there.front there.behind h purged.base.base (subst (λ (bs : List (List Entry)). GoesOn start bs h) there.are g) at
                (purged.base.base_is h (knows.serves h g) ∙ ap (base_of h) (sym purged.base.point));
            serves = λ h g. purged.book.serves h (knows.serves h g) (point_is l.known.book h (knows.serves h g));
            left = inr (record {
              other = purged.in_a;
              front = there.front;
              are = there.are;
              base = purged.base.base;
              start_is = refl;
              counts = purged.base.counts;
              point = purged.base.point ∙ knows.point;
              before = omega (arith, below, there.falls.first, purged.base.point);
              at = at;
              open_is =
                  stays told ∙ purged.copied told
                  ∙ ap (λ (g : ℕ). settled_state (copied_file g purged.bytes (gate_behind (floor_from start) there.front) l.known.gate (open_disk l).seen)) (ap (λ (e : Edition). e.number) purged.edition ∙ ap (λ (e : Edition). next_generation e.number) d.here.edition_is)
                  ∙ ap (λ (bytes : List ℕ). settled_state (copied_file (next_generation (generation_of (choice l.in_a a b).seen)) bytes (gate_behind (floor_from start) there.front) l.known.gate (open_disk l).seen)) purged.base.spelled;
            });
            other_is = cleared told (settled_is (other_disk m) [] (purged.wiped told));
          },
    )

  pub known_left : (IsTrue tells → IsSettled (other_disk m) → choice m.in_a b4 a4 ≡ settled_state []) → KnowsMended tells m.in_a m.known a b a4 b4
  known_left cleared = elim (cases_lt l.known.book.floor l.known.book.point) [ inl below ↦ moved_known below cleared | inr most ↦ stays_known most cleared ]

  -- the edition that is kept is that of the open file
  pub edition_left : IsTrue tells → m.edition ≡ edition_of (choice m.in_a a4 b4).seen
  edition_left told = elim (cases_lt l.known.book.floor l.known.book.point) [
    | inl below ↦
        let p = purged below in
        let from = gate_behind (floor_from start) (there below).front in
        p.edition ∙ copied_edition l.edition.number from l.known.gate p.bytes (open_disk l).seen
        ∙ sym (ap (λ (s : State). edition_of s.seen) (stays told ∙ p.copied told ∙ ap (λ (g : ℕ). settled_state (copied_file g p.bytes from l.known.gate (open_disk l).seen)) (ap (λ (e : Edition). e.number) p.edition)))
    | inr most ↦ (same most).2 ∙ (done told).edition ∙ sym (ap (λ (s : State). edition_of s.seen) (open_same most told))
  ]

-- ---- of two disks that read as these

seen_same : (v : Bool) (a b a_now b_now : State) → a_now.seen ≡ a.seen → b_now.seen ≡ b.seen → (choice v a_now b_now).seen ≡ (choice v a b).seen
seen_same true a b a_now b_now ea eb = ea
seen_same false a b a_now b_now ea eb = eb

pub mended_as : (y : Bool) (k : Known) (start : Option Base) (blocks : List (List Entry)) (a b a_now b_now a_new b_new : State) → a_now.seen ≡ a.seen → b_now.seen ≡ b.seen → IsMended y k start blocks a_now b_now a_new b_new → IsMended y k start blocks a b a_new b_new
mended_as y k start blocks a b a_now b_now a_new b_new ea eb r =
    let seen : (choice r.was.in_a a_now b_now).seen ≡ (choice r.was.in_a a b).seen = seen_same r.was.in_a a b a_now b_now ea eb in
    record {
      was = r.was;
      read = record {
        taken = subst (λ (l : List ℕ). IsTaken r.was.in_a l b.seen) ea (subst (IsTaken r.was.in_a a_now.seen) eb r.read.taken);
        has = subst (HasFile r.was.start r.was.blocks) seen r.read.has;
        known = r.read.known;
        knows = r.read.knows;
        tail = r.read.tail;
      };
      bytes = r.bytes;
      erased = subst (λ (old : List ℕ). IsCutAndErased r.was r.read.known.places old r.bytes) seen r.erased;
      goes = r.goes;
      serves = r.serves;
      left = elim r.left [
        | inl s ↦ inl s
        | inr w ↦ inr (subst (λ (g : ℕ). WasMoved r.was (open_file y start blocks k.gate) g r.bytes a_new b_new) (ap generation_of seen) w)
      ];
      other_is = r.other_is;
    }
