-- An open ledger whose file was read stands for each history that its files stand for, while what was left undone is done.
use Rattle.std.specs.Prelude.{Bool, true, false, Option, Some, None}
use Rattle.std.proofs.Common.{◌≡◌, inl, inr, ℕ, ◌+◌, ◌≤◌, List, [], length, take, refl, sym, ◌∙◌, ap, subst, arith}
use Rattle.std.proofs.lemmas.Bool.{cases_lt}
use Rattle.std.proofs.lemmas.List.{nil_from_length, take-take, take_all}
use Rattle.block_file.specs.File.{IsSettled, IsFileOf, tail_of}
use Rattle.journal_record.specs.Entry.{Entry}
use Rattle.ledger_disk.proofs.Guarding.{settled_image}
use Rattle.ledger_disk.specs.Disk.{State, DiskState, MayLeave, settled_state}
use Rattle.ledger_model.specs.History.{History}
use Rattle.ledger_model.specs.Targets.{is_hidden}
use Rattle.pseudo_genesis.specs.declared.base.Base.{Base}
use Rattle.twin_file.specs.Images.{LeavesFront}
use Rattle.twin_file.specs.Twin.{choice, IsTaken}
use Rattle.ledger_open.specs.Cutting.{gate_behind}
use Rattle.ledger_open.specs.Erasing.{EndsAs, AreOf, AreBetween, StandsMeanwhile, LeavesShown, LeavesErased, LeavesRest}
use Rattle.ledger_open.specs.Opening.{Known, Knows, GoesOn, HasFile, AreUnchanged}
use Rattle.block_file.specs.Places.{after_at}
use Rattle.ledger_open.specs.Heads.{Edition, edition_of}
use Rattle.ledger_open.specs.Places.{places_from}
use Rattle.ledger_open.specs.Purging.{Ledger, open_disk, other_disk, StandsOpen, FinishesPurge, IsPurgedStill}
use Rattle.ledger_open.specs.Reopened.{IsHere, StandsTrimmed, PairStandsStill}
use Rattle.ledger_open.specs.Standing.{Floor, floor_of, floor_from, floor_behind, StandsFor, IsErased, IsClean, IsBeside, PairFor, IsCleanPair}
use Rattle.ledger_open.specs.Starts.{IsDecoded}
use Rattle.ledger_open.proofs.CleanLaws as file
use Rattle.ledger_open.proofs.CleanLaws.{clean_size, own_tail, between_at}
use Rattle.ledger_open.proofs.FinishedLaws.{both_settled}
use Rattle.ledger_open.proofs.GrowLaws.{erased_stands}
use Rattle.ledger_open.proofs.FinishLaws.{are_of, by_purge, floors}
use Rattle.ledger_open.proofs.MoveLaws.{settled_both}
use Rattle.ledger_open.proofs.OldLaws.{same_edition, old_front, front_passed}
use Rattle.twin_file.proofs.OpenLaws.{chosen}
use Rattle.ledger_open.proofs.OpenLaws.{taken_pair}
use Rattle.ledger_open.proofs.PartLaws.{none_gone}
use Rattle.ledger_open.proofs.PlaceLaws.{places_kept, after_kept}
use Rattle.ledger_open.proofs.PlaceMoves.{after_most}
use Rattle.ledger_open.proofs.ReopenLaws.{clean_seen, clean_taken}
use Rattle.ledger_open.proofs.SplitLaws.{behind_some}
use Rattle.ledger_open.proofs.StartLaws.{point_some}
use Rattle.ledger_open.proofs.WholeLaws.{goes_on, floor_there}

-- ---- two disks, of which one is open

pub bytes_of : (x : Bool) (a b : DiskState) → (choice x a b).bytes ≡ choice x a.bytes b.bytes
bytes_of true a b = refl
bytes_of false a b = refl

-- the same of the bytes of two disks
pub by_bytes : (x : Bool) (a b c d : DiskState) → choice x c d ≡ choice x a b → choice x c.bytes d.bytes ≡ choice x a.bytes b.bytes
by_bytes x a b c d same = sym (bytes_of x c d) ∙ ap (λ (s : DiskState). s.bytes) same ∙ bytes_of x a b

pub on_bytes : (P : State → State → Type 0) (x : Bool) (a b c d : DiskState) → P (choice x a b).bytes (choice x c d).bytes → P (choice x a.bytes b.bytes) (choice x c.bytes d.bytes)
on_bytes P true a b c d p = p
on_bytes P false a b c d p = p

both_same : (x : Bool) (a b c d : State) → choice x c d ≡ choice x a b → choice x d c ≡ choice x b a → AreUnchanged a b c d
both_same true a b c d one two = (one, two)
both_same false a b c d one two = (two, one)

-- what nothing is pending on is its own image
left_own : (s : State) → IsSettled s → MayLeave s s.seen
left_own s quiet = subst (λ (t : State). MayLeave t s.seen) (sym quiet) (record { no_shorter = omega arith; no_longer = omega arith; kept = λ i inside there untouched. refl })

image_of : (s : State) (image : List ℕ) → IsSettled s → MayLeave s image → image ≡ s.seen
image_of s image quiet left = settled_image s.seen image (subst (λ (t : State). MayLeave t image) quiet left)

-- the bytes of the open file, which begins at this floor, stand for the history, and those of the other are beside it
pub record StandsIn (floor : ℕ) (h : History) (other file : List ℕ) : Type 0 where
  pub stands : StandsFor file h
  pub floor_is : stands.floor ≡ floor
  pub beside : IsBeside h stands.file.edition other

pub stands_in : (x : Bool) (a b : State) (h : History) → IsTaken x a.seen b.seen → PairFor a.seen b.seen h → (floor : ℕ) × StandsIn floor h (choice x b a).seen (choice x a b).seen
stands_in true a b h t p = let q = taken_pair true a.seen b.seen h t p in (q.stands.floor, record { stands = q.stands; floor_is = refl; beside = q.beside })
stands_in false a b h t p = let q = taken_pair false a.seen b.seen h t p in (q.stands.floor, record { stands = q.stands; floor_is = refl; beside = q.beside })

-- an image of the open file that stands for the history, beside an image of the other
pair_images : (x : Bool) (h : History) (image_a image_b : List ℕ) (floor : ℕ) (other : State) → StandsIn floor h other.seen (choice x image_a image_b) → IsSettled other → MayLeave other (choice x image_b image_a) → PairFor image_a image_b h
pair_images x h image_a image_b floor other s quiet left = record {
  in_a = x;
  stands = s.stands;
  beside = subst (IsBeside h s.stands.file.edition) (sym (image_of other (choice x image_b image_a) quiet left)) s.beside;
}

-- ---- the head of a file

-- ---- a file that was read

-- where it begins, by a history that goes on with its blocks
pub floor_goes : (start : Option Base) (blocks : List (List Entry)) (h : History) (g : GoesOn start blocks h) → IsDecoded start → floor_behind h g.parts.gone ≡ floor_from start
floor_goes None blocks h g decoded = ap (floor_behind h) (none_gone h g.lawful.blocks_are g.parts)
floor_goes (Some b) blocks h g decoded = behind_some h g.parts.gone b.point g.parts.at (omega (arith, point_some b decoded)) ∙ ap floor_of g.base

module _ (k : Known) (start : Option Base) (blocks : List (List Entry)) (knows : Knows k start blocks) where
  abbrev from : Floor
  from = floor_from start

  between_read : AreBetween 64 k.gate k.places
  between_read =
      subst (λ (end : ℕ). AreBetween 64 end k.places) (sym knows.tail) (subst (AreBetween 64 (after_at (64 + length from.base) blocks)) (sym knows.places) (between_at 64 (64 + length from.base) blocks (omega arith)))

  low : 64 ≤ k.gate
  low = omega (arith, knows.tail, after_most 0 0 (64 + length from.base) blocks)

  -- what is known is that of a history that goes on so
  abbrev pub known_goes : (h : History) → GoesOn start blocks h → AreOf k.book k.places h
  known_goes h g = record {
    serves = knows.serves h g;
    parts = record { gone = g.parts.gone; kept = g.parts.kept; are = g.parts.are; at = g.parts.at ∙ sym knows.floor };
    places_are =
        knows.places ∙ sym (places_kept (is_hidden h) (λ n. false) (64 + length (floor_from start).base) g.parts.kept blocks g.same)
        ∙ ap (λ (f : Floor). places_from f g.parts.kept) (sym (floor_goes start blocks h g knows.base));
    none = g.none;
  }

  tail_goes : (h : History) (g : GoesOn start blocks h) → k.gate ≡ gate_behind (floor_behind h g.parts.gone) g.parts.kept
  tail_goes h g =
      knows.tail ∙ sym (after_kept (is_hidden h) (λ n. false) (64 + length (floor_from start).base) g.parts.kept blocks g.same) ∙ ap (λ (f : Floor). gate_behind f g.parts.kept) (sym (floor_goes start blocks h g knows.base))

  -- .. of one that the file stands for
  module _ (h : History) (image : List ℕ) (has : HasFile start blocks image) (s : StandsFor image h) where
    abbrev pub goes : GoesOn start blocks h
    goes = goes_on image h start blocks has.0 s knows.base has.1

    pub floor_read : s.floor ≡ k.book.floor
    floor_read = floor_there image h s start blocks has.0 knows.base has.1 ∙ sym knows.floor

    abbrev pub ends_read : EndsAs k.book k.places h
    ends_read =
        let known = known_goes h goes in
        record {
          serves = known.serves;
          begins = elim s.begins [ inl at ↦ inl (sym floor_read ∙ at) | inr at ↦ inr (sym floor_read ∙ at) ];
          parts = known.parts;
          places_are = known.places_are;
          none = known.none;
        }

    pub tail_read : k.gate ≡ gate_behind (floor_behind h ends_read.parts.gone) ends_read.parts.kept
    tail_read = tail_goes h goes

    -- an image of it that has the same blocks behind the same front
    again : (other image_now : List ℕ) → IsBeside h s.file.edition other → ((front : List ℕ) (ws : List (List ℕ)) → IsFileOf front ws image → tail_of front ws ≡ k.gate → IsFileOf front ws image_now) → StandsIn k.book.floor h other image_now
    again other image_now beside same =
        let x = s.file in
        let f = x.keeps.file in
        record {
          stands = record {
            floor = s.floor;
            begins = s.begins;
            file = record {
              edition = x.edition;
              parts = x.parts;
              keeps = record { blocks = x.keeps.blocks; file = record { front = f.front; head = f.head; lawful = f.lawful; stands = same f.front _ f.stands (own_tail k start blocks image knows has h s) }; same = x.keeps.same };
              early = x.early;
              none = x.none;
              lawful = x.lawful;
              wide = x.wide;
            };
          };
          floor_is = floor_read;
          beside = beside;
        }

  -- ---- step by step

  -- the file that was read is taken of the two
  module _ (x : Bool) (edition : Edition) (a b : State) (has : HasFile start blocks (choice x a b).seen) (here : IsHere x edition a b) where
    open_quiet : IsSettled (choice x a b)
    open_quiet = settled_both x a b here.quiet_a here.quiet_b

    abbrev pub ends_here : (h : History) → PairFor a.seen b.seen h → EndsAs k.book k.places h
    ends_here h p = ends_read h (choice x a b).seen has (stands_in x a b h here.taken p).1.stands

    pub tail_here : (h : History) (p : PairFor a.seen b.seen h) → k.gate ≡ gate_behind (floor_behind h (ends_here h p).parts.gone) (ends_here h p).parts.kept
    tail_here h p = tail_read h (choice x a b).seen has (stands_in x a b h here.taken p).1.stands

    -- while it is cut behind its tail gate
    module _ (a1 b1 : State) (images : StandsTrimmed k.gate (choice x a b) (choice x a1 b1)) (other : choice x b1 a1 ≡ choice x b a) where
      other_quiet : IsSettled (choice x b1 a1)
      other_quiet = subst IsSettled (sym other) (settled_both x b a here.quiet_b here.quiet_a)

      cut_image : (h : History) → PairFor a.seen b.seen h → (image : List ℕ) → MayLeave (choice x a1 b1) image → StandsIn k.book.floor h (choice x b1 a1).seen image
      cut_image h p image left =
          let s = stands_in x a b h here.taken p in
          again h (choice x a b).seen has s.1.stands (choice x b1 a1).seen image (subst (λ (o : State). IsBeside h s.1.stands.file.edition o.seen) (sym other) s.1.beside)
          (λ front ws stands tail. images open_quiet front ws stands tail image left)

      pub cut_pairs : PairStandsStill a b a1 b1
      cut_pairs h p image_a image_b la lb =
          let both = chosen x a1 b1 image_a image_b la lb in
          pair_images x h image_a image_b k.book.floor (choice x b1 a1) (cut_image h p (choice x image_a image_b) both.0) other_quiet both.1

      -- once that is done
      module _ (cut : choice x a1 b1 ≡ settled_state (take (k.gate + 1) (choice x a b).seen)) where
        cut_quiet : IsSettled (choice x a1 b1)
        cut_quiet = cut ∙ ap settled_state (sym (ap (λ (s : State). s.seen) cut))

        cut_head : take 64 (choice x a1 b1).seen ≡ take 64 (choice x a b).seen
        cut_head = ap (λ (s : State). take 64 s.seen) cut ∙ take-take 64 (k.gate + 1) (choice x a b).seen (omega (arith, low))

        -- while what the last journal hides is given up
        module _ (a2 b2 : State) (meanwhile : StandsMeanwhile k.book k.places (choice x a1 b1) (choice x a2 b2)) (shown : LeavesShown k.book k.places (choice x a1 b1) (choice x a2 b2)) (other2 : choice x b2 a2 ≡ choice x b1 a1) where
          other_quiet2 : IsSettled (choice x b2 a2)
          other_quiet2 = subst IsSettled (sym other2) other_quiet

          given_image : (h : History) → PairFor a.seen b.seen h → (image : List ℕ) → MayLeave (choice x a2 b2) image → StandsIn k.book.floor h (choice x b2 a2).seen image
          given_image h p image left = subst (λ (o : State). StandsIn k.book.floor h o.seen image) (sym other2) (by_purge k.book k.places h ends
              (λ same.
              let now = meanwhile h ends cut_quiet before.stands image left in
              record { stands = now.0; floor_is = floors k.book k.places h ends image now.0 same; beside = subst (λ (e : Edition). IsBeside h e (choice x b1 a1).seen) (sym now.1) before.beside })
              (λ none. subst (StandsIn k.book.floor h (choice x b1 a1).seen) (sym (image_of (choice x a1 b1) image cut_quiet (subst (λ (s : State). MayLeave s image) (shown h (are_of k.book k.places h ends) none) left))) before)) where
                ends : EndsAs k.book k.places h
                ends = ends_here h p

                before : StandsIn k.book.floor h (choice x b1 a1).seen (choice x a1 b1).seen
                before = cut_image h p (choice x a1 b1).seen (left_own (choice x a1 b1) cut_quiet)

          pub given_pairs : PairStandsStill a b a2 b2
          given_pairs h p image_a image_b la lb =
              let both = chosen x a2 b2 image_a image_b la lb in
              pair_images x h image_a image_b k.book.floor (choice x b2 a2) (given_image h p (choice x image_a image_b) both.0) other_quiet2 both.1

          -- once that is done
          module _ (quiet2 : IsSettled (choice x a2 b2)) (rest : LeavesRest k.places (choice x a1 b1) (choice x a2 b2)) where
            pub edition_given : edition ≡ edition_of (choice x a2 b2).seen
            edition_given = here.edition_is ∙ sym (same_edition (choice x a2 b2).seen (choice x a b).seen ((rest 64 k.gate between_read).before ∙ cut_head))

            pub quiet_both : IsSettled a2 × IsSettled b2
            quiet_both = both_settled x a2 b2 quiet2 other_quiet2

            pub opened_stands : (h : History) → PairFor a.seen b.seen h → StandsOpen (record { known = k; in_a = x; edition = edition; a = a2; b = b2 }) h
            opened_stands h p =
                let s = given_image h p (choice x a2 b2).seen (left_own (choice x a2 b2) quiet2) in
                record {
                  quiet_a = quiet_both.0;
                  quiet_b = quiet_both.1;
                  ends = ends_here h p;
                  tail = tail_here h p;
                  stands = s.stands;
                  floor = s.floor_is;
                  beside = s.beside;
                  edition = edition_given;
                }

-- ---- while the other file is cleared

cleared_images : (y : Bool) (h : History) (floor : ℕ) (a3 b3 a4 b4 : State) → StandsIn floor h (choice y b3 a3).seen (choice y a3 b3).seen → IsSettled (choice y a3 b3) → IsSettled (choice y b3 a3) → choice y a4 b4 ≡ choice y a3 b3
    → LeavesFront (choice y b3 a3) (choice y b4 a4) → ((choice y b3 a3).seen ≡ [] → choice y b4 a4 ≡ choice y b3 a3)
    → (image_a image_b : List ℕ) → MayLeave a4 image_a → MayLeave b4 image_b → PairFor image_a image_b h
cleared_images y h floor a3 b3 a4 b4 s quiet other_quiet stays front idle image_a image_b la lb =
    let both = chosen y a4 b4 image_a image_b la lb in
    let same : choice y image_a image_b ≡ (choice y a3 b3).seen = image_of (choice y a3 b3) (choice y image_a image_b) quiet (subst (λ (o : State). MayLeave o (choice y image_a image_b)) stays both.0) in
    let t : StandsIn floor h (choice y b3 a3).seen (choice y image_a image_b) = subst (StandsIn floor h (choice y b3 a3).seen) (sym same) s in
    record {
      in_a = y;
      stands = t.stands;
      beside = elim t.beside [
        | inl none ↦
            let empty : (choice y b3 a3).seen ≡ [] = nil_from_length (choice y b3 a3).seen none in
            let is : choice y image_b image_a ≡ (choice y b3 a3).seen = image_of (choice y b3 a3) (choice y image_b image_a) other_quiet (subst (λ (o : State). MayLeave o (choice y image_b image_a)) (idle empty) both.1) in
            inl (ap length is ∙ none)
        | inr (inl past) ↦ inr (inl (past.0, front_passed (choice y b3 a3) (choice y b4 a4) front other_quiet false t.stands.file.edition.number past.1 (choice y image_b image_a) both.1))
        | inr (inr old) ↦ inr (inr (old.0, old_front t.stands.file.edition.number (choice y b3 a3).seen (choice y image_b image_a) old.1 (front other_quiet (choice y image_b image_a) both.1)))
      ];
    }

-- the purge was finished, or there was none
pub cleared_pairs : (l m : Ledger) (a4 b4 : State) (h : History) → StandsOpen l h → FinishesPurge l m → IsPurgedStill l m.a m.b → (l.known.book.point ≤ l.known.book.floor → m.in_a ≡ l.in_a) → choice m.in_a a4 b4 ≡ choice m.in_a m.a m.b
    → LeavesFront (other_disk m) (choice m.in_a b4 a4) → ((other_disk m).seen ≡ [] → choice m.in_a b4 a4 ≡ other_disk m)
    → (image_a image_b : List ℕ) → MayLeave a4 image_a → MayLeave b4 image_b → PairFor image_a image_b h
cleared_pairs l m a4 b4 h s finishes still same stays front idle = elim (cases_lt l.known.book.floor l.known.book.point) [
  | inl below ↦
      let c = finishes below h s in
      cleared_images m.in_a h (erased_stands (open_disk m).seen h c.clean.erased).floor m.a m.b a4 b4 (record { stands = erased_stands (open_disk m).seen h c.clean.erased; floor_is = refl; beside = inl c.empty }) (settled_both m.in_a m.a m.b c.quiet_a c.quiet_b) (settled_both m.in_a m.b m.a c.quiet_b c.quiet_a)
      stays front idle
  | inr most ↦
      let files = still most in
      let quiet_a : IsSettled m.a = subst IsSettled (sym files.0) s.quiet_a in
      let quiet_b : IsSettled m.b = subst IsSettled (sym files.1) s.quiet_b in
      let here : StandsIn l.known.book.floor h (choice m.in_a l.b l.a).seen (choice m.in_a l.a l.b).seen = subst (λ (v : Bool). StandsIn l.known.book.floor h (choice v l.b l.a).seen (choice v l.a l.b).seen) (sym (same most)) (record { stands = s.stands; floor_is = s.floor; beside = s.beside }) in
      let now : StandsIn l.known.book.floor h (other_disk m).seen (open_disk m).seen =
      subst (λ (u : State). StandsIn l.known.book.floor h (choice m.in_a m.b u).seen (choice m.in_a u m.b).seen) (sym files.0) (subst (λ (u : State). StandsIn l.known.book.floor h (choice m.in_a u l.a).seen (choice m.in_a l.a u).seen) (sym files.1) here) in
      cleared_images m.in_a h l.known.book.floor m.a m.b a4 b4 now (settled_both m.in_a m.a m.b quiet_a quiet_b) (settled_both m.in_a m.b m.a quiet_b quiet_a) stays front idle
]

-- ---- a pair that was clean

module _ (k : Known) (start : Option Base) (blocks : List (List Entry)) (knows : Knows k start blocks) (x : Bool) (edition : Edition) (a b : State) (has : HasFile start blocks (choice x a b).seen) (here : IsHere x edition a b) (h : History) (c : IsCleanPair a.seen b.seen h) where
  clean : IsClean (choice x a b).seen h × ((choice x b a).seen ≡ [])
  clean = clean_seen x a b h (clean_taken x a.seen b.seen h here.taken c)

  clean_stands : StandsFor (choice x a b).seen h
  clean_stands = erased_stands (choice x a b).seen h clean.0.erased

  -- its open file ends with its tail gate
  clean_long : length (choice x a b).seen ≡ k.gate + 1
  clean_long = clean_size k start blocks (choice x a b).seen knows has h clean.0

  clean_ends : EndsAs k.book k.places h
  clean_ends = ends_read k start blocks knows h (choice x a b).seen has clean_stands

  pub clean_cut : (a1 b1 : State) → (length (choice x a b).seen ≡ k.gate + 1 → choice x a1 b1 ≡ choice x a b) → choice x b1 a1 ≡ choice x b a → AreUnchanged a b a1 b1
  clean_cut a1 b1 idle other = both_same x a b a1 b1 (idle clean_long) other

  pub whole_cut : (a1 b1 : State) → choice x a1 b1 ≡ settled_state (take (k.gate + 1) (choice x a b).seen) → choice x a1 b1 ≡ choice x a b
  whole_cut a1 b1 cut = cut ∙ ap settled_state (ap (λ (n : ℕ). take n (choice x a b).seen) (sym clean_long) ∙ take_all (length (choice x a b).seen) (choice x a b).seen (omega arith)) ∙ sym (settled_both x a b here.quiet_a here.quiet_b)

  pub clean_given : (a1 b1 a2 b2 : State) → choice x a1 b1 ≡ settled_state (take (k.gate + 1) (choice x a b).seen) → choice x b1 a1 ≡ choice x b a → LeavesErased k.book k.places (choice x a1 b1) (choice x a2 b2) → choice x b2 a2 ≡ choice x b1 a1
      → AreUnchanged a b a2 b2
  clean_given a1 b1 a2 b2 cut other leaves other2 =
      let one = whole_cut a1 b1 cut in
      both_same x a b a2 b2
      (leaves h clean_ends (subst IsSettled (sym one) (settled_both x a b here.quiet_a here.quiet_b)) (subst (λ (s : State). IsErased s.seen h) (sym one) clean.0.erased) ∙ one)
      (other2 ∙ other)

  -- no purge is left undone
  pub clean_point : k.book.point ≤ k.book.floor
  clean_point = omega (arith, file.clean_point k start blocks (choice x a b).seen knows has h clean.0, knows.point, knows.floor)

  pub clean_cleared : (m : Ledger) (a4 b4 : State) → m.in_a ≡ x → AreUnchanged a b m.a m.b → choice m.in_a a4 b4 ≡ choice m.in_a m.a m.b → ((other_disk m).seen ≡ [] → choice m.in_a b4 a4 ≡ other_disk m) → AreUnchanged a b a4 b4
  clean_cleared m a4 b4 same files stays idle =
      let empty : (other_disk m).seen ≡ [] = ap (λ (v : Bool). (choice v m.b m.a).seen) same ∙ ap (λ (s : State). (choice x m.b s).seen) files.0 ∙ ap (λ (s : State). (choice x s a).seen) files.1 ∙ clean.1 in
      let both = both_same m.in_a m.a m.b a4 b4 stays (idle empty) in
      (both.0 ∙ files.0, both.1 ∙ files.1)
