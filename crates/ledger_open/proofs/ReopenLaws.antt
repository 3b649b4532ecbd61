-- A pair that is opened again, and what it leaves.
use Rattle.std.specs.Prelude.{Bool, true, false, Option, Some}
use Rattle.std.proofs.Common.{◌≡◌, ◌⊎◌, inl, inr, ℕ, ◌+◌, ◌≤◌, List, [], length, take, drop, sym, ◌∙◌, ap, subst, arith}
use Rattle.std.proofs.lemmas.List.{nil_from_length, take-take}
use Rattle.block_file.specs.File.{IsSettled, IsShutAt}
use Rattle.block_file.specs.Head.{generation_of, number_at, version_in}
use Rattle.journal_record.specs.Entry.{Entry}
use Rattle.ledger_disk.specs.Disk.{State, settled_state}
use Rattle.ledger_model.specs.History.{History}
use Rattle.pseudo_genesis.specs.Bases.{base_spelling}
use Rattle.pseudo_genesis.specs.declared.base.Base.{Base}
use Rattle.twin_file.specs.Twin.{choice, open_of, IsTaken, next_generation}
use Rattle.ledger_open.specs.Cutting.{gate_behind}
use Rattle.ledger_open.specs.Erasing.{ErasesSome, given_up}
use Rattle.ledger_open.specs.Opening.{GoesOn, Known, AreSettled}
use Rattle.block_file.specs.Places.{after_at}
use Rattle.ledger_open.specs.Purging.{copied_file}
use Rattle.ledger_open.specs.Reopened.{Remembers, OpenFile, open_file, IsMended, IsTidyAt, StaysOpen, WasMoved}
use Rattle.ledger_open.specs.Standing.{floor_from, StandsFor, IsClean, PairFor, IsCleanPair}
use Rattle.ledger_open.specs.Starts.{IsBaseOf, base_in}
use Rattle.ledger_open.specs.Heads.{Edition, edition_of}
use Rattle.ledger_open.proofs.CleanLaws as clean
use Rattle.ledger_open.proofs.DamageLaws.{base_there, number_is}
use Rattle.ledger_open.proofs.OldLaws.{part_of_front, front_number, same_edition}
use Rattle.ledger_open.proofs.PlaceMoves.{after_most}
use Rattle.ledger_open.proofs.GrowLaws.{erased_stands}
use Rattle.ledger_open.proofs.HeadLaws.{taken_is, one_or_two, version_is}
use Rattle.ledger_open.proofs.OpenLaws.{mended_goes, stands_open, state_seen}

-- ---- a clean pair

-- it stands for its history
abbrev pub clean_pair : (a b : List ℕ) (h : History) → IsCleanPair a b h → PairFor a b h
clean_pair a b h c = record { in_a = c.in_a; stands = erased_stands (open_of c.in_a a b) h c.clean.erased; beside = inl c.empty }

-- .. and the file that is taken of it is the clean one
pub clean_taken : (x : Bool) (a b : List ℕ) (h : History) → IsTaken x a b → IsCleanPair a b h → IsClean (choice x a b) h × (length (choice x b a) ≡ 0)
clean_taken x a b h taken c = subst (λ (y : Bool). IsClean (choice y a b) h × (length (choice y b a) ≡ 0)) (sym (taken_is x a b h taken (clean_pair a b h c))) (c.clean, c.empty)

-- .. of the second version
pub clean_version : (x : Bool) (a b : List ℕ) (h : History) → IsTaken x a b → IsCleanPair a b h → version_in (choice x a b) ≡ 2
clean_version x a b h taken c = ap (λ (y : Bool). version_in (choice y a b)) (taken_is x a b h taken (clean_pair a b h c)) ∙ c.newer

-- ---- what was mended

module _ (in_a : Bool) (k : Known) (start : Option Base) (blocks : List (List Entry)) (a b new_a new_b : State) (r : IsMended in_a k start blocks a b new_a new_b) where
  abbrev place : ℕ
  place = k.gate

  abbrev was : OpenFile
  was = r.was

  abbrev old : List ℕ
  old = (open_of was.in_a a b).seen

  abbrev now : OpenFile
  now = open_file in_a start blocks place

  abbrev left_as : Type 0
  left_as = StaysOpen was now r.bytes new_a new_b ⊎ WasMoved was now (generation_of old) r.bytes new_a new_b

  same_place : take (r.read.known.gate + 1) old ≡ take (was.gate + 1) old
  same_place = ap (λ (n : ℕ). take (n + 1) old) r.read.tail

  some : ErasesSome r.read.known.places (take (r.read.known.gate + 1) old) r.bytes
  some = subst (λ (l : List ℕ). ErasesSome r.read.known.places l r.bytes) (sym same_place) r.erased.some

  -- ---- .. is tidy

  record IsTidyFile (s : State) : Type 0 where
    quiet : IsSettled s
    shut : IsShutAt place s.seen
    size : length s.seen ≡ place + 1

  tidy_at : (s : State) (bytes : List ℕ) (at : ℕ) → s ≡ settled_state bytes → at ≡ place → IsShutAt at bytes → length bytes ≡ at + 1 → IsTidyFile s
  tidy_at s bytes at is same shut size =
      let seen : s.seen ≡ bytes = ap (λ (t : State). t.seen) is in record {
        quiet = is ∙ ap settled_state (sym seen);
        shut = subst (λ (n : ℕ). IsShutAt n s.seen) same (subst (IsShutAt at) (sym seen) shut);
        size = omega (arith, ap length seen, size, same);
      }

  tidy_file : place ≡ gate_behind (floor_from start) blocks → IsTidyFile (open_of in_a new_a new_b)
  tidy_file tail = by_left r.left where
    by_left : left_as → IsTidyFile (open_of in_a new_a new_b)
    by_left (inl y) =
        tidy_at (open_of in_a new_a new_b) r.bytes r.read.known.gate y.open_is (r.read.tail ∙ sym (ap (λ (f : OpenFile). f.gate) y.same)) (clean.bytes_shut r.read.known was.start was.blocks old r.read.knows r.read.has r.bytes some)
        (clean.bytes_size r.read.known was.start was.blocks old r.read.knows r.read.has r.bytes some)
    by_left (inr m) =
        let g = next_generation (generation_of old) in
        let from = gate_behind (floor_from was.start) m.front in
        let at : after_at (64 + length (base_spelling m.base)) blocks ≡ place = ap (λ (s : Option Base). gate_behind (floor_from s) blocks) (sym m.start_is) ∙ sym tail in
        tidy_at (open_of in_a new_a new_b) (copied_file g (base_spelling m.base) from r.read.known.gate r.bytes) (after_at (64 + length (base_spelling m.base)) blocks)
        (m.open_is ∙ ap (λ (n : ℕ). settled_state (copied_file g (base_spelling m.base) from n r.bytes)) (sym r.read.tail)) at
        (clean.copy_shut r.read.known was.start was.blocks old r.read.knows r.read.has r.bytes some g (base_spelling m.base) m.front blocks m.are)
        (clean.copy_size r.read.known was.start was.blocks old r.read.knows r.read.has r.bytes some g (base_spelling m.base) m.front blocks m.are)

  -- ---- .. and clean for what it stood for

  clean_file : (h : History) → StandsFor old h → GoesOn was.start was.blocks h → IsClean (open_of in_a new_a new_b).seen h
  clean_file h s on = by_left r.left where
    given_is : r.bytes ≡ given_up h (floor_from was.start) was.blocks (take (r.read.known.gate + 1) old)
    given_is = r.erased.hidden h on ∙ ap (given_up h (floor_from was.start) was.blocks) (sym same_place)

    by_left : left_as → IsClean (open_of in_a new_a new_b).seen h
    by_left (inl y) =
        subst (λ (l : List ℕ). IsClean l h) (sym (ap (λ (t : State). t.seen) y.open_is ∙ given_is)) (clean.stays_clean r.read.known was.start was.blocks old r.read.knows r.read.has h s y.at_point)
    by_left (inr m) =
        let g = next_generation (generation_of old) in
        let from = gate_behind (floor_from was.start) m.front in
        let base : IsBaseOf (Some m.base) h = subst (λ (t : Option Base). IsBaseOf t h) m.start_is (r.goes h on).base in
        subst (λ (l : List ℕ). IsClean l h)
        (sym (ap (λ (t : State). t.seen) m.open_is ∙ ap (λ (n : ℕ). copied_file g (base_spelling m.base) from n r.bytes) (sym r.read.tail) ∙ ap (copied_file g (base_spelling m.base) from r.read.known.gate) given_is))
        (clean.moved_clean r.read.known was.start was.blocks old r.read.knows r.read.has h s (omega (arith, m.before, m.point)) m.front blocks m.base m.are m.point m.at base)

  -- a clean one is as it was
  clean_same : (h : History) → IsClean old h → (in_a ≡ was.in_a) × (open_of in_a new_a new_b ≡ settled_state old)
  clean_same h c = by_left r.left where
    s : StandsFor old h
    s = erased_stands old h c.erased

    on : GoesOn was.start was.blocks h
    on = clean.on r.read.known was.start was.blocks old r.read.knows r.read.has h s

    by_left : left_as → (in_a ≡ was.in_a) × (open_of in_a new_a new_b ≡ settled_state old)
    by_left (inl y) = (
      ap (λ (f : OpenFile). f.in_a) y.same,
      y.open_is ∙ ap settled_state (r.erased.hidden h on ∙ ap (given_up h (floor_from was.start) was.blocks) (sym same_place) ∙ clean.clean_same r.read.known was.start was.blocks old r.read.knows r.read.has h c),
    )
    by_left (inr m) = absurd (omega (arith, m.before, m.point, clean.clean_point r.read.known was.start was.blocks old r.read.knows r.read.has h c))

both : (x : Bool) (a b new_a new_b : State) → choice x new_a new_b ≡ settled_state (choice x a b).seen → choice x new_b new_a ≡ settled_state [] → (choice x b a).seen ≡ [] → AreSettled a b new_a new_b
both true a b new_a new_b one other none = (one, other ∙ ap settled_state (sym none))
both false a b new_a new_b one other none = (other ∙ ap settled_state (sym none), one)

pub clean_now : (x : Bool) (a b : State) (h : History) → IsClean (choice x a b).seen h → version_in (choice x a b).seen ≡ 2 → choice x b a ≡ settled_state [] → IsCleanPair a.seen b.seen h
clean_now true a b h c newer empty = record { in_a = true; clean = c; newer = newer; empty = ap (λ (s : State). length s.seen) empty }
clean_now false a b h c newer empty = record { in_a = false; clean = c; newer = newer; empty = ap (λ (s : State). length s.seen) empty }

pub clean_seen : (x : Bool) (a b : State) (h : History) → IsClean (choice x a.seen b.seen) h × (length (choice x b.seen a.seen) ≡ 0) → IsClean (choice x a b).seen h × ((choice x b a).seen ≡ [])
clean_seen true a b h c = (c.0, nil_from_length b.seen c.1)
clean_seen false a b h c = (c.0, nil_from_length a.seen c.1)

-- what was mended is clean for each history that the pair stood for
pub mended_clean : (k : Known) (in_a : Bool) (start : Option Base) (blocks : List (List Entry)) (a b new_a new_b : State) (h : History) → IsMended in_a k start blocks a b new_a new_b → PairFor a.seen b.seen h → IsClean (open_of in_a new_a new_b).seen h
mended_clean k in_a start blocks a b new_a new_b h r p =
    clean_file in_a k start blocks a b new_a new_b r h (stands_open r.was.in_a a b h r.read.taken p) (mended_goes k in_a start blocks a b new_a new_b h r p)

-- whatever it stood for, it is tidy
pub mended_tidy : (k : Known) (in_a : Bool) (start : Option Base) (blocks : List (List Entry)) (a b new_a new_b : State) → Remembers k start blocks → IsMended in_a k start blocks a b new_a new_b → IsTidyAt in_a k.gate new_a new_b
mended_tidy k in_a start blocks a b new_a new_b knows r =
    let t = tidy_file in_a k start blocks a b new_a new_b r knows.tail in
    record { quiet = t.quiet; empty = r.other_is; shut = t.shut; ends = t.size }

-- one that was clean has the bytes that it had
pub mended_same : (k : Known) (in_a : Bool) (start : Option Base) (blocks : List (List Entry)) (a b new_a new_b : State) (h : History) → IsMended in_a k start blocks a b new_a new_b → IsCleanPair a.seen b.seen h → AreSettled a b new_a new_b
mended_same k in_a start blocks a b new_a new_b h r c =
    let t = clean_seen r.was.in_a a b h (clean_taken r.was.in_a a.seen b.seen h r.read.taken c) in
    let same = clean_same in_a k start blocks a b new_a new_b r h t.0 in
    both r.was.in_a a b new_a new_b (ap (λ (x : Bool). choice x new_a new_b) (sym same.0) ∙ same.1) (ap (λ (x : Bool). choice x new_b new_a) (sym same.0) ∙ r.other_is) t.1

-- .. and the second version
pub mended_newer : (k : Known) (in_a : Bool) (start : Option Base) (blocks : List (List Entry)) (a b new_a new_b : State) (h : History) → IsMended in_a k start blocks a b new_a new_b → IsCleanPair a.seen b.seen h → version_in (open_of in_a new_a new_b).seen ≡ 2
mended_newer k in_a start blocks a b new_a new_b h r c =
    let t = clean_seen r.was.in_a a b h (clean_taken r.was.in_a a.seen b.seen h r.read.taken c) in
    let same = clean_same in_a k start blocks a b new_a new_b r h t.0 in
    ap (λ (s : State). version_in s.seen) same.1 ∙ ap version_in (state_seen r.was.in_a a b) ∙ clean_version r.was.in_a a.seen b.seen h r.read.taken c

-- ---- a file that was mended and stays where it was begins as it did

module _ (k : Known) (in_a : Bool) (start : Option Base) (blocks : List (List Entry)) (a b new_a new_b : State) (r : IsMended in_a k start blocks a b new_a new_b) (stays : StaysOpen r.was (open_file in_a start blocks k.gate) r.bytes new_a new_b) where
  abbrev was_file : List ℕ
  was_file = (open_of r.was.in_a a b).seen

  abbrev first_base : List ℕ
  first_base = (floor_from r.was.start).base

  abbrev begins : ℕ
  begins = 64 + length first_base

  place_is : r.read.known.gate ≡ k.gate
  place_is = r.read.tail ∙ sym (ap (λ (f : OpenFile). f.gate) stays.same)

  begins_before : begins ≤ k.gate
  begins_before = omega (arith, place_is, r.read.knows.tail, after_most 0 0 begins r.was.blocks)

  bytes_front : take begins r.bytes ≡ take begins was_file
  bytes_front =
      clean.erased_front r.read.known r.was.start r.was.blocks was_file r.read.knows r.read.has r.bytes
      (subst (λ (l : List ℕ). ErasesSome r.read.known.places l r.bytes) (sym (ap (λ (n : ℕ). take (n + 1) was_file) r.read.tail)) r.erased.some)

  front_same : take begins (open_of in_a new_a new_b).seen ≡ take begins was_file
  front_same = ap (λ (s : State). take begins s.seen) stays.open_is ∙ bytes_front

  old_number : number_at 18 was_file ≡ length first_base
  old_number = number_is (floor_from r.was.start) r.read.has.0 r.was.blocks was_file r.read.has.1

  number_same : number_at 18 (open_of in_a new_a new_b).seen ≡ number_at 18 was_file
  number_same = front_number begins 18 (open_of in_a new_a new_b).seen was_file (omega arith) front_same

  -- its base is the one that was read
  pub base_same : base_in (open_of in_a new_a new_b).seen ≡ base_in was_file
  base_same =
      let n = length first_base in
      ap (λ (m : ℕ). take m (drop 64 (open_of in_a new_a new_b).seen)) (number_same ∙ old_number)
      ∙ sym (part_of_front 64 n begins (open_of in_a new_a new_b).seen (omega arith)) ∙ ap (λ (l : List ℕ). take n (drop 64 l)) front_same ∙ part_of_front 64 n begins was_file (omega arith)
      ∙ ap (λ (m : ℕ). take m (drop 64 was_file)) (sym old_number)

  pub stays_behind : 64 + length (base_in (open_of in_a new_a new_b).seen) ≤ k.gate
  stays_behind = omega (arith, ap length (base_same ∙ base_there (floor_from r.was.start) r.read.has.0 r.was.blocks was_file r.read.has.1), begins_before)

  pub edition_same : edition_of (open_of in_a new_a new_b).seen ≡ edition_of was_file
  edition_same =
      same_edition (open_of in_a new_a new_b).seen was_file
      (sym (take-take 64 begins (open_of in_a new_a new_b).seen (omega arith)) ∙ ap (take 64) front_same ∙ take-take 64 begins was_file (omega arith))

module _ (k : Known) (in_a : Bool) (start : Option Base) (blocks : List (List Entry)) (a b new_a new_b : State) (r : IsMended in_a k start blocks a b new_a new_b) where
  -- one of the first version stays
  pub older_stays : version_in (open_of in_a new_a new_b).seen ≡ 1 → StaysOpen r.was (open_file in_a start blocks k.gate) r.bytes new_a new_b
  older_stays older = elim r.left [
    | inl s ↦ s
    | inr m ↦
        let no : 1 ≡ 2 = sym older ∙ ap (λ (s : State). version_in s.seen) m.open_is in
        absurd (omega (arith, no))
  ]

  -- whatever was mended has one of the versions that are known
  pub mended_format : (version_in (open_of in_a new_a new_b).seen ≡ 1) ⊎ (version_in (open_of in_a new_a new_b).seen ≡ 2)
  mended_format = elim r.left [
    | inl s ↦
        let here : version_in (open_of in_a new_a new_b).seen ≡ r.read.has.0.version =
        ap (λ (e : Edition). e.version) (edition_same k in_a start blocks a b new_a new_b r s) ∙ version_is (floor_from r.was.start) r.read.has.0 r.was.blocks (open_of r.was.in_a a b).seen r.read.has.1 in
        elim (one_or_two r.read.has.0.version r.read.has.1.head.format) [ inl one ↦ inl (here ∙ one) | inr two ↦ inr (here ∙ two) ]
    | inr m ↦ inr (ap (λ (s : State). version_in s.seen) m.open_is)
  ]

  pub mended_behind : version_in (open_of in_a new_a new_b).seen ≡ 1 → 64 + length (base_in (open_of in_a new_a new_b).seen) ≤ k.gate
  mended_behind older = stays_behind k in_a start blocks a b new_a new_b r (older_stays older)
