-- A file of the first version is carried over, and what opening leaves.
use Rattle.std.specs.Prelude.{◌==◌, if◌then◌else◌, All, Bool, true, false, not, Option, Some, None, IsSomeAnd, IsTrue}
use Rattle.std.proofs.Common.{◌≡◌, ◌⊎◌, inl, inr, ℕ, ◌+◌, ◌-◌, ◌^◌, ◌<◌, ◌≤◌, List, [], ◌∷◌, ◌++◌, length, take, drop, refl, sym, ◌∙◌, ap, subst, arith, append_assoc, length-append}
use Rattle.std.proofs.lemmas.Bool.{eq-eqb}
use Rattle.std.proofs.lemmas.List.{take_at, drop_at}
use Rattle.std.proofs.lemmas.List.Elements.{All-head}
use Rattle.block_file.specs.File.{IsSettled, IsShutAt, open_blocks, whole_file}
use Rattle.block_file.specs.Head.{HasHead, front_of, generation_of, version_in}
use Rattle.journal_record.specs.Blocks.{written_blocks}
use Rattle.journal_record.specs.Entry.{Entry}
use Rattle.ledger_book.specs.Books.{Serves}
use Rattle.ledger_disk.proofs.Guarding.{settled_image}
use Rattle.ledger_disk.specs.Disk.{State, MayLeave, settled_state}
use Rattle.ledger_model.proofs.FitLaws.{size_few}
use Rattle.ledger_model.proofs.PointLaws.{points_few}
use Rattle.ledger_model.specs.History.{History, journals_of, point, size}
use Rattle.ledger_model.specs.Lawful.{IsBlock}
use Rattle.ledger_model.specs.Bases.{base_of}
use Rattle.ledger_model.specs.Targets.{is_hidden}
use Rattle.pseudo_genesis.specs.declared.base.Base.{Base}
use Rattle.twin_file.proofs.OpenLaws.{chosen}
use Rattle.twin_file.specs.Twin.{choice, open_of, IsTaken, IsPassed, next_generation}
use Rattle.twin_file.proofs.TakeLaws.{taken_once}
use Rattle.twin_file.specs.Which.{in_a_of, format_in, file_of}
use Rattle.twin_file.specs.declared.twin.Twin.{Twin}
use Rattle.block_file.specs.FileView.{gate_of}
use Rattle.ledger_open.specs.Carrying.{IsBaseToCarry, MayCarry, carried_file, WasCarried, StaysNewer, IsCarried, StandsCarrying}
use Rattle.ledger_open.specs.Heads.{Edition, edition_from, edition_of, edition_in}
use Rattle.ledger_open.specs.Opening.{Known, GoesOn, AreSettled, IsOpenErr, IsOutside}
use Rattle.ledger_open.specs.declared.failure.OpenErr.{OpenErr}
use Rattle.ledger_open.specs.Purging.{MayMove, IsEither, AllEither}
use Rattle.ledger_open.specs.Reopened.{Remembers, IsMended, IsReopened, IsTidyAt, PairStandsStill, StaysOpen, open_file}
use Rattle.ledger_open.specs.Standing.{Floor, floor_behind, StandsBy, StandsFor, IsOld, IsClean, IsBeside, PairFor, IsCleanPair}
use Rattle.ledger_open.specs.Starts.{base_in, IsDecoded}
use Rattle.ledger_open.proofs.ByteLaws.{copied_generation, copied_length, copied_shut}
use Rattle.ledger_open.proofs.DamageLaws.{base_there}
use Rattle.ledger_open.proofs.FinishedLaws.{both_settled, settled_is}
use Rattle.ledger_open.proofs.FrontLaws.{front_is}
use Rattle.ledger_open.proofs.GrowLaws.{erased_stands}
use Rattle.ledger_open.proofs.HeadLaws.{stands_head, stands_generation, stands_version, generation_is, version_is}
use Rattle.ledger_open.proofs.MoveLaws.{turned, settled_both}
use Rattle.ledger_open.proofs.OldLaws.{front_old}
use Rattle.ledger_open.proofs.PartLaws.{first_ones}
use Rattle.ledger_open.proofs.LeftLaws.{mended_as}
use Rattle.ledger_open.proofs.OpenLaws.{mended_goes, mended_only, state_seen}
use Rattle.ledger_open.proofs.ReopenLaws.{clean_now, mended_tidy, mended_clean, mended_same, mended_newer, mended_behind, mended_format, older_stays, edition_same, base_same, clean_version}
use Rattle.ledger_open.proofs.WidthLaws.{base_rules, spelling_fits}

-- ---- a file that is carried over

pub early_on : (begins : Bool) (number version most : ℕ) → version ≡ 1 → number + (if begins then 0 else 1) + 1 ≤ most + version → number + 1 + (if begins then 0 else 1) + 1 ≤ most + 2
early_on true number version most one le = omega (arith, le, one)
early_on false number version most one le = omega (arith, le, one)

-- it stands for what the old one stood for
abbrev pub carried : (floor : ℕ) (zeros : ℕ → Bool) (image new : List ℕ) (h : History) (x : StandsBy floor zeros image h) → x.edition.version ≡ 1 → IsCarried x new → StandsBy floor zeros new h
carried floor zeros image new h x one c = record {
  edition = edition_from 2 (x.edition.number + 1);
  parts = x.parts;
  keeps = record { blocks = x.keeps.blocks; file = record { front = c.front; head = c.head; lawful = x.keeps.file.lawful; stands = c.stands }; same = x.keeps.same };
  early = early_on (floor == point h) x.edition.number x.edition.version (size h) one x.early;
  none = x.none;
  lawful = x.lawful;
  wide = x.wide;
}

module _ (floor : ℕ) (zeros : ℕ → Bool) (image : List ℕ) (h : History) (x : StandsBy floor zeros image h) (few : floor < size h) where
  abbrev from : Floor
  from = floor_behind h x.parts.gone

  abbrev written : List (List ℕ)
  written = written_blocks (from).root [] x.keeps.blocks

  -- its base fits the field of its length
  pub short : length (from).base < 2 ^ 64
  short = by x.parts.gone refl where
    by : (gone : List (List Entry)) → gone ≡ x.parts.gone → length (floor_behind h gone).base < 2 ^ 64
    by [] is = omega arith
    by (g ∷ gs) is =
        let blocks : All IsBlock (g ∷ gs) = subst (All IsBlock) (sym is) (first_ones floor h x.lawful.blocks_are x.parts) in
        let some : 1 ≤ length (journals_of (g ∷ gs)) = omega (arith, (All-head IsBlock g gs blocks).some, length-append g (journals_of gs)) in
        let rules : IsDecoded (Some (base_of h (length (journals_of (g ∷ gs))))) =
        subst (λ (l : List (List Entry)). IsDecoded (Some (base_of h (length (journals_of l))))) (sym is)
        (base_rules floor zeros image h x (subst (λ (l : List (List Entry)). 1 ≤ length (journals_of l)) is some) few) in
        spelling_fits (base_of h (length (journals_of (g ∷ gs)))) rules.0 rules.1

  base_is : base_in image ≡ (from).base
  base_is = base_there from x.edition x.keeps.blocks image x.keeps.file

  -- one that ends with its tail gate
  module _ (ends : x.keeps.file.stands.rest ≡ []) where
    abbrev front : List ℕ
    front = x.keeps.file.front

    image_is : image ≡ (front ++ open_blocks written) ++ x.keeps.file.stands.gate ∷ []
    image_is = x.keeps.file.stands.is ∙ ap (λ (l : List ℕ). (front ++ open_blocks written) ++ x.keeps.file.stands.gate ∷ l) ends

    tail_is : length image - 1 ≡ length (front ++ open_blocks written)
    tail_is = omega (arith, ap length image_is, length-append (front ++ open_blocks written) (x.keeps.file.stands.gate ∷ []))

    first_is : 64 + length (base_in image) ≡ length front
    first_is = omega (arith, ap length base_is, x.keeps.file.head.size)

    -- what is copied are its blocks
    blocks_are : take ((length image - 1) - (64 + length (base_in image))) (drop (64 + length (base_in image)) image) ≡ open_blocks written
    blocks_are =
        ap (λ (n : ℕ). take ((length image - 1) - n) (drop n image)) first_is
        ∙ ap (λ (n : ℕ). take (n - length front) (drop (length front) image)) tail_is
        ∙ ap (λ (l : List ℕ). take (length (front ++ open_blocks written) - length front) (drop (length front) l)) (image_is ∙ append_assoc front (open_blocks written) (x.keeps.file.stands.gate ∷ []))
        ∙ ap (λ (l : List ℕ). take (length (front ++ open_blocks written) - length front) l) (drop_at front (open_blocks written ++ x.keeps.file.stands.gate ∷ []) (length front) refl)
        ∙ take_at (open_blocks written) (x.keeps.file.stands.gate ∷ []) (length (front ++ open_blocks written) - length front) (omega (arith, length-append front (open_blocks written)))

    module _ (one : x.edition.version ≡ 1) (number : generation_of image ≡ x.edition.number) (begins : floor ≡ point h) where
      pub low : x.edition.number ≤ size h
      low = by (floor == point h) (eq-eqb floor (point h) begins) x.early where
        by : (v : Bool) → v ≡ true → x.edition.number + (if v then 0 else 1) + 1 ≤ size h + x.edition.version → x.edition.number ≤ size h
        by true is early = omega (arith, early, one)
        by false is early = omega (arith, early, one)

      pub next_is : next_generation (generation_of image) ≡ x.edition.number + 1
      next_is = omega (arith, number, low, size_few h x.lawful)

      pub file_is : carried_file image ≡ whole_file (front_of 1 (x.edition.number + 1) (from).base) written
      file_is =
          ap (λ (l : List ℕ). (front_of 1 (next_generation (generation_of image)) (base_in image) ++ l) ++ 0 ∷ []) blocks_are
          ∙ ap (λ (g : ℕ). (front_of 1 g (base_in image) ++ open_blocks written) ++ 0 ∷ []) next_is
          ∙ ap (λ (base : List ℕ). (front_of 1 (x.edition.number + 1) base ++ open_blocks written) ++ 0 ∷ []) base_is

      abbrev pub is_carried : IsCarried x (carried_file image)
      is_carried = record {
        front = front_of 1 (x.edition.number + 1) (from).base;
        head = front_is 1 (x.edition.number + 1) (from).base refl (omega (arith, low, size_few h x.lawful)) short;
        stands = record { gate = 0; rest = []; is = file_is; shut = λ one. omega (arith, one) };
      }

-- ---- a clean file of the first version

module _ (old : List ℕ) (h : History) (c : IsClean old h) (one : version_in old ≡ 1) where
  stands : StandsFor old h
  stands = erased_stands old h c.erased

  x_version : c.erased.edition.version ≡ 1
  x_version = sym (version_is (floor_behind h c.erased.parts.gone) c.erased.edition c.erased.keeps.blocks old c.erased.keeps.file) ∙ one

  x_number : generation_of old ≡ c.erased.edition.number
  x_number = generation_is (floor_behind h c.erased.parts.gone) c.erased.edition c.erased.keeps.blocks old c.erased.keeps.file

  few : point h < size h
  few = (points_few h 0 c.erased.lawful.journals_are).0

  abbrev next : IsCarried c.erased (carried_file old)
  next = is_carried (point h) (is_hidden h) old h c.erased few c.ends x_version x_number refl

  -- it is clean once it is carried over
  pub carried_clean : IsClean (carried_file old) h
  carried_clean = record { erased = carried (point h) (is_hidden h) old (carried_file old) h c.erased x_version next; ends = refl }

  -- which gives the same blocks
  pub carried_whole : carried_file old ≡ whole_file (front_of 1 (next_generation (generation_of old)) (base_in old)) (written_blocks (floor_behind h c.erased.parts.gone).root [] c.erased.keeps.blocks)
  carried_whole = ap (λ (l : List ℕ). (front_of 1 (next_generation (generation_of old)) (base_in old) ++ l) ++ 0 ∷ []) (blocks_are (point h) (is_hidden h) old h c.erased few c.ends)

  pub carried_blocks : take ((length old - 1) - (64 + length (base_in old))) (drop (64 + length (base_in old)) old) ≡ open_blocks (written_blocks (floor_behind h c.erased.parts.gone).root [] c.erased.keeps.blocks)
  carried_blocks = blocks_are (point h) (is_hidden h) old h c.erased few c.ends

  new_generation : generation_of (carried_file old) ≡ next_generation (generation_of old)
  new_generation = sym (copied_generation (generation_of old) (64 + length (base_in old)) (length old - 1) (base_in old) old)

  less : generation_of old < next_generation (generation_of old)
  less = omega (arith, next_is (point h) (is_hidden h) old h c.erased few c.ends x_version x_number refl, x_number)

  -- may it move
  pub may_move : (in_a : Bool) (a b : State) → (choice in_a a b).seen ≡ old → IsSettled a → IsSettled b → length (choice in_a b a).seen ≡ 0 → MayMove in_a (generation_of old) a b
  may_move in_a a b is qa qb empty = record {
    quiet_a = qa;
    quiet_b = qb;
    head = subst HasHead (sym is) (stands_head old h stands);
    generation_is = ap generation_of (sym is);
    fits = omega (arith, next_is (point h) (is_hidden h) old h c.erased few c.ends x_version x_number refl, x_number, low (point h) (is_hidden h) old h c.erased few c.ends x_version x_number refl, size_few h c.erased.lawful);
    passed = inl (inl (omega (arith, empty)));
  }

  -- ---- each pair of images

  record IsNamed (file : List ℕ) (version number : ℕ) : Type 0 where
    stands : StandsFor file h
    version_is : stands.file.edition.version ≡ version
    number_is : stands.file.edition.number ≡ number

  old_named : IsNamed old 1 (generation_of old)
  old_named = record { stands = stands; version_is = sym (stands_version old h stands) ∙ one; number_is = sym (stands_generation old h stands) }

  new_named : IsNamed (carried_file old) 2 (next_generation (generation_of old))
  new_named =
      let s = erased_stands (carried_file old) h (carried_clean).erased in
      record { stands = s; version_is = sym (stands_version (carried_file old) h s); number_is = sym (stands_generation (carried_file old) h s) ∙ new_generation }

  pair_in : (y : Bool) (file image_a image_b : List ℕ) (version number : ℕ) → choice y image_a image_b ≡ file → IsNamed file version number
      → ((e : Edition) → e.version ≡ version → e.number ≡ number → IsBeside h e (choice y image_b image_a)) → PairFor image_a image_b h
  pair_in y file image_a image_b version number is named beside =
      let n : IsNamed (choice y image_a image_b) version number = subst (λ (l : List ℕ). IsNamed l version number) (sym is) named in
      record { in_a = y; stands = n.stands; beside = beside n.stands.file.edition n.version_is n.number_is }

  pub carried_pairs : (x : Bool) (image_a image_b : List ℕ) → IsEither x old (carried_file old) image_a image_b → PairFor image_a image_b h
  carried_pairs x image_a image_b (inl o) =
      pair_in x old image_a image_b 1 (generation_of old) o.0 old_named
      (λ e v n. inr (inl (inr v, subst (λ (g : ℕ). IsPassed false g (choice x image_b image_a)) (sym n) o.1)))
  carried_pairs x image_a image_b (inr o) =
      pair_in (not x) (carried_file old) image_a image_b 2 (next_generation (generation_of old)) (turned x image_a image_b ∙ o.0) new_named
      (λ e v n. inr (inr (
        v,
        subst (λ (g : ℕ). IsOld g (choice (not x) image_b image_a)) (sym n)
            (subst (IsOld (next_generation (generation_of old))) (sym (turned x image_b image_a))
            (front_old (next_generation (generation_of old)) old (choice x image_a image_b) (stands_head old h stands) one less o.2)),
      )))

-- ---- a pair of which nothing is written

pub quiet_pairs : (x : Bool) (a b : State) → StandsCarrying x a b a b
quiet_pairs x a b qa qb empty h c image_a image_b la lb =
    let both = chosen x a b image_a image_b la lb in
    let quiet = settled_both x a b qa qb in
    let other = settled_both x b a qb qa in
    let one : choice x image_a image_b ≡ (choice x a b).seen = settled_image (choice x a b).seen (choice x image_a image_b) (subst (λ (s : State). MayLeave s (choice x image_a image_b)) quiet both.0) in
    let two : choice x image_b image_a ≡ (choice x b a).seen = settled_image (choice x b a).seen (choice x image_b image_a) (subst (λ (s : State). MayLeave s (choice x image_b image_a)) other both.1) in
    record { in_a = x; stands = subst (λ (l : List ℕ). StandsFor l h) (sym one) (erased_stands (choice x a b).seen h c.erased); beside = inl (ap length two ∙ empty) }

-- by what moving over says of it
pub moving : (x : Bool) (g gate place : ℕ) (bytes : List ℕ) (a b a_new b_new : State) → version_in (choice x a b).seen ≡ 1 → g ≡ generation_of (choice x a b).seen → bytes ≡ base_in (choice x a b).seen
    → gate ≡ 64 + length bytes → length (choice x a b).seen ≡ place + 1
    → ((blocks : List (List ℕ)) → MayMove x g a b → take (place - gate) (drop gate (choice x a b).seen) ≡ open_blocks blocks
    → AllEither x (choice x a b).seen (whole_file (front_of 1 (next_generation g) bytes) blocks) a_new b_new)
    → StandsCarrying x a b a_new b_new
moving x g gate place bytes a b a_new b_new one number base from ends each qa qb empty h c image_a image_b la lb =
    let old = (choice x a b).seen in
    let ws = written_blocks (floor_behind h c.erased.parts.gone).root [] c.erased.keeps.blocks in
    let tail : place ≡ length old - 1 = omega (arith, ends) in
    let taken : take (place - gate) (drop gate old) ≡ open_blocks ws =
    ap (λ (n : ℕ). take (n - gate) (drop gate old)) tail ∙ ap (λ (n : ℕ). take ((length old - 1) - n) (drop n old)) (from ∙ ap (λ (l : List ℕ). 64 + length l) base) ∙ carried_blocks old h c one in
    let may : MayMove x g a b = subst (λ (n : ℕ). MayMove x n a b) (sym number) (may_move old h c one x a b refl qa qb empty) in
    let whole : whole_file (front_of 1 (next_generation g) bytes) ws ≡ carried_file old =
    ap (λ (n : ℕ). whole_file (front_of 1 (next_generation n) bytes) ws) number ∙ ap (λ (l : List ℕ). whole_file (front_of 1 (next_generation (generation_of old)) l) ws) base ∙ sym (carried_whole old h c one) in
    carried_pairs old h c one x image_a image_b (subst (λ (f : List ℕ). IsEither x old f image_a image_b) whole (each ws may taken image_a image_b la lb))

-- ---- what was mended may be carried over

module _ (tells : Bool) (told : IsTrue tells) (x : Bool) (twin : Twin) (a b : State) (base : Option (List ℕ)) (taken : IsTaken x a.seen b.seen) (version : ℕ) (named : version ≡ version_in (choice x a b).seen) (bytes : IsBaseToCarry tells version (choice x a b).seen base) where
  module _ (k : Known) (start : Option Base) (blocks : List (List Entry)) (a1 b1 : State) (place : k.gate ≡ gate_of (file_of twin)) (knows : Remembers k start blocks) (r : IsMended (in_a_of twin) k start blocks a b a1 b1)
      (edition : edition_in twin ≡ edition_of (open_of (in_a_of twin) a1 b1).seen) where
    abbrev mended_file : List ℕ
    mended_file = (open_of (in_a_of twin) a1 b1).seen

    same_place : r.was.in_a ≡ x
    same_place = taken_once a.seen b.seen r.was.in_a x r.read.taken taken

    version_then : format_in twin ≡ version_in mended_file
    version_then = ap (λ (e : Edition). e.version) edition

    base_then : version_in mended_file ≡ 1 → IsSomeAnd base (λ l. l ≡ base_in mended_file)
    base_then older = by base bytes where
      stays : StaysOpen r.was (open_file (in_a_of twin) start blocks k.gate) r.bytes a1 b1
      stays = older_stays k (in_a_of twin) start blocks a b a1 b1 r older

      was_is : (open_of r.was.in_a a b).seen ≡ (choice x a b).seen
      was_is = ap (λ (v : Bool). (choice v a b).seen) same_place

      old_version : version ≡ 1
      old_version = named ∙ sym (ap version_in was_is) ∙ sym (ap (λ (e : Edition). e.version) (edition_same k (in_a_of twin) start blocks a b a1 b1 r (stays))) ∙ older

      by : (o : Option (List ℕ)) → IsBaseToCarry tells version (choice x a b).seen o → IsSomeAnd o (λ l. l ≡ base_in mended_file)
      by None other = absurd (other old_version)
      by (Some l) is = is.1 told ∙ ap base_in (sym was_is) ∙ sym (base_same k (in_a_of twin) start blocks a b a1 b1 r (stays))

    pub may_carry : MayCarry twin base a1 b1
    may_carry = record {
      edition = edition;
      known = elim (mended_format k (in_a_of twin) start blocks a b a1 b1 r) [ inl one ↦ inl (version_then ∙ one) | inr two ↦ inr (version_then ∙ two) ];
      taken = λ older. base_then (sym version_then ∙ older);
      ends = (mended_tidy k (in_a_of twin) start blocks a b a1 b1 knows r).ends ∙ ap (λ (n : ℕ). n + 1) place;
      behind = λ older. let less = mended_behind k (in_a_of twin) start blocks a b a1 b1 r (sym version_then ∙ older) in omega (arith, less, place);
    }

    -- each pair of images meanwhile
    pub carrying_pairs : (a2 b2 : State) → StandsCarrying (in_a_of twin) a1 b1 a2 b2 → PairStandsStill a b a2 b2
    carrying_pairs a2 b2 each h p =
        let t = mended_tidy k (in_a_of twin) start blocks a b a1 b1 knows r in
        let quiet = both_settled (in_a_of twin) a1 b1 t.quiet (settled_is (open_of (in_a_of twin) b1 a1) [] t.empty) in
        each quiet.0 quiet.1 (ap (λ (s : State). length s.seen) t.empty) h (mended_clean k (in_a_of twin) start blocks a b a1 b1 h r p)

  -- a clean pair has the second version, and no base is taken
  pub none_taken : (h : History) → IsCleanPair a.seen b.seen h → base ≡ None
  none_taken h c = by base bytes where
    newer : version ≡ 2
    newer = named ∙ ap version_in (state_seen x a b) ∙ clean_version x a.seen b.seen h taken c

    by : (o : Option (List ℕ)) → IsBaseToCarry tells version (choice x a b).seen o → o ≡ None
    by None other = refl
    by (Some l) is = let no : 1 ≡ 2 = sym is.0 ∙ newer in absurd (omega (arith, no))

-- ---- what opening leaves

module _ (k : Known) (in_a : Bool) (start : Option Base) (blocks : List (List Entry)) (a b new_a new_b : State) (r : IsReopened in_a k start blocks a b new_a new_b) where
  abbrev mid : State
  mid = open_of r.in_a_then r.a_then r.b_then

  -- a history that the pair stands for goes on with what was read
  pub pair_goes : (h : History) → PairFor a.seen b.seen h → GoesOn r.mended.was.start r.mended.was.blocks h
  pair_goes h p = mended_goes k r.in_a_then start blocks a b r.a_then r.b_then h r.mended p

  pub pair_served : (h : History) → PairFor a.seen b.seen h → Serves k.book h
  pair_served h p = r.mended.serves h (pair_goes h p)

  pub reopened_only : (e : OpenErr) → IsOpenErr a.seen b.seen e → IsOutside e
  reopened_only e why = mended_only k r.in_a_then start blocks a b r.a_then r.b_then e r.mended why

  -- the pair is tidy
  pub reopened_tidy : Remembers k start blocks → IsTidyAt in_a k.gate new_a new_b
  reopened_tidy knows = by_left r.left where
    t : IsTidyAt r.in_a_then k.gate r.a_then r.b_then
    t = mended_tidy k r.in_a_then start blocks a b r.a_then r.b_then knows r.mended

    by_left : StaysNewer r.in_a_then in_a r.a_then r.b_then new_a new_b ⊎ WasCarried r.in_a_then in_a r.a_then r.b_then new_a new_b → IsTidyAt in_a k.gate new_a new_b
    by_left (inl s) =
        subst (λ (x : Bool). IsTidyAt x k.gate new_a new_b) (sym s.same)
        (subst (λ (s : State). IsTidyAt r.in_a_then k.gate s new_b) (sym s.unchanged.0) (subst (λ (s : State). IsTidyAt r.in_a_then k.gate r.a_then s) (sym s.unchanged.1) t))
    by_left (inr w) =
        let seen : (open_of in_a new_a new_b).seen ≡ carried_file (mid).seen = ap (λ (s : State). s.seen) w.open_is in
        let behind = mended_behind k r.in_a_then start blocks a b r.a_then r.b_then r.mended w.older in
        let place : 64 + length (base_in (mid).seen) + ((length (mid).seen - 1) - (64 + length (base_in (mid).seen))) ≡ k.gate = omega (arith, behind, t.ends) in
        let g = next_generation (generation_of (mid).seen) in
        let from = 64 + length (base_in (mid).seen) in
        let to = length (mid).seen - 1 in
        let inside : from ≤ to = omega (arith, behind, t.ends) in
        record {
          quiet = w.open_is ∙ ap settled_state (sym seen);
          empty = w.other_is;
          shut = subst (λ (n : ℕ). IsShutAt n (open_of in_a new_a new_b).seen) place (subst (IsShutAt (from + (to - from))) (sym seen) (copied_shut g from to (base_in (mid).seen) (mid).seen inside (omega arith)));
          ends = ap length seen ∙ copied_length g from to (base_in (mid).seen) (mid).seen inside (omega arith) ∙ omega (arith, place);
        }

  -- .. and clean for each history that it stood for
  pub reopened_for : (h : History) → PairFor a.seen b.seen h → IsCleanPair new_a.seen new_b.seen h
  reopened_for h p = by_left r.left where
    c : IsClean (mid).seen h
    c = mended_clean k r.in_a_then start blocks a b r.a_then r.b_then h r.mended p

    by_left : StaysNewer r.in_a_then in_a r.a_then r.b_then new_a new_b ⊎ WasCarried r.in_a_then in_a r.a_then r.b_then new_a new_b → IsCleanPair new_a.seen new_b.seen h
    by_left (inl s) =
        subst (λ (t : State). IsCleanPair t.seen new_b.seen h) (sym s.unchanged.0)
        (subst (λ (t : State). IsCleanPair r.a_then.seen t.seen h) (sym s.unchanged.1) (clean_now r.in_a_then r.a_then r.b_then h c s.newer r.mended.other_is))
    by_left (inr w) =
        let seen : (open_of in_a new_a new_b).seen ≡ carried_file (mid).seen = ap (λ (s : State). s.seen) w.open_is in
        clean_now in_a new_a new_b h (subst (λ (l : List ℕ). IsClean l h) (sym seen) (carried_clean (mid).seen h c w.older)) (ap version_in seen) w.other_is

  -- one that was clean has the bytes that it had
  pub left_clean : (h : History) → IsCleanPair a.seen b.seen h → AreSettled a b new_a new_b
  left_clean h c = by_left r.left where
    m : AreSettled a b r.a_then r.b_then
    m = mended_same k r.in_a_then start blocks a b r.a_then r.b_then h r.mended c

    by_left : StaysNewer r.in_a_then in_a r.a_then r.b_then new_a new_b ⊎ WasCarried r.in_a_then in_a r.a_then r.b_then new_a new_b → AreSettled a b new_a new_b
    by_left (inl s) = (s.unchanged.0 ∙ m.0, s.unchanged.1 ∙ m.1)
    by_left (inr w) = let no : 1 ≡ 2 = sym w.older ∙ mended_newer k r.in_a_then start blocks a b r.a_then r.b_then h r.mended c in absurd (omega (arith, no))

-- ---- of two disks that read as these

pub reopened_as : (y : Bool) (k : Known) (start : Option Base) (blocks : List (List Entry)) (a b a_now b_now a_new b_new : State) → a_now.seen ≡ a.seen → b_now.seen ≡ b.seen → IsReopened y k start blocks a_now b_now a_new b_new → IsReopened y k start blocks a b a_new b_new
reopened_as y k start blocks a b a_now b_now a_new b_new ea eb r = record {
  in_a_then = r.in_a_then;
  a_then = r.a_then;
  b_then = r.b_then;
  mended = mended_as r.in_a_then k start blocks a b a_now b_now r.a_then r.b_then ea eb r.mended;
  left = r.left;
}
