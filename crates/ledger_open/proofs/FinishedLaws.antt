-- A purge is finished: what stands for a history does so at each exit, and at last nothing is left undone.
use Rattle.std.specs.List.{list_any}
use Rattle.std.specs.Prelude.{Bool, true, false, not, IsTrue, Option, None, Some, max, nat_le, slice_get, if◌then◌else◌}
use Rattle.std.proofs.Common.{◌≡◌, ◌≢◌, inl, inr, ℕ, ◌+◌, ◌-◌, ◌^◌, ◌<◌, ◌≤◌, ◌&&◌, ◌||◌, List, [], ◌∷◌, ◌++◌, length, take, drop, refl, sym, ◌∙◌, ap, subst, arith, length-append, length-take, length-drop}
use Rattle.std.proofs.lemmas.Bool.{false_from_ne_true}
use Rattle.std.proofs.lemmas.List.{nil_from_length, take-append-drop}
use Rattle.std.proofs.lemmas.List.Folds.{list_any-append}
use Rattle.block_file.specs.File.{IsSettled, open_blocks, whole_file}
use Rattle.block_file.specs.Head.{front_of, generation_of, version_in}
use Rattle.block_file.specs.FileView.{gate_of, HasTail}
use Rattle.block_file.specs.declared.file.BlockFile.{BlockFile}
use Rattle.journal_record.specs.Blocks.{written_blocks}
use Rattle.journal_record.specs.Entry.{Entry}
use Rattle.ledger_book.proofs.StandsLaws.{point_is}
use Rattle.ledger_disk.proofs.Guarding.{settled_image}
use Rattle.ledger_disk.specs.Disk.{State, MayLeave, settled_state}
use Rattle.ledger_model.proofs.FitLaws.{size_few}
use Rattle.ledger_model.proofs.LawfulLaws.{some_journal, two_points}
use Rattle.ledger_model.proofs.PointLaws.{points_few}
use Rattle.ledger_model.specs.Bases.{base_of}
use Rattle.ledger_model.specs.History.{History, journals, journals_of, size, point, greatest_point, purge_point}
use Rattle.ledger_model.specs.Targets.{is_hidden, is_hidden_by, hides}
use Rattle.pseudo_genesis.specs.Bases.{base_spelling}
use Rattle.twin_file.proofs.HeadLaws.{tail_size, generation_is as file_generation}
use Rattle.twin_file.specs.Twin.{choice, IsPassed, next_generation}
use Rattle.ledger_open.specs.Cutting.{FallsAway, IsBaseAt, IsCutAt, first_gate, gate_behind}
use Rattle.ledger_open.specs.Erasing.{is_given_up}
use Rattle.block_file.specs.Places.{after_at, places_at}
use Rattle.ledger_open.specs.Heads.{Edition, edition_from}
use Rattle.ledger_open.specs.Places.{places_from}
use Rattle.ledger_open.specs.declared.opened.Opened.{Opened}
use Rattle.ledger_open.specs.declared.purging.Cut.{Cut}
use Rattle.ledger_open.specs.declared.purging.Gone.{Gone}
use Rattle.ledger_open.specs.Purging.{Ledger, open_disk, other_disk, StandsOpen, IsCleanOpen, IsPurged, KeepsFrom, LetsGo, MayMove, IsEither, AllEither, copied_file}
use Rattle.ledger_open.specs.Standing.{Floor, StandsBy, StandsFor, IsErased, IsClean, IsBeside, PairFor, floor_behind, floor_of, hidden_before, point_before}
use Rattle.ledger_open.proofs.FloorLaws.{floor_first, floor_digests}
use Rattle.ledger_open.proofs.HeadLaws.{stands_head, stands_generation, beside_passes}
use Rattle.ledger_open.proofs.KeptLaws.{same_weaker}
use Rattle.ledger_open.proofs.MoveLaws.{next_fits, turned}
use Rattle.ledger_open.proofs.PartLaws.{one_parts}
use Rattle.ledger_open.proofs.PlaceLaws.{after_kept, tail_place}
use Rattle.ledger_open.proofs.PlaceMoves.{places_behind, after_most, after_moved, after_behind}
use Rattle.ledger_open.proofs.SplitLaws as split
use Rattle.ledger_open.proofs.StandLaws.{rest, copy_stands, rest_taken, lower as stands_lower}
use Rattle.ledger_open.proofs.TargetLaws.{hides_stays}

-- ---- how long a file is

pub ends_at : (floor : ℕ) (zeros : ℕ → Bool) (image : List ℕ) (h : History) (x : StandsBy floor zeros image h) → length image ≡ gate_behind (floor_behind h x.parts.gone) x.parts.kept + 1 + length x.keeps.file.stands.rest
ends_at floor zeros image h x =
    let f = x.keeps.file in
    let old = floor_behind h x.parts.gone in
    let ws = written_blocks old.root [] x.keeps.blocks in
    omega (
      arith,
      tail_place old (floor_digests h x.parts.gone x.parts.kept x.parts.are) f.front (first_gate old) x.keeps.blocks f.lawful f.head.size,
      after_kept (is_hidden h) zeros (first_gate old) x.parts.kept x.keeps.blocks x.keeps.same,
      ap length f.stands.is,
      length-append (f.front ++ open_blocks ws) (f.stands.gate ∷ f.stands.rest),
    )

-- ---- a purge hides nothing

last_shows : (before : List Entry) (e : Entry) → greatest_point before ≢ greatest_point (before ++ e ∷ []) → (t : Entry) → hides t e ≡ false
last_shows before e apart t = false_from_ne_true (hides t e) (λ is.
    let none : purge_point e ≡ 0 = ap (λ (v : Bool). if v then e.header.a else 0) (hides_stays e.header.kind e.header t.header is) in
    let both : greatest_point (before ++ e ∷ []) ≡ max (greatest_point before) (max 0 (purge_point e)) = two_points before (e ∷ []) in
    apart (omega (arith, none, both)))

last_one : (es : List Entry) → length es ≡ 1 → (e : Entry) × (es ≡ e ∷ [])
last_one [] one = absurd (omega (arith, one))
last_one (e ∷ []) one = (e, refl)
last_one (e ∷ f ∷ es) one = absurd (omega (arith, one))

hidden_same : (before : List Entry) (e : Entry) (target : Option Entry) → ((t : Entry) → hides t e ≡ false) → is_hidden_by (before ++ e ∷ []) target ≡ is_hidden_by before target
hidden_same before e None none = refl
hidden_same before e (Some t) none =
    list_any-append (hides t) before (e ∷ []) ∙ ap (λ (v : Bool). list_any (hides t) before || (v || false)) (none t) ∙ or_false (list_any (hides t) before)
  where
    or_false : (v : Bool) → (v || false) ≡ v
    or_false true = refl
    or_false false = refl

pub none_new : (h : History) → 1 ≤ size h → point_before h ≢ point h → (n : ℕ) → is_hidden h n ≡ hidden_before h n
unfolding point
none_new h some apart n =
    let es = journals h in
    let one = last_one (drop (size h - 1) es) (omega (arith, some, length-drop (size h - 1) es)) in
    let parts : es ≡ take (size h - 1) es ++ one.0 ∷ [] = sym (take-append-drop (size h - 1) es) ∙ ap (λ (l : List Entry). take (size h - 1) es ++ l) one.1 in
    ap (λ (l : List Entry). is_hidden_by l (slice_get es n)) parts
    ∙ hidden_same (take (size h - 1) es) one.0 (slice_get es n) (last_shows (take (size h - 1) es) one.0 (λ same. apart (same ∙ ap greatest_point (sym parts))))

-- .. nor gives a content up
pub none_given : (h : History) → 1 ≤ size h → point_before h ≢ point h → (n : ℕ) → is_given_up h n ≡ false
none_given h some apart n = of_same (nat_le (point h) n) (is_hidden h n) (hidden_before h n) (none_new h some apart n) where
  of_same : (u v w : Bool) → v ≡ w → (u && (v && not w)) ≡ false
  of_same false v w is = refl
  of_same true true true is = refl
  of_same true true false is = is
  of_same true false w is = refl

abbrev erased_now : (image : List ℕ) (h : History) → ((n : ℕ) → is_hidden h n ≡ hidden_before h n) → (x : StandsBy (point h) (hidden_before h) image h) → IsErased image h
erased_now image h same x = record {
  edition = x.edition;
  parts = x.parts;
  keeps = record {
    blocks = x.keeps.blocks;
    file = x.keeps.file;
    same = same_weaker (is_hidden h) (hidden_before h) (is_hidden h) (is_hidden h) (λ n s. s) (λ n z. sym (same n) ∙ z) x.parts.kept x.keeps.blocks x.keeps.same;
  };
  early = x.early;
  none = x.none;
  lawful = x.lawful;
  wide = x.wide;
}

-- ---- a copy is clean

-- the copy from the point on of a file that stands for a history
module _ (floor : ℕ) (image : List ℕ) (h : History) (x : StandsBy floor (hidden_before h) image h) (below : floor < point h) (base : List ℕ) (next : ℕ) where
  abbrev from : Floor
  from = floor_behind h x.parts.gone

  abbrev left_out : List (List Entry)
  left_out = split.front h x.lawful x.none floor x.parts below

  abbrev stays : List (List Entry)
  stays = split.behind h x.lawful x.none floor x.parts below

  abbrev copy : List ℕ
  copy = whole_file (front_of 1 next base) (rest floor (hidden_before h) image h x below)

  module _ (spelled : base ≡ base_spelling (base_of h (point h))) (new : StandsBy (point h) (hidden_before h) copy h) where
    gate_now : gate_behind (floor_behind h new.parts.gone) new.parts.kept ≡ after_at (64 + length base) stays
    gate_now =
        let one = one_parts (point h) h x.lawful.blocks_are new.parts (split.parts_there h x.lawful x.none floor x.parts below) in
        ap (λ (bs : List (List Entry)). gate_behind (floor_behind h bs) new.parts.kept) one.0 ∙ ap (gate_behind (floor_behind h (x.parts.gone ++ left_out))) one.1
        ∙ ap (λ (f : Floor). gate_behind f stays) (split.floor_there h x.lawful x.none floor x.parts below) ∙ ap (λ (b : List ℕ). after_at (64 + length b) stays) (sym spelled)

    -- it ends with its tail gate
    copy_length : length copy ≡ gate_behind (floor_behind h new.parts.gone) new.parts.kept + 1
    copy_length =
        omega (
          arith,
          ends_at floor (hidden_before h) image h x,
          length-append (front_of 1 next base) [],
          tail_size 1 next base,
          ap length (rest_taken floor (hidden_before h) image h x below),
          length-take (gate_behind from x.parts.kept - gate_behind from left_out) (drop (gate_behind from left_out) image),
          length-drop (gate_behind from left_out) image,
          length-append (front_of 1 next base ++ open_blocks (rest floor (hidden_before h) image h x below)) (0 ∷ []),
          length-append (front_of 1 next base) (open_blocks (rest floor (hidden_before h) image h x below)),
          gate_now,
          ap (gate_behind from) (split.kept_are h x.lawful x.none floor x.parts below),
          after_behind (first_gate from) left_out stays,
          after_moved (gate_behind from left_out) (64 + length base) stays,
          after_most 0 0 (gate_behind from left_out) stays,
        )

  -- and a purge hides nothing
  pub copy_clean : base ≡ base_spelling (base_of h (point h)) → next ≡ x.edition.number + 1 → next < 2 ^ 64 → length base < 2 ^ 64 → point_before h ≢ point h → IsClean copy h
  copy_clean spelled next_is fits short purge =
      let new = copy_stands floor (hidden_before h) image h x below base next spelled next_is fits short in
      let e = erased_now copy h (none_new h (some_journal (journals h) x.lawful.journals_are) purge) new in
      record { erased = e; ends = nil_from_length e.keeps.file.stands.rest (omega (arith, copy_length spelled new, ends_at (point h) (is_hidden h) copy h e)) }

-- ---- two files

pub pair_of : (x : Bool) (a b : State) (h : History) (s : StandsFor (choice x a b).seen h) → IsBeside h s.file.edition (choice x b a).seen → PairFor a.seen b.seen h
pair_of true a b h s beside = record { in_a = true; stands = s; beside = beside }
pair_of false a b h s beside = record { in_a = false; stands = s; beside = beside }

pub both_settled : (x : Bool) (a b : State) → IsSettled (choice x a b) → IsSettled (choice x b a) → IsSettled a × IsSettled b
both_settled true a b one two = (one, two)
both_settled false a b one two = (two, one)

pub settled_is : (s : State) (bytes : List ℕ) → s ≡ settled_state bytes → IsSettled s
settled_is s bytes is = is ∙ ap (λ (t : State). settled_state t.seen) (sym is)

module _ (l : Ledger) (h : History) (s : StandsOpen l h) where
  abbrev x : StandsBy s.stands.floor (hidden_before h) (open_disk l).seen h
  x = s.stands.file

  pub point_book : l.known.book.point ≡ point h
  point_book = point_is l.known.book h s.ends.serves

  same_parts : (s.ends.parts.gone ≡ x.parts.gone) × (s.ends.parts.kept ≡ x.parts.kept)
  same_parts = one_parts l.known.book.floor h x.lawful.blocks_are s.ends.parts (record { gone = x.parts.gone; kept = x.parts.kept; are = x.parts.are; at = x.parts.at ∙ s.floor })

  abbrev old : Floor
  old = floor_behind h x.parts.gone

  places_here : l.known.places ≡ places_from old x.parts.kept
  places_here = s.ends.places_are ∙ ap (λ (bs : List (List Entry)). places_from (floor_behind h bs) s.ends.parts.kept) same_parts.0 ∙ ap (places_from old) same_parts.1

  tail_here : l.known.gate ≡ gate_behind old x.parts.kept
  tail_here = s.tail ∙ ap (λ (bs : List (List Entry)). gate_behind (floor_behind h bs) s.ends.parts.kept) same_parts.0 ∙ ap (gate_behind old) same_parts.1

  -- nothing was written
  pub same_pairs : (a_new b_new : State) → a_new ≡ l.a → b_new ≡ l.b → (image_a image_b : List ℕ) → MayLeave a_new image_a → MayLeave b_new image_b → PairFor image_a image_b h
  same_pairs a_new b_new ea eb image_a image_b la lb =
      let one : image_a ≡ l.a.seen = settled_image l.a.seen image_a (subst (λ (t : State). MayLeave t image_a) (ea ∙ s.quiet_a) la) in
      let two : image_b ≡ l.b.seen = settled_image l.b.seen image_b (subst (λ (t : State). MayLeave t image_b) (eb ∙ s.quiet_b) lb) in
      subst (λ (i : List ℕ). PairFor i image_b h) (sym one) (subst (λ (i : List ℕ). PairFor l.a.seen i h) (sym two) (pair_of l.in_a l.a l.b h s.stands s.beside))

  module _ (below : l.known.book.floor < l.known.book.point) where
    pub under : s.stands.floor < point h
    under = omega (arith, s.floor, point_book, below)

    purge : point_before h ≢ point h
    purge same = elim s.stands.begins [ inl at ↦ omega (arith, at, under) | inr at ↦ omega (arith, at, same, under) ]

    abbrev front : List (List Entry)
    front = split.front h x.lawful x.none s.stands.floor x.parts under

    abbrev behind : List (List Entry)
    behind = split.behind h x.lawful x.none s.stands.floor x.parts under

    kept_are : x.parts.kept ≡ front ++ behind
    kept_are = split.kept_are h x.lawful x.none s.stands.floor x.parts under

    -- the blocks in front of the point fall away
    pub falls : FallsAway l.known old front behind
    falls = record {
      first = sym s.floor ∙ sym x.parts.at ∙ sym (floor_first h x.parts.gone);
      point = omega (arith, floor_first h x.parts.gone, x.parts.at, split.front_at h x.lawful x.none s.stands.floor x.parts under, point_book);
      most = omega (arith, point_book, s.ends.serves.stands.counts.sealed_is, (points_few h 0 x.lawful.journals_are).0, closed_size);
      some = split.behind_begins h x.lawful x.none s.stands.floor x.parts under;
      places = places_here ∙ ap (places_from old) kept_are;
      tail = tail_here ∙ ap (gate_behind old) kept_are;
    } where
      closed_size : size h ≡ length (journals_of h.closed)
      closed_size = ap (λ (es : List Entry). length (journals_of h.closed ++ es)) x.none ∙ omega (arith, length-append (journals_of h.closed) [])

    pub floor_under : old.first < l.known.book.point
    floor_under = omega (arith, floor_first h x.parts.gone, x.parts.at, under, point_book)

    own_generation : l.edition.number ≡ x.edition.number
    own_generation = ap (λ (e : Edition). e.number) s.edition ∙ stands_generation (open_disk l).seen h s.stands

    lower : x.edition.number ≤ size h
    lower = stands_lower s.stands.floor (hidden_before h) (open_disk l).seen h x under

    pub may_move : MayMove l.in_a l.edition.number l.a l.b
    may_move = record {
      quiet_a = s.quiet_a;
      quiet_b = s.quiet_b;
      head = stands_head (open_disk l).seen h s.stands;
      generation_is = ap (λ (e : Edition). e.number) s.edition;
      fits = omega (arith, own_generation, lower, size_few h x.lawful);
      passed = subst (λ (n : ℕ). IsPassed false n (other_disk l).seen) (sym own_generation) (beside_passes h false x.edition (other_disk l).seen s.beside);
    }

    -- the blocks that are copied
    abbrev pub copied : List (List ℕ)
    copied = rest s.stands.floor (hidden_before h) (open_disk l).seen h x under

    pub taken : take (l.known.gate - gate_behind old front) (drop (gate_behind old front) (open_disk l).seen) ≡ open_blocks copied
    taken = ap (λ (n : ℕ). take (n - gate_behind old front) (drop (gate_behind old front) (open_disk l).seen)) tail_here ∙ rest_taken s.stands.floor (hidden_before h) (open_disk l).seen h x under

    module _ (bytes : List ℕ) (base : IsBaseAt l.known.book l.known.book.point bytes) where
      base_same : base.base ≡ base_of h (point h)
      base_same = base.base_is h s.ends.serves ∙ ap (base_of h) point_book

      abbrev new : List ℕ
      new = whole_file (front_of 1 (next_generation l.edition.number) bytes) copied

      next_is : next_generation l.edition.number ≡ x.edition.number + 1
      next_is = omega (arith, own_generation, lower, size_few h x.lawful)

      new_stands : StandsBy (point h) (hidden_before h) new h
      new_stands = copy_stands s.stands.floor (hidden_before h) (open_disk l).seen h x under bytes (next_generation l.edition.number) (base.spelled ∙ ap base_spelling base_same) next_is (omega (arith, next_is, lower, size_few h x.lawful)) base.short

      new_version : version_in new ≡ 2
      new_version = refl

      new_for : StandsFor new h
      new_for = record { floor = point h; begins = inl refl; file = new_stands }

      -- whatever is open, it stands for the history
      pub either_pairs : (a_new b_new : State) → AllEither l.in_a (open_disk l).seen new a_new b_new → (image_a image_b : List ℕ) → MayLeave a_new image_a → MayLeave b_new image_b → PairFor image_a image_b h
      either_pairs a_new b_new either image_a image_b la lb = by_case (either image_a image_b la lb) where
        moved : (f g : List ℕ) (is : f ≡ g) (t : StandsFor g h) (u : StandsFor f h) → generation_of g ≡ u.file.edition.number
        moved f g is t u = ap generation_of (sym is) ∙ stands_generation f h u

        pair_at : (y : Bool) (f : List ℕ) → choice y image_a image_b ≡ f → StandsFor f h → IsPassed false (generation_of f) (choice y image_b image_a) → PairFor image_a image_b h
        pair_at y f is t passed =
            let u : StandsFor (choice y image_a image_b) h = subst (λ (i : List ℕ). StandsFor i h) (sym is) t in
            record { in_a = y; stands = u; beside = inr (inl (inl purge, subst (λ (n : ℕ). IsPassed false n (choice y image_b image_a)) (moved (choice y image_a image_b) f is t u) passed)) }

        by_case : IsEither l.in_a (open_disk l).seen new image_a image_b → PairFor image_a image_b h
        by_case (inl o) = pair_at l.in_a (open_disk l).seen o.0 s.stands o.1
        by_case (inr o) = pair_at (not l.in_a) new (turned l.in_a image_a image_b ∙ o.0) new_for (subst (λ (i : List ℕ). IsPassed false (generation_of new) i) (sym (turned l.in_a image_b image_a)) o.1)

      new_floor : floor_behind h (x.parts.gone ++ front) ≡ floor_of base.base
      new_floor = split.floor_there h x.lawful x.none s.stands.floor x.parts under ∙ ap floor_of (sym base_same)

      clean_new : IsClean new h
      clean_new =
          copy_clean s.stands.floor (open_disk l).seen h x under bytes (next_generation l.edition.number) (base.spelled ∙ ap base_spelling base_same) next_is (omega (arith, next_is, lower, size_few h x.lawful)) base.short purge

    -- the purge is finished
    pub finished : (tells : Bool) (m : Ledger) → (p : IsPurged tells old front behind l m) → IsTrue tells → IsCleanOpen m h
    finished tells m p told = record {
      quiet_a = quiet.0;
      quiet_b = quiet.1;
      ends = record {
        serves = p.book.serves h s.ends.serves point_book;
        begins = inl floor_now;
        parts = record { gone = x.parts.gone ++ front; kept = behind; are = split.closed_are h x.lawful x.none s.stands.floor x.parts under; at = split.gone_at h x.lawful x.none s.stands.floor x.parts under ∙ sym floor_now };
        places_are = p.places ∙ ap (λ (f : Floor). places_from f behind) (sym new_at);
        none = x.none;
      };
      floor = floor_now;
      tail = p.tail ∙ ap (λ (f : Floor). gate_behind f behind) (sym new_at);
      clean = subst (λ (i : List ℕ). IsClean i h) (sym seen) (clean_new p.bytes p.base);
      empty = ap (λ (t : State). length t.seen) (p.wiped told);
      newer = newer_now;
      edition = p.edition ∙ λ i. edition_from (sym newer_now i) (sym (ap generation_of seen ∙ file_generation (next_generation l.edition.number) p.bytes copied (next_fits l.in_a l.edition.number l.a l.b may_move)) i);
    } where
      floor_now : m.known.book.floor ≡ point h
      floor_now = p.book.floor ∙ point_book

      new_at : floor_behind h (x.parts.gone ++ front) ≡ floor_of p.base.base
      new_at = new_floor p.bytes p.base

      open_is : open_disk m ≡ settled_state (new p.bytes p.base)
      open_is =
          p.copied told ∙ ap (λ (g : ℕ). settled_state (copied_file g p.bytes (gate_behind old front) l.known.gate (open_disk l).seen)) (ap (λ (e : Edition). e.number) p.edition)
          ∙ ap (λ (bs : List ℕ). settled_state ((front_of 1 (next_generation l.edition.number) p.bytes ++ bs) ++ 0 ∷ [])) taken

      seen : (open_disk m).seen ≡ new p.bytes p.base
      seen = ap (λ (t : State). t.seen) open_is

      newer_now : version_in (open_disk m).seen ≡ 2
      newer_now = ap version_in seen ∙ new_version p.bytes p.base

      quiet : IsSettled m.a × IsSettled m.b
      quiet = both_settled m.in_a m.a m.b (settled_is (open_disk m) (new p.bytes p.base) open_is) (settled_is (other_disk m) [] (p.wiped told))

    -- each pair of images, by what moving over says of it
    pub moved_pairs : (cut : Cut) (bytes slice : List ℕ) → slice ≡ bytes → IsBaseAt l.known.book l.known.book.point bytes → IsCutAt old front cut → (a_new b_new : State)
        → ((blocks : List (List ℕ)) → MayMove l.in_a l.edition.number l.a l.b → take (l.known.gate - cut.gate) (drop cut.gate (open_disk l).seen) ≡ open_blocks blocks
        → AllEither l.in_a (open_disk l).seen (whole_file (front_of 1 (next_generation l.edition.number) slice) blocks) a_new b_new)
        → (image_a image_b : List ℕ) → MayLeave a_new image_a → MayLeave b_new image_b → PairFor image_a image_b h
    moved_pairs cut bytes slice same base at a_new b_new each =
        either_pairs bytes base a_new b_new
        (subst (λ (t : List ℕ). AllEither l.in_a (open_disk l).seen (whole_file (front_of 1 (next_generation l.edition.number) t) copied) a_new b_new) same
        (each copied may_move (ap (λ (n : ℕ). take (l.known.gate - n) (drop n (open_disk l).seen)) at.gate ∙ taken)))

-- what memory lets go of leaves the files, and of the book what it counts
pub twin_stays : (gone : Option Gone) (before after : Opened) → LetsGo gone before after → after.twin ≡ before.twin
twin_stays None before after is = ap (λ (o : Opened). o.twin) is
twin_stays (Some gone) before after is = is.twin

pub counts_stay : (gone : Option Gone) (before after : Opened) → LetsGo gone before after
    → (after.book.limits ≡ before.book.limits) × (after.book.size ≡ before.book.size) × (after.book.sealed ≡ before.book.sealed)
counts_stay None before after is = (ap (λ (o : Opened). o.book.limits) is, ap (λ (o : Opened). o.book.size) is, ap (λ (o : Opened). o.book.sealed) is)
counts_stay (Some gone) before after is = (is.book.limits, is.book.size, is.book.sealed)

-- a place that is told of fits its field
pub tail_few : (x : Bool) (told_a told_b : Option ℕ) (file : BlockFile) → HasTail (choice x told_a told_b) file → ((n : ℕ) → told_a ≡ Some n → n ≤ 2 ^ 62) → ((n : ℕ) → told_b ≡ Some n → n ≤ 2 ^ 62) → gate_of file < 2 ^ 64
tail_few true (Some n) told_b file has few_a few_b = omega (arith, has, few_a n refl)
tail_few true None told_b file has few_a few_b = absurd has
tail_few false told_a (Some n) file has few_a few_b = omega (arith, has, few_b n refl)
tail_few false told_a None file has few_a few_b = absurd has

-- the ledger when the copy is open and the old file wiped
pub purged : (tells : Bool) (floor : Floor) (front behind : List (List Entry)) (l m : Ledger) (cut : Cut) (bytes slice : List ℕ) → FallsAway l.known floor front behind → slice ≡ bytes → IsBaseAt l.known.book l.known.book.point bytes
    → IsCutAt floor front cut → KeepsFrom l.known.book.point l.known.book m.known.book → (first : ℕ) → first ≡ 64 + length slice
    → ((blocks : List (List Entry)) → drop cut.count l.known.places ≡ places_at cut.gate blocks → after_at first blocks < 2 ^ 64 → m.known.places ≡ places_at first blocks)
    → m.known.gate ≡ 64 + length slice + (l.known.gate - cut.gate) → m.known.gate < 2 ^ 64 → m.in_a ≡ not l.in_a → m.edition ≡ edition_from 2 (next_generation l.edition.number)
    → (IsTrue tells → open_disk m ≡ settled_state (copied_file (next_generation l.edition.number) slice cut.gate l.known.gate (open_disk l).seen))
    → (IsTrue tells → other_disk m ≡ settled_state []) → IsPurged tells floor front behind l m
purged tells floor front behind l m cut bytes slice falls same base at keeps first first_is moves place_is fits in_a edition copied wiped = record {
  bytes = bytes;
  base = base;
  book = keeps;
  places = moves behind here (omega (arith, end_is, fits)) ∙ ap (λ (n : ℕ). places_at n behind) gate_is;
  tail = end_is ∙ ap (λ (n : ℕ). after_at n behind) gate_is;
  in_a = in_a;
  edition = edition;
  copied = λ told.
      copied told ∙ ap (λ (t : List ℕ). settled_state (copied_file (next_generation l.edition.number) t cut.gate l.known.gate (open_disk l).seen)) same
      ∙ ap (λ (n : ℕ). settled_state (copied_file (next_generation l.edition.number) bytes n l.known.gate (open_disk l).seen)) at.gate
      ∙ ap (λ (g : ℕ). settled_state (copied_file g bytes (gate_behind floor front) l.known.gate (open_disk l).seen)) (sym (ap (λ (e : Edition). e.number) edition));
  wiped = wiped;
} where
  gate_is : first ≡ 64 + length (base_spelling base.base)
  gate_is = first_is ∙ ap (λ (t : List ℕ). 64 + length t) (same ∙ base.spelled)

  here : drop cut.count l.known.places ≡ places_at cut.gate behind
  here =
      ap (λ (n : ℕ). drop n l.known.places) at.count ∙ ap (drop (length (journals_of front))) falls.places ∙ places_behind (first_gate floor) front behind ∙ ap (λ (n : ℕ). places_at n behind) (sym at.gate)

  low : cut.gate ≤ after_at cut.gate behind
  low = after_most 0 0 cut.gate behind

  end_is : m.known.gate ≡ after_at first behind
  end_is =
      let old_end : l.known.gate ≡ after_at cut.gate behind = falls.tail ∙ after_behind (first_gate floor) front behind ∙ ap (λ (n : ℕ). after_at n behind) (sym at.gate) in
      omega (arith, place_is, old_end, low, after_moved cut.gate first behind, first_is)
