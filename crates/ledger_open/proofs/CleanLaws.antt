-- A file that was read, cut behind its tail gate, and of which was given up what the last journal hides: as it stays, and
-- copied from the point on.
use Rattle.std.specs.Prelude.{All, sum_by, false, Option}
use Rattle.std.proofs.Common.{◌≡◌, ◌≢◌, inl, inr, ℕ, ◌+◌, ◌-◌, ◌^◌, ◌<◌, ◌≤◌, List, [], ◌∷◌, ◌++◌, length, get_or, take, drop, refl, sym, ◌∙◌, ap, subst, arith}
use Rattle.std.proofs.lemmas.List.{nil_from_length, take_all, take_at, take-take, get_or-drop}
use Rattle.std.proofs.lemmas.List.Elements.{All-append, All-cons, All-nil, All-take}
use Rattle.std.proofs.lemmas.List.Sums.{sum_by-cons}
use Rattle.block_file.proofs.WriteLaws.{tail_shut}
use Rattle.block_file.specs.File.{IsShutAt, tail_of, whole_file}
use Rattle.block_file.specs.Head.{front_of, generation_of}
use Rattle.journal_record.specs.Blocks.{written_blocks}
use Rattle.journal_record.specs.Entry.{Entry}
use Rattle.ledger_book.proofs.StandsLaws.{point_is}
use Rattle.ledger_disk.specs.Guards.{Outside}
use Rattle.ledger_model.proofs.FitLaws.{size_few}
use Rattle.ledger_model.proofs.LawfulLaws.{some_journal}
use Rattle.ledger_model.specs.Bases.{base_of}
use Rattle.ledger_model.specs.History.{History, journals, journals_of, point, greatest_point}
use Rattle.ledger_model.specs.Lawful.{IsBlock}
use Rattle.ledger_model.specs.Targets.{is_hidden}
use Rattle.pseudo_genesis.specs.Bases.{base_spelling}
use Rattle.pseudo_genesis.specs.declared.base.Base.{Base}
use Rattle.twin_file.specs.Twin.{next_generation}
use Rattle.ledger_open.specs.Cutting.{first_gate, gate_behind}
use Rattle.ledger_open.specs.Erasing.{AreBetween, ErasesSome, given_up, given_up_in}
use Rattle.ledger_open.specs.Opening.{Known, Knows, GoesOn, HasFile}
use Rattle.block_file.specs.Places.{body_from, record_len, places_in, places_at, after_at}
use Rattle.ledger_open.specs.Purging.{copied_file}
use Rattle.ledger_open.specs.Standing.{Floor, floor_from, floor_behind, Parts, SameButHidden, StandsBy, StandsFor, IsClean, hidden_before, point_before}
use Rattle.block_file.specs.declared.place.PlaceAt.{PlaceAt}
use Rattle.ledger_open.proofs.ByteLaws.{copied_length, copied_shut}
use Rattle.ledger_open.proofs.CopyLaws.{Halves, halves, same_count}
use Rattle.ledger_open.proofs.ErasingLaws.{given_erased, given_same, given_alike, none_given_up}
use Rattle.ledger_open.proofs.FinishedLaws.{ends_at, copy_clean, none_given}
use Rattle.ledger_open.proofs.FloorLaws.{floor_digests}
use Rattle.ledger_open.proofs.GrowLaws.{erased_stands, erased_floor}
use Rattle.ledger_open.proofs.HeadLaws.{stands_generation}
use Rattle.ledger_open.proofs.OpenLaws.{tail_is, cut_has, cut_length}
use Rattle.ledger_open.proofs.PartLaws.{one_parts, one_split}
use Rattle.ledger_open.proofs.PlaceLaws.{after_kept, tail_place}
use Rattle.ledger_open.proofs.PlaceMoves.{after_behind, after_most, after_moved}
use Rattle.ledger_open.proofs.SplitLaws as split
use Rattle.ledger_open.proofs.StandLaws.{base_there, lower, rest, rest_taken}
use Rattle.ledger_open.proofs.WholeLaws.{goes_on, floor_same, floor_there}
use Rattle.ledger_open.proofs.WidthLaws.{spelling_fits}
use Rattle.ledger_open.proofs.ZerosLaws.{some_between}

-- contents stand behind a place in front of the first gate
between_in : (low end at : ℕ) (es : List Entry) → low ≤ at → at + sum_by record_len es ≤ end → AreBetween low end (places_in at es)
between_in low end at [] first le = All-nil (λ (p : PlaceAt). (low ≤ p.content_at) × (p.content_at + p.content_len ≤ end))
between_in low end at (e ∷ es) first le =
    All-cons (λ (p : PlaceAt). (low ≤ p.content_at) × (p.content_at + p.content_len ≤ end)) _ (places_in (at + record_len e) es) (omega (arith, first), omega (arith, le, sum_by-cons record_len e es))
    (between_in low end (at + record_len e) es (omega (arith, first)) (omega (arith, le, sum_by-cons record_len e es)))

pub between_at : (low at : ℕ) (bs : List (List Entry)) → low ≤ at → AreBetween low (after_at at bs) (places_at at bs)
between_at low at [] first = All-nil (λ (p : PlaceAt). (low ≤ p.content_at) × (p.content_at + p.content_len ≤ at))
between_at low at (b ∷ bs) first =
    All-append (λ (p : PlaceAt). (low ≤ p.content_at) × (p.content_at + p.content_len ≤ after_at at (b ∷ bs))) (places_in (body_from at) b) (places_at (body_from at + sum_by record_len b) bs)
    (between_in low (after_at at (b ∷ bs)) (body_from at) b (omega (arith, first)) (after_most 0 0 (body_from at + sum_by record_len b) bs))
    (between_at low (body_from at + sum_by record_len b) bs (omega (arith, first)))

-- ---- a file that was read

module _ (k : Known) (start : Option Base) (blocks : List (List Entry)) (old : List ℕ) (knows : Knows k start blocks) (has : HasFile start blocks old) where
  abbrev pub cut : List ℕ
  cut = take (k.gate + 1) old

  ends : tail_of has.1.front (written_blocks (floor_from start).root [] blocks) ≡ k.gate
  ends = tail_is start knows.base has.0 blocks old has.1 ∙ sym knows.tail

  -- whatever it stands for, it is cut behind its tail gate
  pub cut_size : length cut ≡ k.gate + 1
  cut_size = cut_length (floor_from start) has.0 blocks old has.1 k.gate ends

  pub cut_shut : IsShutAt k.gate cut
  cut_shut =
      let x = cut_has (floor_from start) has.0 blocks old has.1 k.gate ends in
      subst (λ (n : ℕ). IsShutAt n cut) (tail_is start knows.base has.0 blocks cut x ∙ sym knows.tail) (tail_shut x.front (written_blocks (floor_from start).root [] blocks) cut x.stands)

  -- .. and erasing leaves that gate and all in front of the first one
  module _ (bytes : List ℕ) (some : ErasesSome k.places cut bytes) where
    abbrev first_at : ℕ
    first_at = first_gate (floor_from start)

    first_low : first_at ≤ k.gate
    first_low = omega (arith, knows.tail, after_most 0 0 first_at blocks)

    places_low : AreBetween first_at k.gate k.places
    places_low =
        subst (λ (end : ℕ). AreBetween first_at end k.places) (sym knows.tail) (subst (AreBetween first_at (after_at first_at blocks)) (sym knows.places) (between_at first_at first_at blocks (omega arith)))

    erased_outside : Outside first_at (k.gate - first_at) cut bytes
    erased_outside = some_between first_at k.gate k.places cut bytes some places_low (omega (arith, cut_size))

    pub bytes_size : length bytes ≡ k.gate + 1
    bytes_size = erased_outside.size ∙ cut_size

    pub bytes_shut : IsShutAt k.gate bytes
    bytes_shut =
        let at : first_at + (k.gate - first_at) ≡ k.gate = omega (arith, first_low) in
        let here : drop k.gate bytes ≡ drop k.gate cut = ap (λ (n : ℕ). drop n bytes) (sym at) ∙ erased_outside.after ∙ ap (λ (n : ℕ). drop n cut) at in
        let end : k.gate ≡ k.gate + 0 = omega arith in
        let gate : get_or bytes k.gate 0 ≡ get_or cut k.gate 0 =
        ap (λ (n : ℕ). get_or bytes n 0) end ∙ sym (get_or-drop k.gate bytes 0 0) ∙ ap (λ (l : List ℕ). get_or l 0 0) here ∙ get_or-drop k.gate cut 0 0 ∙ ap (λ (n : ℕ). get_or cut n 0) (sym end) in
        (omega (arith, bytes_size), λ open_now. cut_shut.1 (sym gate ∙ open_now))

    pub erased_front : take first_at bytes ≡ take first_at old
    erased_front = erased_outside.before ∙ take-take first_at (k.gate + 1) old (omega (arith, first_low))

    -- so does a copy
    module _ (generation : ℕ) (base : List ℕ) (front behind : List (List Entry)) (are : blocks ≡ front ++ behind) where
      abbrev gate : ℕ
      gate = gate_behind (floor_from start) front

      place_is : 64 + length base + (k.gate - gate) ≡ after_at (64 + length base) behind
      place_is =
          let tail : k.gate ≡ after_at gate behind = knows.tail ∙ ap (gate_behind (floor_from start)) are ∙ after_behind (first_gate (floor_from start)) front behind in
          omega (arith, tail, after_moved gate (64 + length base) behind, after_most 0 0 gate behind)

      inside : gate ≤ k.gate
      inside =
          let tail : k.gate ≡ after_at gate behind = knows.tail ∙ ap (gate_behind (floor_from start)) are ∙ after_behind (first_gate (floor_from start)) front behind in
          omega (arith, tail, after_most 0 0 gate behind)

      pub copy_size : length (copied_file generation base gate k.gate bytes) ≡ after_at (64 + length base) behind + 1
      copy_size = omega (arith, copied_length generation gate k.gate base bytes inside (omega (arith, bytes_size)), place_is)

      pub copy_shut : IsShutAt (after_at (64 + length base) behind) (copied_file generation base gate k.gate bytes)
      copy_shut = subst (λ (n : ℕ). IsShutAt n (copied_file generation base gate k.gate bytes)) place_is (copied_shut generation gate k.gate base bytes inside (omega (arith, bytes_size)))

  -- ---- .. and a history that it stands for

  module _ (h : History) (s : StandsFor old h) where
    abbrev x : StandsBy s.floor (hidden_before h) old h
    x = s.file

    abbrev from : Floor
    from = floor_behind h x.parts.gone

    pub on : GoesOn start blocks h
    on = goes_on old h start blocks has.0 s knows.base has.1

    floor_is : from ≡ floor_from start
    floor_is = floor_same old h s start blocks has.0 knows.base has.1

    first_is : s.floor ≡ (floor_from start).first
    first_is = floor_there old h s start blocks has.0 knows.base has.1

    -- the point is that of its blocks
    pub point_known : point h ≡ greatest_point (journals_of blocks)
    point_known = sym (point_is k.book h (knows.serves h on)) ∙ knows.point

    -- they are what it has of the history
    kept_same : SameButHidden (is_hidden h) (λ n. false) x.parts.kept blocks
    kept_same =
        subst (λ (bs : List (List Entry)). SameButHidden (is_hidden h) (λ n. false) bs blocks)
        (one_parts (floor_from start).first h x.lawful.blocks_are on.parts (record { gone = x.parts.gone; kept = x.parts.kept; are = x.parts.are; at = x.parts.at ∙ first_is })).1 on.same

    tail_at : k.gate ≡ gate_behind from x.parts.kept
    tail_at = knows.tail ∙ sym (after_kept (is_hidden h) (λ n. false) (first_gate (floor_from start)) x.parts.kept blocks kept_same) ∙ ap (λ (f : Floor). gate_behind f x.parts.kept) (sym floor_is)

    -- .. however that falls into parts
    gate_at : (p : ℕ) (y : Parts p h) → p ≡ s.floor → gate_behind (floor_behind h y.gone) y.kept ≡ k.gate
    gate_at p y at =
        let one = one_parts s.floor h x.lawful.blocks_are (record { gone = y.gone; kept = y.kept; are = y.are; at = y.at ∙ at }) x.parts in
        ap (λ (bs : List (List Entry)). gate_behind (floor_behind h bs) y.kept) one.0 ∙ ap (gate_behind from) one.1 ∙ sym tail_at

    pub own_tail : tail_of x.keeps.file.front (written_blocks from.root [] x.keeps.blocks) ≡ k.gate
    own_tail =
        tail_place from (floor_digests h x.parts.gone x.parts.kept x.parts.are) x.keeps.file.front (first_gate from) x.keeps.blocks x.keeps.file.lawful x.keeps.file.head.size
        ∙ sym (after_kept (is_hidden h) (hidden_before h) (first_gate from) x.parts.kept x.keeps.blocks x.keeps.same) ∙ sym tail_at

    -- cut, it stands for it too
    abbrev pub cut_stands : StandsFor cut h
    cut_stands = record {
      floor = s.floor;
      begins = s.begins;
      file = record {
        edition = x.edition;
        parts = x.parts;
        keeps = record { blocks = x.keeps.blocks; file = cut_has from x.edition x.keeps.blocks old x.keeps.file k.gate own_tail; same = x.keeps.same };
        early = x.early;
        none = x.none;
        lawful = x.lawful;
        wide = x.wide;
      };
    }

    -- what is given up stands at the same places in them
    given_is : (file : List ℕ) → given_up h (floor_from start) blocks file ≡ given_up h from x.parts.kept file
    given_is file = ap (λ (f : Floor). given_up h f blocks file) (sym floor_is) ∙ sym (given_alike h from (is_hidden h) (λ n. false) x.parts.kept blocks file kept_same)

    -- where its blocks have no point behind its beginning, it is clean once that is given up
    module _ (at : greatest_point (journals_of blocks) ≡ (floor_from start).first) where
      at_point : s.floor ≡ point h
      at_point = first_is ∙ sym at ∙ sym point_known

      pub stays_clean : IsClean (given_up h (floor_from start) blocks cut) h
      stays_clean =
          let g = given_erased cut h cut_stands at_point in
          subst (λ (l : List ℕ). IsClean l h) (sym (given_is cut))
          (record { erased = g.0; ends = nil_from_length g.0.keeps.file.stands.rest (omega (arith, g.1, cut_size, ends_at (point h) (is_hidden h) (given_up_in cut_stands.file cut) h g.0, gate_at (point h) g.0.parts (sym at_point))) })

    -- where they have one, the copy from there on is
    module _ (before : (floor_from start).first < greatest_point (journals_of blocks)) where
      under : s.floor < point h
      under = omega (arith, first_is, point_known, before)

      purge : point_before h ≢ point h
      purge same = elim s.begins [ inl is ↦ omega (arith, is, under) | inr is ↦ omega (arith, is, same, under) ]

      untouched : given_up h (floor_from start) blocks cut ≡ cut
      untouched = none_given_up h (floor_from start) blocks cut (none_given h (some_journal (journals h) x.lawful.journals_are) purge)

      abbrev y : StandsBy s.floor (hidden_before h) cut h
      y = cut_stands.file

      abbrev left_out : List (List Entry)
      left_out = split.front h x.lawful x.none s.floor x.parts under

      abbrev stays : List (List Entry)
      stays = split.behind h x.lawful x.none s.floor x.parts under

      two : Halves (is_hidden h) (λ n. false) left_out stays blocks
      two = halves (is_hidden h) (λ n. false) left_out stays blocks (subst (λ (bs : List (List Entry)). SameButHidden (is_hidden h) (λ n. false) bs blocks) (split.kept_are h x.lawful x.none s.floor x.parts under) kept_same)

      module _ (front behind : List (List Entry)) (base : Base) (are : blocks ≡ front ++ behind) (point_at : base.point ≡ greatest_point (journals_of blocks)) (at : (floor_from start).first + length (journals_of front) ≡ base.point) (based : base_of h base.point ≡ base) where
        first_blocks : (bs cs : List (List Entry)) → blocks ≡ bs ++ cs → All IsBlock bs
        first_blocks bs cs is = subst (All IsBlock) (ap (take (length bs)) is ∙ take_at bs cs (length bs) refl) (All-take IsBlock (length bs) blocks knows.legal.blocks_are)

        same_front : front ≡ two.first
        same_front =
            (one_split front two.first behind two.second (first_blocks front behind are) (first_blocks two.first two.second two.are) (sym are ∙ two.are)
            (omega (arith, at, point_at, point_known, first_is, split.front_at h x.lawful x.none s.floor x.parts under, same_count (is_hidden h) (λ n. false) left_out two.first two.one))).0

        gate_is : gate_behind (floor_from start) front ≡ gate_behind from left_out
        gate_is =
            ap (λ (f : Floor). gate_behind f front) (sym floor_is) ∙ ap (gate_behind from) same_front ∙ sym (after_kept (is_hidden h) (λ n. false) (first_gate from) left_out two.first two.one)

        base_is : base ≡ base_of h (point h)
        base_is = sym based ∙ ap (base_of h) (point_at ∙ sym point_known)

        abbrev generation : ℕ
        generation = next_generation (generation_of old)

        next_is : generation ≡ x.edition.number + 1
        next_is = omega (arith, stands_generation old h s, lower s.floor (hidden_before h) old h x under, size_few h x.lawful)

        copy_is : copied_file generation (base_spelling base) (gate_behind (floor_from start) front) k.gate cut ≡ whole_file (front_of 1 generation (base_spelling base)) (rest s.floor (hidden_before h) cut h y under)
        copy_is =
            ap (λ (n : ℕ). copied_file generation (base_spelling base) n k.gate cut) gate_is ∙ ap (λ (n : ℕ). copied_file generation (base_spelling base) (gate_behind from left_out) n cut) tail_at
            ∙ ap (λ (bs : List ℕ). (front_of 1 generation (base_spelling base) ++ bs) ++ 0 ∷ []) (rest_taken s.floor (hidden_before h) cut h y under)

        pub moved_clean : IsClean (copied_file generation (base_spelling base) (gate_behind (floor_from start) front) k.gate (given_up h (floor_from start) blocks cut)) h
        moved_clean =
            let rules = base_there s.floor (hidden_before h) cut h y under in
            let fits : length (base_spelling base) < 2 ^ 64 = subst (λ (b : Base). length (base_spelling b) < 2 ^ 64) (sym base_is) (spelling_fits (base_of h (point h)) rules.0 rules.1) in
            subst (λ (l : List ℕ). IsClean (copied_file generation (base_spelling base) (gate_behind (floor_from start) front) k.gate l) h) (sym untouched)
            (subst (λ (l : List ℕ). IsClean l h) (sym copy_is)
            (copy_clean s.floor cut h y under (base_spelling base) generation (ap base_spelling base_is) next_is (omega (arith, next_is, lower s.floor (hidden_before h) old h x under, size_few h x.lawful)) fits purge))

  -- ---- a clean one

  module _ (h : History) (c : IsClean old h) where
    abbrev clean_stands : StandsFor old h
    clean_stands = erased_stands old h c.erased

    clean_at : point h ≡ clean_stands.floor
    clean_at = sym (erased_floor old h c.erased)

    -- it begins at its blocks' point
    pub clean_point : greatest_point (journals_of blocks) ≡ (floor_from start).first
    clean_point = sym (point_known h clean_stands) ∙ clean_at ∙ first_is h clean_stands

    -- .. ends with its tail gate
    pub clean_size : length old ≡ k.gate + 1
    clean_size = omega (arith, ends_at (point h) (is_hidden h) old h c.erased, gate_at h clean_stands (point h) c.erased.parts clean_at, ap length c.ends)

    clean_whole : cut ≡ old
    clean_whole = take_all (k.gate + 1) old (omega (arith, clean_size))

    own_parts : (c.erased.parts.gone ≡ clean_stands.file.parts.gone) × (c.erased.parts.kept ≡ clean_stands.file.parts.kept)
    own_parts =
        let e = c.erased.parts in
        one_parts clean_stands.floor h c.erased.lawful.blocks_are (record { gone = e.gone; kept = e.kept; are = e.are; at = e.at ∙ clean_at }) clean_stands.file.parts

    -- .. and is the same once what its last journal hides is given up
    pub clean_same : given_up h (floor_from start) blocks cut ≡ old
    clean_same =
        ap (given_up h (floor_from start) blocks) clean_whole ∙ given_is h clean_stands old
        ∙ sym (ap (λ (bs : List (List Entry)). given_up h (floor_behind h bs) c.erased.parts.kept old) own_parts.0 ∙ ap (λ (bs : List (List Entry)). given_up h (floor_behind h clean_stands.file.parts.gone) bs old) own_parts.1)
        ∙ given_same old h c.erased
