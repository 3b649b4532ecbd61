-- What is given up: what each image stands for meanwhile, and after it.
use Rattle.std.specs.Prelude.{◌==◌, nat_lt, nat_le, not, slice_get, option_map, sum_by}
use Rattle.std.proofs.Common.{◌≡◌, ◌≢◌, ◌⊎◌, inl, inr, ℕ, zero, suc, ◌+◌, ◌-◌, ◌<◌, ◌≤◌, ◌&&◌, ◌||◌, Bool, true, false, List, [], ◌∷◌, ◌++◌, length, map, get_or, take, drop, replicate, Some, refl, sym, ◌∙◌, ap, subst, arith}
use Rattle.std.proofs.lemmas.Bool.{eqb-true, eq-eqb, true≢false, and_parts, or_cases, cases_lt, lt-ltb, ltb-true, le-leb}
use Rattle.std.proofs.lemmas.List.{length-map, map-append}
use Rattle.std.proofs.lemmas.Option.{slice_get-map, slice_get_past, slice_get_within, get_or_from_slice_get}
use Rattle.journal_record.specs.Blocks.{AreFrom, AreBlocks}
use Rattle.journal_record.specs.Entry.{Entry}
use Rattle.journal_record.specs.declared.header.Header.{Header}
use Rattle.ledger_disk.specs.Disk.{overlay}
use Rattle.ledger_disk.specs.Guards.{Outside}
use Rattle.ledger_model.specs.History.{History, journals_of, journals, size, point}
use Rattle.ledger_model.specs.Targets.{is_hidden_by, is_hidden}
use Rattle.ledger_open.specs.Heads.{Edition}
use Rattle.ledger_open.specs.Erasing.{content_place, content_size, IsOutsideOf, IsZeroedIn, with_zeros, places_of, is_given_up, given_up, given_up_in}
use Rattle.block_file.specs.Places.{content_in, body_from, record_len, places_in, places_at}
use Rattle.ledger_open.specs.Places.{places_from}
use Rattle.ledger_open.specs.Standing.{Floor, floor_behind, AreZeros, AllKept, SameButHidden, KeepsBlocks, StandsBy, StandsFor, IsErased, hidden_before}
use Rattle.block_file.specs.declared.place.PlaceAt.{PlaceAt}
use Rattle.ledger_open.proofs.FloorLaws.{floor_first, floor_digests}
use Rattle.ledger_open.proofs.GivingLaws.{gone_read, within as within_file, given_up as given_in}
use Rattle.ledger_open.proofs.HoleLaws.{record_places, content_places, lengths_of}
use Rattle.ledger_open.proofs.PartLaws.{size_parts}
use Rattle.ledger_open.proofs.PlaceLaws.{places_kept}
use Rattle.ledger_open.proofs.SizeLaws.{GivesDigests}
use Rattle.ledger_open.proofs.TargetLaws.{given_kept}
use Rattle.ledger_open.proofs.ZerosLaws.{zeros_outside, zeros_same, zeros_to, zeroed_next, left_next, zeros_all, zeros_none, place_there}

-- ---- places and lengths of contents, in the list of places

ats_in : (at : ℕ) (es : List Entry) → map (λ (p : PlaceAt). p.content_at) (places_in at es) ≡ record_places at es
ats_in at [] = refl
ats_in at (e ∷ es) = ap (λ (l : List ℕ). (content_in at) ∷ l) (ats_in (at + record_len e) es)

lens_in : (at : ℕ) (es : List Entry) → map (λ (p : PlaceAt). p.content_len) (places_in at es) ≡ lengths_of es
lens_in at [] = refl
lens_in at (e ∷ es) = ap (λ (l : List ℕ). e.header.content_len ∷ l) (lens_in (at + record_len e) es)

ats_from : (at : ℕ) (bs : List (List Entry)) → map (λ (p : PlaceAt). p.content_at) (places_at at bs) ≡ content_places at bs
ats_from at [] = refl
ats_from at (b ∷ bs) =
    map-append (λ (p : PlaceAt). p.content_at) (places_in (body_from at) b) (places_at (body_from at + sum_by record_len b) bs)
    ∙ ap (λ (l : List ℕ). l ++ map (λ (p : PlaceAt). p.content_at) (places_at (body_from at + sum_by record_len b) bs)) (ats_in (body_from at) b)
    ∙ ap (λ (l : List ℕ). record_places (body_from at) b ++ l) (ats_from (body_from at + sum_by record_len b) bs)

lens_from : (at : ℕ) (bs : List (List Entry)) → map (λ (p : PlaceAt). p.content_len) (places_at at bs) ≡ lengths_of (journals_of bs)
lens_from at [] = refl
lens_from at (b ∷ bs) =
    map-append (λ (p : PlaceAt). p.content_len) (places_in (body_from at) b) (places_at (body_from at + sum_by record_len b) bs)
    ∙ ap (λ (l : List ℕ). l ++ map (λ (p : PlaceAt). p.content_len) (places_at (body_from at + sum_by record_len b) bs)) (lens_in (body_from at) b)
    ∙ ap (λ (l : List ℕ). lengths_of b ++ l) (lens_from (body_from at + sum_by record_len b) bs)
    ∙ sym (map-append (λ (e : Entry). e.header.content_len) b (journals_of bs))

pub places_count : (at : ℕ) (bs : List (List Entry)) → length (places_at at bs) ≡ length (journals_of bs)
places_count at bs = sym (length-map (places_at at bs) (λ (p : PlaceAt). p.content_len)) ∙ ap length (lens_from at bs) ∙ length-map (journals_of bs) (λ (e : Entry). e.header.content_len)

-- ---- a file that keeps some blocks, of which a content is changed

-- journal n stands in a file that has these blocks and begins at this floor
pub record IsIn (floor : Floor) (bs : List (List Entry)) (n : ℕ) : Type 0 where
  pub first : floor.first ≤ n
  pub within : n < floor.first + length (journals_of bs)

module _ (floor : Floor) (bs : List (List Entry)) (n : ℕ) where
  abbrev place : ℕ
  place = content_place floor bs n

  abbrev len : ℕ
  len = content_size floor bs n

  place_is : content_place floor bs n ≡ get_or (content_places (64 + length floor.base) bs) (n - floor.first) 0
  place_is = ap (λ (l : List ℕ). get_or l (n - floor.first) 0) (ats_from (64 + length floor.base) bs)

  size_is : content_size floor bs n ≡ get_or (lengths_of (journals_of bs)) (n - floor.first) 0
  size_is = ap (λ (l : List ℕ). get_or l (n - floor.first) 0) (lens_from (64 + length floor.base) bs)

  module _ (digests : GivesDigests floor.root) (edition : Edition) (hid gone : ℕ → Bool) (image : List ℕ) (keeps : KeepsBlocks floor edition hid gone bs image) (here : IsIn floor bs n) where
    is : n ≡ floor.first + (n - floor.first)
    is = omega (arith, here.first)

    lt : n - floor.first < length (journals_of bs)
    lt = omega (arith, here.first, here.within)

    -- it ends before the file does
    pub content_within : content_place floor bs n + content_size floor bs n ≤ length image
    content_within =
        subst (λ (m : ℕ). m + content_size floor bs n ≤ length image) (sym place_is)
        (subst (λ (m : ℕ). get_or (content_places (64 + length floor.base) bs) (n - floor.first) 0 + m ≤ length image) (sym size_is)
        (within_file floor digests edition hid gone bs image keeps n (n - floor.first) is lt))

    -- where it is gone, zeros stand there
    pub content_gone : gone n ≡ true → AreZeros (take (content_size floor bs n) (drop (content_place floor bs n) image))
    content_gone z =
        subst (λ (m : ℕ). AreZeros (take m (drop (content_place floor bs n) image))) (sym size_is)
        (subst (λ (m : ℕ). AreZeros (take (get_or (lengths_of (journals_of bs)) (n - floor.first) 0) (drop m image))) (sym place_is)
        (gone_read floor digests edition hid gone bs image keeps n (n - floor.first) is lt z))

    -- other bytes there change nothing else
    pub content_other : (gone′ : ℕ → Bool) (new : List ℕ) → hid n ≡ true → Outside (content_place floor bs n) (content_size floor bs n) image new
        → ((m : ℕ) → gone′ m ≡ true → ((m ≡ n) × AreZeros (take (content_size floor bs n) (drop (content_place floor bs n) new))) ⊎ ((m ≢ n) × (gone m ≡ true)))
        → KeepsBlocks floor edition hid gone′ bs new
    content_other gone′ new hides out zeroed =
        given_in floor digests edition hid gone bs image keeps n (n - floor.first) is lt gone′ new hides
        (subst (λ (m : ℕ). Outside (get_or (content_places (64 + length floor.base) bs) (n - floor.first) 0) m image new) size_is (subst (λ (m : ℕ). Outside m (content_size floor bs n) image new) place_is out))
        (λ m z. subst (λ (k : ℕ). ((m ≡ n) × AreZeros (take (get_or (lengths_of (journals_of bs)) (n - floor.first) 0) (drop k new))) ⊎ ((m ≢ n) × (gone m ≡ true))) place_is
        (subst (λ (k : ℕ). ((m ≡ n) × AreZeros (take k (drop (content_place floor bs n) new))) ⊎ ((m ≢ n) × (gone m ≡ true))) size_is (zeroed m z)))

-- ---- fewer zeros

module _ (hid gone gone′ : ℕ → Bool) where
  all_fewer : (m : ℕ) (es fs : List Entry) → AreFrom m fs → ((n : ℕ) → m ≤ n → gone′ n ≡ true → gone n ≡ true) → AllKept hid gone es fs → AllKept hid gone′ es fs
  all_fewer m [] [] from fewer a = tt
  all_fewer m [] (f ∷ fs) from fewer a = absurd a
  all_fewer m (e ∷ es) [] from fewer a = absurd a
  all_fewer m (e ∷ es) (f ∷ fs) from fewer a =
      let number : e.header.jsn ≡ m = ap (λ (h : Header). h.jsn) (sym a.0.header) ∙ from.0.jsn in (
        record { header = a.0.header; who = a.0.who; shown = a.0.shown; zeroed = λ z. a.0.zeroed (fewer e.header.jsn (omega (arith, number)) z) },
        all_fewer (m + 1) es fs from.1 (λ n low z. fewer n (omega (arith, low)) z) a.1,
      )

  -- only those of the journals that a file has count
  same_fewer : (m : ℕ) (bs cs : List (List Entry)) → AreBlocks m cs → ((n : ℕ) → m ≤ n → gone′ n ≡ true → gone n ≡ true) → SameButHidden hid gone bs cs → SameButHidden hid gone′ bs cs
  same_fewer m [] [] are fewer s = tt
  same_fewer m [] (c ∷ cs) are fewer s = absurd s
  same_fewer m (b ∷ bs) [] are fewer s = absurd s
  same_fewer m (b ∷ bs) (c ∷ cs) are fewer s = (all_fewer m b c are.0.entries fewer s.0, same_fewer (m + length c) bs cs are.1 (λ n low z. fewer n (omega (arith, low)) z) s.1)

-- ---- contents that are changed one after the other

or_left : (v w : Bool) → v ≡ true → (v || w) ≡ true
or_left true w one = refl
or_left false w one = absurd (true≢false (sym one))

or_right : (v w : Bool) → w ≡ true → (v || w) ≡ true
or_right true w one = refl
or_right false w one = one

and_both : (v w : Bool) → v ≡ true → w ≡ true → (v && w) ≡ true
and_both true w v_is w_is = w_is
and_both false w v_is w_is = v_is

-- what is asked of journal n, or of another one
here_or_before : {P Q : Type 0} (m n : ℕ) → P → (m ≡ n) ⊎ Q → ((m ≡ n) × P) ⊎ ((m ≢ n) × Q)
here_or_before {P = P} {Q = Q} m n here asked = elim (m == n) as (λ v. (m == n) ≡ v → ((m ≡ n) × P) ⊎ ((m ≢ n) × Q)) [
  | true ↦ λ e. inl (eqb-true m n e, here)
  | false ↦ λ e.
      let other : m ≢ n = λ same. true≢false (sym (eq-eqb m n same) ∙ e) in
      elim asked [ inl same ↦ absurd (other same) | inr before ↦ inr (other, before) ]
] refl

module _ (floor : Floor) (digests : GivesDigests floor.root) (edition : Edition) (hid : ℕ → Bool) (bs : List (List Entry)) where
  abbrev places : List PlaceAt
  places = places_from floor bs

  abbrev Keeps : (ℕ → Bool) → List ℕ → Type 0
  Keeps gone image = KeepsBlocks floor edition hid gone bs image

  keeps_fewer : (gone gone′ : ℕ → Bool) (image : List ℕ) → ((n : ℕ) → floor.first ≤ n → gone′ n ≡ true → gone n ≡ true) → Keeps gone image → Keeps gone′ image
  keeps_fewer gone gone′ image fewer x = record { blocks = x.blocks; file = x.file; same = same_fewer hid gone gone′ floor.first bs x.blocks x.file.lawful fewer x.same }

  module _ (i : ℕ) (p : PlaceAt) (got : slice_get (places_from floor bs) i ≡ Some p) where
    abbrev n : ℕ
    n = floor.first + i

    at_is : n - floor.first ≡ i
    at_is = omega arith

    here_is : p.content_at ≡ content_place floor bs n
    here_is =
        sym (ap (λ (k : ℕ). get_or (map (λ (q : PlaceAt). q.content_at) places) k 0) at_is
        ∙ get_or_from_slice_get (map (λ (q : PlaceAt). q.content_at) places) i p.content_at 0 (slice_get-map (λ (q : PlaceAt). q.content_at) places i ∙ ap (option_map (λ (q : PlaceAt). q.content_at)) got))

    long_is : p.content_len ≡ content_size floor bs n
    long_is =
        sym (ap (λ (k : ℕ). get_or (map (λ (q : PlaceAt). q.content_len) places) k 0) at_is
        ∙ get_or_from_slice_get (map (λ (q : PlaceAt). q.content_len) places) i p.content_len 0 (slice_get-map (λ (q : PlaceAt). q.content_len) places i ∙ ap (option_map (λ (q : PlaceAt). q.content_len)) got))

    there : IsIn floor bs n
    there = record { first = omega arith; within = omega (arith, slice_get_within places i p got, places_count (64 + length floor.base) bs) }

    -- it ends before the file does
    pub place_within : (gone : ℕ → Bool) (image : List ℕ) → Keeps gone image → p.content_at + p.content_len ≤ length image
    place_within gone image keeps =
        subst (λ (k : ℕ). k + p.content_len ≤ length image) (sym here_is) (subst (λ (k : ℕ). content_place floor bs n + k ≤ length image) (sym long_is) (content_within floor bs n digests edition hid gone image keeps there))

    -- where it is gone, zeros stand there
    pub place_gone : (gone : ℕ → Bool) (image : List ℕ) → Keeps gone image → gone n ≡ true → AreZeros (take p.content_len (drop p.content_at image))
    place_gone gone image keeps z =
        subst (λ (k : ℕ). AreZeros (take p.content_len (drop k image))) (sym here_is) (subst (λ (k : ℕ). AreZeros (take k (drop (content_place floor bs n) image))) (sym long_is) (content_gone floor bs n digests edition hid gone image keeps there z))

    module _ (gone : ℕ → Bool) (image : List ℕ) (keeps : KeepsBlocks floor edition hid gone bs image) (hides : hid n ≡ true) where
      -- other bytes in the place of a hidden content
      place_other : (gone′ : ℕ → Bool) (new : List ℕ) → Outside p.content_at p.content_len image new
          → ((m : ℕ) → gone′ m ≡ true → ((m ≡ n) × AreZeros (take p.content_len (drop p.content_at new))) ⊎ ((m ≢ n) × (gone m ≡ true))) → Keeps gone′ new
      place_other gone′ new out zeroed =
          content_other floor bs n digests edition hid gone image keeps there gone′ new hides
          (subst (λ (k : ℕ). Outside k (content_size floor bs n) image new) here_is (subst (λ (k : ℕ). Outside p.content_at k image new) long_is out))
          (λ m z. subst (λ (k : ℕ). ((m ≡ n) × AreZeros (take (content_size floor bs n) (drop k new))) ⊎ ((m ≢ n) × (gone m ≡ true))) here_is
          (subst (λ (k : ℕ). ((m ≡ n) × AreZeros (take k (drop p.content_at new))) ⊎ ((m ≢ n) × (gone m ≡ true))) long_is (zeroed m z)))

      pub place_torn : (new : List ℕ) → gone n ≡ false → Outside p.content_at p.content_len image new → Keeps gone new
      place_torn new shown out = place_other gone new out (λ m z. inr (λ same. true≢false (sym z ∙ ap gone same ∙ shown), z))

      pub place_zeroed : (gone′ : ℕ → Bool) → ((m : ℕ) → gone′ m ≡ true → (m ≡ n) ⊎ (gone m ≡ true)) → Keeps gone′ (overlay p.content_at (replicate p.content_len 0) image)
      place_zeroed gone′ more =
          let z = zeros_outside p.content_at p.content_len image (place_within gone image keeps) in
          place_other gone′ (overlay p.content_at (replicate p.content_len 0) image) z.0 (λ m is. here_or_before m n z.1 (more m is))

  -- zeros over the contents that are given up, of which all are hidden
  module _ (given : ℕ → Bool) (hides : (n : ℕ) → given n ≡ true → hid n ≡ true) (gone : ℕ → Bool) (image : List ℕ) (keeps : KeepsBlocks floor edition hid gone bs image) where
    -- those of them before one of the journals are gone, too
    abbrev gone_to : ℕ → ℕ → Bool
    gone_to i m = gone m || (given m && nat_lt m (floor.first + i))

    abbrev zeroed : ℕ → List ℕ
    zeroed i = zeros_to given floor.first i (places_from floor bs) image

    gone_next : (i m : ℕ) → gone_to (i + 1) m ≡ true → ((m ≡ floor.first + i) × (given m ≡ true)) ⊎ (gone_to i m ≡ true)
    gone_next i m is = elim (or_cases (gone m) (given m && nat_lt m (floor.first + (i + 1))) is) [
      | inl before ↦ inr (or_left (gone m) (given m && nat_lt m (floor.first + i)) before)
      | inr both ↦
          let parts = and_parts (given m) (nat_lt m (floor.first + (i + 1))) both in
          let below = ltb-true m (floor.first + (i + 1)) parts.1 in
          elim (cases_lt m (floor.first + i)) [
            | inl lt ↦ inr (or_right (gone m) (given m && nat_lt m (floor.first + i)) (and_both (given m) (nat_lt m (floor.first + i)) parts.0 (lt-ltb m (floor.first + i) lt)))
            | inr le ↦ inl (omega (arith, le, below), parts.0)
          ]
    ]

    keeps_next : (i : ℕ) → i < length (places_from floor bs) → Keeps (gone_to i) (zeroed i) × (length (zeroed i) ≡ length image) → Keeps (gone_to (i + 1)) (zeroed (i + 1)) × (length (zeroed (i + 1)) ≡ length image)
    keeps_next i lt before =
        elim (given (floor.first + i)) as (λ v. given (floor.first + i) ≡ v → Keeps (gone_to (i + 1)) (zeroed (i + 1)) × (length (zeroed (i + 1)) ≡ length image)) [
          | true ↦ λ is.
              let next = zeroed_next given floor.first i places got.0 got.1 image is in
              let z = zeros_outside got.0.content_at got.0.content_len (zeroed i) (place_within i got.0 got.1 (gone_to i) (zeroed i) before.0) in (
                subst (Keeps (gone_to (i + 1))) (sym next) (place_zeroed i got.0 got.1 (gone_to i) (zeroed i) before.0 (hides (floor.first + i) is) (gone_to (i + 1)) (λ m asked. elim (gone_next i m asked) [ inl here ↦ inl here.0 | inr more ↦ inr more ])),
                ap length next ∙ z.0.size ∙ before.1,
              )
          | false ↦ λ is.
              let next = left_next given floor.first i places got.0 got.1 image is in (
                subst (Keeps (gone_to (i + 1))) (sym next) (keeps_fewer (gone_to i) (gone_to (i + 1)) (zeroed i) (λ m low asked. elim (gone_next i m asked) [
                  | inl here ↦ absurd (true≢false (sym here.1 ∙ ap given here.0 ∙ is))
                  | inr more ↦ more
                ]) before.0),
                ap length next ∙ before.1,
              )
        ] refl where
          got : (p : PlaceAt) × (slice_get (places_from floor bs) i ≡ Some p)
          got = place_there i (places_from floor bs) lt

    pub keeps_to : (i : ℕ) → i ≤ length (places_from floor bs) → Keeps (gone_to i) (zeroed i) × (length (zeroed i) ≡ length image)
    keeps_to zero le = (
      keeps_fewer gone (gone_to 0) image (λ m low is. elim (or_cases (gone m) (given m && nat_lt m (floor.first + 0)) is) [
        | inl before ↦ before
        | inr both ↦ let below = ltb-true m (floor.first + 0) (and_parts (given m) (nat_lt m (floor.first + 0)) both).1 in absurd (omega (arith, below, low))
      ]) keeps,
      refl,
    )
    keeps_to (suc i) le = let one : i + 1 ≡ suc i = omega arith in subst (λ (k : ℕ). Keeps (gone_to k) (zeroed k) × (length (zeroed k) ≡ length image)) one (keeps_next i (omega (arith, le)) (keeps_to i (omega (arith, le))))

    -- where they all were gone, the file is the same
    same_next : ((n : ℕ) → given n ≡ true → gone n ≡ true) → (i : ℕ) → i < length (places_from floor bs) → zeroed i ≡ image → zeroed (i + 1) ≡ image
    same_next all i lt before =
        elim (given (floor.first + i)) as (λ v. given (floor.first + i) ≡ v → zeroed (i + 1) ≡ image) [
          | true ↦ λ is.
              zeroed_next given floor.first i places got.0 got.1 image is ∙ ap (overlay got.0.content_at (replicate got.0.content_len 0)) before
              ∙ zeros_same got.0.content_at got.0.content_len image (place_within i got.0 got.1 gone image keeps) (place_gone i got.0 got.1 gone image keeps (all (floor.first + i) is))
          | false ↦ λ is. left_next given floor.first i places got.0 got.1 image is ∙ before
        ] refl where
          got : (p : PlaceAt) × (slice_get (places_from floor bs) i ≡ Some p)
          got = place_there i (places_from floor bs) lt

    pub zeroed_same : ((n : ℕ) → given n ≡ true → gone n ≡ true) → (i : ℕ) → i ≤ length (places_from floor bs) → zeroed i ≡ image
    zeroed_same all zero le = refl
    zeroed_same all (suc i) le = let one : i + 1 ≡ suc i = omega arith in subst (λ (k : ℕ). zeroed k ≡ image) one (same_next all i (omega (arith, le)) (zeroed_same all i (omega (arith, le))))

-- ---- an image that stands for a history

-- the same blocks, of which other contents are gone
abbrev again : (floor : ℕ) (gone gone′ : ℕ → Bool) (image new : List ℕ) (h : History) (x : StandsBy floor gone image h) → KeepsBlocks (floor_behind h x.parts.gone) x.edition (is_hidden h) gone′ x.parts.kept new → StandsBy floor gone′ new h
again floor gone gone′ image new h x keeps = record { edition = x.edition; parts = x.parts; keeps = keeps; early = x.early; none = x.none; lawful = x.lawful; wide = x.wide }

abbrev pub floor_in : {floor : ℕ} {gone : ℕ → Bool} {image : List ℕ} {h : History} → StandsBy floor gone image h → Floor
floor_in {h = h} x = floor_behind h x.parts.gone

digests_in : (floor : ℕ) (gone : ℕ → Bool) (image : List ℕ) (h : History) (x : StandsBy floor gone image h) → GivesDigests (floor_behind h x.parts.gone).root
digests_in floor gone image h x = floor_digests h x.parts.gone x.parts.kept x.parts.are

-- what is given up is hidden, and was shown before
given_new : (h : History) (n : ℕ) → is_given_up h n ≡ true → (is_hidden h n && not (hidden_before h n)) ≡ true
given_new h n is = (and_parts (nat_le (point h) n) (is_hidden h n && not (hidden_before h n)) is).1

pub given_hidden : (h : History) (n : ℕ) → is_given_up h n ≡ true → is_hidden h n ≡ true
given_hidden h n is = (and_parts (is_hidden h n) (not (hidden_before h n)) (given_new h n is)).0

not_true : (v : Bool) → not v ≡ true → v ≡ false
not_true true none = absurd (true≢false (sym none))
not_true false none = refl

given_shown : (h : History) (n : ℕ) → is_given_up h n ≡ true → hidden_before h n ≡ false
given_shown h n is = not_true (hidden_before h n) (and_parts (is_hidden h n) (not (hidden_before h n)) (given_new h n is)).1

-- a content that is kept and hidden was so before, or is given up
before_or_given : (u v w : Bool) → u ≡ true → v ≡ true → (w ≡ true) ⊎ ((u && (v && not w)) ≡ true)
before_or_given u v true kept hidden = inl refl
before_or_given true true false kept hidden = inr refl
before_or_given true false false kept hidden = absurd (true≢false (sym hidden))
before_or_given false v false kept hidden = absurd (true≢false (sym kept))

-- where none is given up, the file is as it is
pub none_given_up : (h : History) (floor : Floor) (bs : List (List Entry)) (file : List ℕ) → ((n : ℕ) → is_given_up h n ≡ false) → given_up h floor bs file ≡ file
none_given_up h floor bs file none = zeros_none (is_given_up h) none floor.first (places_from floor bs) file

hidden_there : (h : History) (n : ℕ) → is_hidden h n ≡ true → n < size h
hidden_there h n is = elim (cases_lt n (size h)) [
  | inl lt ↦ lt
  | inr le ↦ absurd (true≢false (sym is ∙ ap (is_hidden_by (journals h)) (slice_get_past (journals h) n le)))
]

-- the content of a hidden journal is changed in a file that has it
module _ (floor : ℕ) (gone : ℕ → Bool) (image : List ℕ) (h : History) (x : StandsBy floor gone image h) (n : ℕ) (low : floor ≤ n) (hides : is_hidden h n ≡ true) (new : List ℕ) (out : IsOutsideOf x n new) where
  stands_other : (gone′ : ℕ → Bool) → ((m : ℕ) → gone′ m ≡ true → ((m ≡ n) × IsZeroedIn x n new) ⊎ ((m ≢ n) × (gone m ≡ true))) → StandsBy floor gone′ new h
  stands_other gone′ asked =
      let first : (floor_in x).first ≡ floor = floor_first h x.parts.gone ∙ x.parts.at in
      let here : IsIn (floor_in x) x.parts.kept n = record { first = omega (arith, first, low); within = omega (arith, first, hidden_there h n hides, size_parts floor h x.none x.parts) } in
      again floor gone gone′ image new h x
      (content_other (floor_in x) x.parts.kept n (digests_in floor gone image h x) x.edition (is_hidden h) gone image x.keeps here gone′ new hides out asked)

  -- whatever stands there, and where zeros do
  pub stands_but_one : StandsBy floor (λ m. gone m && not (m == n)) new h
  stands_but_one = stands_other (λ m. gone m && not (m == n)) (λ m asked.
      let both = and_parts (gone m) (not (m == n)) asked in
      inr (λ same. true≢false (sym both.1 ∙ ap not (eq-eqb m n same)), both.0))

  pub stands_with_one : IsZeroedIn x n new → StandsBy floor (λ m. gone m || m == n) new h
  stands_with_one zeroed = stands_other (λ m. gone m || m == n) (λ m asked. here_or_before m n zeroed (elim (or_cases (gone m) (m == n) asked) [ inl before ↦ inr before | inr same ↦ inl (eqb-true m n same) ]))

module _ (image : List ℕ) (h : History) (x : StandsFor image h) where
  abbrev x_floor : Floor
  x_floor = floor_behind h x.file.parts.gone

  abbrev x_places : List PlaceAt
  x_places = places_from (floor_behind h x.file.parts.gone) x.file.parts.kept

  x_digests : GivesDigests (floor_behind h x.file.parts.gone).root
  x_digests = digests_in x.floor (hidden_before h) image h x.file

  abbrev x_zeroed : ℕ → List ℕ
  x_zeroed i = zeros_to (is_given_up h) (floor_behind h x.file.parts.gone).first i (places_from (floor_behind h x.file.parts.gone) x.file.parts.kept) image

  -- whatever stands in place of a content that is given up, it stands for the history
  pub stands_changed : (i : ℕ) (p : PlaceAt) → slice_get (places_from (floor_behind h x.file.parts.gone) x.file.parts.kept) i ≡ Some p → is_given_up h ((floor_behind h x.file.parts.gone).first + i) ≡ true
      → (new : List ℕ) → Outside p.content_at p.content_len image new → (s : StandsFor new h) × (s.file.edition ≡ x.file.edition)
  stands_changed i p got given new out = (
    record {
      floor = x.floor;
      begins = x.begins;
      file = again x.floor (hidden_before h) (hidden_before h) image new h x.file
          (place_torn x_floor x_digests x.file.edition (is_hidden h) x.file.parts.kept i p got (hidden_before h) image x.file.keeps (given_hidden h (x_floor.first + i) given) new (given_shown h (x_floor.first + i) given) out);
    },
    refl,
  )

  -- the file has what is given up
  pub given_there : (n : ℕ) → is_given_up h n ≡ true → (x.floor ≤ n) × (n < size h)
  given_there n given =
      let kept = given_kept h x.file.lawful.journals_are n given in
      let at : x.floor ≡ point h = elim x.begins [ inl at ↦ at | inr at ↦ at ∙ sym kept.0 ] in
      (omega (arith, at, kept.1), hidden_there h n (given_hidden h n given))

  -- .. and whatever stands in place of one of them alone, it stands for the history
  pub meanwhile : (n : ℕ) (new : List ℕ) → is_given_up h n ≡ true → x.floor ≤ n → IsOutsideOf x.file n new → StandsFor new h
  meanwhile n new given low out =
      let none : (m : ℕ) → hidden_before h m ≡ true → m ≢ n = λ m z same. true≢false (sym z ∙ ap (hidden_before h) same ∙ given_shown h n given) in
      record {
        floor = x.floor;
        begins = x.begins;
        file = stands_other x.floor (hidden_before h) image h x.file n low (given_hidden h n given) new out (hidden_before h) (λ m z. inr (none m z, z));
      }

  -- with zeros over all of it, all that is hidden is gone, and it is as long
  pub given_erased : x.floor ≡ point h → IsErased (given_up_in x.file image) h × (length (given_up_in x.file image) ≡ length image)
  given_erased at =
      let all = keeps_to x_floor x_digests x.file.edition (is_hidden h) x.file.parts.kept (is_given_up h) (given_hidden h) (hidden_before h) image x.file.keeps (length x_places) (omega arith) in
      let same : x_zeroed (length x_places) ≡ given_up_in x.file image = zeros_all (is_given_up h) x_floor.first (length x_places) x_places image (omega arith) in
      let first : x_floor.first ≡ x.floor = floor_first h x.file.parts.gone ∙ x.file.parts.at in (
        subst (λ (f : ℕ). StandsBy f (is_hidden h) (given_up_in x.file image) h) at
            (again x.floor (hidden_before h) (is_hidden h) image (given_up_in x.file image) h x.file
            (subst (KeepsBlocks x_floor x.file.edition (is_hidden h) (is_hidden h) x.file.parts.kept) same
            (keeps_fewer x_floor x_digests x.file.edition (is_hidden h) x.file.parts.kept (λ m. hidden_before h m || (is_given_up h m && nat_lt m (x_floor.first + length x_places))) (is_hidden h) (x_zeroed (length x_places)) (λ m low z. elim (before_or_given (nat_le (point h) m) (is_hidden h m) (hidden_before h m) (le-leb (point h) m (omega (arith, low, first, at))) z) [
              | inl before ↦ or_left (hidden_before h m) (is_given_up h m && nat_lt m (x_floor.first + length x_places)) before
              | inr given ↦
                  let below : m < x_floor.first + length x_places = omega (arith, hidden_there h m z, first, size_parts x.floor h x.file.none x.file.parts, places_count (64 + length x_floor.base) x.file.parts.kept) in
                  or_right (hidden_before h m) (is_given_up h m && nat_lt m (x_floor.first + length x_places)) (and_both (is_given_up h m) (nat_lt m (x_floor.first + length x_places)) given (lt-ltb m (x_floor.first + length x_places) below))
            ]) all.0))),
        ap length (sym same) ∙ all.1,
      )

  -- .. which it was before, where none is given up
  pub nothing_open : ((n : ℕ) → is_given_up h n ≡ false) → x.floor ≡ point h → IsErased image h
  nothing_open none at = subst (λ (l : List ℕ). IsErased l h) (none_given_up h x_floor x.file.parts.kept image none) (given_erased at).0

-- where all that is hidden is gone, zeros over it change nothing
pub given_same_to : (image : List ℕ) (h : History) (x : IsErased image h) (i : ℕ) → i ≤ length (places_from (floor_in x) x.parts.kept) → zeros_to (is_given_up h) (floor_in x).first i (places_from (floor_in x) x.parts.kept) image ≡ image
given_same_to image h x i le =
    zeroed_same (floor_in x) (digests_in (point h) (is_hidden h) image h x) x.edition (is_hidden h) x.parts.kept (is_given_up h) (given_hidden h) (is_hidden h) image x.keeps (given_hidden h) i le

pub given_same : (image : List ℕ) (h : History) (x : IsErased image h) → given_up_in x image ≡ image
given_same image h x =
    sym (zeros_all (is_given_up h) (floor_in x).first (length (places_from (floor_in x) x.parts.kept)) (places_from (floor_in x) x.parts.kept) image (omega arith))
    ∙ given_same_to image h x (length (places_from (floor_in x) x.parts.kept)) (omega arith)

pub given_zeros : (image : List ℕ) (h : History) (x : IsErased image h) (i : ℕ) (p : PlaceAt) → slice_get (places_from (floor_in x) x.parts.kept) i ≡ Some p → is_given_up h ((floor_in x).first + i) ≡ true
    → (p.content_at + p.content_len ≤ length image) × AreZeros (take p.content_len (drop p.content_at image))
given_zeros image h x i p got given =
    let digests = digests_in (point h) (is_hidden h) image h x in (
      place_within (floor_in x) digests x.edition (is_hidden h) x.parts.kept i p got (is_hidden h) image x.keeps,
      place_gone (floor_in x) digests x.edition (is_hidden h) x.parts.kept i p got (is_hidden h) image x.keeps (given_hidden h ((floor_in x).first + i) given),
    )

-- by what is kept it is the same
pub given_alike : (h : History) (floor : Floor) (hid gone : ℕ → Bool) (bs cs : List (List Entry)) (file : List ℕ) → SameButHidden hid gone bs cs → given_up h floor bs file ≡ given_up h floor cs file
given_alike h floor hid gone bs cs file same = ap (λ (ps : List PlaceAt). with_zeros (places_of (is_given_up h) floor.first ps) file) (places_kept hid gone (64 + length floor.base) bs cs same)
