-- A block more is read.
use Rattle.std.specs.Prelude.{Bool, true, false, IsTrue, IfSome, IsSomeAnd, Option, Ok, Err, Some, None, sum_by, ◌^◌}
use Rattle.std.proofs.Common.{◌≡◌, ◌≢◌, ◌⊎◌, ◌-◌, cond, inl, inr, ℕ, ◌+◌, ◌<◌, ◌≤◌, List, [], ◌∷◌, ◌++◌, length, get_or, map, take, drop, refl, sym, ◌∙◌, ap, subst, arith, append_assoc, append-nil, length-append}
use Rattle.std.proofs.lemmas.Bool.{true≢false, and_parts, leb-true}
use Rattle.std.proofs.lemmas.List.Concat.{flat_map-append}
use Rattle.std.proofs.lemmas.List.Elements.{All-push}
use Rattle.block_file.specs.Blocks.{AreBlock, IsRead, IsOpenBlock, IsNextBlock}
use Rattle.block_file.specs.File.{IsShutAt}
use Rattle.block_file.specs.Head.{digest_of, number_at, IsBaseErr}
use Rattle.block_file.specs.FileView.{base_len_of, base_digest_of}
use Rattle.block_file.specs.declared.block.BlockAt.{BlockAt}
use Rattle.block_file.specs.declared.failure.Damage.{Damage}
use Rattle.block_file.specs.declared.failure.Damage.TheVariants as damages
use Rattle.block_file.specs.declared.failure.FileErr.{FileErr}
use Rattle.block_file.specs.declared.failure.FileErr.TheVariants as files
use Rattle.block_file.specs.declared.file.BlockFile.{BlockFile}
use Rattle.journal_record.specs.Blocks.{AreFrom, IsBlock}
use Rattle.journal_record.specs.Entry.{Entry}
use Rattle.journal_record.specs.Records.{AreReadable}
use Rattle.ledger_model.specs.Behind.{has_own_purge, next_number, AreBehind}
use Rattle.ledger_book.specs.Books.{Kept}
use Rattle.ledger_bytes.specs.declared.failure.Bad.{Bad}
use Rattle.ledger_model.specs.History.{journals_of}
use Rattle.ledger_model.specs.Lawful as lawful
use Rattle.pseudo_genesis.specs.Bases.{IsBase, HasWidths, base_spelling}
use Rattle.pseudo_genesis.specs.Reading.{base_of}
use Rattle.pseudo_genesis.specs.declared.base.Base.{Base}
use Rattle.ledger_open.specs.Damages.{Begun, IsReadTo, IsDamage, EndsEarly}
use Rattle.ledger_open.specs.Opening.{Known, known_from, HasTaken, HasRead, HasKnown, HasFile, IsHeadOf, IsReadErr, as_open}
use Rattle.block_file.specs.Places.{body_from, record_len, place_of_record, places_in, places_at, after_at}
use Rattle.ledger_open.specs.Standing.{floor_from}
use Rattle.ledger_open.specs.Starts.{IsDecoded, AreFounded, AreLegal, HasBase, HasDigest, IsStart, IsFormErr, base_in}
use Rattle.ledger_open.specs.Replaying.{Headed, Goes, TakesBlock, IsBadBlock}
use Rattle.block_file.specs.declared.place.PlaceAt.{PlaceAt}
use Rattle.ledger_open.proofs.BegunLaws.{readto_start, begun_more, begun_ends}
use Rattle.ledger_open.proofs.FirstLaws.{headed_read, bad_read, some_of}
use Rattle.ledger_open.proofs.GrowLaws.{blocks_more}
use Rattle.ledger_open.proofs.HidingLaws.{journals_push}
use Rattle.ledger_open.proofs.KnownLaws.{knows_taken, own_read}
use Rattle.ledger_open.proofs.NextLaws.{behind_more}
use Rattle.ledger_open.proofs.PlaceLaws.{places_same}
use Rattle.ledger_open.proofs.SizeLaws.{body_size}
use Rattle.ledger_open.proofs.StartLaws.{digests_from, first_same}
use Rattle.ledger_open.proofs.TakeLaws.{headed_size}

-- ---- how many journals there are

few_from : (start : Option Base) (before es : List Entry) → AreBehind start before es → next_number start before ≤ 4_294_967_295 → next_number start (before ++ es) ≤ 4_294_967_295
few_from start before [] n few = omega (arith, few, length-append before [])
few_from start before (e ∷ es) n few =
    subst (λ (l : List Entry). next_number start l ≤ 4_294_967_295) (append_assoc before (e ∷ []) es)
    (few_from start (before ++ e ∷ []) es n.1 (omega (arith, n.0.jsn, n.0.below, length-append before (e ∷ []))))

few_first : (start : Option Base) → IsDecoded start → next_number start [] ≤ 4_294_967_295
few_first None d = omega arith
few_first (Some b) d = omega (arith, leb-true b.point 4_294_967_294 (and_parts _ _ d.0.point).1)

pub few : (start : Option Base) (ks : List (List Entry)) → IsDecoded start → AreLegal start ks → next_number start (journals_of ks) ≤ 4_294_967_295
few start ks d l = few_from start [] (journals_of ks) l.next (few_first start d)

-- the next journal's number, as the book tells it
pub first_is : (tells : Bool) (file : List ℕ) (k : Known) (size : ℕ) (r : HasRead tells file k) → size ≡ k.book.size → size ≡ next_number r.start (journals_of r.blocks)
first_is tells file k size r is = is ∙ r.taken.goes.behind.size_is ∙ ap (next_number r.start) (append-nil (journals_of r.blocks))

pub first_below : (tells : Bool) (file : List ℕ) (k : Known) (size : ℕ) → HasRead tells file k → size ≡ k.book.size → size < 2 ^ 32
first_below tells file k size r is = omega (arith, first_is tells file k size r is, few r.start r.blocks r.taken.goes.base r.taken.legal)

-- ---- why a file is read no further

-- the block where it stands
pub record MoreHere (file : List ℕ) (at first : ℕ) (block : BlockAt) : Type 0 where
  pub es : List Entry
  pub are : AreBlock first es
  pub read : IsRead at es block
  pub stands : IsOpenBlock at block.root.0 es file

pub more_here : (file : List ℕ) (at first : ℕ) (found : Option BlockAt) (block : BlockAt) → found ≡ Some block → IsNextBlock at file first (Ok found) → MoreHere file at first block
more_here file at first found block is answer =
    let r = subst (λ (o : Option BlockAt). IsNextBlock at file first (Ok o)) is answer in
    record { es = r.0; are = r.1; read = r.2; stands = r.3 }

pub more_bad : (tells : Bool) (file : List ℕ) (k : Known) (size : ℕ) (block : BlockAt) (damage : Damage) (r : HasRead tells file k) → size ≡ k.book.size → IsTrue tells → MoreHere file k.gate size block
    → ((start : Option Base) (ks : List (List Entry)) (es : List Entry) → Headed es block.records → size ≡ next_number start (journals_of ks) → Goes k.book start ks [] → IsBadBlock start ks es block.root.0 damage) → IsDamage file damage
more_bad tells file k size block damage r is told m bad =
    let n = first_is tells file k size r is in
    bad_read file r.start r.blocks k.gate block.root.0 m.es damage (record { read = r.begun told; are = subst (λ (i : ℕ). AreBlock i m.es) n m.are; stands = m.stands })
    (bad r.start r.blocks m.es (headed_read k.gate m.es block m.read) n r.taken.goes)

-- ---- the block behind those that were read

from_next : (start : Option Base) (before es : List Entry) → AreBehind start before es → AreReadable es → AreFrom (next_number start before) es
from_next start before [] n r = tt
from_next start before (e ∷ es) n r = (
  record { jsn = n.0.jsn; rules = r.0.rules; widths = r.0.widths; content = r.0.content; who = r.0.who },
  subst (λ (m : ℕ). AreFrom m es) (omega (arith, length-append before (e ∷ []))) (from_next start (before ++ e ∷ []) es n.1 r.1),
)

places_push : (at : ℕ) (bs : List (List Entry)) (b : List Entry) → places_at at (bs ++ b ∷ []) ≡ places_at at bs ++ places_in (body_from (after_at at bs)) b
places_push at [] b = append-nil (places_in (body_from at) b)
places_push at (c ∷ bs) b =
    ap (λ (l : List PlaceAt). places_in (body_from at) c ++ l) (places_push (body_from at + sum_by record_len c) bs b)
    ∙ sym (append_assoc (places_in (body_from at) c) (places_at (body_from at + sum_by record_len c) bs) (places_in (body_from (after_at (body_from at + sum_by record_len c) bs)) b))

after_push : (at : ℕ) (bs : List (List Entry)) (b : List Entry) → after_at at (bs ++ b ∷ []) ≡ body_from (after_at at bs) + sum_by record_len b
after_push at [] b = refl
after_push at (c ∷ bs) b = after_push (body_from at + sum_by record_len c) bs b

module _ (k : Known) (block : BlockAt) (book : Kept) (places : List PlaceAt) (place first : ℕ) (listed : places ≡ k.places ++ map place_of_record block.records) (tail : place ≡ k.gate + 1 + block.len)
    (takes : (start : Option Base) (ks : List (List Entry)) (es : List Entry) → Headed es block.records → Goes k.book start ks [] → TakesBlock book start ks es block.root.0) where
  block_of : (start : Option Base) (ks : List (List Entry)) (es : List Entry) → AreBlock first es → TakesBlock book start ks es block.root.0 → IsBlock ((floor_from start).first + length (journals_of ks)) es
  block_of start ks es b t =
      record { some = b.some; most = b.most; entries = subst (λ (n : ℕ). AreFrom n es) (omega (arith, first_same start)) (from_next start (journals_of ks) es t.next b.readable) }

  founded_more : (start : Option Base) (js es : List Entry) → AreFounded start js → AreFounded start (js ++ es)
  founded_more None [] es f = absurd f
  founded_more None (j ∷ js) es f = f
  founded_more (Some b) js es f = tt

  legal_more : (start : Option Base) (ks : List (List Entry)) (es : List Entry) → AreLegal start ks → AreBlock first es → TakesBlock book start ks es block.root.0 → AreLegal start (ks ++ es ∷ [])
  legal_more start ks es l b t =
      let parts : journals_of (ks ++ es ∷ []) ≡ journals_of ks ++ es = flat_map-append (λ (x : List Entry). x) ks (es ∷ []) ∙ ap (λ (l : List Entry). journals_of ks ++ l) (append-nil es) in
      record {
        next = subst (AreBehind start []) (sym parts) (behind_more start [] (journals_of ks) es l.next t.next);
        blocks_are = All-push lawful.IsBlock ks es l.blocks_are (record { some = b.some; most = b.most; gathered = t.share });
        founded = subst (AreFounded start) (sym parts) (founded_more start (journals_of ks) es l.founded);
      }

  more_taken : (start : Option Base) (ks : List (List Entry)) (es : List Entry) → HasTaken k start ks → AreBlock first es → IsRead k.gate es block → HasTaken (known_from book places place) start (ks ++ es ∷ [])
  more_taken start ks es n b r =
      let t = takes start ks es (headed_read k.gate es block r) n.goes in
      let at : ℕ = 64 + length (floor_from start).base in
      record {
        legal = legal_more start ks es n.legal b t;
        lawful = blocks_more (floor_from start).first ks es n.lawful (block_of start ks es b t);
        goes = t.goes;
        places =
            listed ∙ ap (λ (l : List PlaceAt). l ++ map place_of_record block.records) n.places
            ∙ ap (λ (l : List PlaceAt). places_at at ks ++ l) (ap (map place_of_record) r.records ∙ places_same (body_from k.gate) es b.readable ∙ ap (λ (m : ℕ). places_in (body_from m) es) n.tail) ∙ sym (places_push at ks es);
        tail = omega (arith, tail, r.len, body_size es b.readable, n.tail, after_push at ks es);
        settled = t.settled;
      }

  pub more_read : (tells : Bool) (file : List ℕ) → HasRead tells file k → (es : List Entry) × AreBlock first es × IsRead k.gate es block → (IsTrue tells → MoreHere file k.gate first block) → HasRead tells file (known_from book places place)
  more_read false file r read here =
      record { start = r.start; blocks = r.blocks ++ read.0 ∷ []; taken = more_taken r.start r.blocks read.0 r.taken read.1 read.2; begun = λ t. absurd (true≢false (sym t)) }
  more_read true file r read here =
      let m = here refl in
      let t = takes r.start r.blocks m.es (headed_read k.gate m.es block m.read) r.taken.goes in
      let at : body_from k.gate + sum_by record_len m.es ≡ place = omega (arith, tail, m.read.len, body_size m.es m.are.readable) in
      record {
        start = r.start;
        blocks = r.blocks ++ m.es ∷ [];
        taken = more_taken r.start r.blocks m.es r.taken m.are m.read;
        begun = λ told.
            let b = r.begun told in
            record {
              begins = b.begins;
              begun = subst (Begun (floor_from r.start) file (r.blocks ++ m.es ∷ [])) at
                  (begun_more (floor_from r.start) (digests_from r.start r.taken.goes.base) file r.blocks k.gate block.root.0 m.es b.begun m.stands t.root_is (block_of r.start r.blocks m.es m.are t));
              legal = λ some. legal_more r.start r.blocks m.es r.taken.legal m.are t;
            };
      }

count_push : (start : Option Base) (ks : List (List Entry)) (es : List Entry) (block : BlockAt) → Headed es block.records → next_number start (journals_of (ks ++ es ∷ [])) ≡ next_number start (journals_of ks) + length block.records
count_push start ks es block h =
    omega (arith, ap (λ (l : List Entry). length l) (journals_push ks es), length-append (journals_of (ks ++ es ∷ [])) [], length-append (journals_of ks) es, headed_size es block.records h)

-- it has as many journals more as the block
pub more_count : (k : Known) (block : BlockAt) (book : Kept) (places : List PlaceAt) (place first : ℕ) (listed : places ≡ k.places ++ map place_of_record block.records) (tail : place ≡ k.gate + 1 + block.len)
    (takes : (start : Option Base) (ks : List (List Entry)) (es : List Entry) → Headed es block.records → Goes k.book start ks [] → TakesBlock book start ks es block.root.0) (tells : Bool) (file : List ℕ) (r : HasRead tells file k)
    (read : (es : List Entry) × AreBlock first es × IsRead k.gate es block) (here : IsTrue tells → MoreHere file k.gate first block)
    → next_number (more_read k block book places place first listed tail takes tells file r read here).start (journals_of (more_read k block book places place first listed tail takes tells file r read here).blocks) ≡ next_number r.start (journals_of r.blocks) + length block.records
unfolding more_read
more_count k block book places place first listed tail takes false file r read here = count_push r.start r.blocks read.0 block (headed_read k.gate read.0 block read.2)
more_count k block book places place first listed tail takes true file r read here = count_push r.start r.blocks (here refl).es block (headed_read k.gate (here refl).es block (here refl).read)

pub read_of : (o : Option BlockAt) (block : BlockAt) (at first : ℕ) → o ≡ Some block → IfSome o (λ b. (es : List Entry) × AreBlock first es × IsRead at es b) → (es : List Entry) × AreBlock first es × IsRead at es block
read_of o block at first is r = some_of (λ (b : BlockAt). (es : List Entry) × AreBlock first es × IsRead at es b) o block is r

-- how far the end is
pub smaller : (old new : ℕ) (before more : Bool) → before ≡ true → new ≤ 2 ^ 62 → old + cond more 1 0 ≤ new → 2 ^ 62 - new + cond more 1 0 < 2 ^ 62 - old + cond before 1 0
smaller old new true true is most nearer = omega (arith, most, nearer)
smaller old new true false is most nearer = omega (arith, most, nearer)
smaller old new false more is most nearer = absurd (true≢false (sym is))

-- a length that is told is that of the file
pub told_inside : (told : Option ℕ) (at n : ℕ) → told ≡ Some n → IsSomeAnd told (λ m. at ≤ m) → at ≤ n
told_inside told at n is inside = subst (λ (o : Option ℕ). IsSomeAnd o (λ m. at ≤ m)) is inside

-- ---- the base

pub fits_base : (file : List ℕ) (taken : BlockFile) → IsHeadOf file taken → 64 + base_len_of taken + 1 ≤ length file → HasBase file
fits_base file taken h room = omega (arith, h.base_len, room)

pub base_err : (file : List ℕ) (taken : BlockFile) (e : FileErr) → HasBase file → IsHeadOf file taken → IsBaseErr (take (base_len_of taken) (drop 64 file)) (base_digest_of taken) e → IsReadErr file (as_open e)
base_err file taken e fits h why =
    by_err e (subst (λ (d : List ℕ). IsBaseErr (take (number_at 18 file) (drop 64 file)) d e) h.base_digest (subst (λ (n : ℕ). IsBaseErr (take n (drop 64 file)) (base_digest_of taken) e) h.base_len why)) where
      by_err : (e : FileErr) → IsBaseErr (take (number_at 18 file) (drop 64 file)) (take 32 (drop 26 file)) e → IsReadErr file (as_open e)
      by_err files.DiskFault why = tt
      by_err files.NoMemory why = tt
      by_err (files.NewerFormat found) why = absurd why
      by_err (files.Damaged damages.Magic) why = absurd why
      by_err (files.Damaged (damages.BaseForm place)) why = absurd why
      by_err (files.Damaged (damages.Base kept found)) why = (why, fits)
      by_err (files.Damaged (damages.Length place kept found)) why = absurd why
      by_err (files.Damaged (damages.Entry jsn)) why = absurd why
      by_err (files.Damaged (damages.Root block kept found)) why = absurd why
      by_err (files.Damaged (damages.Content jsn kept found)) why = absurd why

-- what was read is the base that the head names, and it isn't empty
module _ (file base : List ℕ) (taken : BlockFile) (fits : HasBase file) (h : IsHeadOf file taken) (some : length base ≢ 0)
    (named : (length base ≡ base_len_of taken) × ((base_len_of taken ≡ 0) ⊎ (base_digest_of taken ≡ digest_of base))) (is : base ≡ take (base_len_of taken) (drop 64 file)) where
  pub bytes_are : base ≡ base_in file
  bytes_are = is ∙ ap (λ (n : ℕ). take n (drop 64 file)) h.base_len

  pub has_digest : HasDigest file
  has_digest = record {
    some = λ none. some (named.0 ∙ h.base_len ∙ none);
    there = fits;
    digest = elim named.1 [ inl none ↦ absurd (some (named.0 ∙ none)) | inr digest ↦ sym h.base_digest ∙ digest ∙ ap digest_of bytes_are ];
  }

  -- it doesn't decode
  pub bad_form : (e : Bad) (place : ℕ) → base_of base ≡ Err e → IsFormErr e place → IsDamage file (damages.BaseForm place)
  bad_form e place broken told = (has_digest, (e, ap base_of (sym bytes_are) ∙ broken, told))

  -- or it is this one
  pub begins_behind : (b : Base) → IsBase b × HasWidths b × (base ≡ base_spelling b) → IsStart file (Some b)
  begins_behind b f = (h.head, has_digest, (f.0, f.1), sym bytes_are ∙ f.2)

pub begins_first : (file base : List ℕ) (taken : BlockFile) → IsHeadOf file taken → length base ≡ 0 → length base ≡ base_len_of taken → IsStart file None
begins_first file base taken h none size = (h.head, sym h.base_len ∙ sym size ∙ none)

-- a book behind it, of which no block was taken
pub read_behind : (tells : Bool) (file : List ℕ) (start : Option Base) (b : Base) (book : Kept) (places : List PlaceAt) (place : ℕ) → start ≡ Some b → place ≡ 64 + length (floor_from start).base → (IsTrue tells → IsStart file start)
    → HasTaken (known_from book places (64 + length (floor_from (Some b)).base)) (Some b) [] → HasRead tells file (known_from book places place)
read_behind tells file start b book places place is place_is begins t =
    let at : place ≡ 64 + length (floor_from (Some b)).base = place_is ∙ ap (λ (s : Option Base). 64 + length (floor_from s).base) is in
    record {
      start = Some b;
      blocks = [];
      taken = subst (λ (n : ℕ). HasTaken (known_from book places n) (Some b) []) (sym at) t;
      begun = λ told. subst (λ (n : ℕ). IsReadTo file (Some b) [] n) (sym at) (readto_start file (Some b) (subst (IsStart file) is (begins told)));
    }

-- ---- the whole file

-- the purge to the base's point was read
pub known_of : (tells : Bool) (file : List ℕ) (k : Known) → HasRead tells file k → k.book.reached ≡ true → (IsTrue tells → get_or file k.gate 0 ≢ 1) → (IsTrue tells → k.gate + 1 ≤ length file) → HasKnown tells file k
known_of tells file k r reached shut inside = record {
  start = r.start;
  blocks = r.blocks;
  knows = knows_taken k r.start r.blocks r.taken (own_read k r.start r.blocks r.taken reached);
  has = λ told. begun_ends r.start file r.blocks k.gate (r.begun told).begun (shut told) (inside told);
}

-- .. or it wasn't, and the blocks end
early_of : (k : Known) (start : Option Base) (blocks : List (List Entry)) → HasTaken k start blocks → k.book.reached ≡ false → EndsEarly start blocks
early_of k None blocks t not = absurd (true≢false (sym t.goes.behind.reached ∙ not))
early_of k (Some b) blocks t not =
    λ own. true≢false (sym (t.goes.behind.reached ∙ ap (has_own_purge (Some b)) (append-nil (journals_of blocks)) ∙ own) ∙ not)

pub cut_short : (tells : Bool) (file : List ℕ) (k : Known) (size : ℕ) (r : HasRead tells file k) → size ≡ k.book.size → k.book.reached ≡ false → IsTrue tells → IsShutAt k.gate file → IsDamage file (damages.Entry size)
cut_short tells file k size r is not told shut =
    inl (
      r.start,
      r.blocks,
      k.gate,
      first_is tells file k size r is,
      record { read = r.begun told; shut = shut; early = early_of k r.start r.blocks r.taken not },
    )

pub known_again : (tells : Bool) (old new : List ℕ) (k : Known) → (IsTrue tells → old ≡ new) → HasKnown tells old k → HasKnown tells new k
known_again tells old new k same h = record { start = h.start; blocks = h.blocks; knows = h.knows; has = λ told. subst (HasFile h.start h.blocks) (same told) (h.has told) }
