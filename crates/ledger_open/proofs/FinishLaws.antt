-- What the last header tells of the contents that are given up, and what giving them up leaves.
use Rattle.std.specs.Prelude.{◌==◌, nat_le, slice_get, option_map, if◌then◌else◌, sum_by}
use Rattle.std.proofs.Common.{◌≡◌, ◌⊎◌, inl, inr, ℕ, ◌+◌, ◌-◌, ◌<◌, ◌≤◌, ◌&&◌, Bool, true, false, cond, List, [], ◌∷◌, length, get_or, Option, None, Some, refl, sym, ◌∙◌, ap, subst, arith}
use Rattle.std.proofs.lemmas.Bool.{le-leb, lt-leb, eqb-true, eq-eqb, true≢false, false_from_ne_true}
use Rattle.std.proofs.lemmas.List.{nil_from_length}
use Rattle.std.proofs.lemmas.List.Elements.{All-nil, All-cons, All-append}
use Rattle.std.proofs.lemmas.List.Sums.{sum_by-cons}
use Rattle.std.proofs.lemmas.Option.{same_Some, slice_get-map, slice_get_read}
use Rattle.block_file.specs.File.{IsSettled}
use Rattle.journal_record.specs.Entry.{Entry}
use Rattle.journal_record.specs.declared.header.Header.{Header}
use Rattle.journal_record.specs.declared.header.Kind.{Kind}
use Rattle.journal_record.specs.declared.header.Kind.TheVariants as kind
use Rattle.ledger_book.specs.Books.{Kept, Serves, headers}
use Rattle.ledger_disk.specs.Disk.{State, MayLeave, settled_state}
use Rattle.ledger_disk.proofs.Guarding.{settled_image}
use Rattle.ledger_model.proofs.LawfulLaws.{lawful_from, later_seen, point_below, some_journal}
use Rattle.ledger_model.specs.History.{History, journals, size, point}
use Rattle.ledger_model.specs.Targets.{hides_as, is_hidden, hider}
use Rattle.ledger_open.specs.Cutting.{gate_behind}
use Rattle.ledger_open.specs.Erasing.{AllInside, is_given_up, given_up, given_up_in, EndsAs, AreOf, IsGivenUp}
use Rattle.ledger_open.specs.Opening.{Known, Knows}
use Rattle.block_file.specs.Places.{body_from, record_len, places_in, places_at, after_at}
use Rattle.ledger_open.specs.Standing.{Floor, floor_behind, floor_from, point_before, StandsFor, IsErased, IsClean, hidden_before}
use Rattle.pseudo_genesis.specs.declared.base.Base.{Base}
use Rattle.twin_file.specs.Twin.{open_of}
use Rattle.block_file.specs.declared.place.PlaceAt.{PlaceAt}
use Rattle.ledger_open.proofs.ErasingLaws.{given_erased, none_given_up}
use Rattle.ledger_open.proofs.FinishedLaws.{ends_at, none_given}
use Rattle.ledger_open.proofs.PartLaws.{one_parts}
use Rattle.ledger_open.proofs.TargetLaws.{given_is, given_only, is_number, last_is}

-- ---- the last header

abbrev told_header : Kept → History → ℕ → Option Header
told_header book h n = if nat_le book.floor n then slice_get (headers h) n else None

-- a book and places that end so are the history's
abbrev pub are_of : (book : Kept) (places : List PlaceAt) (h : History) → EndsAs book places h → AreOf book places h
are_of book places h e = record { serves = e.serves; parts = e.parts; places_are = e.places_are; none = e.none }

-- a journal of this kind hides nothing
abbrev pub IsPlain : Kind → Type 0
IsPlain k = (k ≡ kind.Genesis) ⊎ ((k ≡ kind.Content) ⊎ ((k ≡ kind.Member) ⊎ ((k ≡ kind.Time) ⊎ (k ≡ kind.Purge))))

plain_shows : (k : Kind) (x target : Header) → IsPlain k → hides_as k x target ≡ false
plain_shows k x target (inl is) = ap (λ (y : Kind). hides_as y x target) is
plain_shows k x target (inr (inl is)) = ap (λ (y : Kind). hides_as y x target) is
plain_shows k x target (inr (inr (inl is))) = ap (λ (y : Kind). hides_as y x target) is
plain_shows k x target (inr (inr (inr (inl is)))) = ap (λ (y : Kind). hides_as y x target) is
plain_shows k x target (inr (inr (inr (inr is)))) = ap (λ (y : Kind). hides_as y x target) is

module _ (book : Kept) (h : History) (serves : Serves book h) where
  some : 1 ≤ size h
  some = some_journal (journals h) serves.stands.lawful

  low : point h < size h
  unfolding point
  low = point_below (size h) 0 0 (journals h) (lawful_from (journals h) serves.stands.lawful) (omega arith) (omega (arith, some))

  kept : book.floor < size h
  kept =
      let seen = later_seen h book.floor serves.stands.lawful (omega (arith, serves.seen, serves.stands.counts.point)) in
      omega (arith, serves.seen, serves.stands.counts.point, seen, low)

  -- the header of the last journal, as a book tells it
  pub last_told : (n : ℕ) (o : Option Header) → n ≡ book.size → o ≡ told_header book h (n - 1) → o ≡ option_map (λ (j : Entry). j.header) (slice_get (journals h) (size h - 1))
  last_told n o is told =
      let all : n ≡ size h = is ∙ serves.stands.counts.size in
      told ∙ ap (λ (b : Bool). cond b (slice_get (headers h) (n - 1)) None) (le-leb book.floor (n - 1) (omega (arith, kept, all)))
      ∙ ap (λ (k : ℕ). slice_get (headers h) (k - 1)) all ∙ slice_get-map (λ (j : Entry). j.header) (journals h) (size h - 1)

  module _ (o : Option Header) (told : o ≡ option_map (λ (j : Entry). j.header) (slice_get (journals h) (size h - 1))) where
    -- what it doesn't hide isn't given up
    not_hidden : (x : Header) → o ≡ Some x → (n : ℕ) → ((target : Header) → target.jsn ≡ n → hides_as x.kind x target ≡ false) → is_given_up h n ≡ false
    not_hidden x is n none =
        let e = last_is h serves.stands.lawful in
        let same : e.0.header ≡ x = same_Some e.0.header x (sym (told ∙ ap (option_map (λ (j : Entry). j.header)) e.1) ∙ is) in
        given_only h serves.stands.lawful e.0 e.1 n (λ t at. ap (λ (y : Header). hides_as y.kind y t.header) same ∙ none t.header at)

    -- .. of an occult all but one
    pub other_told : (x : Header) → o ≡ Some x → x.kind ≡ kind.Occult → (n : ℕ) → (x.a ≡ n → ⊥) → is_given_up h n ≡ false
    other_told x is occult n other =
        not_hidden x is n (λ target at. ap (λ (k : Kind). hides_as k x target) occult ∙ false_from_ne_true (x.a == target.jsn) (λ same. other (eqb-true x.a target.jsn same ∙ at)))

    -- .. and all of one that hides nothing
    pub none_told : (x : Header) → o ≡ Some x → IsPlain x.kind → (n : ℕ) → is_given_up h n ≡ false
    none_told x is plain n = not_hidden x is n (λ target at. plain_shows x.kind x target plain)

  -- what is given up, as a book tells the point and who hides it
  module _ (n from : ℕ) (at : from ≡ point h) where
    pub given_told : (count : ℕ) (by : Option ℕ) → count ≡ book.size → by ≡ hider h n → from ≤ n → is_number by (count - 1) ≡ is_given_up h n
    given_told count by all is kept =
        ap (λ (k : ℕ). is_number by (k - 1)) (all ∙ serves.stands.counts.size) ∙ ap (λ (o : Option ℕ). is_number o (size h - 1)) is
        ∙ ap (λ (v : Bool). v && is_number (hider h n) (size h - 1)) (sym (le-leb (point h) n (omega (arith, at, kept)))) ∙ sym (given_is h serves.stands.lawful n)

    pub front_told : n < from → nat_le from n ≡ is_given_up h n
    front_told front =
        lt-leb from n front ∙ ap (λ (v : Bool). v && is_number (hider h n) (size h - 1)) (sym (lt-leb (point h) n (omega (arith, at, front)))) ∙ sym (given_is h serves.stands.lawful n)

-- what was got of the list of places
pub found_in : {A : Type 0} (list xs : List A) (n : ℕ) (x : A) → xs ≡ list → n < length xs → x ≡ get_or xs n x → slice_get list n ≡ Some x
found_in list xs n x is inside at = ap (λ l. slice_get l n) (sym is) ∙ slice_get_read xs (length xs) n x refl inside at

-- ---- giving it up

-- the blocks that a file has of a history are those by which its places were told, where a content is given up
module _ (book : Kept) (places : List PlaceAt) (h : History) (e : EndsAs book places h) where
  e_some : 1 ≤ size h
  e_some = some_journal (journals h) e.serves.stands.lawful

  -- the last journal is no purge, or gives nothing up
  pub by_purge : {P : Type 0} → (point_before h ≡ point h → P) → (((n : ℕ) → is_given_up h n ≡ false) → P) → P
  by_purge {P = P} same none = elim (point_before h == point h) as (λ v. (point_before h == point h) ≡ v → P) [
    | true ↦ λ is. same (eqb-true (point_before h) (point h) is)
    | false ↦ λ is. none (none_given h e_some (λ at. true≢false (sym (eq-eqb (point_before h) (point h) at) ∙ is)))
  ] refl

  pub book_at : point_before h ≡ point h → book.floor ≡ point h
  book_at same = elim e.begins [ inl at ↦ at | inr at ↦ at ∙ same ]

  -- .. the first one is no purge
  pub given_point : (n : ℕ) → is_given_up h n ≡ true → point_before h ≡ point h
  given_point n given = by_purge (λ same. same) (λ none. absurd (true≢false (sym given ∙ none n)))

  module _ (old : List ℕ) (x : StandsFor old h) where
    pub floors : point_before h ≡ point h → x.floor ≡ book.floor
    floors same = elim x.begins [ inl at ↦ at ∙ sym (book_at same) | inr at ↦ at ∙ same ∙ sym (book_at same) ]

    same_parts : x.floor ≡ book.floor → (x.file.parts.gone ≡ e.parts.gone) × (x.file.parts.kept ≡ e.parts.kept)
    same_parts at = one_parts book.floor h x.file.lawful.blocks_are (record { gone = x.file.parts.gone; kept = x.file.parts.kept; are = x.file.parts.are; at = x.file.parts.at ∙ at }) e.parts

    -- one and the same place
    pub place_moved : (P : Floor → List (List Entry) → Type 0) → x.floor ≡ book.floor → P (floor_behind h e.parts.gone) e.parts.kept → P (floor_behind h x.file.parts.gone) x.file.parts.kept
    place_moved P at p =
        let same = same_parts at in
        subst (λ (gone : List (List Entry)). P (floor_behind h gone) x.file.parts.kept) (sym same.0) (subst (P (floor_behind h e.parts.gone)) (sym same.1) p)

    pub given_moved : (file : List ℕ) → given_up_in x.file file ≡ given_up h (floor_behind h e.parts.gone) e.parts.kept file
    given_moved file = by_purge
        (λ same. place_moved (λ (f : Floor) (bs : List (List Entry)). given_up h f bs file ≡ given_up h (floor_behind h e.parts.gone) e.parts.kept file) (floors same) refl)
        (λ none. none_given_up h (floor_behind h x.file.parts.gone) x.file.parts.kept file none ∙ sym (none_given_up h (floor_behind h e.parts.gone) e.parts.kept file none))

-- what is given up of a file that is quiet
module _ (book : Kept) (places : List PlaceAt) (old new : State) (h : History) (e : EndsAs book places h) (quiet : IsSettled old) where
  pub given : (stands : StandsFor old.seen h) → stands.floor ≡ point h → new ≡ settled_state (given_up h (floor_behind h e.parts.gone) e.parts.kept old.seen) → IsGivenUp old new h
  given stands at is =
      let g = given_erased old.seen h stands at in
      let seen : new.seen ≡ given_up_in stands.file old.seen = ap (λ (s : State). s.seen) is ∙ sym (given_moved book places h e old.seen stands old.seen) in
      record {
        quiet = is ∙ ap settled_state (sym (ap (λ (s : State). s.seen) is));
        erased = subst (λ (l : List ℕ). IsErased l h) (sym seen) g.0;
        size = ap length seen ∙ g.1;
      }

-- a file that ended with its tail gate does so once all is given up
pub given_clean : (old new : State) (h : History) (x : StandsFor old.seen h) → x.file.keeps.file.stands.rest ≡ [] → x.floor ≡ point h → IsGivenUp old new h → IsClean new.seen h
given_clean old new h x none at g =
    let e = g.erased in
    let same = one_parts (point h) h e.lawful.blocks_are (record { gone = x.file.parts.gone; kept = x.file.parts.kept; are = x.file.parts.are; at = x.file.parts.at ∙ at }) e.parts in
    let gates : gate_behind (floor_behind h x.file.parts.gone) x.file.parts.kept ≡ gate_behind (floor_behind h e.parts.gone) e.parts.kept =
    ap (λ (gone : List (List Entry)). gate_behind (floor_behind h gone) x.file.parts.kept) same.0 ∙ ap (λ (bs : List (List Entry)). gate_behind (floor_behind h e.parts.gone) bs) same.1 in
    record {
      erased = e;
      ends = nil_from_length e.keeps.file.stands.rest
          (omega (arith, g.size, ap length none, gates, ends_at x.floor (hidden_before h) old.seen h x.file, ends_at (point h) (is_hidden h) new.seen h e));
    }

pub left_alone : (old new : State) (h : History) → IsSettled old → (image : List ℕ) → new ≡ old → (stands : StandsFor old.seen h) → MayLeave new image → (s : StandsFor image h) × (s.file.edition ≡ stands.file.edition)
left_alone old new h quiet image same stands left = subst (λ (x : List ℕ). (s : StandsFor x h) × (s.file.edition ≡ stands.file.edition)) (sym (settled_image old.seen image (subst (λ (s : State). MayLeave s image) (same ∙ quiet) left))) (stands, refl)

-- ---- contents end before the tail gate

inside_in : (end at : ℕ) (es : List Entry) → at + sum_by record_len es ≤ end → AllInside end (places_in at es)
inside_in end at [] le = All-nil (λ (p : PlaceAt). p.content_at + p.content_len ≤ end)
inside_in end at (e ∷ es) le =
    All-cons (λ (p : PlaceAt). p.content_at + p.content_len ≤ end) _ (places_in (at + record_len e) es) (omega (arith, le, sum_by-cons record_len e es)) (inside_in end (at + record_len e) es (omega (arith, le, sum_by-cons record_len e es)))

after_grows : (at : ℕ) (bs : List (List Entry)) → at ≤ after_at at bs
after_grows at [] = omega arith
after_grows at (b ∷ bs) = omega (arith, after_grows (body_from at + sum_by record_len b) bs)

pub inside_at : (at : ℕ) (bs : List (List Entry)) → AllInside (after_at at bs) (places_at at bs)
inside_at at [] = All-nil (λ (p : PlaceAt). p.content_at + p.content_len ≤ at)
inside_at at (b ∷ bs) =
    All-append (λ (p : PlaceAt). p.content_at + p.content_len ≤ after_at at (b ∷ bs)) (places_in (body_from at) b) (places_at (body_from at + sum_by record_len b) bs)
    (inside_in (after_at at (b ∷ bs)) (body_from at) b (after_grows (body_from at + sum_by record_len b) bs))
    (inside_at (body_from at + sum_by record_len b) bs)

pub places_inside : {start : Option Base} (k : Known) (bs : List (List Entry)) → Knows k start bs → AllInside k.gate k.places
places_inside {start} k bs x =
    subst (λ (end : ℕ). AllInside end k.places) (sym x.tail) (subst (AllInside (after_at (64 + length (floor_from start).base) bs)) (sym x.places) (inside_at (64 + length (floor_from start).base) bs))

-- ---- the open one of two disks

pub of_first : {A : Type 0} (P : A → A → Type 0) (in_a : Bool) (a b new : A) → in_a ≡ true → P a new → P (open_of in_a a b) (open_of in_a new b)
of_first P true a b new is p = p
of_first P false a b new is p = absurd (true≢false (sym is))

pub of_second : {A : Type 0} (P : A → A → Type 0) (in_a : Bool) (a b new : A) → in_a ≡ false → P b new → P (open_of in_a a b) (open_of in_a a new)
of_second P true a b new is p = absurd (true≢false is)
of_second P false a b new is p = p
