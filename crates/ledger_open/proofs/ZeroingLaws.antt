-- Zeros are written over what is given up, journal by journal: what that leaves at each exit.
use Rattle.std.specs.List.{Contains}
use Rattle.std.specs.Prelude.{slice_get, get_or, min}
use Rattle.std.proofs.Common.{◌≡◌, ℕ, ◌+◌, ◌-◌, ◌<◌, ◌≤◌, ◌⊎◌, inl, inr, Bool, true, false, List, [], ◌∷◌, ◌++◌, length, take, drop, replicate, Some, refl, sym, ◌∙◌, ap, subst, arith, length-take, length-drop}
use Rattle.std.proofs.lemmas.Bool.{true≢false}
use Rattle.std.proofs.lemmas.List.Elements.{All-append, All-cons, All-contains, All-nil}
use Rattle.std.proofs.lemmas.Option.{slice_get-get_or}
use Rattle.block_file.specs.Changes.{ChangesWithin}
use Rattle.block_file.specs.File.{IsSettled, IsZeros}
use Rattle.journal_record.specs.Entry.{Entry}
use Rattle.ledger_book.specs.Books.{Kept, Serves}
use Rattle.ledger_disk.proofs.Guarding.{settled_image}
use Rattle.ledger_disk.specs.Disk.{State, MayLeave, settled_state, overlay}
use Rattle.ledger_disk.specs.Guards.{Outside}
use Rattle.ledger_model.specs.History.{History, point}
use Rattle.ledger_open.specs.Erasing.{AreOf, EndsAs, ErasesSome, LeavesErased, LeavesRest, LeavesShown, StandsMeanwhile, WritesSome, WritesZeros, is_given_up, places_of, with_zeros}
use Rattle.ledger_open.specs.Places.{places_from}
use Rattle.ledger_open.specs.Standing.{Floor, floor_behind, point_before, StandsFor, IsErased}
use Rattle.block_file.specs.declared.place.PlaceAt.{PlaceAt}
use Rattle.ledger_open.proofs.ErasingLaws.{places_count, floor_in, given_zeros, stands_changed}
use Rattle.ledger_open.proofs.FinishLaws.{are_of, book_at, floors, given_point, left_alone, place_moved}
use Rattle.ledger_open.proofs.FloorLaws.{floor_first}
use Rattle.ledger_open.proofs.PartLaws.{one_parts, size_parts}
use Rattle.ledger_open.proofs.RestLaws.{outside_wider, outside_same, outside_more}
use Rattle.ledger_open.proofs.TargetLaws.{size_fits}
use Rattle.ledger_open.proofs.ZerosLaws.{zeros_to, zeroed_next, left_next, zeros_all, zeros_over, with_more, place_listed}

-- ---- for a history

module _ (book : Kept) (places : List PlaceAt) (h : History) (are : AreOf book places h) where
  first_is : book.floor ≡ (floor_behind h are.parts.gone).first
  first_is = sym (floor_first h are.parts.gone ∙ are.parts.at)

  -- by the journals that the file has
  at_parts : (P : ℕ → List PlaceAt → Type 0) → P book.floor places → P (floor_behind h are.parts.gone).first (places_from (floor_behind h are.parts.gone) are.parts.kept)
  at_parts P p =
      subst (λ (n : ℕ). P n (places_from (floor_behind h are.parts.gone) are.parts.kept)) first_is (subst (P book.floor) are.places_are p)

  -- the number of one of them, as it is counted
  pub number_is : (i first number : ℕ) → i < length places → first ≡ book.floor → number ≡ min (first + i) 18_446_744_073_709_551_615 → number ≡ book.floor + i
  number_is i first number lt at is =
      omega (
        arith,
        is,
        at,
        lt,
        ap length are.places_are,
        places_count (64 + length (floor_behind h are.parts.gone).base) are.parts.kept,
        size_parts book.floor h are.none are.parts,
        size_fits h are.serves.stands.lawful,
      )

-- what was told of it
pub given_told_at : (book : Kept) (places : List PlaceAt) (i first number : ℕ) → i < length places → first ≡ book.floor → number ≡ min (first + i) 18_446_744_073_709_551_615
    → (told v : Bool) → ((h : History) → Serves book h → book.floor ≤ number → told ≡ is_given_up h number) → told ≡ v → (h : History) → AreOf book places h → is_given_up h (book.floor + i) ≡ v
given_told_at book places i first number lt at is told v tells is_v h are =
    let same = number_is book places h are i first number lt at is in
    ap (is_given_up h) (sym same) ∙ sym (tells h are.serves (omega (arith, same))) ∙ is_v

-- a place that was got of the list
pub got_at : (places xs : List PlaceAt) (i : ℕ) (d : PlaceAt) → xs ≡ places → i < length places → slice_get places i ≡ Some (get_or xs i d)
got_at places xs i d is lt = ap (λ (l : List PlaceAt). slice_get l i) (sym is) ∙ slice_get-get_or xs i d (omega (arith, lt, ap length is))

module _ (book : Kept) (places : List PlaceAt) (h : History) (e : EndsAs book places h) where
  -- .. where one stands for the history, and the last journal is no purge
  stands_parts : (P : ℕ → List PlaceAt → Type 0) (old : List ℕ) (x : StandsFor old h) → point_before h ≡ point h → P book.floor places → P (floor_in x.file).first (places_from (floor_in x.file) x.file.parts.kept)
  stands_parts P old x same p =
      place_moved book places h e old x (λ (f : Floor) (bs : List (List Entry)). P f.first (places_from f bs)) (floors book places h e old x same) (at_parts book places h (are_of book places h e) P p)

  erased_parts : (P : ℕ → List PlaceAt → Type 0) (old : List ℕ) (x : IsErased old h) → point_before h ≡ point h → P book.floor places → P (floor_in x).first (places_from (floor_in x) x.parts.kept)
  erased_parts P old x same p =
      let parts = one_parts (point h) h x.lawful.blocks_are (record { gone = e.parts.gone; kept = e.parts.kept; are = e.parts.are; at = e.parts.at ∙ book_at book places h e same }) x.parts in
      let here = at_parts book places h (are_of book places h e) P p in
      subst (λ (gone : List (List Entry)). P (floor_behind h gone).first (places_from (floor_behind h gone) x.parts.kept)) parts.0
      (subst (λ (bs : List (List Entry)). P (floor_behind h e.parts.gone).first (places_from (floor_behind h e.parts.gone) bs)) parts.1 here)

-- ---- place by place

-- the journals of the first of these places were looked at, and something was given up or nothing
pub record WroteTo (book : Kept) (places : List PlaceAt) (i : ℕ) (some : Bool) (old new : State) : Type 0 where
  pub zeros : (h : History) → AreOf book places h → new.seen ≡ zeros_to (is_given_up h) book.floor i places old.seen
  pub images : StandsMeanwhile book places old new
  pub shown : (h : History) → AreOf book places h → ((n : ℕ) → is_given_up h n ≡ false) → (new ≡ old) × (some ≡ false)
  pub idle : LeavesErased book places old new
  pub rest : LeavesRest places old new
  pub erased : ErasesSome places old.seen new.seen
  pub none : some ≡ false → new ≡ old

module _ (book : Kept) (places : List PlaceAt) (old : State) where
  pub wrote_none : WroteTo book places 0 false old old
  wrote_none = record {
    zeros = λ h are. refl;
    images = λ h e quiet stands image left. left_alone old old h quiet image refl stands left;
    shown = λ h are none. (refl, refl);
    idle = λ h e quiet erased. refl;
    rest = λ low high all. outside_same low (high - low) old.seen;
    erased = record { some = []; listed = All-nil (Contains places); is = refl };
    none = λ same. refl;
  }

  -- those between two give nothing up
  pub wrote_over : (i j : ℕ) (some : Bool) (mid : State) → WroteTo book places i some old mid → i ≤ j → ((h : History) → AreOf book places h → (n : ℕ) → i ≤ n → n < j → is_given_up h (book.floor + n) ≡ false) → WroteTo book places j some old mid
  wrote_over i j some mid wrote le none = record {
    zeros = λ h are. wrote.zeros h are ∙ sym (zeros_over (is_given_up h) book.floor i j places old.seen le (none h are));
    images = wrote.images;
    shown = wrote.shown;
    idle = wrote.idle;
    rest = wrote.rest;
    erased = wrote.erased;
    none = wrote.none;
  }

  -- ---- at one of them

  module _ (i : ℕ) (p : PlaceAt) (got : slice_get places i ≡ Some p) (some : Bool) (mid : State) (wrote : WroteTo book places i some old mid) where
    -- its content isn't given up
    pub wrote_left : ((h : History) → AreOf book places h → is_given_up h (book.floor + i) ≡ false) → WroteTo book places (i + 1) some old mid
    wrote_left shown_still = record {
      zeros = λ h are. wrote.zeros h are ∙ sym (left_next (is_given_up h) book.floor i places p got old.seen (shown_still h are));
      images = wrote.images;
      shown = wrote.shown;
      idle = wrote.idle;
      rest = wrote.rest;
      erased = wrote.erased;
      none = wrote.none;
    }

    -- .. or it is, and is cleared or as far as that went
    module _ (yes : (h : History) → AreOf book places h → is_given_up h (book.floor + i) ≡ true) (n : ℕ) (n_is : n ≡ p.content_len) (new : State) (within : ChangesWithin p.content_at n mid new) (still : IsZeros p.content_at n mid.seen → new ≡ mid) where
      pub more_images : StandsMeanwhile book places old new
      more_images h e quiet stands image left =
          let given = yes h (are_of book places h e) in
          let back = within.images image left in
          let before = wrote.images h e quiet stands back.0 back.1 in
          let out : Outside p.content_at p.content_len back.0 image = subst (λ (k : ℕ). Outside p.content_at k back.0 image) n_is back.2 in
          let here = stands_parts book places h e (λ first ps. (slice_get ps i ≡ Some p) × (is_given_up h (first + i) ≡ true)) back.0 before.0 (given_point book places h e (book.floor + i) given) (got, given) in
          let now = stands_changed back.0 h before.0 i p here.0 here.1 image out in
          (now.0, now.1 ∙ before.1)

      pub more_shown : LeavesShown book places old new
      more_shown h are none = absurd (true≢false (sym (yes h are) ∙ none (book.floor + i)))

      pub more_idle : LeavesErased book places old new
      more_idle h e quiet erased =
          let given = yes h (are_of book places h e) in
          let same : mid ≡ old = wrote.idle h e quiet erased in
          let here = erased_parts book places h e (λ first ps. (slice_get ps i ≡ Some p) × (is_given_up h (first + i) ≡ true)) old.seen erased (given_point book places h e (book.floor + i) given) (got, given) in
          let z = given_zeros old.seen h erased i p here.0 here.1 in
          let long : length (take p.content_len (drop p.content_at old.seen)) ≡ p.content_len = omega (arith, z.0, length-take p.content_len (drop p.content_at old.seen), length-drop p.content_at old.seen) in
          let zeros : IsZeros p.content_at p.content_len old.seen = z.1 ∙ ap (λ (k : ℕ). replicate k 0) long in
          still (subst (λ (s : State). IsZeros p.content_at n s.seen) (sym same) (subst (λ (k : ℕ). IsZeros p.content_at k old.seen) (sym n_is) zeros)) ∙ same

      pub more_rest : LeavesRest places old new
      more_rest low high all =
          let here = All-contains (λ (q : PlaceAt). (low ≤ q.content_at) × (q.content_at + q.content_len ≤ high)) places p all (place_listed places i p got) in
          outside_more low (high - low) old.seen mid.seen new.seen (wrote.rest low high all) (outside_wider low high p.content_at n mid.seen new.seen here.0 (omega (arith, here.1, n_is)) within.seen)

      pub wrote_more : new.seen ≡ overlay p.content_at (replicate n 0) mid.seen → WroteTo book places (i + 1) true old new
      wrote_more is = record {
        zeros = λ h are. now ∙ ap (overlay p.content_at (replicate p.content_len 0)) (wrote.zeros h are) ∙ sym (zeroed_next (is_given_up h) book.floor i places p got old.seen (yes h are));
        images = more_images;
        shown = λ h are none. absurd (true≢false (sym (yes h are) ∙ none (book.floor + i)));
        idle = more_idle;
        rest = more_rest;
        erased = record {
          some = wrote.erased.some ++ p ∷ [];
          listed = All-append (Contains places) wrote.erased.some (p ∷ []) wrote.erased.listed (All-cons (Contains places) p [] (place_listed places i p got) (All-nil (Contains places)));
          is = now ∙ ap (overlay p.content_at (replicate p.content_len 0)) wrote.erased.is ∙ sym (with_more wrote.erased.some (p ∷ []) old.seen);
        };
        none = λ same. absurd (true≢false same);
      } where
        now : new.seen ≡ overlay p.content_at (replicate p.content_len 0) mid.seen
        now = is ∙ ap (λ (k : ℕ). overlay p.content_at (replicate k 0) mid.seen) n_is

-- ---- where only the journals from one on, up to another, may give something up

module _ (book : Kept) (places : List PlaceAt) (old : State) (xs : List PlaceAt) (is : xs ≡ places) (span : ℕ × ℕ) (order : span.0 ≤ span.1) (within : span.1 ≤ length xs)
    (others : (h : History) → Serves book h → (n : ℕ) → n < length xs → (n < span.0) ⊎ (span.1 ≤ n) → is_given_up h (book.floor + n) ≡ false) where
  pub from_first : WroteTo book places span.0 false old old
  from_first = wrote_over book places old 0 span.0 false old (wrote_none book places old) (omega arith) (λ h are n low high. others h are.serves n (omega (arith, high, order, within)) (inl high))

  pub to_end : (i : ℕ) (some : Bool) (mid : State) → WroteTo book places i some old mid → i ≡ span.1 → WroteTo book places (length places) some old mid
  to_end i some mid wrote at =
      wrote_over book places old i (length places) some mid wrote (omega (arith, at, within, ap length is)) (λ h are n low high. others h are.serves n (omega (arith, high, ap length is)) (inr (omega (arith, low, at))))

-- ---- at the end

module _ (book : Kept) (places : List PlaceAt) (some : Bool) (old mid : State) (wrote : WroteTo book places (length places) some old mid) where
  -- all of it was looked at, and stands for good
  pub wrote_all : (new : State) → (IsSettled old → new ≡ settled_state mid.seen) → WritesZeros book places old new
  wrote_all new is h are quiet =
      at_parts book places h are (λ first ps. new ≡ settled_state (with_zeros (places_of (is_given_up h) first ps) old.seen))
      (is quiet ∙ ap settled_state (wrote.zeros h are ∙ zeros_all (is_given_up h) book.floor (length places) places old.seen (omega arith)))

  pub wrote_some : (new : State) → (IsSettled old → new ≡ settled_state mid.seen) → WritesSome places old new
  wrote_some new is quiet = (mid.seen, wrote.erased, is quiet)

  -- nothing was given up
  pub none_settled : some ≡ false → IsSettled old → mid ≡ settled_state mid.seen
  none_settled none quiet = subst IsSettled (sym (wrote.none none)) quiet

  -- something was, and is synced
  module _ (is_some : some ≡ true) (left : MayLeave mid mid.seen) (new : State) (synced : new ≡ settled_state mid.seen) where
    pub synced_images : StandsMeanwhile book places old new
    synced_images h e quiet stands image left_new =
        let is : image ≡ mid.seen = settled_image mid.seen image (subst (λ (s : State). MayLeave s image) synced left_new) in
        subst (λ (l : List ℕ). (s : StandsFor l h) × (s.file.edition ≡ stands.file.edition)) (sym is) (wrote.images h e quiet stands mid.seen left)

    pub synced_shown : LeavesShown book places old new
    synced_shown h are none = absurd (true≢false (sym is_some ∙ (wrote.shown h are none).1))

    pub synced_idle : LeavesErased book places old new
    synced_idle h e quiet erased = synced ∙ ap (λ (s : State). settled_state s.seen) (wrote.idle h e quiet erased) ∙ sym quiet

    pub synced_rest : LeavesRest places old new
    synced_rest low high all = subst (Outside low (high - low) old.seen) (ap (λ (s : State). s.seen) (sym synced)) (wrote.rest low high all)

  -- .. or the disk is as it was
  module _ (new : State) (same : new ≡ mid) where
    pub same_images : StandsMeanwhile book places old new
    same_images h e quiet stands image left = wrote.images h e quiet stands image (subst (λ (s : State). MayLeave s image) same left)

    pub same_shown : LeavesShown book places old new
    same_shown h are none = same ∙ (wrote.shown h are none).0

    pub same_idle : LeavesErased book places old new
    same_idle h e quiet erased = same ∙ wrote.idle h e quiet erased

    pub same_rest : LeavesRest places old new
    same_rest low high all = subst (λ (s : State). Outside low (high - low) old.seen s.seen) (sym same) (wrote.rest low high all)
