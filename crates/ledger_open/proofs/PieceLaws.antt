-- What stands at a journal's place, and which journal of a history it is.
use Rattle.std.specs.Prelude.{◌≤◌, ◌-◌, if◌then◌else◌, nat_le, slice_get, All}
use Rattle.std.proofs.Common.{◌≡◌, ℕ, zero, suc, ◌+◌, Bool, cond, List, [], ◌∷◌, drop, map, Option, Some, None, refl, sym, ◌∙◌, ap, subst, arith, zero-add}
use Rattle.std.proofs.lemmas.Bool.{le-leb}
use Rattle.std.proofs.lemmas.Option.{none-some}
use Rattle.block_file.specs.declared.place.PlaceAt.{PlaceAt}
use Rattle.journal_record.specs.Entry.{Entry}
use Rattle.journal_record.specs.declared.header.Header.{Header}
use Rattle.ledger_book.specs.Books as books
use Rattle.ledger_book.specs.Books.{headers}
use Rattle.ledger_model.specs.History.{History, journals, journals_of, point}
use Rattle.ledger_model.specs.Lawful.{IsBlock}
use Rattle.ledger_model.specs.Targets.{is_hidden}
use Rattle.ledger_model.proofs.LawfulLaws.{AreFrom, lawful_from}
use Rattle.ledger_open.specs.Pieces.{IsReadAs}
use Rattle.ledger_open.specs.Places.{entry_at, AllAt, places_from}
use Rattle.ledger_open.specs.Standing.{floor_behind, IsKept, Parts}
use Rattle.ledger_open.proofs.PartLaws.{kept_from, one_parts}
use Rattle.ledger_open.proofs.PlaceLaws.{kept_at}

-- ---- what stands at a place

-- a journal of which this is kept at a place
pub record IsThere (hid gone : ℕ → Bool) (file : List ℕ) (es : List Entry) (n : ℕ) (p : PlaceAt) : Type 0 where
  pub e : Entry
  pub there : slice_get es n ≡ Some e
  pub kept : IsKept hid gone e (entry_at file e.header p)

pub there_at : (hid gone : ℕ → Bool) (file : List ℕ) (es : List Entry) (ps : List PlaceAt) (n : ℕ) (p : PlaceAt) → AllAt hid gone file es ps → slice_get ps n ≡ Some p → IsThere hid gone file es n p
there_at hid gone file [] [] n p a is = absurd (none-some p is)
there_at hid gone file [] (q ∷ ps) n p a is = absurd a
there_at hid gone file (e ∷ es) [] n p a is = absurd a
there_at hid gone file (e ∷ es) (q ∷ ps) zero p a is =
    let same : q ≡ p = cc is in record { e = e; there = refl; kept = subst (λ (x : PlaceAt). IsKept hid gone e (entry_at file e.header x)) same a.0 }
there_at hid gone file (e ∷ es) (q ∷ ps) (suc n) p a is =
    let t = there_at hid gone file es ps n p a.1 is in record { e = t.e; there = t.there; kept = t.kept }

pub none_at : (hid gone : ℕ → Bool) (file : List ℕ) (es : List Entry) (ps : List PlaceAt) (n : ℕ) → AllAt hid gone file es ps → slice_get ps n ≡ None → (let none : Option Entry = None in slice_get es n ≡ none)
none_at hid gone file [] [] n a is = refl
none_at hid gone file (e ∷ es) [] n a is = absurd a
none_at hid gone file [] (q ∷ ps) n a is = absurd a
none_at hid gone file (e ∷ es) (q ∷ ps) zero a is = absurd (none-some q (sym is))
none_at hid gone file (e ∷ es) (q ∷ ps) (suc n) a is = none_at hid gone file es ps n a.1 is

-- from a number on
pub get_drop : {A : Type 0} (k n : ℕ) (xs : List A) → k ≤ n → slice_get (drop k xs) (n - k) ≡ slice_get xs n
get_drop zero n xs le = ap (slice_get xs) (omega arith)
get_drop (suc k) zero xs le = absurd (omega (arith, le))
get_drop (suc k) (suc n) [] le = refl
get_drop (suc k) (suc n) (x ∷ xs) le = ap (slice_get (drop k xs)) (omega arith) ∙ get_drop k n xs (omega (arith, le))

-- ---- what a book keeps of a journal

-- the header that the book keeps of a journal
pub get_header : (js : List Entry) (n : ℕ) (journal : Entry) → slice_get js n ≡ Some journal → slice_get (map (λ (j : Entry). j.header) js) n ≡ Some journal.header
get_header [] n journal is = absurd (none-some journal is)
get_header (j ∷ js) zero journal is = ap (λ (o : Option Entry). header_in o) is where
  header_in : Option Entry → Option Header
  header_in None = None
  header_in (Some e) = Some e.header
get_header (j ∷ js) (suc n) journal is = get_header js n journal is

pub header_is : (k : books.Kept) (h : History) (n : ℕ) (journal : Entry) (header : Header) → k.floor ≤ n → slice_get (journals h) n ≡ Some journal → Some header ≡ (if nat_le k.floor n then slice_get (headers h) n else None) → header ≡ journal.header
header_is k h n journal header floor is got =
    let same : Some header ≡ Some journal.header = got ∙ ap (λ v. cond v (slice_get (headers h) n) None) (le-leb k.floor n floor) ∙ get_header (journals h) n journal is in
    cc same

-- each journal has the number of its place
pub numbered : (m : ℕ) (es : List Entry) (n : ℕ) (e : Entry) → AreFrom m es → slice_get es n ≡ Some e → e.header.jsn ≡ m + n
numbered m [] n e from is = absurd (none-some e is)
numbered m (x ∷ es) zero e from is = let same : x ≡ e = cc is in omega (arith, ap (λ (y : Entry). y.header.jsn) same, from.0)
numbered m (x ∷ es) (suc n) e from is = omega (arith, numbered (m + 1) es n e from.2 is)

-- ---- a journal of an open file

-- the places of the journals that a file has, in whichever way it is told which these are
places_one : (h : History) (m n : ℕ) → All IsBlock h.closed → m ≡ n → (x : Parts m h) (y : Parts n h) → places_from (floor_behind h x.gone) x.kept ≡ places_from (floor_behind h y.gone) y.kept
places_one h m n all same x y =
    let parts = one_parts m h all x (record { gone = y.gone; kept = y.kept; are = y.are; at = y.at ∙ sym same }) in
    ap (λ (bs : List (List Entry)). places_from (floor_behind h bs) x.kept) parts.0 ∙ ap (places_from (floor_behind h y.gone)) parts.1

-- the journal with this number, of which this header and this place are told
pub record IsJournalAt (image : List ℕ) (h : History) (n : ℕ) (header : Header) (p : PlaceAt) : Type 0 where
  pub e : Entry
  pub there : slice_get (journals h) n ≡ Some e
  pub header_is : header ≡ e.header
  pub number : e.header.jsn ≡ n
  pub kept : IsKept (is_hidden h) (is_hidden h) e (entry_at image header p)

module _ (image : List ℕ) (h : History) (book : books.Kept) (places : List PlaceAt) (r : IsReadAs book places image h) where
  -- the journals that the file has stand at these places
  pub at_places : AllAt (is_hidden h) (is_hidden h) image (journals_of r.erased.parts.kept) places
  at_places =
      subst (AllAt (is_hidden h) (is_hidden h) image (journals_of r.erased.parts.kept))
      (places_one h (point h) book.floor r.erased.lawful.blocks_are (sym r.floor) r.erased.parts r.ends.parts ∙ sym r.ends.places_are)
      (kept_at (point h) (is_hidden h) image h r.erased)

  -- .. which are those from the point on
  pub from_point : (n : ℕ) → book.floor ≤ n → slice_get (journals_of r.erased.parts.kept) (n - book.floor) ≡ slice_get (journals h) n
  from_point n low =
      ap (λ (es : List Entry). slice_get es (n - book.floor)) (kept_from (point h) h r.erased.none r.erased.parts ∙ ap (λ (p : ℕ). drop p (journals h)) (sym r.floor))
      ∙ get_drop book.floor n (journals h) low

  -- what a book and its places tell of a number is the journal with that number
  pub journal_at : (n : ℕ) (header : Header) (p : PlaceAt) → book.floor ≤ n
      → Some header ≡ (if nat_le book.floor n then slice_get (headers h) n else None)
      → Some p ≡ (if nat_le book.floor n then slice_get places (n - book.floor) else None)
      → IsJournalAt image h n header p
  journal_at n header p low told found =
      let here : Some p ≡ slice_get places (n - book.floor) = found ∙ ap (λ b. cond b (slice_get places (n - book.floor)) None) (le-leb book.floor n low) in
      let t = there_at (is_hidden h) (is_hidden h) image (journals_of r.erased.parts.kept) places (n - book.floor) p at_places (sym here) in
      let there : slice_get (journals h) n ≡ Some t.e = sym (from_point n low) ∙ t.there in
      let same = header_is book h n t.e header low there told in
      record {
        e = t.e;
        there = there;
        header_is = same;
        number = numbered 0 (journals h) n t.e (lawful_from (journals h) r.erased.lawful.journals_are) there ∙ zero-add n;
        kept = subst (λ (x : Header). IsKept (is_hidden h) (is_hidden h) t.e (entry_at image x p)) (sym same) t.kept;
      }

  -- where no place is told there is no such journal
  pub none_there : (n : ℕ) → book.floor ≤ n → (let none : Option PlaceAt = None in none ≡ (if nat_le book.floor n then slice_get places (n - book.floor) else None)) → (let none : Option Entry = None in slice_get (journals h) n ≡ none)
  none_there n low told =
      let none : Option PlaceAt = None in
      let here : none ≡ slice_get places (n - book.floor) = told ∙ ap (λ b. cond b (slice_get places (n - book.floor)) None) (le-leb book.floor n low) in
      sym (from_point n low) ∙ none_at (is_hidden h) (is_hidden h) image (journals_of r.erased.parts.kept) places (n - book.floor) at_places (sym here)
