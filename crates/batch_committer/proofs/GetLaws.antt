-- What is told of a journal that was read is what the history says of it.
use Rattle.std.specs.Prelude.{◌≤◌, ◌-◌, if◌then◌else◌, nat_le, nat_lt, slice_get}
use Rattle.std.proofs.Common.{◌≡◌, ◌⊎◌, inl, inr, ℕ, zero, suc, Bool, true, false, cond, List, [], ◌∷◌, map, Option, Some, None, refl, sym, ◌∙◌, ap, arith}
use Rattle.std.proofs.lemmas.Bool.{le-leb, ltb-false}
use Rattle.std.proofs.lemmas.Option.{none-some}
use Rattle.ledger_bytes.specs.declared.refusal.Refusal.{Refusal}
use Rattle.ledger_bytes.specs.declared.refusal.Refusal.TheVariants.{NoJournal, Purged as PurgedBelow}
use Rattle.journal_record.specs.Entry.{Entry}
use Rattle.journal_record.specs.Header.{spelling}
use Rattle.journal_record.specs.declared.header.Header.{Header}
use Rattle.script_lines.specs.declared.reply.Reply.{Reply}
use Rattle.script_lines.specs.declared.reply.Reply.TheVariants as reply
use Rattle.ledger_model.specs.Getting.{content_damage, who_damage, reply_unless, whole_reply, occulted_reply, reply_on, shown_reply, get_reply}
use Rattle.ledger_model.specs.History.{History, journals, journals_of, size, point}
use Rattle.member_book.specs.Erasures.{first_refusal}
use Rattle.ledger_model.specs.Outcomes.{view}
use Rattle.ledger_model.specs.Targets.{is_hidden}
use Rattle.ledger_model.specs.declared.view.View.{View}
use Rattle.ledger_model.specs.declared.view.View.TheVariants.{Absent, Purged, Occulted, Whole}
use Rattle.ledger_model.proofs.LawfulLaws.{lawful_from}
use Rattle.ledger_book.specs.Books as books
use Rattle.ledger_book.specs.Books.{headers}
use Rattle.ledger_open.specs.Places.{entry_at, AllAt}
use Rattle.block_file.specs.declared.place.PlaceAt.{PlaceAt}
use Rattle.ledger_open.specs.Pieces.{IsReadAs}
use Rattle.ledger_open.proofs.PieceLaws as pieces
use Rattle.ledger_open.proofs.PieceLaws.{IsThere, there_at, none_at, header_is, numbered}

-- ---- the parts of a journal, compared

pub none_of : {A : Type 0} (o : Option A) → ((a : A) → o ≡ Some a → ⊥) → (let none : Option A = None in o ≡ none)
none_of None never = refl
none_of (Some a) never = absurd (never a refl)

pub whole_as : (header : Header) (content who : List ℕ) (first second : Option Refusal) → first ≡ content_damage header content → second ≡ who_damage header who
    → reply_unless (first_refusal (first ∷ second ∷ [])) (reply.Whole (spelling header) content who) ≡ whole_reply header content who
unfolding whole_reply
whole_as header content who first second a b =
    ap (λ o. reply_unless (first_refusal (o ∷ second ∷ [])) (reply.Whole (spelling header) content who)) a
    ∙ ap (λ o. reply_unless (first_refusal (content_damage header content ∷ o ∷ [])) (reply.Whole (spelling header) content who)) b

pub occulted_as : (header : Header) (who : List ℕ) (damage : Option Refusal) → damage ≡ who_damage header who → reply_unless damage (reply.Occulted (spelling header) who) ≡ occulted_reply header who
unfolding occulted_reply
occulted_as header who damage is = ap (λ o. reply_unless o (reply.Occulted (spelling header) who)) is

-- ---- what stands at a journal's place

-- where no header is told there is no journal
no_header : (es : List Entry) (n : ℕ) → (let none : Option Header = None in slice_get (map (λ (e : Entry). e.header) es) n ≡ none) → (let none : Option Entry = None in slice_get es n ≡ none)
no_header [] n is = refl
no_header (e ∷ es) zero is = absurd (none-some e.header (sym is))
no_header (e ∷ es) (suc n) is = no_header es n is

-- a journal that is whole isn't hidden
shown_at : (h : History) (n : ℕ) → Whole ≡ view h n → is_hidden h n ≡ false
unfolding view
shown_at h n is = by_tests (nat_le (size h) n) (nat_lt n (point h)) (is_hidden h n) is where
  by_tests : (absent purged hidden : Bool) → Whole ≡ cond absent Absent (cond purged (Purged (point h)) (cond hidden Occulted Whole)) → hidden ≡ false
  by_tests true purged hidden e = absurd cc
  by_tests false true hidden e = absurd cc
  by_tests false false true e = absurd cc
  by_tests false false false e = refl

-- ---- replies

by_view : (h : History) (n : ℕ) (v : View) (r : Reply) → v ≡ view h n → r ≡ shown_reply h n v → r ≡ get_reply h n
unfolding get_reply
by_view h n v r shown is = is ∙ ap (shown_reply h n) shown

pub told_absent : (h : History) (n : ℕ) (r : Reply) (v : View) → v ≡ Absent → v ≡ view h n → r ≡ reply.Refused (NoJournal (size h)) → r ≡ get_reply h n
told_absent h n r v absent shown is = by_view h n Absent r (sym absent ∙ shown) is

pub told_purged : (h : History) (n p : ℕ) (v : View) → v ≡ Purged p → v ≡ view h n → reply.Refused (PurgedBelow p) ≡ get_reply h n
told_purged h n p v purged shown = by_view h n (Purged p) (reply.Refused (PurgedBelow p)) (sym purged ∙ shown) refl

-- a journal that can be shown lies at the point or behind it
shown_low : (h : History) (n : ℕ) (v : View) → (v ≡ Whole) ⊎ (v ≡ Occulted) → v ≡ view h n → point h ≤ n
unfolding view
shown_low h n v kind shown = by_tests (nat_le (size h) n) (nat_lt n (point h)) (is_hidden h n) refl (elim kind [ inl whole ↦ inl (sym whole ∙ shown) | inr occulted ↦ inr (sym occulted ∙ shown) ]) where
  by_tests : (absent purged hidden : Bool) → nat_lt n (point h) ≡ purged
      → (Whole ≡ cond absent Absent (cond purged (Purged (point h)) (cond hidden Occulted Whole))) ⊎ (Occulted ≡ cond absent Absent (cond purged (Purged (point h)) (cond hidden Occulted Whole))) → point h ≤ n
  by_tests true purged hidden is (inl e) = absurd cc
  by_tests true purged hidden is (inr e) = absurd cc
  by_tests false true hidden is (inl e) = absurd cc
  by_tests false true hidden is (inr e) = absurd cc
  by_tests false false hidden is e = ltb-false n (point h) is

module _ (image : List ℕ) (h : History) (n : ℕ) (book : books.Kept) (places : List PlaceAt) (r : IsReadAs book places image h) (v : View) (shown : v ≡ view h n) where
  abbrev kept : List Entry
  kept = journals_of r.erased.parts.kept

  abbrev told_header : Option Header
  told_header = if nat_le book.floor n then slice_get (headers h) n else None

  abbrev told_place : Option PlaceAt
  told_place = if nat_le book.floor n then slice_get places (n - book.floor) else None

  at_places : AllAt (is_hidden h) (is_hidden h) image (kept) places
  at_places = pieces.at_places image h book places r

  -- the file has the journals from the point on
  from_point : book.floor ≤ n → slice_get (kept) (n - book.floor) ≡ slice_get (journals h) n
  from_point above = pieces.from_point image h book places r n above

  low : (v ≡ Whole) ⊎ (v ≡ Occulted) → book.floor ≤ n
  low kind = omega (arith, r.floor, shown_low h n v kind shown)

  place_there : book.floor ≤ n → (o : Option PlaceAt) → o ≡ told_place → o ≡ slice_get places (n - book.floor)
  place_there low o is = is ∙ ap (λ b. cond b (slice_get places (n - book.floor)) None) (le-leb book.floor n low)

  there : (p : PlaceAt) → book.floor ≤ n → slice_get places (n - book.floor) ≡ Some p → IsThere (is_hidden h) (is_hidden h) image (kept) (n - book.floor) p
  there p low found = there_at (is_hidden h) (is_hidden h) image (kept) places (n - book.floor) p (at_places) found

  -- what was read of a whole journal
  pub told_whole : (header : Header) (p : PlaceAt) → v ≡ Whole → Some header ≡ told_header → Some p ≡ told_place → whole_reply header (entry_at image header p).content (entry_at image header p).who ≡ get_reply h n
  told_whole header p whole is found =
      let above = low (inl whole) in
      let t = there p above (sym (place_there above (Some p) found)) in
      let there_is : slice_get (journals h) n ≡ Some t.e = sym (from_point above) ∙ t.there in
      let number : t.e.header.jsn ≡ n = omega (arith, numbered 0 (journals h) n t.e (lawful_from (journals h) r.erased.lawful.journals_are) there_is) in
      let content : (entry_at image t.e.header p).content ≡ t.e.content = t.kept.shown (ap (is_hidden h) number ∙ shown_at h n (sym whole ∙ shown)) in
      let same : header ≡ t.e.header = header_is book h n t.e header above there_is is in
      by_view h n Whole (whole_reply header (entry_at image header p).content (entry_at image header p).who) (sym whole ∙ shown)
      (ap (λ x. whole_reply x (entry_at image x p).content (entry_at image x p).who) same
      ∙ ap (λ x. whole_reply t.e.header x (entry_at image t.e.header p).who) content
      ∙ ap (λ x. whole_reply t.e.header t.e.content x) t.kept.who
      ∙ ap (reply_on (size h) (λ (e : Entry). whole_reply e.header e.content e.who)) (sym there_is))

  -- .. and of one whose content is hidden
  pub told_occulted : (header : Header) (p : PlaceAt) → v ≡ Occulted → Some header ≡ told_header → Some p ≡ told_place → occulted_reply header (entry_at image header p).who ≡ get_reply h n
  told_occulted header p occulted is found =
      let above = low (inr occulted) in
      let t = there p above (sym (place_there above (Some p) found)) in
      let there_is : slice_get (journals h) n ≡ Some t.e = sym (from_point above) ∙ t.there in
      by_view h n Occulted (occulted_reply header (entry_at image header p).who) (sym occulted ∙ shown)
      (ap (λ x. occulted_reply x (entry_at image x p).who) (header_is book h n t.e header above there_is is)
      ∙ ap (occulted_reply t.e.header) t.kept.who
      ∙ ap (reply_on (size h) (λ (e : Entry). occulted_reply e.header e.who)) (sym there_is))

  not_there : book.floor ≤ n → (let none : Option Header = None in none ≡ told_header) ⊎ (let none : Option PlaceAt = None in none ≡ told_place) → (let none : Option Entry = None in slice_get (journals h) n ≡ none)
  not_there above (inl none) = no_header (journals h) n (sym (none ∙ ap (λ b. cond b (slice_get (headers h) n) None) (le-leb book.floor n above)))
  not_there above (inr none) = sym (from_point above) ∙ none_at (is_hidden h) (is_hidden h) image (kept) places (n - book.floor) (at_places) (sym (place_there above None none))

  -- nothing is read of a journal that has no header or no place, and there is none
  pub told_none : (reply_is : Reply) → (v ≡ Whole) ⊎ (v ≡ Occulted) → (let none : Option Header = None in none ≡ told_header) ⊎ (let none : Option PlaceAt = None in none ≡ told_place) → reply_is ≡ reply.Refused (NoJournal (size h)) → reply_is ≡ get_reply h n
  told_none reply_is (inl whole) none is = by_view h n Whole reply_is (sym whole ∙ shown) (is ∙ ap (reply_on (size h) (λ (e : Entry). whole_reply e.header e.content e.who)) (sym (not_there (low (inl whole)) none)))
  told_none reply_is (inr occulted) none is = by_view h n Occulted reply_is (sym occulted ∙ shown) (is ∙ ap (reply_on (size h) (λ (e : Entry). occulted_reply e.header e.who)) (sym (not_there (low (inr occulted)) none)))
