-- The tests of a claim hold exactly where it is true.
use Rattle.std.proofs.Common.{◌≡◌, inl, inr, ℕ, ◌-◌, ◌*◌, ◌/◌, ◌<◌, ◌≤◌, ◌&&◌, ltb, leb, eqb, Bool, true, List, [], ◌++◌, length, get_or, take, drop, Option, Some, None, Result, Ok, Err, refl, sym, ap, ◌∙◌, subst, arith, eq-eqb}
use Rattle.std.specs.Prelude.{IfSome}
use Rattle.std.specs.Int.{w64, to_be_bytes}
use Rattle.std.specs.Str.{bytes_eq}
use Rattle.std.proofs.lemmas.Bool.{and_from, and_parts, cases_lt, ltb-true, lt-ltb, leb-true, le-leb, eqb-true}
use Rattle.std.proofs.lemmas.List.{get_or_past, take-append-drop, append-nil, nil_from_length}
use Rattle.std.proofs.Math.Seq.{take-append_seam}
use Rattle.ledger_bytes.specs.declared.digest.Digest.{Digest}
use Rattle.ledger_bytes.specs.declared.failure.Bad.{Bad}
use Rattle.ledger_bytes.specs.declared.failure.Bad.TheVariants.{Trailing}
use Rattle.ledger_bytes.specs.declared.mark.TimeMark.{TimeMark}
use Rattle.ledger_bytes.specs.Fields.{Unread, left_from, end_at, IsBytes}
use Rattle.ledger_bytes.proofs.Fields.{bind_ok, check_ok, IsBytes-take, IsBytes-drop}
use Rattle.journal_record.specs.declared.header.Header.{Header}
use Rattle.journal_record.specs.declared.header.Kind.{Kind}
use Rattle.journal_record.specs.declared.header.Kind.TheVariants.{Genesis, Content, Member, Time, Occult, Purge, ClueOccult}
use Rattle.journal_record.specs.Header as journals
use Rattle.journal_record.specs.Reading.{header_at, header_of}
use Rattle.journal_record.proofs.ReadingLaws.{IsWhole, header_back, header_of_only}
use Rattle.tree_model.specs.Tree.{Hash, leaf, cut}
use Rattle.tree_model.proofs.Pieces.{length-cut}
use Rattle.tree_model.proofs.PlacedPieces.{get_or-cut}
use Rattle.time_peg.specs.Entries.{entry_of}
use Rattle.proof_codec.specs.declared.claim.Claim.{Claim}
use Rattle.proof_codec.specs.Reading.{is_time}
use Rattle.audit_core.specs.Truth.{Lists, HasJournal, HasEntry, IsLowerOf, IsUpperOf, IsTrueOf}
use Rattle.audit_core.specs.Deciding.{has_journal, pegged, has_mark, is_entry, is_salted, has_entry, has_salted, is_noted_by, is_lower, is_upper, passes_if, is_true}
use Rattle.audit_core.proofs.PartLaws.{told_same, same_told}

time_kind : (kind : Kind) → is_time kind ≡ true → kind ≡ Time
time_kind Genesis e = absurd cc
time_kind Content e = absurd cc
time_kind Member e = absurd cc
time_kind Time e = refl
time_kind Occult e = absurd cc
time_kind Purge e = absurd cc
time_kind ClueOccult e = absurd cc

-- what bytes are read as is a header with this spelling, whose fields have their widths
whole_header : (bytes : List ℕ) (h : Header) → IsBytes bytes → header_of bytes ≡ Ok h → IsWhole h × (bytes ≡ journals.spelling h)
unfolding header_of
whole_header bytes h fits e =
    let start : Unread = left_from (length bytes) bytes in
    let b = bind_ok (header_at start) (λ read. end_at read.0 read.1) h e in
    let c = check_ok (eqb (length b.0.1.rest) 0) (Trailing (b.0.1.whole - length b.0.1.rest)) b.0.0 h b.2 in
    let took = header_back.takes start b.0.0 b.0.1 fits b.1 in
    let nothing : b.0.1.rest ≡ [] = nil_from_length b.0.1.rest (eqb-true _ _ c.0) in
    let whole : bytes ≡ journals.spelling b.0.0 = took.0.parts ∙ ap (λ (r : List ℕ). journals.spelling b.0.0 ++ r) nothing ∙ append-nil (journals.spelling b.0.0) in
    subst (λ (q : Header). IsWhole q × (bytes ≡ journals.spelling q)) c.1 (took.1, whole)

module _ (hash : Hash) (lists : Lists) (n : ℕ) (digest : Digest) where
  has_found : has_journal hash lists.headers n digest ≡ true → HasJournal hash lists n digest
  has_found e =
      let parts = and_parts (ltb n (length lists.headers)) (bytes_eq (leaf hash (get_or lists.headers n [])) digest.0) e in
      record { within = ltb-true _ _ parts.0; leaf_is = told_same _ _ parts.1 }

  has_of : HasJournal hash lists n digest → has_journal hash lists.headers n digest ≡ true
  has_of it = and_from (ltb n (length lists.headers)) (bytes_eq (leaf hash (get_or lists.headers n [])) digest.0) (lt-ltb _ _ it.within) (same_told _ _ it.leaf_is)

-- ---- entries

-- a list in two, of which the first is told
in_two : (n : ℕ) (xs front : List ℕ) → bytes_eq (take n xs) front ≡ true → xs ≡ front ++ drop n xs
in_two n xs front e = sym (take-append-drop n xs) ∙ ap (λ f. f ++ drop n xs) (told_same _ _ e)

module _ (hash : Hash) (lists : Lists) (mark : TimeMark) where
  abbrev peg : List ℕ
  peg = pegged hash lists.id lists.headers mark.jsn

  abbrev entry : List ℕ
  entry = get_or lists.entries mark.index []

  salted_found : (salt : Digest) → has_mark lists.headers lists.entries mark ≡ true → entry ≡ entry_of mark.time peg salt.0 → HasEntry hash lists mark salt
  salted_found salt mark_is is =
      let places = and_parts (leb mark.jsn (length lists.headers)) (ltb mark.index (length lists.entries)) mark_is in
      record { within = leb-true _ _ places.0; noted = ltb-true _ _ places.1; entry = is }

  mark_of : (salt : Digest) → HasEntry hash lists mark salt → has_mark lists.headers lists.entries mark ≡ true
  mark_of salt it = and_from (leb mark.jsn (length lists.headers)) (ltb mark.index (length lists.entries)) (le-leb _ _ it.within) (lt-ltb _ _ it.noted)

  entry_found : has_entry hash lists mark ≡ true → (salt : Digest) × HasEntry hash lists mark salt
  entry_found e =
      let all = and_parts (has_mark lists.headers lists.entries mark) (is_entry hash lists mark entry) e in
      let both = and_parts (bytes_eq (take 8 entry) (to_be_bytes w64 mark.time)) (bytes_eq (take (length peg) (drop 8 entry)) peg) all.1 in
      let salt : Digest = record { 0 = drop (length peg) (drop 8 entry) } in
      let is : entry ≡ entry_of mark.time peg salt.0 =
      in_two 8 entry (to_be_bytes w64 mark.time) both.0 ∙ ap (λ rest. to_be_bytes w64 mark.time ++ rest) (in_two (length peg) (drop 8 entry) peg both.1) in
      (salt, salted_found salt all.0 is)

  entry_only : (salt : Digest) → HasEntry hash lists mark salt → has_entry hash lists mark ≡ true
  entry_only salt it =
      let first : take 8 entry ≡ to_be_bytes w64 mark.time = ap (take 8) it.entry in
      let second : take (length peg) (drop 8 entry) ≡ peg = ap (λ x. take (length peg) (drop 8 x)) it.entry ∙ take-append_seam peg salt.0 in
      and_from (has_mark lists.headers lists.entries mark) (is_entry hash lists mark entry) (mark_of salt it)
      (and_from (bytes_eq (take 8 entry) (to_be_bytes w64 mark.time)) (bytes_eq (take (length peg) (drop 8 entry)) peg) (same_told _ _ first) (same_told _ _ second))

  has_salted_found : (salt : Digest) → has_salted hash lists mark salt ≡ true → HasEntry hash lists mark salt
  has_salted_found salt e =
      let all = and_parts (has_mark lists.headers lists.entries mark) (is_salted hash lists mark salt entry) e in
      salted_found salt all.0 (told_same _ _ all.1)

  has_salted_only : (salt : Digest) → HasEntry hash lists mark salt → has_salted hash lists mark salt ≡ true
  has_salted_only salt it = and_from (has_mark lists.headers lists.entries mark) (is_salted hash lists mark salt entry) (mark_of salt it) (same_told _ _ it.entry)

  -- ---- bounds

  module _ (n : ℕ) where
    upper_found : is_upper hash lists n mark ≡ true → IsUpperOf hash lists n mark
    upper_found e =
        let all = and_parts (ltb n mark.jsn) (has_entry hash lists mark) e in
        let it = entry_found all.1 in
        record { after = ltb-true _ _ all.0; salt = it.0; noted = it.1 }

    upper_only : IsUpperOf hash lists n mark → is_upper hash lists n mark ≡ true
    upper_only it = and_from (ltb n mark.jsn) (has_entry hash lists mark) (lt-ltb _ _ it.after) (entry_only it.salt it.noted)

    -- a header that was read
    noted_found : (bytes : List ℕ) (read : Result Header Bad) → IsBytes bytes → bytes ≡ get_or lists.headers mark.jsn [] → header_of bytes ≡ read → mark.jsn < n → is_noted_by hash lists mark read ≡ true → IsLowerOf hash lists n mark
    noted_found bytes (Err bad) fits is read before e = absurd cc
    noted_found bytes (Ok h) fits is read before e =
        let whole = whole_header bytes h fits read in
        let all = and_parts (is_time h.kind && eqb h.a mark.index && eqb h.b mark.time) (has_salted hash lists mark h.link) e in
        let front = and_parts (is_time h.kind && eqb h.a mark.index) (eqb h.b mark.time) all.0 in
        let first = and_parts (is_time h.kind) (eqb h.a mark.index) front.0 in
        record {
          before = before;
          header = h;
          is_time = record { rules = whole.0.rules; widths = whole.0.widths; kind = time_kind h.kind first.0 };
          stands = sym is ∙ whole.1;
          index = eqb-true _ _ first.1;
          time = eqb-true _ _ front.1;
          noted = has_salted_found h.link all.1;
        }

    lower_found : IsBytes (get_or lists.headers mark.jsn []) → is_lower hash lists n mark ≡ true → IsLowerOf hash lists n mark
    lower_found fits e =
        let all = and_parts (ltb mark.jsn n && ltb mark.jsn (length lists.headers)) (is_noted_by hash lists mark (header_of (get_or lists.headers mark.jsn []))) e in
        let places = and_parts (ltb mark.jsn n) (ltb mark.jsn (length lists.headers)) all.0 in
        noted_found (get_or lists.headers mark.jsn []) (header_of (get_or lists.headers mark.jsn [])) fits refl refl (ltb-true _ _ places.0) all.1

    lower_only : n < length lists.headers → IsLowerOf hash lists n mark → is_lower hash lists n mark ≡ true
    lower_only within it =
        let h : Header = it.header in
        let read : header_of (get_or lists.headers mark.jsn []) ≡ Ok h = header_of_only (get_or lists.headers mark.jsn []) h it.is_time.rules it.is_time.widths it.stands in
        let kind : is_time h.kind ≡ true = ap is_time it.is_time.kind in
        let told : is_noted_by hash lists mark (Ok h) ≡ true =
        and_from (is_time h.kind && eqb h.a mark.index && eqb h.b mark.time) (has_salted hash lists mark h.link)
        (and_from (is_time h.kind && eqb h.a mark.index) (eqb h.b mark.time) (and_from (is_time h.kind) (eqb h.a mark.index) kind (eq-eqb _ _ it.index)) (eq-eqb _ _ it.time))
        (has_salted_only h.link it.noted) in
        and_from (ltb mark.jsn n && ltb mark.jsn (length lists.headers)) (is_noted_by hash lists mark (header_of (get_or lists.headers mark.jsn [])))
        (and_from (ltb mark.jsn n) (ltb mark.jsn (length lists.headers)) (lt-ltb _ _ it.before) (lt-ltb _ _ (omega (arith, it.before, within))))
        (ap (is_noted_by hash lists mark) read ∙ told)

-- ---- claims

-- each header of the lists is bytes
abbrev pub AreBytes : List (List ℕ) → Type 0
AreBytes list = (n : ℕ) → IsBytes (get_or list n [])

module _ (hash : Hash) (lists : Lists) (n : ℕ) where
  lower_if_found : AreBytes lists.headers → (lo : Option TimeMark) → passes_if (is_lower hash lists n) lo ≡ true → IfSome lo (IsLowerOf hash lists n)
  lower_if_found fits None e = tt
  lower_if_found fits (Some mark) e = lower_found hash lists mark n (fits mark.jsn) e

  lower_if_only : n < length lists.headers → (lo : Option TimeMark) → IfSome lo (IsLowerOf hash lists n) → passes_if (is_lower hash lists n) lo ≡ true
  lower_if_only within None it = refl
  lower_if_only within (Some mark) it = lower_only hash lists mark n within it

  upper_if_found : (hi : Option TimeMark) → passes_if (is_upper hash lists n) hi ≡ true → IfSome hi (IsUpperOf hash lists n)
  upper_if_found None e = tt
  upper_if_found (Some mark) e = upper_found hash lists mark n e

  upper_if_only : (hi : Option TimeMark) → IfSome hi (IsUpperOf hash lists n) → passes_if (is_upper hash lists n) hi ≡ true
  upper_if_only None it = refl
  upper_if_only (Some mark) it = upper_only hash lists mark n it

module _ (hash : Hash) (lists : Lists) (claim : Claim) where
  pub true_found : AreBytes lists.headers → is_true hash lists claim ≡ true → IsTrueOf hash lists claim
  true_found fits e =
      let has : Bool = has_journal hash lists.headers claim.n claim.leaf in
      let all = and_parts (has && passes_if (is_lower hash lists claim.n) claim.lo) (passes_if (is_upper hash lists claim.n) claim.hi) e in
      let front = and_parts has (passes_if (is_lower hash lists claim.n) claim.lo) all.0 in
      record {
        journal = has_found hash lists claim.n claim.leaf front.0;
        lower = lower_if_found hash lists claim.n fits claim.lo front.1;
        upper = upper_if_found hash lists claim.n claim.hi all.1;
      }

  pub true_only : IsTrueOf hash lists claim → is_true hash lists claim ≡ true
  true_only it =
      let has : Bool = has_journal hash lists.headers claim.n claim.leaf in
      and_from (has && passes_if (is_lower hash lists claim.n) claim.lo) (passes_if (is_upper hash lists claim.n) claim.hi)
      (and_from has (passes_if (is_lower hash lists claim.n) claim.lo) (has_of hash lists claim.n claim.leaf it.journal) (lower_if_only hash lists claim.n it.journal.within claim.lo it.lower))
      (upper_if_only hash lists claim.n claim.hi it.upper)

-- ---- flat bytes

pub mark_places : (headers entries : List ℕ) (mark : TimeMark) (told : Bool) → told ≡ has_mark (cut 174 headers) (cut 72 entries) mark → told ≡ true
    → (mark.jsn ≤ length headers / 174) × (mark.index < length entries / 72)
mark_places headers entries mark told is e =
    let all = and_parts (leb mark.jsn (length (cut 174 headers))) (ltb mark.index (length (cut 72 entries))) (sym is ∙ e) in
    (subst (λ k. mark.jsn ≤ k) (length-cut 174 headers) (leb-true _ _ all.0), subst (λ k. mark.index < k) (length-cut 72 entries) (ltb-true _ _ all.1))

-- bytes in pieces are pieces of bytes
pub pieces_bytes : (bytes : List ℕ) → IsBytes bytes → AreBytes (cut 174 bytes)
pieces_bytes bytes fits n = elim (cases_lt n (length (cut 174 bytes))) [
  | inl within ↦
      let place : n < length bytes / 174 = subst (λ k. n < k) (length-cut 174 bytes) within in
      subst IsBytes (sym (get_or-cut n 174 bytes place)) (IsBytes-take 174 (drop (n * 174) bytes) (IsBytes-drop (n * 174) bytes fits))
  | inr beyond ↦ subst IsBytes (sym (get_or_past (cut 174 bytes) n [] beyond)) (λ i. omega arith)
]
