-- Reading the records of a body.
use Rattle.std.specs.Int.{from_be_bytes, to_be_bytes, w32, w64}
use Rattle.std.specs.Prelude.{◌||◌, ◌&&◌, not, nat_lt, Err}
use Rattle.std.proofs.Common.{◌≡◌, inl, inr, ℕ, zero, suc, ◌+◌, ◌-◌, ◌<◌, ◌≤◌, Bool, true, false, cond, List, [], ◌∷◌, ◌++◌, length, take, drop, refl, sym, ◌∙◌, ap, subst, arith, append_assoc, append-nil, length-append, length-take, length-drop}
use Rattle.std.proofs.lemmas.List.{take_at, drop_at, drop-drop, take-append-drop}
use Rattle.std.proofs.lemmas.Nat.{from_be_bytes-to_be_bytes_4, be_bytes_4}
use Rattle.ledger_bytes.specs.Fields.{IsBytes}
use Rattle.ledger_bytes.specs.declared.failure.Bad.{Bad}
use Rattle.ledger_bytes.proofs.Fields.{IsBytes-drop, IsBytes-take}
use Rattle.std.proofs.lemmas.Bool.{true≢false, cases_lt, lt-ltb, le-ltb, ltb-false}
use Rattle.journal_record.specs.declared.approval.TheConstants.{WHO_LIMIT}
use Rattle.journal_record.specs.Blocks.{record_bytes, body_of}
use Rattle.journal_record.specs.Entry.{Entry}
use Rattle.journal_record.specs.Header.{spelling, HasWidths, code_of}
use Rattle.journal_record.specs.Reading.{header_of}
use Rattle.journal_record.specs.Records.{number_4, next_len, breaks, sum_of, fills, IsReadable, AreReadable, BreaksAt}
use Rattle.journal_record.specs.Rules.{IsHeader}
use Rattle.journal_record.specs.declared.header.Header.{Header}
use Rattle.block_file.specs.Blocks.{record_at, records_from}
use Rattle.block_file.specs.declared.block.RecordAt.{RecordAt}

-- so many records of the body are left, and the others were read
pub record Taken (count left : ℕ) (body rest : List ℕ) (at place : ℕ) (records : List RecordAt) : Type 0 where
  pub es : List Entry
  pub readable : AreReadable es
  pub is : body ≡ body_of es ++ rest
  pub number : length es + left ≡ count
  pub fill : fills left rest ≡ true
  pub places : records ≡ records_from at es
  pub here : place ≡ at + length (body_of es)

-- ---- one record more of a body

suc_of : (n : ℕ) → 0 < n → n ≡ suc (n - 1)
suc_of zero lt = absurd (omega (arith, lt))
suc_of (suc n) lt = omega arith

module _ (n : ℕ) (body : List ℕ) (some : 0 < n) where
  pub fills_broken : breaks body ≡ true → fills n body ≡ false
  fills_broken b = ap (λ (k : ℕ). fills k body) (suc_of n some) ∙ ap (λ (v : Bool). not v && fills (n - 1) (drop (next_len body) body)) b

  pub fills_more : breaks body ≡ false → fills n body ≡ fills (n - 1) (drop (next_len body) body)
  fills_more b = ap (λ (k : ℕ). fills k body) (suc_of n some) ∙ ap (λ (v : Bool). not v && fills (n - 1) (drop (next_len body) body)) b

  pub sum_broken : breaks body ≡ true → sum_of n body ≡ next_len body
  sum_broken b = ap (λ (k : ℕ). sum_of k body) (suc_of n some) ∙ ap (λ (v : Bool). cond v (next_len body) (next_len body + sum_of (n - 1) (drop (next_len body) body))) b

  pub sum_more : breaks body ≡ false → sum_of n body ≡ next_len body + sum_of (n - 1) (drop (next_len body) body)
  sum_more b = ap (λ (k : ℕ). sum_of k body) (suc_of n some) ∙ ap (λ (v : Bool). cond v (next_len body) (next_len body + sum_of (n - 1) (drop (next_len body) body))) b

  pub whole_here : fills n body ≡ true → breaks body ≡ false
  whole_here f = elim (breaks body) as (λ v. breaks body ≡ v → breaks body ≡ false) [ true ↦ λ b. absurd (true≢false (sym f ∙ fills_broken b)) | false ↦ λ b. b ] refl

-- a record that doesn't break ends in the body, and its approvals aren't too long
pub record Whole (body : List ℕ) : Type 0 where
  pub long : 178 ≤ length body
  pub len : next_len body ≡ 178 + number_4 106 body + number_4 174 body
  pub within : next_len body ≤ length body
  pub who : number_4 174 body ≤ WHO_LIMIT

pub whole_record : (body : List ℕ) → breaks body ≡ false → Whole body
whole_record body b =
    let two = or_parts (nat_lt (length body) (next_len body)) (nat_lt WHO_LIMIT (number_4 174 body)) b in
    let within : next_len body ≤ length body = ltb-false (length body) (next_len body) two.0 in
    let who : number_4 174 body ≤ WHO_LIMIT = ltb-false WHO_LIMIT (number_4 174 body) two.1 in
    elim (cases_lt (length body) 178) [
      | inl lt ↦ absurd (omega (arith, within, lt, ap (λ (v : Bool). cond v 178 (178 + number_4 106 body + number_4 174 body)) (lt-ltb (length body) 178 lt)))
      | inr ge ↦ record { long = ge; len = ap (λ (v : Bool). cond v 178 (178 + number_4 106 body + number_4 174 body)) (le-ltb (length body) 178 ge); within = within; who = who }
    ] where
      or_parts : (x y : Bool) → (x || y) ≡ false → (x ≡ false) × (y ≡ false)
      or_parts true y e = absurd (true≢false e)
      or_parts false y e = (refl, e)

-- ---- a record from its parts

pub content_len_at : (h : Header) (rest : List ℕ) → HasWidths h → take 4 (drop 106 (spelling h ++ rest)) ≡ to_be_bytes w32 h.content_len
unfolding spelling
content_len_at h rest w =
    let front : List ℕ = h.version ∷ [] ++ code_of h.kind ∷ [] ++ to_be_bytes w64 h.jsn ++ to_be_bytes w32 h.member ++ h.clue.0 ++ to_be_bytes w32 h.clue_ord ++ to_be_bytes w64 h.clue_prev ++ to_be_bytes w64 h.a ++ to_be_bytes w64 h.b ++ h.link.0 in
    let flat : spelling h ++ rest ≡ front ++ (to_be_bytes w32 h.content_len ++ (h.content_digest.0 ++ (h.who_digest.0 ++ rest))) =
    append_assoc (front ++ to_be_bytes w32 h.content_len ++ h.content_digest.0) h.who_digest.0 rest
    ∙ append_assoc (front ++ to_be_bytes w32 h.content_len) h.content_digest.0 (h.who_digest.0 ++ rest)
    ∙ append_assoc front (to_be_bytes w32 h.content_len) (h.content_digest.0 ++ (h.who_digest.0 ++ rest)) in
    let size : length front ≡ 106 = simp length-append (omega (arith, w.clue, w.link)) in
    ap (λ (l : List ℕ). take 4 (drop 106 l)) flat ∙ ap (λ (l : List ℕ). take 4 l) (drop_at front (to_be_bytes w32 h.content_len ++ (h.content_digest.0 ++ (h.who_digest.0 ++ rest))) 106 size) ∙ take_at (to_be_bytes w32 h.content_len) (h.content_digest.0 ++ (h.who_digest.0 ++ rest)) 4 refl

joined : (h tail body number : List ℕ) (cl wl : ℕ) → h ++ tail ≡ body → number ≡ take 4 tail
    → body ≡ (h ++ (number ++ (take cl (drop 4 tail) ++ take wl (drop cl (drop 4 tail))))) ++ drop wl (drop cl (drop 4 tail))
joined h tail body number cl wl whole is =
    let back : (take cl (drop 4 tail) ++ take wl (drop cl (drop 4 tail))) ++ drop wl (drop cl (drop 4 tail)) ≡ drop 4 tail =
    append_assoc (take cl (drop 4 tail)) (take wl (drop cl (drop 4 tail))) (drop wl (drop cl (drop 4 tail)))
    ∙ ap (λ (l : List ℕ). take cl (drop 4 tail) ++ l) (take-append-drop wl (drop cl (drop 4 tail))) ∙ take-append-drop cl (drop 4 tail) in
    sym (append_assoc h (number ++ (take cl (drop 4 tail) ++ take wl (drop cl (drop 4 tail)))) (drop wl (drop cl (drop 4 tail)))
    ∙ ap (λ (l : List ℕ). h ++ l) (append_assoc number (take cl (drop 4 tail) ++ take wl (drop cl (drop 4 tail))) (drop wl (drop cl (drop 4 tail)))
    ∙ ap (λ (l : List ℕ). number ++ l) back ∙ ap (λ (l : List ℕ). l ++ drop 4 tail) is ∙ take-append-drop 4 tail)
    ∙ whole)

-- the first record of some bytes
pub record First (rest : List ℕ) (h : Header) : Type 0 where
  pub entry : Entry
  pub header : entry.header ≡ h
  pub readable : IsReadable entry
  pub who : length entry.who ≡ number_4 174 rest
  pub is : rest ≡ record_bytes entry ++ drop (next_len rest) rest

module _ (rest : List ℕ) (h : Header) (bytes : IsBytes rest) (rules : IsHeader h) (widths : HasWidths h) (front : spelling h ≡ take 174 rest) (w : Whole rest) where
  content_number : number_4 106 rest ≡ h.content_len
  content_number =
      ap (λ (l : List ℕ). from_be_bytes w32 (take 4 (drop 106 l))) (sym (take-append-drop 174 rest) ∙ ap (λ (l : List ℕ). l ++ drop 174 rest) (sym front))
      ∙ ap (λ (l : List ℕ). from_be_bytes w32 l) (content_len_at h (drop 174 rest) widths) ∙ from_be_bytes-to_be_bytes_4 h.content_len widths.content_len

  tail : List ℕ
  tail = drop 4 (drop 174 rest)

  tail_is : tail ≡ drop 178 rest
  unfolding tail
  tail_is = drop-drop 4 174 rest

  content_size : length (take h.content_len tail) ≡ h.content_len
  content_size = omega (arith, length-take h.content_len tail, ap length tail_is, length-drop 178 rest, content_number, w.len, w.within)

  who_size : length (take (number_4 174 rest) (drop h.content_len tail)) ≡ number_4 174 rest
  who_size = omega (arith, length-take (number_4 174 rest) (drop h.content_len tail), length-drop h.content_len tail, ap length tail_is, length-drop 178 rest, content_number, w.len, w.within)

  number_text : to_be_bytes w32 (length (take (number_4 174 rest) (drop h.content_len tail))) ≡ take 4 (drop 174 rest)
  number_text =
      ap (λ (k : ℕ). to_be_bytes w32 k) who_size
      ∙ be_bytes_4 (take 4 (drop 174 rest)) (number_4 174 rest) (omega (arith, length-take 4 (drop 174 rest), length-drop 174 rest, w.long)) (λ i. omega (arith, IsBytes-take 4 (drop 174 rest) (IsBytes-drop 174 rest bytes) i)) refl

  behind_is : drop (number_4 174 rest) (drop h.content_len tail) ≡ drop (next_len rest) rest
  behind_is =
      let e : 178 + h.content_len + number_4 174 rest ≡ next_len rest = omega (arith, content_number, w.len) in
      ap (λ (l : List ℕ). drop (number_4 174 rest) (drop h.content_len l)) tail_is ∙ ap (drop (number_4 174 rest)) (drop-drop h.content_len 178 rest) ∙ drop-drop (number_4 174 rest) (178 + h.content_len) rest ∙ ap (λ (k : ℕ). drop k rest) e

  pub first_record : First rest h
  unfolding tail
  first_record = record {
    entry = record { header = h; content = take h.content_len tail; who = take (number_4 174 rest) (drop h.content_len tail) };
    header = refl;
    readable = record { rules = rules; widths = widths; content = content_size; who = omega (arith, who_size, w.who) };
    who = who_size;
    is = joined (spelling h) (drop 174 rest) rest _ h.content_len (number_4 174 rest) (ap (λ (l : List ℕ). l ++ drop 174 rest) front ∙ take-append-drop 174 rest) number_text
        ∙ ap (λ (l : List ℕ). record_bytes (record { header = h; content = take h.content_len tail; who = take (number_4 174 rest) (drop h.content_len tail) }) ++ l) behind_is;
  }

-- ---- the records so far

readable_more : (es : List Entry) (e : Entry) → AreReadable es → IsReadable e → AreReadable (es ++ e ∷ [])
readable_more [] e a r = (r, tt)
readable_more (x ∷ xs) e a r = (a.0, readable_more xs e a.1 r)

body_more : (es : List Entry) (e : Entry) → body_of (es ++ e ∷ []) ≡ body_of es ++ record_bytes e
body_more [] e = append-nil (record_bytes e)
body_more (x ∷ xs) e = ap (λ (l : List ℕ). record_bytes x ++ l) (body_more xs e) ∙ sym (append_assoc (record_bytes x) (body_of xs) (record_bytes e))

records_more : (at : ℕ) (es : List Entry) (e : Entry) → records_from at (es ++ e ∷ []) ≡ records_from at es ++ record_at (at + length (body_of es)) e ∷ []
records_more at [] e = let z : at ≡ at + 0 = omega arith in ap (λ (n : ℕ). record_at n e ∷ []) z
records_more at (x ∷ xs) e =
    let z : at + length (record_bytes x) + length (body_of xs) ≡ at + length (body_of (x ∷ xs)) = omega (arith, length-append (record_bytes x) (body_of xs)) in
    ap (λ (l : List RecordAt). record_at at x ∷ l) (records_more (at + length (record_bytes x)) xs e ∙ ap (λ (n : ℕ). records_from (at + length (record_bytes x)) xs ++ record_at n e ∷ []) z)

place_same : (e : Entry) (n p w : ℕ) (k : Header) → e.header ≡ k → length e.who ≡ w → p ≡ n → (let a : RecordAt = record { header = k; content_at = p + 178; who_at = p + 178 + k.content_len; who_len = w } in a ≡ record_at n e)
place_same e n p w k hh ww pp =
    ap (λ (x : Header). record { header = x; content_at = p + 178; who_at = p + 178 + x.content_len; who_len = w }) (sym hh)
    ∙ ap (λ (x : ℕ). record { header = e.header; content_at = p + 178; who_at = p + 178 + e.header.content_len; who_len = x }) (sym ww)
    ∙ ap (λ (x : ℕ). record_at x e) pp

module _ (count left : ℕ) (body rest : List ℕ) (at place : ℕ) (records : List RecordAt) (t : Taken count left body rest at place records) (some : 0 < left) where
  pub whole : Whole rest
  whole = whole_record rest (whole_here left rest some t.fill)

  pub rest_bytes : IsBytes body → IsBytes rest
  rest_bytes b = subst IsBytes (ap (drop (length (body_of t.es))) t.is ∙ drop_at (body_of t.es) rest (length (body_of t.es)) refl) (IsBytes-drop (length (body_of t.es)) body b)

  pub room : place + length rest ≡ at + length body
  room = omega (arith, t.here, ap length t.is, length-append (body_of t.es) rest)

  module _ (h : Header) (bytes : IsBytes rest) (rules : IsHeader h) (widths : HasWidths h) (front : spelling h ≡ take 174 rest) where
    one : First rest h
    one = first_record rest h bytes rules widths front whole

    pub content_fits : h.content_len + 178 + number_4 174 rest ≡ next_len rest
    content_fits = let x = whole in omega (arith, content_number rest h bytes rules widths front whole, x.len)

    pub taken_more : (behind : List ℕ) (len : ℕ) (more : List RecordAt) → behind ≡ drop (next_len rest) rest → len ≡ next_len rest
        → more ≡ records ++ record { header = h; content_at = place + 178; who_at = place + 178 + h.content_len; who_len = number_4 174 rest } ∷ []
        → Taken count (left - 1) body behind at (place + len) more
    taken_more behind len more b l m =
        let e = one.entry in
        let x = whole in
        let is : body ≡ body_of (t.es ++ one.entry ∷ []) ++ drop (next_len rest) rest =
        t.is ∙ ap (λ (z : List ℕ). body_of t.es ++ z) one.is ∙ sym (append_assoc (body_of t.es) (record_bytes one.entry) (drop (next_len rest) rest)) ∙ ap (λ (z : List ℕ). z ++ drop (next_len rest) rest) (sym (body_more t.es one.entry)) in
        let size : length (record_bytes one.entry) ≡ next_len rest = omega (arith, ap length one.is, length-append (record_bytes one.entry) (drop (next_len rest) rest), length-drop (next_len rest) rest, x.within) in
        record {
          es = t.es ++ one.entry ∷ [];
          readable = readable_more t.es one.entry t.readable one.readable;
          is = is ∙ ap (λ (z : List ℕ). body_of (t.es ++ one.entry ∷ []) ++ z) (sym b);
          number = omega (arith, length-append t.es (one.entry ∷ []), t.number, some);
          fill = ap (fills (left - 1)) b ∙ sym (fills_more left rest some (whole_here left rest some t.fill)) ∙ t.fill;
          places = m ∙ ap (λ (z : List RecordAt). z ++ record { header = h; content_at = place + 178; who_at = place + 178 + h.content_len; who_len = number_4 174 rest } ∷ []) t.places
              ∙ ap (λ (z : RecordAt). records_from at t.es ++ z ∷ []) (place_same one.entry (at + length (body_of t.es)) place (number_4 174 rest) h one.header one.who t.here)
              ∙ sym (records_more at t.es one.entry);
          here = omega (arith, t.here, ap length (body_more t.es one.entry), length-append (body_of t.es) (record_bytes one.entry), size, l);
        }

  pub broken : (bad : Bad) → header_of (take 174 rest) ≡ Err bad → BreaksAt count body (count - left)
  broken bad err = record { es = t.es; readable = t.readable; rest = rest; is = t.is; number = omega (arith, t.number); fewer = omega (arith, t.number, some); bad = bad; undecoded = err }

pub pushed : (new old : List RecordAt) (h : Header) (p f w cl wl : ℕ) → new ≡ old ++ record { header = h; content_at = p + 178; who_at = p + 178 + f; who_len = w } ∷ [] → f ≡ cl → w ≡ wl
    → new ≡ old ++ record { header = h; content_at = p + 178; who_at = p + 178 + cl; who_len = wl } ∷ []
pushed new old h p f w cl wl is a b =
    is ∙ ap (λ (x : ℕ). old ++ record { header = h; content_at = p + 178; who_at = p + 178 + x; who_len = w } ∷ []) a
    ∙ ap (λ (x : ℕ). old ++ record { header = h; content_at = p + 178; who_at = p + 178 + cl; who_len = x } ∷ []) b
