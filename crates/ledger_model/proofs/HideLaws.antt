-- Which journals hide others, and which are hidden.
use Rattle.std.specs.Prelude.{IsTrue, find, slice_get, bytes_eq, nat_lt, not, ◌==◌, option_map}
use Rattle.std.specs.List.{list_any, list_all}
use Rattle.std.specs.Option.{is_some}
use Rattle.std.proofs.Common.{◌≡◌, ◌⊎◌, inl, inr, subst, ℕ, zero, suc, ◌+◌, ◌<◌, ◌≤◌, ◌&&◌, ◌||◌, Bool, true, false, cond, List, [], ◌∷◌, ◌++◌, length, map, get_or, Option, Some, None, refl, sym, ◌∙◌, ap, arith, append_assoc, length-append}
use Rattle.std.proofs.lemmas.Bool.{eqb-true, ltb-true, ltb-false, true≢false, lt-ltb, and_from, and_parts, false_from_ne_true}
use Rattle.std.proofs.lemmas.List.{map-append, length-map, get_or_append_left}
use Rattle.std.proofs.lemmas.Slice.Eq.{bytes_eq-Decides}
use Rattle.std.proofs.lemmas.Option.{slice_get_within, slice_get-get_or, get_or_from_slice_get}
use Rattle.ledger_bytes.specs.Digests.{zero_digest}
use Rattle.ledger_bytes.specs.declared.digest.Digest.{Digest}
use Rattle.journal_record.specs.Entry.{Entry}
use Rattle.journal_record.specs.Rules.{IsHeader, a_ok, clue_ok, is_no_clue}
use Rattle.journal_record.specs.declared.header.Header.{Header}
use Rattle.journal_record.specs.declared.header.Kind.{Kind}
use Rattle.journal_record.specs.declared.header.Kind.TheVariants as kind
use Rattle.ledger_model.specs.Clues.{has_clue, is_of_clue}
use Rattle.ledger_model.specs.History.{History, history, journals}
use Rattle.ledger_model.specs.Lawful.{IsNextOf, AreNext, AreLawful, gathers, AllGather}
use Rattle.member_book.specs.Erasures.{is_record}
use Rattle.ledger_model.specs.Targets.{is_occult, names, hides_as, hides, is_hidden_by, is_hidden, hider_among, hider, kind_at}
use Rattle.ledger_model.proofs.LawfulLaws.{AreFrom, lawful_from, genesis_first}

-- a journal that gathers hides none
gathers_shows : (k : Kind) (x target : Header) → gathers k ≡ true → hides_as k x target ≡ false
gathers_shows kind.Genesis x target is = refl
gathers_shows kind.Content x target is = refl
gathers_shows kind.Member x target is = refl
gathers_shows kind.Time x target is = refl
gathers_shows kind.Occult x target is = absurd (true≢false (sym is))
gathers_shows kind.Purge x target is = refl
gathers_shows kind.ClueOccult x target is = absurd (true≢false (sym is))

pub gathered_show : (target : Entry) (es : List Entry) → AllGather es → list_any (hides target) es ≡ false
gathered_show target [] all = refl
gathered_show target (e ∷ es) all =
    let parts = and_parts (gathers e.header.kind) (list_all (λ (x : Entry). gathers x.header.kind) es) all in
    ap (λ v. v || list_any (hides target) es) (gathers_shows e.header.kind e.header target.header parts.0) ∙ gathered_show target es parts.1

-- The first of some journals that has a property: whether one has it, and how a journal more changes that.

-- the number of the first of some journals that has a property
abbrev pub first_with : (Entry → Bool) → List Entry → Option ℕ
first_with p es = option_map (λ (j : Entry). j.header.jsn) (find p es)

pub named_is : (p : Entry → Bool) (es : List Entry) → list_any p es ≡ is_some (first_with p es)
named_is p [] = refl
named_is p (e ∷ es) = elim (p e) as (λ v. (v || list_any p es) ≡ is_some (option_map (λ (j : Entry). j.header.jsn) (cond v (Some e) (find p es)))) [
  | true ↦ refl
  | false ↦ named_is p es
]

-- a journal more that hasn't the property, and one that has it
pub hider_same : (p : Entry → Bool) (es : List Entry) (e : Entry) → p e ≡ false → first_with p (es ++ e ∷ []) ≡ first_with p es
hider_same p [] e is = ap (λ v. option_map (λ (j : Entry). j.header.jsn) (cond v (Some e) None)) is
hider_same p (x ∷ es) e is = elim (p x) as (λ v. option_map (λ (j : Entry). j.header.jsn) (cond v (Some x) (find p (es ++ e ∷ []))) ≡ option_map (λ (j : Entry). j.header.jsn) (cond v (Some x) (find p es))) [
  | true ↦ refl
  | false ↦ hider_same p es e is
]

pub hider_new : (p : Entry → Bool) (es : List Entry) (e : Entry) → is_some (first_with p es) ≡ false → p e ≡ true → first_with p (es ++ e ∷ []) ≡ Some e.header.jsn
hider_new p [] e none is = ap (λ v. option_map (λ (j : Entry). j.header.jsn) (cond v (Some e) None)) is
hider_new p (x ∷ es) e none is = elim (p x) as (λ v. is_some (option_map (λ (j : Entry). j.header.jsn) (cond v (Some x) (find p es))) ≡ false → option_map (λ (j : Entry). j.header.jsn) (cond v (Some x) (find p (es ++ e ∷ []))) ≡ Some e.header.jsn) [
  | true ↦ λ no. absurd (true≢false no)
  | false ↦ λ more. hider_new p es e more is
] none

-- .. and the first stays the first
first_kept : (p : Entry → Bool) (es : List Entry) (e : Entry) (j : ℕ) → first_with p es ≡ Some j → first_with p (es ++ e ∷ []) ≡ Some j
first_kept p [] e j is = absurd cc
first_kept p (x ∷ es) e j is = elim (p x) as (λ v. option_map (λ (j : Entry). j.header.jsn) (cond v (Some x) (find p es)) ≡ Some j → option_map (λ (j : Entry). j.header.jsn) (cond v (Some x) (find p (es ++ e ∷ []))) ≡ Some j) [
  | true ↦ λ here. here
  | false ↦ λ more. first_kept p es e j more
] is

-- only journals behind number n have the property
abbrev pub IsBehind : (Entry → Bool) → ℕ → Type 0
IsBehind p n = (e : Entry) → IsHeader e.header → e.header.jsn ≤ n → p e ≡ false

-- .. so none of those up to n has it
pub none_named : (p : Entry → Bool) (m n : ℕ) (es : List Entry) → IsBehind p n → AreFrom m es → m + length es ≤ n + 1 → (let none : Option ℕ = None in first_with p es ≡ none)
none_named p m n [] behind from few = refl
none_named p m n (e ∷ es) behind from few =
    ap (λ v. option_map (λ (j : Entry). j.header.jsn) (cond v (Some e) (find p es))) (behind e from.1 (omega (arith, from.0, few)))
    ∙ none_named p (m + 1) n es behind from.2 (omega (arith, few))

-- .. and the first that has it is behind n
pub first_behind : (p : Entry → Bool) (n m : ℕ) (es : List Entry) (j : ℕ) → IsBehind p n → AreFrom m es → first_with p es ≡ Some j → n < j
first_behind p n m [] j behind from is = absurd cc
first_behind p n m (e ∷ es) j behind from is = elim (p e) as (λ v. p e ≡ v → option_map (λ (x : Entry). x.header.jsn) (cond v (Some e) (find p es)) ≡ Some j → n < j) [
  | true ↦ λ has here. let same : e.header.jsn ≡ j = cc in by_place (nat_lt n j) refl has same
  | false ↦ λ hasnt more. first_behind p n (m + 1) es j behind from.2 more
] refl is where
  by_place : (lt : Bool) → nat_lt n j ≡ lt → p e ≡ true → e.header.jsn ≡ j → n < j
  by_place true lt has same = ltb-true n j lt
  by_place false lt has same = absurd (true≢false (sym has ∙ behind e from.1 (omega (arith, same, ltb-false n j lt))))

-- what is hidden has a journal that hides it first
hidden_among : (es : List Entry) (target : Option Entry) → is_hidden_by es target ≡ is_some (hider_among es target)
hidden_among es None = refl
hidden_among es (Some target) = named_is (hides target) es

pub hidden_is : (h : History) (n : ℕ) → is_hidden h n ≡ is_some (hider h n)
hidden_is h n = hidden_among (journals h) (slice_get (journals h) n)

-- what is hidden is a record: an occult names one among the journals before it, and one by clue hides no others
abbrev kind_in : List Entry → ℕ → Kind
kind_in es n = get_or (map (λ (j : Entry). j.header.kind) es) n kind.Genesis

kind_before : (before more : List Entry) (n : ℕ) → n < length before → kind_in (before ++ more) n ≡ kind_in before n
kind_before before more n lt =
    ap (λ ks. get_or ks n kind.Genesis) (map-append (λ (j : Entry). j.header.kind) before more)
    ∙ get_or_append_left (map (λ (j : Entry). j.header.kind) before) (map (λ (j : Entry). j.header.kind) more) kind.Genesis n (omega (arith, lt, length-map before (λ (j : Entry). j.header.kind)))

record_kind : (k : Kind) → is_record k ≡ true → k ≡ kind.Content
record_kind kind.Content is = refl
record_kind kind.Genesis is = absurd (true≢false (sym is))
record_kind kind.Member is = absurd (true≢false (sym is))
record_kind kind.Time is = absurd (true≢false (sym is))
record_kind kind.Occult is = absurd (true≢false (sym is))
record_kind kind.Purge is = absurd (true≢false (sym is))
record_kind kind.ClueOccult is = absurd (true≢false (sym is))

-- a record, among these journals or by its own header
abbrev IsRecordIn : List Entry → Header → Type 0
IsRecordIn es target = ((target.jsn < length es) × (kind_in es target.jsn ≡ kind.Content)) ⊎ (target.kind ≡ kind.Content)

hides_record : (before : List Entry) (x : Header) (k : Kind) (target : Header) → IsNextOf (history [] before) x k → hides_as k x target ≡ true → IsRecordIn before target
hides_record before x kind.Occult target own is =
    let at = eqb-true x.a target.jsn is in
    inl (omega (arith, own.before, at), ap (kind_in before) (sym at) ∙ own.target_is)
hides_record before x kind.ClueOccult target own is =
    inr (record_kind target.kind (and_parts (is_record target.kind) (nat_lt target.jsn x.jsn && bytes_eq x.link.0 target.clue.0) is).0)
hides_record before x kind.Genesis target own is = absurd (true≢false (sym is))
hides_record before x kind.Content target own is = absurd (true≢false (sym is))
hides_record before x kind.Member target own is = absurd (true≢false (sym is))
hides_record before x kind.Time target own is = absurd (true≢false (sym is))
hides_record before x kind.Purge target own is = absurd (true≢false (sym is))

still_record : (before more : List Entry) (target : Header) → IsRecordIn before target → IsRecordIn (before ++ more) target
still_record before more target (inl at) = inl (omega (arith, at.0, length-append before more), kind_before before more target.jsn at.0 ∙ at.1)
still_record before more target (inr is) = inr is

record_hidden : (target : Entry) (before es : List Entry) → AreNext before es → list_any (hides target) es ≡ true → IsRecordIn (before ++ es) target.header
record_hidden target before [] next is = absurd (true≢false (sym is))
record_hidden target before (e ∷ es) next is = elim (hides target e) as (λ v. hides target e ≡ v → (v || list_any (hides target) es) ≡ true → IsRecordIn (before ++ e ∷ es) target.header) [
  | true ↦ λ here some. still_record before (e ∷ es) target.header (hides_record before e.header e.header.kind target.header next.0.own here)
  | false ↦ λ not_here some. subst (λ (l : List Entry). IsRecordIn l target.header) (append_assoc before (e ∷ []) es) (record_hidden target (before ++ e ∷ []) es next.1 some)
] refl is

kind_there : (es : List Entry) (n : ℕ) (e : Entry) → slice_get es n ≡ Some e → kind_in es n ≡ e.header.kind
kind_there [] n e is = absurd cc
kind_there (x ∷ es) zero e is = let same : x ≡ e = cc in ap (λ (y : Entry). y.header.kind) same
kind_there (x ∷ es) (suc n) e is = kind_there es n e is

-- each journal has the number of its place
pub number_at : (m n : ℕ) (es : List Entry) (e : Entry) → AreFrom m es → slice_get es n ≡ Some e → e.header.jsn ≡ m + n
number_at m n [] e from is = absurd cc
number_at m zero (x ∷ es) e from is = let same : x ≡ e = cc in ap (λ (y : Entry). y.header.jsn) (sym same) ∙ from.0 ∙ omega arith
number_at m (suc n) (x ∷ es) e from is = number_at (m + 1) n es e from.2 is ∙ omega arith

-- each journal obeys its layout, by which one that has a clue is a record
pub header_at : (m n : ℕ) (es : List Entry) (e : Entry) → AreFrom m es → slice_get es n ≡ Some e → IsHeader e.header
header_at m n [] e from is = absurd cc
header_at m zero (x ∷ es) e from is = let same : x ≡ e = cc in subst (λ (y : Entry). IsHeader y.header) same from.1
header_at m (suc n) (x ∷ es) e from is = header_at (m + 1) n es e from.2 is

clued_kind : (k : Kind) (clue : Digest) → not (is_no_clue clue) ≡ true → IsTrue (clue_ok k clue) → is_record k ≡ true
clued_kind kind.Content clue has ok = refl
clued_kind kind.Genesis clue has ok = absurd (true≢false (sym has ∙ ap not ok))
clued_kind kind.Member clue has ok = absurd (true≢false (sym has ∙ ap not ok))
clued_kind kind.Time clue has ok = absurd (true≢false (sym has ∙ ap not ok))
clued_kind kind.Occult clue has ok = absurd (true≢false (sym has ∙ ap not ok))
clued_kind kind.Purge clue has ok = absurd (true≢false (sym has ∙ ap not ok))
clued_kind kind.ClueOccult clue has ok = absurd (true≢false (sym has ∙ ap not ok))

-- an occult by clue hides just those in front of it that have its clue
pub covers_is : (x : Header) (e : Entry) → IsHeader e.header → is_no_clue x.link ≡ false → e.header.jsn < x.jsn → hides_as kind.ClueOccult x e.header ≡ is_of_clue x.link e
covers_is x e layout some before = by_clue (is_of_clue x.link e) refl where
  with_clue : hides_as kind.ClueOccult x e.header ≡ true → is_of_clue x.link e ≡ true
  with_clue hidden =
      let same = (and_parts (nat_lt e.header.jsn x.jsn) (bytes_eq x.link.0 e.header.clue.0) (and_parts (is_record e.header.kind) (nat_lt e.header.jsn x.jsn && bytes_eq x.link.0 e.header.clue.0) hidden).1).1 in
      and_from _ _ (ap (λ c. not (bytes_eq c zero_digest.0)) (sym ((bytes_eq-Decides x.link.0 e.header.clue.0).0 same)) ∙ ap not some) same

  by_clue : (is : Bool) → is_of_clue x.link e ≡ is → hides_as kind.ClueOccult x e.header ≡ is
  by_clue true is =
      let parts = and_parts (has_clue e) (bytes_eq x.link.0 e.header.clue.0) is in
      and_from _ _ (clued_kind e.header.kind e.header.clue parts.0 layout.clue) (and_from _ _ (lt-ltb e.header.jsn x.jsn before) parts.1)
  by_clue false is = false_from_ne_true (hides_as kind.ClueOccult x e.header) (λ hidden. true≢false (sym (with_clue hidden) ∙ is))

-- only records are hidden
pub hidden_record : (h : History) (n : ℕ) → AreLawful (journals h) → is_hidden h n ≡ true → kind_at h n ≡ kind.Content
hidden_record h n lawful is = by_target (slice_get (journals h) n) refl is where
  by_target : (target : Option Entry) → slice_get (journals h) n ≡ target → is_hidden_by (journals h) target ≡ true → kind_at h n ≡ kind.Content
  by_target None at some = absurd (true≢false (sym some))
  by_target (Some target) at some =
      by_record target at (record_hidden target [] (journals h) lawful.next some)
    where
      by_record : (target : Entry) → slice_get (journals h) n ≡ Some target → IsRecordIn (journals h) target.header → kind_at h n ≡ kind.Content
      by_record target at (inl named) = ap (kind_at h) (sym (number_at 0 n (journals h) target (lawful_from (journals h) lawful) at ∙ omega arith)) ∙ named.1
      by_record target at (inr is) = kind_there (journals h) n target at ∙ is

-- so the first journal never is
pub first_shown : (h : History) → AreLawful (journals h) → is_hidden h 0 ≡ false
first_shown h lawful = false_from_ne_true (is_hidden h 0) (λ is. no_record (journals h) lawful (hidden_record h 0 lawful is)) where
  not_both : (k : Kind) → k ≡ kind.Genesis → k ≡ kind.Content → ⊥
  not_both k genesis content = let same : kind.Genesis ≡ kind.Content = sym genesis ∙ content in absurd cc

  no_record : (es : List Entry) → AreLawful es → kind_in es 0 ≡ kind.Content → ⊥
  no_record [] l is = absurd l.founded
  no_record (e ∷ es) l is = let first = l.next.0 in not_both e.header.kind (genesis_first e.header.kind e.header.jsn first.jsn first.layout.jsn) is

-- The journal that hides the one at n among some journals, and what a journal more does there.

-- a journal hides none that isn't in front of it
occult_behind : (k : Kind) (jsn a n : ℕ) → IsTrue (a_ok k jsn a) → jsn ≤ n → (is_occult k && a == n) ≡ false
occult_behind kind.Genesis jsn a n ok le = refl
occult_behind kind.Content jsn a n ok le = refl
occult_behind kind.Member jsn a n ok le = refl
occult_behind kind.Time jsn a n ok le = refl
occult_behind kind.Occult jsn a n ok le = false_from_ne_true (a == n) (λ is. omega (arith, eqb-true a n is, ltb-true a jsn ok, le))
occult_behind kind.Purge jsn a n ok le = refl
occult_behind kind.ClueOccult jsn a n ok le = refl

behind_of : (k : Kind) (x target : Header) → IsTrue (a_ok k x.jsn x.a) → x.jsn ≤ target.jsn → hides_as k x target ≡ false
behind_of kind.Genesis x target ok le = refl
behind_of kind.Content x target ok le = refl
behind_of kind.Member x target ok le = refl
behind_of kind.Time x target ok le = refl
behind_of kind.Occult x target ok le = occult_behind kind.Occult x.jsn x.a target.jsn ok le
behind_of kind.Purge x target ok le = refl
behind_of kind.ClueOccult x target ok le =
    let in_front = nat_lt target.jsn x.jsn && bytes_eq x.link.0 target.clue.0 in
    false_from_ne_true (is_record target.kind && in_front) (λ is.
    let parts = and_parts (nat_lt target.jsn x.jsn) (bytes_eq x.link.0 target.clue.0) (and_parts (is_record target.kind) in_front is).1 in
    omega (arith, ltb-true target.jsn x.jsn parts.0, le))

pub hides_behind : (target : Entry) → IsBehind (hides target) target.header.jsn
hides_behind target e layout le = behind_of e.header.kind e.header target.header layout.a le

abbrev pub hider_at : List Entry → ℕ → Option ℕ
hider_at es n = hider_among es (slice_get es n)

-- the last journal isn't hidden, nor is one that isn't there
pub none_behind : (es : List Entry) (n : ℕ) → AreFrom 0 es → length es ≤ n + 1 → (let none : Option ℕ = None in hider_at es n ≡ none)
none_behind es n from few = by_target (slice_get es n) refl where
  by_target : (target : Option Entry) → slice_get es n ≡ target → (let none : Option ℕ = None in hider_among es target ≡ none)
  by_target None at = refl
  by_target (Some target) at =
      none_named (hides target) 0 target.header.jsn es (hides_behind target) from (omega (arith, few, number_at 0 n es target from at))

pub past : (es : List Entry) (n : ℕ) → (let none : Option Entry = None in slice_get es n ≡ none) → length es ≤ n
past [] n is = omega arith
past (e ∷ es) zero is = absurd cc
past (e ∷ es) (suc n) is = omega (arith, past es n is)

still_there : (es more : List Entry) (n : ℕ) (target : Entry) → slice_get es n ≡ Some target → slice_get (es ++ more) n ≡ Some target
still_there es more n target at =
    let within = slice_get_within es n target at in
    slice_get-get_or (es ++ more) n target (omega (arith, within, length-append es more)) ∙ ap Some (get_or_append_left es more target n within ∙ get_or_from_slice_get es n target target at)

-- a journal more that doesn't hide it, and one that does
pub hider_kept : (es : List Entry) (e : Entry) (n : ℕ) → AreFrom 0 (es ++ e ∷ []) → ((target : Entry) → slice_get es n ≡ Some target → hides target e ≡ false) → hider_at (es ++ e ∷ []) n ≡ hider_at es n
hider_kept es e n from not_it = by_target (slice_get es n) refl where
  by_target : (target : Option Entry) → slice_get es n ≡ target → hider_at (es ++ e ∷ []) n ≡ hider_among es target
  by_target None at = none_behind (es ++ e ∷ []) n from (omega (arith, past es n at, length-append es (e ∷ [])))
  by_target (Some target) at = ap (hider_among (es ++ e ∷ [])) (still_there es (e ∷ []) n target at) ∙ hider_same (hides target) es e (not_it target at)

pub hider_made : (es : List Entry) (e target : Entry) (n : ℕ) → slice_get es n ≡ Some target → is_some (hider_at es n) ≡ false → hides target e ≡ true → hider_at (es ++ e ∷ []) n ≡ Some e.header.jsn
hider_made es e target n at none is =
    ap (hider_among (es ++ e ∷ [])) (still_there es (e ∷ []) n target at) ∙ hider_new (hides target) es e (ap (λ t. is_some (hider_among es t)) (sym at) ∙ none) is

-- .. and one that hides it already stays the first
pub hidden_kept : (es : List Entry) (e : Entry) (n j : ℕ) → hider_at es n ≡ Some j → hider_at (es ++ e ∷ []) n ≡ Some j
hidden_kept es e n j = by_target (slice_get es n) refl where
  by_target : (target : Option Entry) → slice_get es n ≡ target → hider_among es target ≡ Some j → hider_at (es ++ e ∷ []) n ≡ Some j
  by_target None at is = absurd cc
  by_target (Some target) at is = ap (hider_among (es ++ e ∷ [])) (still_there es (e ∷ []) n target at) ∙ first_kept (hides target) es e j is

-- Whether a journal names number n: all that there is of one in front of a base.

names_behind : (n : ℕ) → IsBehind (names n) n
names_behind n e layout le = occult_behind e.header.kind e.header.jsn e.header.a n layout.a le

pub named_before : (m n : ℕ) (es : List Entry) → AreFrom m es → m + length es ≤ n → list_any (names n) es ≡ false
named_before m n es from few = named_is (names n) es ∙ ap is_some (none_named (names n) m n es (names_behind n) from (omega (arith, few)))

-- a journal hides the one that it names
names_hides : (target j : Entry) (k : Kind) → (is_occult k && j.header.a == target.header.jsn) ≡ true → hides_as k j.header target.header ≡ true
names_hides target j kind.Occult is = is
names_hides target j kind.Genesis is = absurd (true≢false (sym is))
names_hides target j kind.Content is = absurd (true≢false (sym is))
names_hides target j kind.Member is = absurd (true≢false (sym is))
names_hides target j kind.Time is = absurd (true≢false (sym is))
names_hides target j kind.Purge is = absurd (true≢false (sym is))
names_hides target j kind.ClueOccult is = absurd (true≢false (sym is))

-- .. so one that none hides is named by none
pub none_names : (target : Entry) (es : List Entry) → list_any (hides target) es ≡ false → list_any (names target.header.jsn) es ≡ false
none_names target [] none = refl
none_names target (e ∷ es) none = elim (names target.header.jsn e) as (λ v. names target.header.jsn e ≡ v → (v || list_any (names target.header.jsn) es) ≡ false) [
  | true ↦ λ is. absurd (true≢false (sym (ap (λ v. v || list_any (hides target) es) (names_hides target e e.header.kind is)) ∙ none))
  | false ↦ λ is. none_names target es (rest (hides target e) none)
] refl where
  rest : (v : Bool) → (v || list_any (hides target) es) ≡ false → list_any (hides target) es ≡ false
  rest true some = absurd (true≢false some)
  rest false some = some

pub shown_unnamed : (h : History) (n : ℕ) → AreLawful (journals h) → is_hidden h n ≡ false → list_any (names n) (journals h) ≡ false
shown_unnamed h n lawful = by_target (slice_get (journals h) n) refl where
  from : AreFrom 0 (journals h)
  from = lawful_from (journals h) lawful

  by_target : (target : Option Entry) → slice_get (journals h) n ≡ target → is_hidden_by (journals h) target ≡ false → list_any (names n) (journals h) ≡ false
  by_target None at shown = named_before 0 n (journals h) from (omega (arith, past (journals h) n at))
  by_target (Some target) at shown =
      ap (λ m. list_any (names m) (journals h)) (sym (number_at 0 n (journals h) target from at ∙ omega arith)) ∙ none_names target (journals h) shown
