-- What holds of lawful journals: their numbers, their layout, their members and their clues.
use Rattle.std.specs.Prelude.{⊤, All, IsTrue, filter, max, nat_lt, nat_le, bytes_eq, zero, suc}
use Rattle.std.proofs.Common.{◌≡◌, ℕ, ◌+◌, ◌<◌, ◌≤◌, true, false, cond, not, List, [], ◌∷◌, ◌++◌, length, map, take, drop, Option, None, Some, refl, sym, ◌∙◌, ap, subst, arith, append_assoc, append-nil, length-append}
use Rattle.std.specs.List.{fold, list_any}
use Rattle.std.proofs.lemmas.Bool.{ltb-true, true≢false, and_parts}
use Rattle.std.proofs.lemmas.List.{map-append, take-append-drop, length-map}
use Rattle.std.proofs.lemmas.List.Elements.{All-nil, All-cons}
use Rattle.std.proofs.lemmas.List.Sums.{fold-append}
use Rattle.ledger_bytes.specs.declared.digest.Digest.{Digest}
use Rattle.ledger_bytes.specs.declared.limits.TheConstants.{MEMBER_LIMIT}
use Rattle.journal_record.specs.Entry.{Entry}
use Rattle.journal_record.specs.Rules.{IsHeader, jsn_ok, clue_ok, a_ok, is_no_clue}
use Rattle.journal_record.specs.declared.header.Header.{Header}
use Rattle.journal_record.specs.declared.header.Kind.{Kind}
use Rattle.journal_record.specs.declared.header.Kind.TheVariants as kind
use Rattle.journal_record.specs.declared.member.Member.{Member}
use Rattle.ledger_model.specs.Clues.{has_clue, is_of_clue, numbers_of, last_of}
use Rattle.ledger_model.specs.History.{History, history, journals, is_purge, purge_point, greatest_point, point, seen_point}
use Rattle.ledger_model.specs.Lawful.{IsNext, IsNextOf, AreNext, IsFounded, AreLawful}
use Rattle.ledger_model.specs.Members.{founders, is_member, admits, member_of, admitted_members, members}
use Rattle.ledger_model.specs.Targets.{hides, is_hidden_by}
use Rattle.ledger_model.proofs.PlaceLaws.{founders_kept, admitted_more, admitted_same}

-- each journal has the number of its place, counted from m, and obeys its layout
abbrev pub AreFrom : ℕ → List Entry → Type 0
AreFrom m [] = ⊤
AreFrom m (e ∷ es) = (e.header.jsn ≡ m) × IsHeader e.header × AreFrom (m + 1) es

pub next_from : (before es : List Entry) → AreNext before es → AreFrom (length before) es
next_from before [] next = tt
next_from before (e ∷ es) next =
    (next.0.jsn, next.0.layout, subst (λ n. AreFrom n es) (length-append before (e ∷ [])) (next_from (before ++ e ∷ []) es next.1))

pub lawful_from : (es : List Entry) → AreLawful es → AreFrom 0 es
lawful_from es lawful = next_from [] es lawful.next

pub from_layout : (m : ℕ) (es : List Entry) → AreFrom m es → All (λ (e : Entry). IsHeader e.header) es
from_layout m [] from = All-nil (λ (e : Entry). IsHeader e.header)
from_layout m (e ∷ es) from = All-cons (λ (x : Entry). IsHeader x.header) e es from.1 (from_layout (m + 1) es from.2)

-- journals and one more
next_more : (before es : List Entry) (e : Entry) → AreNext before es → IsNext (history [] (before ++ es)) e.header → AreNext before (es ++ e ∷ [])
next_more before [] e next more = (subst (λ (l : List Entry). IsNext (history [] l) e.header) (append-nil before) more, tt)
next_more before (x ∷ es) e next more =
    (next.0, next_more (before ++ x ∷ []) es e next.1 (subst (λ (l : List Entry). IsNext (history [] l) e.header) (sym (append_assoc before (x ∷ []) es)) more))

founded_more : (es : List Entry) (e : Entry) → IsFounded es → IsFounded (es ++ e ∷ [])
founded_more [] e founded = absurd founded
founded_more (x ∷ es) e founded = founded

pub lawful_more : (es : List Entry) (e : Entry) → AreLawful es → IsNext (history [] es) e.header → AreLawful (es ++ e ∷ [])
lawful_more es e lawful next = record { next = next_more [] es e lawful.next next; founded = founded_more es e lawful.founded }

pub some_journal : (es : List Entry) → AreLawful es → 1 ≤ length es
some_journal [] lawful = absurd lawful.founded
some_journal (e ∷ es) lawful = omega arith

-- the first journal is a genesis
pub genesis_first : (k : Kind) (jsn : ℕ) → jsn ≡ 0 → IsTrue (jsn_ok k jsn) → k ≡ kind.Genesis
genesis_first kind.Genesis jsn at ok = refl
genesis_first kind.Content jsn at ok = absurd (let less = ltb-true 0 jsn ok in omega arith)
genesis_first kind.Member jsn at ok = absurd (let less = ltb-true 0 jsn ok in omega arith)
genesis_first kind.Time jsn at ok = absurd (let less = ltb-true 0 jsn ok in omega arith)
genesis_first kind.Occult jsn at ok = absurd (let less = ltb-true 0 jsn ok in omega arith)
genesis_first kind.ClueOccult jsn at ok = absurd (let less = ltb-true 0 jsn ok in omega arith)
genesis_first kind.Purge jsn at ok = absurd (let less = ltb-true 0 jsn ok in omega arith)

-- a journal that admits a member has the next number, and there is room for it
admits_own : (h : History) (x : Header) (k : Kind) → is_member k ≡ true → IsNextOf h x k → IsTrue (a_ok k x.jsn x.a) → (x.a ≡ length (members h)) × (x.a < MEMBER_LIMIT)
admits_own h x kind.Member is own ok = (own, ltb-true x.a MEMBER_LIMIT (and_parts (nat_le 2 x.a) (nat_lt x.a MEMBER_LIMIT) ok).1)
admits_own h x kind.Genesis is own ok = absurd (true≢false (sym is))
admits_own h x kind.Content is own ok = absurd (true≢false (sym is))
admits_own h x kind.Time is own ok = absurd (true≢false (sym is))
admits_own h x kind.Occult is own ok = absurd (true≢false (sym is))
admits_own h x kind.ClueOccult is own ok = absurd (true≢false (sym is))
admits_own h x kind.Purge is own ok = absurd (true≢false (sym is))

-- no more members than there may be, and the two founders
abbrev pub HasMembers : List Entry → Type 0
HasMembers es = (2 ≤ length (members (history [] es))) × (length (members (history [] es)) ≤ MEMBER_LIMIT)

members_step : (before : List Entry) (e : Entry) → 1 ≤ length before → IsNext (history [] before) e.header → HasMembers before → HasMembers (before ++ e ∷ [])
unfolding members
members_step before e some next few =
    let kept = ap length (ap (λ (l : List Member). l ++ admitted_members (before ++ e ∷ [])) (founders_kept before (e ∷ []) some)) in
    elim (admits e) as (λ v. admits e ≡ v → HasMembers (before ++ e ∷ [])) [
      | true ↦ λ is.
          let own = admits_own (history [] before) e.header e.header.kind is next.own next.layout.a in
          let count : length (members (history [] (before ++ e ∷ []))) ≡ length (members (history [] before)) + 1 = omega (
            arith,
            kept,
            ap length (ap (λ (l : List Member). founders before ++ l) (admitted_more before e is)),
            length-append (founders before) (admitted_members before ++ member_of e ∷ []),
            length-append (admitted_members before) (member_of e ∷ []),
            length-append (founders before) (admitted_members before),
          ) in
          (omega (arith, few.0, count), omega (arith, own.0, own.1, count))
      | false ↦ λ is.
          let count : length (members (history [] (before ++ e ∷ []))) ≡ length (members (history [] before)) = omega (arith, kept, ap length (ap (λ (l : List Member). founders before ++ l) (admitted_same before e is))) in
          (omega (arith, few.0, count), omega (arith, few.1, count))
    ] refl

members_more : (before es : List Entry) → 1 ≤ length before → AreNext before es → HasMembers before → HasMembers (before ++ es)
members_more before [] some next few = subst HasMembers (sym (append-nil before)) few
members_more before (e ∷ es) some next few =
    subst HasMembers (append_assoc before (e ∷ []) es)
    (members_more (before ++ e ∷ []) es (omega (arith, some, length-append before (e ∷ []))) next.1 (members_step before e some next.0 few))

members_first : (e : Entry) → e.header.kind ≡ kind.Genesis → HasMembers (e ∷ [])
unfolding members
members_first e is =
    let two : length (founders (e ∷ []) ++ admitted_members (e ∷ [])) ≡ 2 = ap length (ap (λ (k : Kind). founders (e ∷ []) ++ map member_of (cond (is_member k) (e ∷ []) [])) is) in
    (omega (arith, two), omega (arith, two))

pub lawful_members : (es : List Entry) → AreLawful es → HasMembers es
lawful_members [] lawful = absurd lawful.founded
lawful_members (e ∷ es) lawful =
    let first = lawful.next.0 in
    members_more (e ∷ []) es (omega arith) lawful.next.1 (members_first e (genesis_first e.header.kind e.header.jsn first.jsn first.layout.jsn))

-- numbers behind journal 0 and below n
abbrev pub AreBetween : ℕ → List ℕ → Type 0
AreBetween n [] = ⊤
AreBetween n (j ∷ js) = (0 < j) × (j < n) × AreBetween n js

pub clued_behind : (k : Kind) (clue : Digest) (jsn : ℕ) → not (is_no_clue clue) ≡ true → IsTrue (clue_ok k clue) → IsTrue (jsn_ok k jsn) → 0 < jsn
clued_behind kind.Content clue jsn has ok at = ltb-true 0 jsn at
clued_behind kind.Genesis clue jsn has ok at = absurd (true≢false (sym has ∙ ap not ok))
clued_behind kind.Member clue jsn has ok at = absurd (true≢false (sym has ∙ ap not ok))
clued_behind kind.Time clue jsn has ok at = absurd (true≢false (sym has ∙ ap not ok))
clued_behind kind.Occult clue jsn has ok at = absurd (true≢false (sym has ∙ ap not ok))
clued_behind kind.ClueOccult clue jsn has ok at = absurd (true≢false (sym has ∙ ap not ok))
clued_behind kind.Purge clue jsn has ok at = absurd (true≢false (sym has ∙ ap not ok))

-- the journals of a clue stand behind journal 0
pub numbers_between : (n m : ℕ) (clue : Digest) (es : List Entry) → AreFrom m es → m + length es ≤ n → AreBetween n (numbers_of clue es)
numbers_between n m clue [] from below = tt
numbers_between n m clue (e ∷ es) from below =
    let later = numbers_between n (m + 1) clue es from.2 (omega (arith, below)) in
    elim (is_of_clue clue e) as (λ v. is_of_clue clue e ≡ v → AreBetween n (map (λ (j : Entry). j.header.jsn) (cond v (e ∷ filter (is_of_clue clue) es) (filter (is_of_clue clue) es)))) [
      | true ↦ λ is.
          let has = (and_parts (has_clue e) (bytes_eq clue.0 e.header.clue.0) is).0 in
          (clued_behind e.header.kind e.header.clue e.header.jsn has from.1.clue from.1.jsn, omega (arith, from.0, below), later)
      | false ↦ λ is. later
    ] refl

-- .. and so does the last of them
pub last_between : (n : ℕ) (js : List ℕ) → AreBetween n js → 0 < length js → (0 < last_of js) × (last_of js < n)
last_between n [] between some = absurd (omega (arith, some))
last_between n (j ∷ []) between some = (between.0, between.1)
last_between n (j ∷ k ∷ js) between some = last_between n (k ∷ js) between.2 (omega arith)

-- a clue has no more journals than there are
pub numbers_few : (clue : Digest) (es : List Entry) → length (numbers_of clue es) ≤ length es
numbers_few clue es = omega (arith, length-map (filter (is_of_clue clue) es) (λ (j : Entry). j.header.jsn), filter_few es) where
  filter_few : (xs : List Entry) → length (filter (is_of_clue clue) xs) ≤ length xs
  filter_few [] = omega arith
  filter_few (x ∷ xs) = elim (is_of_clue clue x) as (λ v. length (cond v (x ∷ filter (is_of_clue clue) xs) (filter (is_of_clue clue) xs)) ≤ length (x ∷ xs)) [ true ↦ omega (arith, filter_few xs) | false ↦ omega (arith, filter_few xs) ]

-- the points of journals lie below these
purge_below : (k : Kind) (x : Header) (n : ℕ) → IsTrue (a_ok k x.jsn x.a) → x.jsn < n → cond (is_purge k) x.a 0 < n
purge_below kind.Purge x n ok at = omega (arith, at, ltb-true x.a x.jsn (and_parts (nat_lt 0 x.a) (nat_lt x.a x.jsn) ok).1)
purge_below kind.Genesis x n ok at = omega (arith, at)
purge_below kind.Content x n ok at = omega (arith, at)
purge_below kind.Member x n ok at = omega (arith, at)
purge_below kind.Time x n ok at = omega (arith, at)
purge_below kind.Occult x n ok at = omega (arith, at)
purge_below kind.ClueOccult x n ok at = omega (arith, at)

pub point_below : (n m start : ℕ) (es : List Entry) → AreFrom m es → m + length es ≤ n → start < n → fold max start (map purge_point es) < n
point_below n m start [] from below low = low
point_below n m start (e ∷ es) from below low =
    let here = purge_below e.header.kind e.header n from.1.a (omega (arith, from.0, below)) in
    point_below n (m + 1) (max start (purge_point e)) es from.2 (omega (arith, below)) (omega (arith, here, low))

pub front_from : (m n : ℕ) (es : List Entry) → AreFrom m es → AreFrom m (take n es)
front_from m zero es from = tt
front_from m (suc n) [] from = tt
front_from m (suc n) (e ∷ es) from = (from.0, from.1, front_from (m + 1) n es from.2)

fold_max : (start : ℕ) (ns : List ℕ) → fold max start ns ≡ max start (fold max 0 ns)
fold_max start [] = omega arith
fold_max start (n ∷ ns) = omega (arith, fold_max (max start n) ns, fold_max (max 0 n) ns)

pub take_few : (n : ℕ) (xs : List Entry) → 0 + length (take n xs) ≤ n
take_few zero xs = omega arith
take_few (suc n) [] = omega arith
take_few (suc n) (x ∷ xs) = omega (arith, take_few n xs)

-- the point of journals in two parts
pub two_points : (es fs : List Entry) → greatest_point (es ++ fs) ≡ max (greatest_point es) (greatest_point fs)
two_points es fs = ap (fold max 0) (map-append purge_point es fs) ∙ fold-append max 0 (map purge_point es) (map purge_point fs) ∙ fold_max (greatest_point es) (map purge_point fs)

pub all_seen : (h : History) → seen_point 0 h ≡ point h
unfolding point seen_point
all_seen h = refl

-- where what is seen from a journal on reaches that journal, the rest is less
pub later_seen : (h : History) (floor : ℕ) → AreLawful (journals h) → floor ≤ seen_point floor h → seen_point floor h ≡ point h
unfolding point seen_point
later_seen h floor lawful reaches =
    let es = journals h in
    let parts : greatest_point es ≡ max (greatest_point (take floor es)) (greatest_point (drop floor es)) =
    ap greatest_point (sym (take-append-drop floor es)) ∙ two_points (take floor es) (drop floor es) in
    by_floor floor refl parts
  where
    by_floor : (n : ℕ) → n ≡ floor → greatest_point (journals h) ≡ max (greatest_point (take floor (journals h))) (greatest_point (drop floor (journals h))) → greatest_point (drop floor (journals h)) ≡ greatest_point (journals h)
    by_floor zero is parts = ap (λ n. greatest_point (drop n (journals h))) (sym is)
    by_floor (suc n) is parts =
        let low : greatest_point (take floor (journals h)) < floor = point_below floor 0 0 (take floor (journals h)) (front_from 0 floor (journals h) (lawful_from (journals h) lawful)) (take_few floor (journals h)) (omega (arith, is)) in
        omega (arith, low, reaches, parts)

-- the purge that has the point stands behind it
pub point_seen : (h : History) → AreLawful (journals h) → seen_point (point h) h ≡ point h
unfolding point seen_point
point_seen h lawful = by_point (greatest_point (journals h)) refl where
  by_point : (p : ℕ) → p ≡ greatest_point (journals h) → greatest_point (drop (greatest_point (journals h)) (journals h)) ≡ greatest_point (journals h)
  by_point zero is = ap (λ n. greatest_point (drop n (journals h))) (sym is)
  by_point (suc p) is =
      let at = greatest_point (journals h) in
      let parts : greatest_point (journals h) ≡ max (greatest_point (take at (journals h))) (greatest_point (drop at (journals h))) =
      ap greatest_point (sym (take-append-drop at (journals h))) ∙ two_points (take at (journals h)) (drop at (journals h)) in
      let low : greatest_point (take at (journals h)) < at = point_below at 0 0 (take at (journals h)) (front_from 0 at (journals h) (lawful_from (journals h) lawful)) (take_few at (journals h)) (omega (arith, is)) in
      omega (arith, low, parts)

-- journals of which none hides another hide none
pub hide_none : (es : List Entry) (target : Option Entry) → ((t : Entry) → list_any (hides t) es ≡ false) → is_hidden_by es target ≡ false
hide_none es None none = refl
hide_none es (Some t) none = none t
