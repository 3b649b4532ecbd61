-- An accepted job places the next journal, and its parts have their digests.
use Rattle.std.specs.Prelude.{IsTrue, nat_lt, nat_le, bytes_eq, filter, ◌==◌, ◌≢◌}
use Rattle.std.proofs.Common.{◌≡◌, ℕ, ◌+◌, ◌<◌, ◌≤◌, ◌&&◌, ◌||◌, Bool, true, false, cond, not, List, [], ◌∷◌, length, ◌++◌, map, get_or, drop, Option, Some, None, refl, sym, ◌∙◌, ap, arith}
use Rattle.std.proofs.lemmas.Bool.{eqb-true, eq-eqb, le-leb, lt-leb, lt-ltb, leb-false, ltb-true, ltb-false, true≢false, and_from, and_parts}
use Rattle.std.proofs.lemmas.List.{length-map}
use Rattle.std.proofs.lemmas.Slice.Eq.{bytes_eq-Decides}
use Rattle.std.specs.Option.{is_some}
use Rattle.ledger_bytes.specs.Digests.{digest, zero_digest}
use Rattle.ledger_bytes.specs.declared.digest.Digest.{Digest}
use Rattle.ledger_bytes.specs.declared.limits.TheConstants.{MEMBER_LIMIT, CONTENT_LIMIT}
use Rattle.ledger_bytes.specs.declared.refusal.Refusal.{Refusal}
use Rattle.ledger_bytes.specs.declared.refusal.Refusal.TheVariants.{CluesFull, MemberNumber, MembersFull}
use Rattle.journal_record.specs.Approval.{who_of}
use Rattle.journal_record.specs.Entry.{Entry, content_digest_of, who_digest_of}
use Rattle.journal_record.specs.Members.{is_known, number_refusal}
use Rattle.journal_record.specs.Rules.{IsHeader, is_no_clue, clue_ord_ok, clue_prev_ok, version_of}
use Rattle.journal_record.specs.declared.approval.Approval.{Approval}
use Rattle.journal_record.specs.declared.header.Header.{Header}
use Rattle.journal_record.specs.declared.header.Kind.{Kind}
use Rattle.journal_record.specs.declared.header.Kind.TheVariants as kind
use Rattle.member_book.specs.Erasures.{absent, purged, purged_up_to, is_record, no_record, is_time, no_time, hidden_by, other_leaf, other_root, clue_differs, nothing_shown, target_row, point_row}
use Rattle.member_book.specs.Approvals.{approvals_refusal}
use Rattle.journal_record.specs.declared.member.Member.{Member}
use Rattle.journal_record.specs.declared.rules.TheConstants.{NOTARY_LIMIT}
use Rattle.journal_record.specs.declared.stamp.Stamp.{Stamp}
use Rattle.ledger_model.specs.Anchors.{time_header, time_journal, stamp_from, stamp_of}
use Rattle.ledger_model.specs.Step.{Step}
use Rattle.ledger_model.specs.Appends.{append_header, append_journal, member_header, member_journal, occult_header, occult_journal, clue_occult_header, clue_occult_journal, purge_header, purge_journal}
use Rattle.ledger_model.specs.Clues.{has_clue, is_of_clue, numbers_of, jsns_with, clue_count, last_of, next_ordinal, last_journal}
use Rattle.ledger_model.specs.History.{History, history, journals, size, point, root}
use Rattle.ledger_model.specs.Judgements.{kept_count, is_full, fullness, hard_fullness, life_fullness, unknown_in, wrong_key_in, clues_full, append_judgements, member_judgements, occult_judgements, clue_occult_judgements, purge_judgements}
use Rattle.member_book.specs.Erasures.{first_refusal}
use Rattle.ledger_model.specs.Lawful.{IsNextOccult, IsNextClueOccult, IsNextPurge, IsNext, AreLawful, IsWhole}
use Rattle.ledger_model.specs.Limits.{real_limits, AreWithin}
use Rattle.ledger_model.specs.Members.{members, keys}
use Rattle.ledger_model.specs.Needs.{purge_needs}
use Rattle.ledger_model.specs.Numbers.{numbered, number_taken, repeated, unless_repeated}
use Rattle.ledger_model.specs.Targets.{is_hidden, hider, kind_at, leaf_at, shown_with}
use Rattle.ledger_model.specs.declared.limits.Limits.{Limits}
use Rattle.ledger_model.proofs.HideLaws.{hidden_is}
use Rattle.ledger_model.proofs.RepeatLaws.{none_numbered}
use Rattle.ledger_model.proofs.LawfulLaws.{lawful_from, genesis_first, some_journal, lawful_members, AreBetween, numbers_between, numbers_few, last_between}

-- no refusal
abbrev pub IsNone : Option Refusal → Type 0
IsNone o = let none : Option Refusal = None in o ≡ none

none_first : (r : Option Refusal) (row : List (Option Refusal)) → IsNone (first_refusal (r ∷ row)) → IsNone r × IsNone (first_refusal row)
none_first None row is = (refl, is)
none_first (Some x) row is = absurd cc

-- nothing is repeated
abbrev pub IsNew : Option ℕ → Type 0
IsNew o = let none : Option ℕ = None in o ≡ none

if_none : (b : Bool) (x : Refusal) → IsNone (cond b (Some x) None) → b ≡ false
if_none true x is = absurd cc
if_none false x is = refl

if_not : (b : Bool) (x : Refusal) → IsNone (cond b None (Some x)) → b ≡ true
if_not true x is = refl
if_not false x is = absurd cc

room_is : (limits : Limits) (h : History) → IsNone (fullness limits h) → size h < limits.size
unfolding fullness
room_is limits h is = leb-false limits.size (size h) (right_of (nat_le limits.soft (kept_count h)) (nat_le limits.size (size h)) (if_none (is_full limits.soft limits h) _ is)) where
  right_of : (v w : Bool) → (v || w) ≡ false → w ≡ false
  right_of true w e = absurd cc
  right_of false w e = e

-- where there is room for a clue under lower limits, there is under those of each ledger
clues_room : (limits : Limits) (h : History) (clue : Digest) → limits.clues ≤ real_limits.clues → IsNone (clues_full limits h clue) → IsNone (clues_full real_limits h clue)
unfolding clues_full
clues_room limits h clue within is =
    by_first (not (is_no_clue clue) && length (jsns_with h clue) == 0) (if_none (not (is_no_clue clue) && length (jsns_with h clue) == 0 && nat_le limits.clues (clue_count h)) CluesFull is)
  where
    by_first : (new : Bool) → (new && nat_le limits.clues (clue_count h)) ≡ false → IsNone (cond (new && nat_le real_limits.clues (clue_count h)) (Some CluesFull) None)
    by_first false e = refl
    by_first true e = let less = leb-false limits.clues (clue_count h) e in ap (λ v. cond v (Some CluesFull) None) (lt-leb real_limits.clues (clue_count h) (omega (arith, less, within)))

-- the clue's numbers obey the layout
between : (h : History) (clue : Digest) → AreLawful (journals h) → AreBetween (size h) (jsns_with h clue)
unfolding jsns_with
between h clue lawful = numbers_between (size h) 0 clue (journals h) (lawful_from (journals h) lawful) (omega arith)

ord_ok : (h : History) (clue : Digest) → IsTrue (clue_ord_ok clue (next_ordinal h clue))
unfolding next_ordinal
ord_ok h clue = elim (is_no_clue clue) as (λ v. cond v ((cond v 0 (length (jsns_with h clue) + 1)) == 0) (nat_lt 0 (cond v 0 (length (jsns_with h clue) + 1))) ≡ true) [
  | true ↦ refl
  | false ↦ lt-ltb 0 (length (jsns_with h clue) + 1) (omega arith)
]

prev_by : (n : ℕ) (js : List ℕ) → AreBetween n js → cond (nat_le (length js + 1) 1) (last_of js == 0) (nat_lt 0 (last_of js) && nat_lt (last_of js) n) ≡ true
prev_by n [] b = refl
prev_by n (j ∷ js) b =
    let last = last_between n (j ∷ js) b (omega arith) in
    ap (λ v. cond v (last_of (j ∷ js) == 0) (nat_lt 0 (last_of (j ∷ js)) && nat_lt (last_of (j ∷ js)) n)) (lt-leb (length (j ∷ js) + 1) 1 (omega arith))
    ∙ and_from _ _ (lt-ltb 0 (last_of (j ∷ js)) last.0) (lt-ltb (last_of (j ∷ js)) n last.1)

prev_ok : (h : History) (clue : Digest) → AreBetween (size h) (jsns_with h clue) → IsTrue (clue_prev_ok (size h) (next_ordinal h clue) (last_journal h clue))
unfolding next_ordinal last_journal
prev_ok h clue numbers = elim (is_no_clue clue) as (λ v. cond (nat_le (cond v 0 (length (jsns_with h clue) + 1)) 1) ((cond v 0 (last_of (jsns_with h clue))) == 0) (nat_lt 0 (cond v 0 (last_of (jsns_with h clue))) && nat_lt (cond v 0 (last_of (jsns_with h clue))) (size h)) ≡ true) [
  | true ↦ refl
  | false ↦ prev_by (size h) (jsns_with h clue) numbers
]

-- a member's record that is accepted
module _ (limits : Limits) (within : AreWithin limits) (h : History) (member : ℕ) (clue : Digest) (content : List ℕ) (content_digest request : Digest) (by : Approval) (who : Digest) (number : ℕ) (judged : IsNone (first_refusal (append_judgements limits h member clue number request by.key))) (new : IsNew (repeated h member number request)) where
  abbrev placed_record : Entry
  placed_record = append_journal h member clue content content_digest request by who number

  -- what is looked at where nothing is repeated
  looked_at : IsNone (unknown_in (keys h) member) × IsNone (number_taken h member number request) × IsNone (fullness limits h) × IsNone (clues_full limits h clue)
  looked_at =
      let a = none_first (unknown_in (keys h) member) _ judged in
      let b = none_first (wrong_key_in (keys h) member by.key) _ a.1 in
      let c = none_first (number_taken h member number request) _ b.1 in
      let d = none_first (unless_repeated (repeated h member number request) (fullness limits h)) _ c.1 in
      let e = none_first (unless_repeated (repeated h member number request) (clues_full limits h clue)) _ d.1 in
      (a.0, c.0, sym (ap (λ r. unless_repeated r (fullness limits h)) new) ∙ d.0, sym (ap (λ r. unless_repeated r (clues_full limits h clue)) new) ∙ e.0)

  room : size h < real_limits.size
  room = let less = room_is limits h looked_at.2 in omega (arith, less, within.size)

  known : member < length (members h)
  known =
      omega (arith, ltb-true member (length (keys h)) (if_not (is_known (keys h) member) _ looked_at.0), length-map (members h) (λ (m : Member). m.key.0))

  clue_room : IsNone (clues_full real_limits h clue)
  clue_room = clues_room limits h clue within.clues looked_at.3

  record_layout : AreLawful (journals h) → length content ≤ CONTENT_LIMIT → IsHeader placed_record.header
  unfolding append_header members
  record_layout lawful long = record {
    version = eq-eqb (version_of kind.Content number (length content)) (version_of kind.Content number (length content)) refl;
    jsn = lt-ltb 0 (size h) (omega (arith, some_journal (journals h) lawful));
    member = lt-ltb member MEMBER_LIMIT (omega (arith, known, (lawful_members (journals h) lawful).1));
    clue = refl;
    clue_ord = ord_ok h clue;
    clue_prev = prev_ok h clue (between h clue lawful);
    a = refl;
    b = refl;
    link = refl;
    content_len = le-leb (length content) CONTENT_LIMIT long;
  }

  -- its journal is the next one
  pub record_next : AreLawful (journals h) → length content ≤ CONTENT_LIMIT → IsNext (history [] (journals h)) placed_record.header
  unfolding append_header members next_ordinal last_journal jsns_with clues_full clue_count numbered point
  record_next lawful long = record {
    layout = record_layout lawful long;
    jsn = refl;
    below = room;
    own = record { member = known; clue_ord = refl; clue_prev = refl; room = clue_room; fresh = none_numbered h member number request looked_at.1 new };
  }

-- an anchor that is accepted
hard_room : (limits : Limits) (h : History) → IsNone (hard_fullness limits h) → size h < limits.size
unfolding hard_fullness
hard_room limits h is = leb-false limits.size (size h) (right_of (nat_le limits.hard (kept_count h)) (nat_le limits.size (size h)) (if_none (is_full limits.hard limits h) _ is)) where
  right_of : (v w : Bool) → (v || w) ≡ false → w ≡ false
  right_of true w e = absurd cc
  right_of false w e = e

module _ (limits : Limits) (within : AreWithin limits) (h : History) (stamp : Stamp) (judged : IsNone (first_refusal (hard_fullness limits h ∷ []))) where
  pub time_next : AreLawful (journals h) → stamp.index < NOTARY_LIMIT → IsNext (history [] (journals h)) (time_journal (size h) stamp).header
  unfolding time_header
  time_next lawful few = record {
    layout = record {
      version = refl;
      jsn = lt-ltb 0 (size h) (omega (arith, some_journal (journals h) lawful));
      member = refl;
      clue = refl;
      clue_ord = refl;
      clue_prev = refl;
      a = lt-ltb stamp.index NOTARY_LIMIT few;
      b = refl;
      link = refl;
      content_len = refl;
    };
    jsn = refl;
    below = let less = hard_room limits h (none_first (hard_fullness limits h) [] judged).0 in omega (arith, less, within.size);
    own = tt;
  }

-- an occult that is accepted
record_is : (k : Kind) → is_record k ≡ true → k ≡ kind.Content
record_is kind.Content is = refl
record_is kind.Genesis is = absurd (true≢false (sym is))
record_is kind.Member is = absurd (true≢false (sym is))
record_is kind.Time is = absurd (true≢false (sym is))
record_is kind.Occult is = absurd (true≢false (sym is))
record_is kind.ClueOccult is = absurd (true≢false (sym is))
record_is kind.Purge is = absurd (true≢false (sym is))

none_hides : (o : Option ℕ) → IsNone (hidden_by o) → is_some o ≡ false
none_hides None is = refl
none_hides (Some x) is = absurd cc

-- .. names a record that is kept and that none hides, with its leaf digest
pub target_own : (h : History) (x : Header) (more : List (Option Refusal))
    → IsNone (first_refusal (target_row (size h) (point h) (kind_at h x.a) (hider h x.a) (digest (leaf_at h x.a)) x.a x.link ++ more))
    → IsNextOccult h x
target_own h x more is =
    let target = x.a in
    let leaf = x.link in
    let a = none_first (absent (size h) target) _ is in
    let b = none_first (purged (point h) target) _ a.1 in
    let c = none_first (no_record (kind_at h target)) _ b.1 in
    let d = none_first (hidden_by (hider h target)) _ c.1 in
    let e = none_first (other_leaf (digest (leaf_at h target)) leaf) _ d.1 in
    record {
      kept = ltb-false target (point h) (if_none (nat_lt target (point h)) _ b.0);
      before = leb-false (size h) target (if_none (nat_le (size h) target) _ a.0);
      target_is = record_is (kind_at h target) (if_not (is_record (kind_at h target)) _ c.0);
      shown = hidden_is h target ∙ none_hides (hider h target) d.0;
      leaf_is = (bytes_eq-Decides leaf.0 (leaf_at h target)).0 (if_not (bytes_eq leaf.0 (leaf_at h target)) _ e.0);
    }

module _ (limits : Limits) (within : AreWithin limits) (h : History) (target : ℕ) (leaf : Digest) (given : List Approval) (judged : IsNone (first_refusal (occult_judgements limits h target leaf given))) where
  pub occult_own : IsNextOccult h (occult_header (size h) target leaf given)
  unfolding occult_header
  occult_own =
      target_own h (occult_header (size h) target leaf given) (approvals_refusal (keys h) given (0 ∷ 1 ∷ []) ∷ []) (none_first (hard_fullness limits h) _ judged).1

  pub occult_next : AreLawful (journals h) → IsNext (history [] (journals h)) (occult_journal (size h) target leaf given).header
  unfolding occult_header point
  occult_next lawful =
      let rows = none_first (hard_fullness limits h) _ judged in
      let own = occult_own in
      record {
        layout = record {
          version = refl;
          jsn = lt-ltb 0 (size h) (omega (arith, some_journal (journals h) lawful));
          member = refl;
          clue = refl;
          clue_ord = refl;
          clue_prev = refl;
          a = lt-ltb target (size h) own.before;
          b = refl;
          link = refl;
          content_len = refl;
        };
        jsn = refl;
        below = let less = hard_room limits h rows.0 in omega (arith, less, within.size);
        own = record { kept = own.kept; before = own.before; target_is = own.target_is; shown = own.shown; leaf_is = own.leaf_is };
      }

-- an occult by clue that is accepted
none_differs : (n count : ℕ) → IsNone (clue_differs n count) → n ≡ count
none_differs n count is = eqb-true n count (if_not (n == count) _ is)

some_shown : (ns : List ℕ) → IsNone (nothing_shown (length ns)) → ns ≢ []
some_shown [] is = absurd cc
some_shown (n ∷ ns) is = λ none. absurd cc

-- .. names a clue with records: as many as it tells, of which one is kept and shown
pub clue_own : (h : History) (x : Header) (count : ℕ) (more : List (Option Refusal)) → x.a ≡ count
    → IsNone (first_refusal (clue_differs (length (jsns_with h x.link)) count ∷ nothing_shown (length (shown_with h x.link)) ∷ more))
    → IsNextClueOccult h x
clue_own h x count more told is =
    let a = none_first (clue_differs (length (jsns_with h x.link)) count) _ is in
    let b = none_first (nothing_shown (length (shown_with h x.link))) _ a.1 in
    record { count = told ∙ sym (none_differs _ _ a.0); shown = some_shown (shown_with h x.link) b.0 }

shown_some : (p : ℕ → Bool) (ns : List ℕ) → filter p ns ≢ [] → 0 < length ns
shown_some p [] some = absurd (some refl)
shown_some p (n ∷ ns) some = omega arith

clue_is : (clue : Digest) (es : List Entry) → 0 < length (numbers_of clue es) → is_no_clue clue ≡ false
clue_is clue [] some = absurd (omega (arith, some))
clue_is clue (e ∷ es) some = elim (is_of_clue clue e) as (λ v. is_of_clue clue e ≡ v → 0 < length (map (λ (j : Entry). j.header.jsn) (cond v (e ∷ filter (is_of_clue clue) es) (filter (is_of_clue clue) es))) → is_no_clue clue ≡ false) [
  | true ↦ λ is more.
      let parts = and_parts (has_clue e) (bytes_eq clue.0 e.header.clue.0) is in
      ap (λ (c : List ℕ). bytes_eq c zero_digest.0) ((bytes_eq-Decides clue.0 e.header.clue.0).0 parts.1) ∙ not_true (is_no_clue e.header.clue) parts.0
  | false ↦ λ is more. clue_is clue es more
] refl some where
  not_true : (v : Bool) → not v ≡ true → v ≡ false
  not_true true is = absurd (true≢false (sym is))
  not_true false is = refl

-- what such a journal tells keeps the rules of its layout
pub clue_counts : (h : History) (clue : Digest) → shown_with h clue ≢ [] → 0 < length (jsns_with h clue)
unfolding shown_with
clue_counts h clue some = shown_some (λ n. nat_le (point h) n && not (is_hidden h n)) (jsns_with h clue) some

module _ (limits : Limits) (within : AreWithin limits) (h : History) (clue : Digest) (count : ℕ) (given : List Approval) (judged : IsNone (first_refusal (clue_occult_judgements limits h clue count given))) where
  pub clue_occult_own : IsNextClueOccult h (clue_occult_header (size h) clue count given)
  unfolding clue_occult_header
  clue_occult_own =
      clue_own h (clue_occult_header (size h) clue count given) count (approvals_refusal (keys h) given (0 ∷ 1 ∷ []) ∷ []) refl (none_first (hard_fullness limits h) _ judged).1

  pub clue_occult_next : AreLawful (journals h) → IsNext (history [] (journals h)) (clue_occult_journal (size h) clue count given).header
  unfolding clue_occult_header point jsns_with shown_with
  clue_occult_next lawful =
      let rows = none_first (hard_fullness limits h) _ judged in
      let room = hard_room limits h rows.0 in
      let own = clue_occult_own in
      let some = clue_counts h clue own.shown in
      let few = numbers_few clue (journals h) in
      record {
        layout = record {
          version = refl;
          jsn = lt-ltb 0 (size h) (omega (arith, some_journal (journals h) lawful));
          member = refl;
          clue = refl;
          clue_ord = refl;
          clue_prev = refl;
          a = and_from _ _ (lt-ltb 0 count (omega (arith, own.count, some))) (le-leb count 4_294_967_295 (omega (arith, own.count, few, room, within.size)));
          b = refl;
          link = ap not (clue_is clue (journals h) some);
          content_len = refl;
        };
        jsn = refl;
        below = omega (arith, room, within.size);
        own = record { count = own.count; shown = own.shown };
      }

-- a purge that is accepted
life_room : (limits : Limits) (h : History) → IsNone (life_fullness limits h) → size h < limits.size
unfolding life_fullness
life_room limits h is = leb-false limits.size (size h) (if_none (nat_le limits.size (size h)) _ is)

time_is : (k : Kind) → is_time k ≡ true → k ≡ kind.Time
time_is kind.Time is = refl
time_is kind.Genesis is = absurd (true≢false (sym is))
time_is kind.Content is = absurd (true≢false (sym is))
time_is kind.Member is = absurd (true≢false (sym is))
time_is kind.Occult is = absurd (true≢false (sym is))
time_is kind.ClueOccult is = absurd (true≢false (sym is))
time_is kind.Purge is = absurd (true≢false (sym is))

-- the first journal tells no time
first_kind : (es : List Entry) → AreLawful es → get_or (map (λ (j : Entry). j.header.kind) es) 0 kind.Genesis ≡ kind.Genesis
first_kind [] lawful = absurd lawful.founded
first_kind (e ∷ es) lawful = genesis_first e.header.kind e.header.jsn lawful.next.0.jsn lawful.next.0.layout.jsn

timed_behind : (h : History) (n : ℕ) → AreLawful (journals h) → kind_at h n ≡ kind.Time → 0 < n
timed_behind h n lawful is = elim (nat_lt 0 n) as (λ v. nat_lt 0 n ≡ v → 0 < n) [
  | true ↦ λ some. ltb-true 0 n some
  | false ↦ λ none.
      let first : n ≡ 0 = omega (arith, ltb-false 0 n none) in
      absurd (true≢false (sym (ap is_time (sym (first_kind (journals h) lawful) ∙ ap (kind_at h) (sym first) ∙ is))))
] refl

-- .. names a time journal behind the point so far
pub point_own : (h : History) (x : Header) (kept told : Digest) (more : List (Option Refusal)) → AreLawful (journals h)
    → IsNone (first_refusal (point_row (size h) (point h) (kind_at h x.a) kept x.a told ++ more))
    → IsNextPurge h x
point_own h x kept told more lawful is =
    let p = x.a in
    let a = none_first (absent (size h) p) _ is in
    let b = none_first (purged_up_to (point h) p) _ a.1 in
    let c = none_first (no_time (kind_at h p)) _ b.1 in
    let time = time_is (kind_at h p) (if_not (is_time (kind_at h p)) _ c.0) in
    record {
      above = elim (nat_lt 0 (point h)) as (λ v. nat_lt 0 (point h) ≡ v → (v && nat_le p (point h)) ≡ false → point h < p) [
        | true ↦ λ some low. leb-false p (point h) low
        | false ↦ λ none low. omega (arith, timed_behind h p lawful time, ltb-false 0 (point h) none)
      ] refl (if_none (nat_lt 0 (point h) && nat_le p (point h)) _ b.0);
      before = leb-false (size h) p (if_none (nat_le (size h) p) _ a.0);
      target_is = time;
    }

module _ (limits : Limits) (within : AreWithin limits) (h : History) (p : ℕ) (told : Digest) (given : List Approval) (judged : IsNone (first_refusal (purge_judgements limits h p told given))) (link : Digest) (lawful : AreLawful (journals h)) where
  pub purge_own : IsNextPurge h (purge_header (size h) p link given)
  unfolding purge_header
  purge_own =
      point_own h (purge_header (size h) p link given) (digest (root h p)) told (approvals_refusal (keys h) given (purge_needs h p) ∷ []) lawful (none_first (life_fullness limits h) _ judged).1

  pub purge_next : IsNext (history [] (journals h)) (purge_header (size h) p link given)
  unfolding purge_header point
  purge_next =
      let own = purge_own in record {
        layout = record {
          version = refl;
          jsn = lt-ltb 0 (size h) (omega (arith, some_journal (journals h) lawful));
          member = refl;
          clue = refl;
          clue_ord = refl;
          clue_prev = refl;
          a = and_from _ _ (lt-ltb 0 p (omega (arith, own.above))) (lt-ltb p (size h) own.before);
          b = refl;
          link = refl;
          content_len = refl;
        };
        jsn = refl;
        below = let less = life_room limits h (none_first (life_fullness limits h) _ judged).0 in omega (arith, less, within.size);
        own = record { above = own.above; before = own.before; target_is = own.target_is };
      }

-- .. and is approved by whom it needs
pub purge_approved : (limits : Limits) (h : History) (p : ℕ) (told : Digest) (given : List Approval) → IsNone (first_refusal (purge_judgements limits h p told given)) → IsNone (approvals_refusal (keys h) given (purge_needs h p))
purge_approved limits h p told given judged =
    let a = none_first (life_fullness limits h) _ judged in
    let b = none_first (absent (size h) p) _ a.1 in
    let c = none_first (purged_up_to (point h) p) _ b.1 in
    let d = none_first (no_time (kind_at h p)) _ c.1 in
    let e = none_first (other_root (digest (root h p)) told) _ d.1 in
    (none_first (approvals_refusal (keys h) given (purge_needs h p)) [] e.1).0

pub purge_whole : (h : History) (p : ℕ) (given : List Approval) → IsWhole (purge_journal h p given)
unfolding purge_header
purge_whole h p given = record { length_is = refl; content_is = refl; who_is = refl }

pub occult_whole : (jsn target : ℕ) (leaf : Digest) (given : List Approval) → IsWhole (occult_journal jsn target leaf given)
unfolding occult_header
occult_whole jsn target leaf given = record { length_is = refl; content_is = refl; who_is = refl }

pub clue_occult_whole : (jsn : ℕ) (clue : Digest) (count : ℕ) (given : List Approval) → IsWhole (clue_occult_journal jsn clue count given)
unfolding clue_occult_header
clue_occult_whole jsn clue count given = record { length_is = refl; content_is = refl; who_is = refl }

pub time_whole : (jsn : ℕ) (stamp : Stamp) → IsWhole (time_journal jsn stamp)
unfolding time_header
time_whole jsn stamp = record { length_is = refl; content_is = refl; who_is = refl }

-- the index of a stamp of a step
first_index : (index : ℕ) (es : List (List ℕ)) (stamp : Stamp) → stamp_from index es ≡ Some stamp → stamp.index ≡ index
first_index index [] stamp is = absurd cc
first_index index (e ∷ es) stamp is = ap (λ (o : Option Stamp). index_in o) (sym is) where
  index_in : Option Stamp → ℕ
  index_in None = index
  index_in (Some s) = s.index

pub stamp_few : (step : Step) (stamp : Stamp) → stamp_of step ≡ Some stamp → stamp.index < NOTARY_LIMIT
unfolding stamp_of
stamp_few step stamp = by_full (nat_le NOTARY_LIMIT (length step.before)) refl step.failed where
  by_full : (full : Bool) → nat_le NOTARY_LIMIT (length step.before) ≡ full → (failed : Bool) → cond (failed || full) None (stamp_from (length step.before) (drop (length step.before) step.after)) ≡ Some stamp → stamp.index < NOTARY_LIMIT
  by_full full e true is = absurd cc
  by_full true e false is = absurd cc
  by_full false e false is = omega (arith, leb-false NOTARY_LIMIT (length step.before) e, first_index (length step.before) (drop (length step.before) step.after) stamp is)

-- .. and its parts have their digests
pub record_whole : (h : History) (member : ℕ) (clue : Digest) (content : List ℕ) (content_digest request : Digest) (by : Approval) (who : Digest) (number : ℕ)
    → bytes_eq content_digest.0 (content_digest_of content) ≡ true → bytes_eq who.0 (who_digest_of (who_of (by ∷ []))) ≡ true
    → IsWhole (append_journal h member clue content content_digest request by who number)
unfolding append_header
record_whole h member clue content content_digest request by who number is told = record {
  length_is = refl;
  content_is = (bytes_eq-Decides content_digest.0 (content_digest_of content)).0 is;
  who_is = (bytes_eq-Decides who.0 (who_digest_of (who_of (by ∷ [])))).0 told;
}

-- a new member that is accepted
module _ (limits : Limits) (within : AreWithin limits) (h : History) (number : ℕ) (key : Digest) (by : Approval) (judged : IsNone (first_refusal (member_judgements limits h number by.key))) where
  member_room : size h < real_limits.size
  member_room = let less = room_is limits h (none_first (fullness limits h) _ judged).0 in omega (arith, less, within.size)

  next_number : (length (members h) < MEMBER_LIMIT) × (number ≡ length (members h))
  next_number = by_test (nat_le MEMBER_LIMIT (length (members h))) refl (none_first (number_refusal (members h) number) _ (none_first (fullness limits h) _ judged).1).0 where
    by_test : (test : Bool) → nat_le MEMBER_LIMIT (length (members h)) ≡ test
        → IsNone (cond test (Some MembersFull) (cond (number == length (members h)) None (Some (MemberNumber (length (members h)))))) → (length (members h) < MEMBER_LIMIT) × (number ≡ length (members h))
    by_test true e none = absurd cc
    by_test false e none = (leb-false MEMBER_LIMIT (length (members h)) e, eqb-true number (length (members h)) (if_not (number == length (members h)) _ none))

  member_layout : AreLawful (journals h) → IsHeader (member_journal (size h) number key by).header
  unfolding member_header members
  member_layout lawful = record {
    version = refl;
    jsn = lt-ltb 0 (size h) (omega (arith, some_journal (journals h) lawful));
    member = refl;
    clue = refl;
    clue_ord = refl;
    clue_prev = refl;
    a = and_from _ _ (le-leb 2 number (omega (arith, next_number.1, (lawful_members (journals h) lawful).0))) (lt-ltb number MEMBER_LIMIT (omega (arith, next_number.0, next_number.1)));
    b = refl;
    link = refl;
    content_len = refl;
  }

  pub member_next : AreLawful (journals h) → IsNext (history [] (journals h)) (member_journal (size h) number key by).header
  unfolding member_header members
  member_next lawful = record { layout = member_layout lawful; jsn = refl; below = member_room; own = next_number.1 }

pub member_whole : (jsn number : ℕ) (key : Digest) (by : Approval) → IsWhole (member_journal jsn number key by)
unfolding member_header
member_whole jsn number key by = record { length_is = refl; content_is = refl; who_is = refl }
