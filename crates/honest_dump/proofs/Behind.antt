-- The journals in the dump of a history that runs make were placed by those who had to, as the dump alone tells it.
use Rattle.std.specs.Prelude.{All, filter, min, nat_lt, nat_le, not, if◌then◌else◌, unwrap_or, zero, suc, ◌&&◌}
use Rattle.std.specs.List.{reduce}
use Rattle.std.specs.Option.{option_map, option_or}
use Rattle.std.proofs.Common.{◌≡◌, ℕ, ◌+◌, ◌-◌, ◌≤◌, Bool, true, false, cond, List, [], ◌∷◌, ◌++◌, length, map, take, drop, Option, Some, None, refl, sym, ap, ap₂, ◌∙◌, subst, arith, append_assoc, take-append-drop, length-take}
use Rattle.std.proofs.lemmas.Bool.{le-ltb}
use Rattle.std.proofs.lemmas.List.{map-append, take-append-le, take-map}
use Rattle.std.proofs.lemmas.List.Elements.{All-weaker, filter-append}
use Rattle.std.proofs.lemmas.Simd.{map-map}
use Rattle.sha2.specs.Sha256.{sha256}
use Rattle.ledger_bytes.specs.Digests.{digest}
use Rattle.ledger_bytes.specs.declared.digest.Digest.{Digest}
use Rattle.ledger_bytes.specs.declared.refusal.Refusal.{Refusal}
use Rattle.ledger_bytes.specs.declared.refusal.Refusal.TheVariants.{MissingApproval}
use Rattle.journal_record.specs.Entry.{Entry}
use Rattle.journal_record.specs.Items.{Item}
use Rattle.journal_record.specs.Members as book
use Rattle.journal_record.specs.Request.{member_request_digest_of, occult_request_digest_of, clue_occult_request_digest_of, purge_request_digest_of}
use Rattle.journal_record.specs.declared.approval.Approval.{Approval}
use Rattle.journal_record.specs.declared.header.Kind.{Kind}
use Rattle.journal_record.specs.declared.header.Kind.TheVariants as kind
use Rattle.journal_record.specs.declared.member.Member.{Member}
use Rattle.member_book.specs.Approvals.{approvals_refusal, approves, key_refusal, missing_refusal, order_refusal, unknown_refusal}
use Rattle.member_book.specs.Erasures.{is_record}
use Rattle.pseudo_genesis.specs.declared.base.Base.{Base}
use Rattle.tree_model.specs.RootFrom.{root_from}
use Rattle.tree_model.specs.Tree.{root as root_of}
use Rattle.tree_model.proofs.RootsFrom.{from_none}
use Rattle.ledger_model.specs.Behind.{first_of}
use Rattle.ledger_model.specs.History.{History, history, id, journals, greatest_point, leaf_digest, point, purge_point, root, size, is_purge}
use Rattle.ledger_model.specs.Members.{admits, admitted_members, founders, member_of, members}
use Rattle.ledger_model.specs.Needs.{is_taken, purge_needs}
use Rattle.ledger_model.specs.Scheme.{Scheme}
use Rattle.ledger_model.specs.Targets.{is_hidden}
use Rattle.ledger_model.proofs.HideLaws.{first_shown}
use Rattle.ledger_model.proofs.LawfulLaws.{AreFrom, lawful_from, two_points}
use Rattle.ledger_model.proofs.PlaceLaws.{founders_kept}
use Rattle.dump_model.specs.Dumps.{peaks_of}
use Rattle.dump_model.specs.Shown.{base_at, ledger_dump, shown}
use Rattle.audit_dump.specs.Approvals.{AreOf, HasShortProof, IsApprovalOf, IsOf, IsPlacedBy, IsPlacedPurge, IsPlacedRecord}
use Rattle.audit_dump.specs.Known.{journals_of, keys_behind, root_behind}
use Rattle.audit_dump.specs.Placed.{shown_whole}
use Rattle.honest_dump.specs.Runs.{IsOfRuns}
use Rattle.honest_dump.proofs.Facts.{IsMade, before, before_long, made, next_there, point_there, whole_is}
use Rattle.honest_dump.proofs.Order.{admitted_seen, journals_are, seen_all}
use Rattle.honest_dump.proofs.Placing.{journal_placed}
use Rattle.honest_dump.proofs.Seen.{first_at, root_is, root_seen}

-- ---- approvals

-- no refusal
abbrev IsNone : Option Refusal → Type 0
IsNone r = let none : Option Refusal = None in r ≡ none

or_none : (a b : Option Refusal) → IsNone (option_or a b) → IsNone a × IsNone b
or_none None b e = (refl, e)
or_none (Some why) b e = absurd cc

or_both : (a b : Option Refusal) → IsNone a → IsNone b → IsNone (option_or a b)
or_both None b x y = y
or_both (Some why) b x y = absurd cc

-- where nobody of some is missing, the first isn't
first_given : (given : List Approval) (needed : List ℕ) → IsNone (missing_refusal given (0 ∷ needed)) → IsNone (missing_refusal given (0 ∷ []))
first_given given needed e = by (not (approves given 0)) e where
  by : (v : Bool) → IsNone (option_map (λ member. MissingApproval member) (reduce min (cond v (0 ∷ filter (λ member. not (approves given member)) needed) (filter (λ member. not (approves given member)) needed))))
      → IsNone (option_map (λ member. MissingApproval member) (reduce min (cond v (0 ∷ []) [])))
  by true e = absurd cc
  by false e = refl

record Judged (known : List (List ℕ)) (given : List Approval) : Type 0 where
  in_order : IsNone (order_refusal given)
  are_known : IsNone (unknown_refusal known given)
  keys : IsNone (key_refusal known given)
  missing : IsNone (missing_refusal given (0 ∷ []))

judged : (known : List (List ℕ)) (given : List Approval) (needed : List ℕ) → IsNone (approvals_refusal known given (0 ∷ needed)) → Judged known given
judged known given needed e =
    let a = or_none (order_refusal given) _ e in
    let b = or_none (unknown_refusal known given) _ a.1 in
    let c = or_none (key_refusal known given) _ b.1 in
    record { in_order = a.0; are_known = b.0; keys = c.0; missing = first_given given needed c.1 }

passed : (known : List (List ℕ)) (given : List Approval) → Judged known given → IsNone (approvals_refusal known given (0 ∷ []))
passed known given j = or_both (order_refusal given) _ j.in_order (or_both (unknown_refusal known given) _ j.are_known (or_both (key_refusal known given) _ j.keys j.missing))

-- ---- journals from a number on

from_front : (n : ℕ) (es fs : List Entry) → AreFrom n (es ++ fs) → AreFrom n es
from_front n [] fs from = tt
from_front n (e ∷ es) fs from = (from.0, from.1, from_front (n + 1) es fs from.2)

from_rest : (n : ℕ) (es fs : List Entry) → AreFrom n (es ++ fs) → AreFrom (n + length es) fs
from_rest n [] fs from = let same : n ≡ n + 0 = omega arith in subst (λ k. AreFrom k fs) same from
from_rest n (e ∷ es) fs from = let same : (n + 1) + length es ≡ n + length (e ∷ es) = omega arith in subst (λ k. AreFrom k fs) same (from_rest (n + 1) es fs from.2)

-- none of them is taken by a purge to a journal in front
none_taken : (from to n : ℕ) (es : List Entry) → AreFrom n es → to ≤ n → filter (is_taken from to) es ≡ []
none_taken from to n [] numbered le = refl
none_taken from to n (e ∷ es) numbered le =
    ap (λ v. cond v (e ∷ filter (is_taken from to) es) (filter (is_taken from to) es)) (last_false (is_record e.header.kind) (nat_le from e.header.jsn) (nat_lt e.header.jsn to) (le-ltb e.header.jsn to (omega (arith, le, numbered.0))))
    ∙ none_taken from to (n + 1) es numbered.2 (omega (arith, le))
  where
    last_false : (a b c : Bool) → c ≡ false → (a && b && c) ≡ false
    last_false true true c is = is
    last_false true false c is = refl
    last_false false b c is = refl

module _ (h : History) where
  seen_from : (n : ℕ) (es : List Entry) → AreFrom n es → AreFrom n (seen_all h es)
  seen_from n [] from = tt
  seen_from n (e ∷ es) from = (from.0, from.1, seen_from (n + 1) es from.2)

-- ---- keys

admitted_two : (es fs : List Entry) → admitted_members (es ++ fs) ≡ admitted_members es ++ admitted_members fs
admitted_two es fs = ap (map member_of) (filter-append admits es fs) ∙ map-append member_of (filter admits es) (filter admits fs)

module _ (h : History) (m : IsMade h) where
  -- the keys that journal 0 tells
  first_keys : (front more : List Entry) → journals h ≡ front ++ more → founders (seen_all h front) ≡ founders front
  first_keys [] more is = refl
  first_keys (e ∷ front) more is =
      let number : e.header.jsn ≡ 0 = (next_there h m [] e (front ++ more) is).jsn in
      let whole : is_hidden h e.header.jsn ≡ false = ap (is_hidden h) number ∙ first_shown h m.lawful.journals_are in
      ap (λ (v : Bool). let content = unwrap_or (if v then None else Some e.content) [] in book.founders (digest (take 32 content)) (digest (drop 32 content))) whole

  keys_same : (p : ℕ) (front more : List Entry) → p ≤ size h → drop p (journals h) ≡ front ++ more → keys_behind (base_at h p) (seen_all h front) ≡ keys_behind None (take p (journals h) ++ front)
  unfolding members
  keys_same zero front more few is = ap₂ (λ (a b : List Member). book.keys (a ++ b)) (first_keys front more is) (admitted_seen h front)
  keys_same (suc q) front more few is =
      let low = take (suc q) (journals h) in
      let key_of : Member → List ℕ = λ (x : Member). x.key.0 in
      ap₂ (λ (a b : List (List ℕ)). a ++ b) (map-map (λ (d : Digest). d.0) (λ (x : Member). x.key) (founders low ++ admitted_members low)) (ap book.keys (admitted_seen h front))
      ∙ sym (map-append key_of (founders low ++ admitted_members low) (admitted_members front))
      ∙ ap book.keys (append_assoc (founders low) (admitted_members low) (admitted_members front)
      ∙ ap₂ (λ (a b : List Member). a ++ b) (sym (founders_kept low front (omega (arith, few, length-take (suc q) (journals h))))) (sym (admitted_two low front)))

  -- ---- purges

  -- a purge's point is no greater than the one in force
  pub point_low : (front : List Entry) (e : Entry) (more : List Entry) → journals h ≡ front ++ e ∷ more → e.header.kind ≡ kind.Purge → e.header.a ≤ point h
  unfolding point
  point_low front e more is purge =
      let own : purge_point e ≡ e.header.a = ap (λ k. if is_purge k then e.header.a else 0) purge in
      omega (arith, own, ap greatest_point is, two_points front (e ∷ more), two_points (e ∷ []) more)

  -- a purge that is kept takes nothing which the dump shows
  needs_seen : (front more : List Entry) (p : ℕ) → drop (point h) (journals h) ≡ front ++ more → p ≤ point h → purge_needs (history [] (seen_all h front)) p ≡ 0 ∷ []
  needs_seen front more p is le =
      let low = take (point h) (journals h) in
      let whole : journals h ≡ low ++ (front ++ more) = sym (take-append-drop (point h) (journals h)) ∙ ap (λ (l : List Entry). low ++ l) is in
      let from : AreFrom (0 + length low) (front ++ more) = from_rest 0 low (front ++ more) (subst (AreFrom 0) whole (lawful_from (journals h) m.lawful.journals_are)) in
      let least : p ≤ 0 + length low = omega (arith, le, point_there h m, length-take (point h) (journals h)) in
      ap (λ (l : List Entry). 0 ∷ map (λ (j : Entry). j.header.member) l) (none_taken (point (history [] (seen_all h front))) p (0 + length low) (seen_all h front) (seen_from h (0 + length low) front (from_front (0 + length low) front more from)) least)

  -- the root in front of the point, as it is known where no base stands in front
  root_first : (es more : List Entry) (p : ℕ) → journals h ≡ es ++ more → p ≤ length es → root_behind None es p ≡ root h p
  root_first es more p is le =
      let whole : p - 0 ≡ p = omega arith in
      from_none sha256 (map leaf_digest (take (p - 0) es))
      ∙ ap (λ (n : ℕ). root_of sha256 (map leaf_digest (take n es))) whole
      ∙ ap (λ (l : List Entry). root_of sha256 (map leaf_digest l)) (sym (take-append-le p es more le) ∙ ap (take p) (sym is))
      ∙ ap (root_of sha256) (sym (take-map leaf_digest p (journals h))) ∙ sym (root_is h p)

  -- .. and as the base tells it
  root_base : (es : List Entry) → root_behind (base_at h (point h)) es (point h) ≡ root h (point h)
  root_base es =
      let none : point h - first_of (base_at h (point h)) ≡ 0 = omega (arith, first_at h (point h)) in
      ap (λ (n : ℕ). root_from sha256 (peaks_of (base_at h (point h))) (first_of (base_at h (point h))) (map leaf_digest (take n es))) none
      ∙ sym (ap (λ (n : ℕ). root_from sha256 (peaks_of (base_at h (point h))) (first_of (base_at h (point h))) (map leaf_digest (take n (seen_all h (drop (point h) (journals h)))))) none)
      ∙ root_seen h (point h) (point h) (omega arith) (omega (arith, point_there h m))

  -- ---- a journal that is kept

  module _ (scheme : Scheme) (front : List Entry) (e : Entry) (more : List Entry) (is : drop (point h) (journals h) ≡ front ++ e ∷ more) where
    abbrev all : List Entry
    all = before h m front e more is

    abbrev start : Option Base
    start = base_at h (point h)

    whole : journals h ≡ all ++ e ∷ more
    whole = whole_is h m front e more is

    known_same : keys_behind None all ≡ keys_behind start (seen_all h front)
    known_same = sym (keys_same (point h) front (e ∷ more) (omega (arith, point_there h m)) is)

    purge_behind : e.header.kind ≡ kind.Purge → IsPlacedPurge scheme (id h) None all (shown_whole e) → IsPlacedPurge scheme (id h) start (seen_all h front) (shown h e)
    purge_behind purge placed =
        let p = e.header.a in
        let low : p ≤ point h = point_low all e more whole purge in
        let old = placed.0 (omega arith) in
        let known = keys_behind start (seen_all h front) in
        let long : p ≤ length all = omega (arith, low, before_long h m front e more is) in
        let j = judged known old.given _ (subst (λ (k : List (List ℕ)). IsNone (approvals_refusal k old.given (purge_needs (history [] all) p))) known_same old.passed) in
        let needs : purge_needs (history [] (seen_all h front)) p ≡ 0 ∷ [] = needs_seen front (e ∷ more) p is low in (
          λ above.
              let at : p ≡ point h = omega (arith, above, low, first_at h (point h)) in
              let root_same : root_behind None all p ≡ root_behind start (seen_all h front) p =
              root_first all (e ∷ more) p whole long ∙ ap (root h) at ∙ sym (root_base (seen_all h front)) ∙ ap (root_behind start (seen_all h front)) (sym at) in
              record {
                given = old.given;
                who_is = old.who_is;
                shown = subst (λ (r : List ℕ). All (IsApprovalOf scheme (purge_request_digest_of (id h) p r)) old.given) root_same old.shown;
                passed = ap (approvals_refusal known old.given) needs ∙ passed known old.given j;
              },
          λ below. record {
            given = old.given;
            who_is = old.who_is;
            short = All-weaker (IsApprovalOf scheme (purge_request_digest_of (id h) p (root_behind None all p))) HasShortProof (λ by s. s.short) old.given old.shown;
            in_order = j.in_order;
            are_known = j.are_known;
            none_missing = ap (missing_refusal old.given) needs ∙ j.missing;
          },
        )

    placed_by : (k : Kind) → e.header.kind ≡ k → IsPlacedBy scheme (id h) None all (shown_whole e) k → IsPlacedBy scheme (id h) start (seen_all h front) (shown h e) k
    placed_by kind.Genesis same placed = placed
    placed_by kind.Content same placed = subst (λ (known : List (List ℕ)). IsPlacedRecord scheme (id h) known (shown h e)) known_same placed
    placed_by kind.Member same placed =
        subst (λ (known : List (List ℕ)). IsOf scheme known (member_request_digest_of (id h) e.header.a e.header.link.0) 0 e.who) known_same placed
    placed_by kind.Time same placed = placed
    placed_by kind.Occult same placed =
        subst (λ (known : List (List ℕ)). AreOf scheme known (occult_request_digest_of (id h) e.header.a e.header.link.0) (0 ∷ 1 ∷ []) e.who) known_same placed
    placed_by kind.ClueOccult same placed =
        subst (λ (known : List (List ℕ)). AreOf scheme known (clue_occult_request_digest_of (id h) e.header.link.0 e.header.a) (0 ∷ 1 ∷ []) e.who) known_same placed
    placed_by kind.Purge same placed = purge_behind same placed

pub placed_behind : (scheme : Scheme) (h : History) (r : IsOfRuns scheme h) (front : List Entry) (e : Entry) (more : List Entry) → drop (point h) (journals h) ≡ front ++ e ∷ more
    → IsPlacedBy scheme (id h) (base_at h (point h)) (seen_all h front) (shown h e) e.header.kind
placed_behind scheme h r front e more is =
    let m = made scheme h r in
    let all = before h m front e more is in
    placed_by h m scheme front e more is e.header.kind refl (journal_placed scheme h all e more r (whole_is h m front e more is))

-- ---- as items of the dump

record IsShown (h : History) (es : List Entry) (front : List Item) (item : Item) : Type 0 where
  low : List Entry
  e : Entry
  high : List Entry
  es_are : es ≡ low ++ e ∷ high
  front_are : map (shown h) low ≡ front
  item_is : shown h e ≡ item

shown_split : (h : History) (es : List Entry) (front : List Item) (item : Item) (more : List Item) → map (shown h) es ≡ front ++ item ∷ more → IsShown h es front item
shown_split h [] [] item more is = absurd cc
shown_split h [] (x ∷ front) item more is = absurd cc
shown_split h (e ∷ es) [] item more is =
    let same : shown h e ≡ item = cc is in
    record { low = []; e = e; high = es; es_are = refl; front_are = refl; item_is = same }
shown_split h (e ∷ es) (x ∷ front) item more is =
    let later : map (shown h) es ≡ front ++ item ∷ more = cc is in
    let rest = shown_split h es front item more later in
    let first : shown h e ≡ x = cc is in
    record {
      low = e ∷ rest.low;
      e = rest.e;
      high = rest.high;
      es_are = ap (λ (l : List Entry). e ∷ l) {y = rest.low ++ rest.e ∷ rest.high} rest.es_are;
      front_are = ap₂ (λ (y : Item) (l : List Item). y ∷ l) first rest.front_are;
      item_is = rest.item_is;
    }

pub items_placed : (scheme : Scheme) (h : History) (entries : List (List ℕ)) (front : List Item) (item : Item) (more : List Item) → IsOfRuns scheme h → (ledger_dump h entries).items ≡ front ++ item ∷ more
    → IsPlacedBy scheme (id h) (ledger_dump h entries).base (journals_of front) item item.header.kind
unfolding ledger_dump
items_placed scheme h entries front item more r is =
    let s = shown_split h (drop (point h) (journals h)) front item more is in
    let start = base_at h (point h) in
    let here = subst (λ (l : List Entry). IsPlacedBy scheme (id h) start l (shown h s.e) s.e.header.kind) (sym (journals_are h s.low)) (placed_behind scheme h r s.low s.e s.high s.es_are) in
    subst (λ (x : Item). IsPlacedBy scheme (id h) start (journals_of front) x x.header.kind) s.item_is
    (subst (λ (l : List Item). IsPlacedBy scheme (id h) start (journals_of l) (shown h s.e) s.e.header.kind) s.front_are here)
