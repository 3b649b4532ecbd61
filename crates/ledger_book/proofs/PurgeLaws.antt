-- Lemmas on the journal that a purge names, on whose records it takes, and on why it is refused.
use Rattle.std.specs.Prelude.{Result, Ok, Err, IfOk, filter, max, nat_le, nat_lt, zero, suc}
use Rattle.std.proofs.Common.{◌≡◌, ℕ, ◌+◌, ◌-◌, ◌<◌, ◌≤◌, ◌&&◌, Bool, true, false, cond, List, [], ◌∷◌, map, take, drop, Option, Some, None, refl, sym, ◌∙◌, ap, subst, arith, drop-drop}
use Rattle.std.specs.Option.{option_map, option_or}
use Rattle.std.proofs.lemmas.Bool.{le-leb, lt-leb, le-ltb, lt-ltb, leb-false, ltb-true, ltb-false}
use Rattle.sha2.specs.Sha256.{sha256}
use Rattle.tree_model.specs.Tree as tree
use Rattle.ledger_bytes.specs.Digests.{digest}
use Rattle.ledger_bytes.specs.declared.digest.Digest.{Digest}
use Rattle.ledger_bytes.specs.declared.refusal.Refusal.{Refusal}
use Rattle.ledger_bytes.specs.declared.refusal.Refusal.TheVariants.{NoJournal, Purged, MissingApproval, Full}
use Rattle.journal_record.specs.Entry.{Entry}
use Rattle.journal_record.specs.Header.{spelling}
use Rattle.journal_record.specs.declared.approval.Approval.{Approval}
use Rattle.journal_record.specs.declared.header.Header.{Header}
use Rattle.member_book.specs.Approvals.{approvals_refusal, order_refusal, unknown_refusal, key_refusal}
use Rattle.member_book.specs.Erasures.{is_record, absent, purged_up_to, no_time, other_root, purge_row, first_refusal}
use Rattle.erase_rules.specs.Rows.{row_of_purge}
use Rattle.erase_rules.specs.declared.purge.PurgeFacts.{PurgeFacts}
use Rattle.ledger_model.specs.History as model
use Rattle.ledger_model.specs.History.{History, journals}
use Rattle.ledger_model.specs.Appends.{purge_header, purge_journal}
use Rattle.ledger_model.specs.Bases.{base_of, digest_of_base}
use Rattle.ledger_model.specs.Judgements.{life_fullness, purge_judgements, kept_count}
use Rattle.ledger_model.specs.Lawful.{AreLawful, IsNextPurge}
use Rattle.ledger_model.specs.Limits.{AreWithin}
use Rattle.ledger_model.specs.Members.{is_member}
use Rattle.ledger_model.specs.Needs.{is_taken, purge_needs, HaveSame}
use Rattle.ledger_model.specs.declared.limits.Limits.{Limits}
use Rattle.ledger_model.specs.Targets.{kind_at}
use Rattle.ledger_model.proofs.AcceptedLaws.{IsNone, purge_own, purge_next}
use Rattle.ledger_model.proofs.LawfulLaws.{AreFrom, lawful_from}
use Rattle.ledger_model.proofs.NeedLaws.{missing_same}
use Rattle.ledger_book.specs.Books.{Kept, Serves, headers, leaf_digests}
use Rattle.ledger_book.specs.Purges.{ArePurgeFacts, owners_in}
use Rattle.ledger_book.specs.Steps.{MayPlace, point_with}
use Rattle.ledger_book.proofs.JudgeLaws.{full_told}
use Rattle.ledger_book.proofs.StandsLaws.{digests_of, point_is}

-- the root over the first leaves
take_leaves : (n : ℕ) (xs : List (List ℕ)) → take n (map (tree.leaf sha256) xs) ≡ map (tree.leaf sha256) (take n xs)
take_leaves zero xs = refl
take_leaves (suc n) [] = refl
take_leaves (suc n) (x ∷ xs) = ap (λ (l : List (List ℕ)). tree.leaf sha256 x ∷ l) (take_leaves n xs)

pub root_before : (h : History) (n : ℕ) → tree.root sha256 (take n (leaf_digests h)) ≡ model.root h n
unfolding model.root
root_before h n = ap (λ (ds : List (List ℕ)). tree.root sha256 (take n ds)) (digests_of (journals h)) ∙ ap (tree.root sha256) (take_leaves n (map (λ (j : Entry). spelling j.header) (journals h)))

-- ---- whose records are taken

and_out : (a b c : Bool) → b ≡ false → (a && b && c) ≡ false
and_out true b c is = ap (λ v. v && c) is
and_out false b c is = refl

and_last : (a b c : Bool) → c ≡ false → (a && b && c) ≡ false
and_last true true c is = is
and_last true false c is = refl
and_last false b c is = refl

and_all : (a b c : Bool) → b ≡ true → c ≡ true → (a && b && c) ≡ a
and_all true b c first last = ap (λ v. v && c) first ∙ last
and_all false b c first last = refl

drop_none : (n : ℕ) → ◌≡◌ {A = List Entry} (drop n []) []
drop_none zero = refl
drop_none (suc n) = refl

take_none : (n : ℕ) → ◌≡◌ {A = List Entry} (take n []) []
take_none zero = refl
take_none (suc n) = refl

abbrev member : Entry → ℕ
member e = e.header.member

abbrev owned : List Entry → List ℕ
owned es = map (λ (x : Header). x.member) (filter (λ (x : Header). is_record x.kind) (map (λ (e : Entry). e.header) es))

taken_from : (m from to : ℕ) (es : List Entry) → AreFrom m es → map member (filter (is_taken from to) es) ≡ owned (take (to - max from m) (drop (from - m) es))
taken_from m from to [] numbered = sym (ap (λ (l : List Entry). owned (take (to - max from m) l)) (drop_none (from - m)) ∙ ap owned (take_none (to - max from m)))
taken_from m from to (e ∷ es) numbered =
    let rest = filter (is_taken from to) es in
    let later = taken_from (m + 1) from to es numbered.2 in
    let own = is_record e.header.kind in
    elim (nat_lt m from) as (λ v. nat_lt m from ≡ v → map member (filter (is_taken from to) (e ∷ es)) ≡ owned (take (to - max from m) (drop (from - m) (e ∷ es)))) [
      | true ↦ λ is.
          let lt = ltb-true m from is in
          let count : to - max from (m + 1) ≡ to - max from m = omega (arith, lt) in
          let place : from - m ≡ suc (from - (m + 1)) = omega (arith, lt) in
          ap (λ v. map member (cond v (e ∷ rest) rest)) (and_out own (nat_le from e.header.jsn) (nat_lt e.header.jsn to) (lt-leb from e.header.jsn (omega (arith, lt, numbered.0))))
          ∙ later ∙ ap (λ n. owned (take n (drop (from - (m + 1)) es))) count ∙ sym (ap (λ n. owned (take (to - max from m) (drop n (e ∷ es)))) place)
      | false ↦ λ is.
          let le = ltb-false m from is in
          let place : from - m ≡ 0 = omega (arith, le) in
          let next : from - (m + 1) ≡ 0 = omega (arith, le) in
          elim (nat_lt m to) as (λ v. nat_lt m to ≡ v → map member (filter (is_taken from to) (e ∷ es)) ≡ owned (take (to - max from m) (drop (from - m) (e ∷ es)))) [
            | true ↦ λ below.
                let lt = ltb-true m to below in
                let count : to - max from m ≡ suc (to - max from (m + 1)) = omega (arith, lt, le) in
                let ends : owned (take (to - max from m) (drop (from - m) (e ∷ es))) ≡ owned (e ∷ take (to - max from (m + 1)) es) = ap (λ n. owned (take (to - max from m) (drop n (e ∷ es)))) place ∙ ap (λ n. owned (take n (e ∷ es))) count in
                let here : map member rest ≡ owned (take (to - max from (m + 1)) es) = later ∙ ap (λ n. owned (take (to - max from (m + 1)) (drop n es))) next in
                ap (λ v. map member (cond v (e ∷ rest) rest)) (and_all own (nat_le from e.header.jsn) (nat_lt e.header.jsn to) (le-leb from e.header.jsn (omega (arith, le, numbered.0))) (lt-ltb e.header.jsn to (omega (arith, lt, numbered.0))))
                ∙ by_own (is_record e.header.kind) rest (take (to - max from (m + 1)) es) here ∙ sym ends
            | false ↦ λ above.
                let high = ltb-false m to above in
                let count : to - max from m ≡ 0 = omega (arith, high, le) in
                let after : to - max from (m + 1) ≡ 0 = omega (arith, high, le) in
                ap (λ v. map member (cond v (e ∷ rest) rest)) (and_last own (nat_le from e.header.jsn) (nat_lt e.header.jsn to) (le-ltb e.header.jsn to (omega (arith, high, numbered.0))))
                ∙ later ∙ ap (λ n. owned (take n (drop (from - (m + 1)) es))) after ∙ sym (ap (λ n. owned (take n (drop (from - m) (e ∷ es)))) count)
          ] refl
    ] refl
  where
    by_own : (own : Bool) (rest more : List Entry) → map member rest ≡ owned more
        → map member (cond own (e ∷ rest) rest) ≡ map (λ (x : Header). x.member) (cond own (e.header ∷ filter (λ (x : Header). is_record x.kind) (map (λ (e : Entry). e.header) more)) (filter (λ (x : Header). is_record x.kind) (map (λ (e : Entry). e.header) more)))
    by_own true rest more is = ap (λ (l : List ℕ). e.header.member ∷ l) is
    by_own false rest more is = is

take_headers : (n : ℕ) (es : List Entry) → map (λ (e : Entry). e.header) (take n es) ≡ take n (map (λ (e : Entry). e.header) es)
take_headers zero es = refl
take_headers (suc n) [] = refl
take_headers (suc n) (e ∷ es) = ap (λ (l : List Header). e.header ∷ l) (take_headers n es)

drop_headers : (n : ℕ) (es : List Entry) → map (λ (e : Entry). e.header) (drop n es) ≡ drop n (map (λ (e : Entry). e.header) es)
drop_headers zero es = refl
drop_headers (suc n) [] = refl
drop_headers (suc n) (e ∷ es) = drop_headers n es

-- the owners are found over the kept headers from the point on
pub needs_are : (h : History) (p : ℕ) → AreLawful (journals h) → model.point h ≤ p → owners_in (take (p - model.point h) (drop (model.point h) (headers h))) ≡ purge_needs h p
needs_are h p lawful le =
    let from = model.point h in
    let none : from - 0 ≡ from = omega arith in
    let most : p - max from 0 ≡ p - from = omega arith in
    sym (ap (λ (l : List ℕ). 0 ∷ l) (taken_from 0 from p (journals h) (lawful_from (journals h) lawful) ∙ ap (λ n. owned (take n (drop (from - 0) (journals h)))) most ∙ ap (λ n. owned (take (p - from) (drop n (journals h)))) none
    ∙ ap (λ (l : List Header). map (λ (x : Header). x.member) (filter (λ (x : Header). is_record x.kind) l)) (take_headers (p - from) (drop from (journals h)) ∙ ap (take (p - from)) (drop_headers from (journals h)))))

pub owners_told : (k : Kept) (h : History) (p : ℕ) → Serves k h → model.point h ≤ p → owners_in (take (p - k.point) (drop (k.point - k.floor) k.headers)) ≡ purge_needs h p
owners_told k h p s le =
    let at = point_is k h s in
    let from : k.floor + (k.point - k.floor) ≡ k.point = omega (arith, s.seen) in
    ap (λ l. owners_in (take (p - k.point) l)) (ap (drop (k.point - k.floor)) s.stands.tree.headers_are ∙ drop-drop (k.point - k.floor) k.floor (headers h) ∙ ap (λ n. drop n (headers h)) from)
    ∙ ap (λ n. owners_in (take (p - n) (drop n (headers h)))) at ∙ needs_are h p s.stands.lawful le

-- a result that has something is one that has what follows
pub if_ok_then : {T E : Type 0} {P Q : T → Type 0} (r : Result T E) → IfOk r P → ((x : T) → P x → Q x) → IfOk r Q
if_ok_then (Ok x) has then = then x has
if_ok_then (Err e) has then = tt

-- ---- why it is refused

approvals_same : (known : List (List ℕ)) (given : List Approval) (xs ys : List ℕ) → HaveSame xs ys → approvals_refusal known given xs ≡ approvals_refusal known given ys
approvals_same known given xs ys same =
    ap (λ o. option_or (order_refusal given) (option_or (unknown_refusal known given) (option_or (key_refusal known given) (option_map (λ member. MissingApproval member) o)))) (missing_same given xs ys same)

module _ (h : History) (f : PurgeFacts) (p : ℕ) (told : Digest) (given : List Approval) (known : List (List ℕ)) (needed : List ℕ) (a : ArePurgeFacts h f p) (needs : model.point h ≤ p → p < model.size h → HaveSame needed (purge_needs h p)) where
  abbrev row : ℕ → ℕ → ℕ → List (Option Refusal)
  row size point asked = absent size asked ∷ purged_up_to point asked ∷ no_time f.kind ∷ other_root f.root told ∷ approvals_refusal known given needed ∷ []

  abbrev right : List (Option Refusal)
  right = no_time (kind_at h p) ∷ other_root (digest (model.root h p)) told ∷ approvals_refusal known given (purge_needs h p) ∷ []

  low : (nat_lt 0 (model.point h) && nat_le p (model.point h)) ≡ false → model.point h ≤ p
  low is = elim (nat_lt 0 (model.point h)) as (λ v. nat_lt 0 (model.point h) ≡ v → (v && nat_le p (model.point h)) ≡ false → model.point h ≤ p) [
    | true ↦ λ some none. omega (arith, leb-false p (model.point h) none)
    | false ↦ λ some none. omega (arith, ltb-false 0 (model.point h) some)
  ] refl is

  by_rest : model.point h ≤ p → p < model.size h → first_refusal (no_time f.kind ∷ other_root f.root told ∷ approvals_refusal known given needed ∷ []) ≡ first_refusal right
  by_rest le lt =
      ap (λ k. first_refusal (no_time k ∷ other_root f.root told ∷ approvals_refusal known given needed ∷ [])) (a.kind_is le lt)
      ∙ ap (λ r. first_refusal (no_time (kind_at h p) ∷ other_root r told ∷ approvals_refusal known given needed ∷ [])) (a.root_is le lt)
      ∙ ap (λ o. first_refusal (no_time (kind_at h p) ∷ other_root (digest (model.root h p)) told ∷ o ∷ [])) (approvals_same known given needed (purge_needs h p) (needs le lt))

  by_point : p < model.size h → first_refusal (purged_up_to (model.point h) p ∷ no_time f.kind ∷ other_root f.root told ∷ approvals_refusal known given needed ∷ []) ≡ first_refusal (purged_up_to (model.point h) p ∷ right)
  by_point lt = elim (nat_lt 0 (model.point h) && nat_le p (model.point h)) as (λ v. (nat_lt 0 (model.point h) && nat_le p (model.point h)) ≡ v
      → first_refusal (cond v (Some (Purged (model.point h))) None ∷ no_time f.kind ∷ other_root f.root told ∷ approvals_refusal known given needed ∷ []) ≡ first_refusal (cond v (Some (Purged (model.point h))) None ∷ right)) [
        | true ↦ λ e. refl
        | false ↦ λ e. by_rest (low e) lt
      ] refl

  by_size : first_refusal (row (model.size h) (model.point h) p) ≡ first_refusal (absent (model.size h) p ∷ purged_up_to (model.point h) p ∷ right)
  by_size = elim (nat_le (model.size h) p) as (λ v. nat_le (model.size h) p ≡ v → first_refusal (cond v (Some (NoJournal (model.size h))) None ∷ purged_up_to (model.point h) p ∷ no_time f.kind ∷ other_root f.root told ∷ approvals_refusal known given needed ∷ [])
      ≡ first_refusal (cond v (Some (NoJournal (model.size h))) None ∷ purged_up_to (model.point h) p ∷ right)) [
        | true ↦ λ e. refl
        | false ↦ λ e. by_point (leb-false (model.size h) p e)
      ] refl

  pub purge_told : first_refusal (row_of_purge f known told needed given) ≡ first_refusal (purge_row (model.size h) (model.point h) (kind_at h p) (digest (model.root h p)) known (purge_needs h p) p told given)
  purge_told =
      ap (λ x. first_refusal (row x f.point f.asked)) a.size_is ∙ ap (λ x. first_refusal (row (model.size h) x f.asked)) a.point_is
      ∙ ap (λ x. first_refusal (row (model.size h) (model.point h) x)) a.asked_is ∙ by_size

-- a purge that isn't refused has its point above the one so far
none_first : (r : Option Refusal) (row : List (Option Refusal)) → IsNone (first_refusal (r ∷ row)) → IsNone r × IsNone (first_refusal row)
none_first None row is = (refl, is)
none_first (Some x) row is = absurd cc

if_none : (b : Bool) (x : Refusal) → IsNone (cond b (Some x) None) → b ≡ false
if_none true x is = absurd cc
if_none false x is = refl

-- there is no room over the whole life, or there is
pub life_full : (k : Kept) (h : History) (n : ℕ) → Serves k h → n ≡ k.size - k.point → k.limits.size ≤ k.size → Some (Full n k.size) ≡ life_fullness k.limits h
unfolding life_fullness
life_full k h n s is most =
    full_told k h n s is ∙ sym (ap (λ v. cond v (Some (Full (kept_count h) (model.size h))) None) (le-leb k.limits.size (model.size h) (omega (arith, most, s.stands.counts.size))))

pub life_not : (k : Kept) (h : History) → Serves k h → k.size < k.limits.size → (let none : Option Refusal = None in none ≡ life_fullness k.limits h)
unfolding life_fullness
life_not k h s room = sym (ap (λ v. cond v (Some (Full (kept_count h) (model.size h))) None) (lt-leb k.limits.size (model.size h) (omega (arith, room, s.stands.counts.size))))

-- the purge that is placed
module _ (h : History) (p : ℕ) (given : List Approval) (header : Header) where
  pub purge_kind : (purge_journal h p given).header ≡ header → is_member header.kind ≡ false
  unfolding purge_header
  purge_kind is = ap (λ (x : Header). is_member x.kind) (sym is)

  pub purge_bounds : (limits : Limits) (told : Digest) → AreWithin limits → IsNone (first_refusal (purge_judgements limits h p told given)) → AreLawful (journals h) → (model.point h < p) × (p < model.size h)
  unfolding purge_header
  purge_bounds limits told within none lawful =
      let own : IsNextPurge h (purge_header (model.size h) p told given) = purge_own limits within h p told given none told lawful in
      (own.above, own.before)

  pub purge_may : (limits : Limits) (told : Digest) → AreWithin limits → IsNone (first_refusal (purge_judgements limits h p told given)) → AreLawful (journals h) → (purge_journal h p given).header ≡ header → MayPlace h header
  purge_may limits told within none lawful is = subst (MayPlace h) is (purge_next limits within h p told given none (digest (digest_of_base (base_of h p))) lawful)

pub purge_point : (jsn p : ℕ) (link : Digest) (given : List Approval) (header : Header) (old : ℕ) → header ≡ purge_header jsn p link given → point_with header old ≡ p
unfolding purge_header
purge_point jsn p link given header old is = ap (λ (x : Header). point_with x old) is
