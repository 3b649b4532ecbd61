-- What is kept of the journals stays so with one more.
use Rattle.std.proofs.Common.{◌≡◌, ℕ, ◌<◌, ◌≤◌, true, false, List, [], ◌∷◌, ◌++◌, length, map, Option, Some, None, refl, sym, ap, ap₂, subst, arith, ◌∙◌, append-nil, append_assoc, length-append, ◌+◌, take, drop}
use Rattle.std.proofs.lemmas.List.{map-append, length-map}
use Rattle.std.specs.Prelude.{nat_le, nat_lt}
use Rattle.std.proofs.lemmas.Bool.{and_parts, ltb-true, eqb-true}
use Rattle.ledger_bytes.specs.declared.digest.Digest.{Digest}
use Rattle.ledger_bytes.specs.declared.limits.TheConstants.{MEMBER_LIMIT}
use Rattle.journal_record.specs.Entry.{Entry}
use Rattle.journal_record.specs.Items.{Item}
use Rattle.journal_record.specs.Members as book
use Rattle.journal_record.specs.Rules.{IsHeader, a_ok, jsn_ok}
use Rattle.journal_record.specs.declared.header.Header.{Header}
use Rattle.journal_record.specs.declared.header.Kind.{Kind}
use Rattle.journal_record.specs.declared.header.Kind.TheVariants as kind
use Rattle.journal_record.specs.declared.member.Member.{Member}
use Rattle.pseudo_genesis.specs.declared.base.Base.{Base}
use Rattle.ledger_model.specs.Behind.{IsNextBehind, IsOwnBehind, count_behind, next_number}
use Rattle.ledger_model.specs.History.{history}
use Rattle.ledger_model.specs.Members.{founders, admitted_members, is_member, members}
use Rattle.ledger_model.specs.Needs.{HaveSame, purge_needs}
use Rattle.ledger_model.proofs.PlaceLaws.{founders_kept, admitted_more, admitted_same}
use Rattle.audit_dump.specs.Deciding.{IsAskedOf, IsRootBelow}
use Rattle.audit_dump.specs.Known.{keys_behind}
use Rattle.audit_dump.specs.Passing.{admitted_by}

-- the members that one journal more admits
admitted_next : (before : List Entry) (j : Entry) → admitted_members (before ++ j ∷ []) ≡ admitted_members before ++ admitted_by j.header
admitted_next before j = elim (is_member j.header.kind) as (λ v. is_member j.header.kind ≡ v → admitted_members (before ++ j ∷ []) ≡ admitted_members before ++ admitted_by j.header) [
  | true ↦ λ is. rw is (admitted_more before j is)
  | false ↦ λ is. rw (is, append-nil (admitted_members before)) (admitted_same before j is)
] refl

keys_next : (start : Option Base) (before : List Entry) (j : Entry) → 1 ≤ next_number start before → keys_behind start (before ++ j ∷ []) ≡ keys_behind start before ++ book.keys (admitted_by j.header)
unfolding members
keys_next None before j some =
    let key = λ (m : Member). m.key.0 in
    ap (map key) (ap₂ (λ (two more : List Member). two ++ more) (founders_kept before (j ∷ []) (omega (arith, some))) (admitted_next before j) ∙ sym (append_assoc (founders before) (admitted_members before) (admitted_by j.header)))
    ∙ map-append key (founders before ++ admitted_members before) (admitted_by j.header)
keys_next (Some base) before j some =
    let key = λ (m : Member). m.key.0 in
    let front = map (λ (k : Digest). k.0) base.keys in
    ap (λ (more : List (List ℕ)). front ++ more) (ap (map key) (admitted_next before j) ∙ map-append key (admitted_members before) (admitted_by j.header))
    ∙ sym (append_assoc front (map key (admitted_members before)) (map key (admitted_by j.header)))

pub keys_then : (start : Option Base) (before : List Entry) (j : Entry) (old new : List Member) → 1 ≤ next_number start before → book.keys old ≡ keys_behind start before → new ≡ old ++ admitted_by j.header
    → book.keys new ≡ keys_behind start (before ++ j ∷ [])
keys_then start before j old new some are more =
    let key = λ (m : Member). m.key.0 in
    ap (map key) more ∙ map-append key old (admitted_by j.header) ∙ ap (λ (front : List (List ℕ)). front ++ map key (admitted_by j.header)) are ∙ sym (keys_next start before j some)

-- there are as many keys as members
keys_count : (start : Option Base) (before : List Entry) → length (keys_behind start before) ≡ count_behind start before
keys_count None before = length-map (members (history [] before)) (λ (m : Member). m.key.0)
keys_count (Some base) before =
    length-append (map (λ (k : Digest). k.0) base.keys) (book.keys (admitted_members before))
    ∙ ap₂ (λ (m n : ℕ). m + n) (length-map base.keys (λ (k : Digest). k.0)) (length-map (admitted_members before) (λ (m : Member). m.key.0))

-- behind these journals there is room for a member whose journal is the next one
pub has_room : (members : List Member) (start : Option Base) (before : List Entry) (x : Header) → book.keys members ≡ keys_behind start before → IsNextBehind start before x → x.kind ≡ kind.Member → length members < MEMBER_LIMIT
has_room members start before x are next is =
    let number : x.a ≡ count_behind start before = subst (IsOwnBehind start before x) is next.own in
    let layout : a_ok kind.Member x.jsn x.a ≡ true = sym (ap (λ (k : Kind). a_ok k x.jsn x.a) is) ∙ next.layout.a in
    let low : x.a < MEMBER_LIMIT = ltb-true x.a MEMBER_LIMIT (and_parts (nat_le 2 x.a) (nat_lt x.a MEMBER_LIMIT) layout).1 in
    omega (arith, number, low, keys_count start before, ap length are, length-map members (λ (m : Member). m.key.0))

-- the point of a purge that is the next journal lies behind none that is still to come
pub purge_within : (start : Option Base) (before : List Entry) (x : Header) → IsNextBehind start before x → x.kind ≡ kind.Purge → x.a ≤ next_number start before
purge_within start before x next is =
    let layout : a_ok kind.Purge x.jsn x.a ≡ true = sym (ap (λ (k : Kind). a_ok k x.jsn x.a) is) ∙ next.layout.a in
    omega (arith, next.jsn, ltb-true x.a x.jsn (and_parts (nat_lt 0 x.a) (nat_lt x.a x.jsn) layout).1)

-- by what a journal is judged that is a purge
pub asked_of : (start : Option Base) (before : List Entry) (item : Item) (x : Header) (needed items : List ℕ) (root : Option Digest) → x ≡ item.header → needed ≡ items
    → (x.kind ≡ kind.Purge → HaveSame items (purge_needs (history [] before) x.a)) → (item.header.kind ≡ kind.Purge → IsRootBelow start before item.header.a root)
    → item.header.kind ≡ kind.Purge → IsAskedOf start before item.header.a needed root
asked_of start before item x needed items root same are needs rooted is =
    let listed = subst (λ (xs : List ℕ). HaveSame xs (purge_needs (history [] before) x.a)) (sym are) (needs (ap (λ (y : Header). y.kind) same ∙ is)) in
    record { needed_are = subst (λ (y : Header). HaveSame needed (purge_needs (history [] before) y.a)) same listed; root_is = rooted is }

-- ---- journal 0

pub first_keys_are : (j : Entry) (operator regulator : Digest) → j.header.kind ≡ kind.Genesis → operator.0 ≡ take 32 j.content → regulator.0 ≡ drop 32 j.content
    → book.keys (book.founders operator regulator) ≡ keys_behind None (j ∷ [])
unfolding members
first_keys_are j operator regulator is one two =
    let none : admitted_members (j ∷ []) ≡ [] = admitted_same [] j (ap is_member is) in
    ap₂ (λ (a b : List ℕ). a ∷ b ∷ []) one two ∙ ap (λ (more : List Member). take 32 j.content ∷ drop 32 j.content ∷ book.keys more) (sym none)

pub first_next : (x : Header) → IsHeader x → x.kind ≡ kind.Genesis → IsNextBehind None [] x
first_next x layout is =
    let zero : x.jsn ≡ 0 = eqb-true x.jsn 0 (sym (ap (λ (k : Kind). jsn_ok k x.jsn) is) ∙ layout.jsn) in
    record { layout = layout; jsn = zero; below = omega (arith, zero); begins = tt; own = subst (IsOwnBehind None [] x) (sym is) tt }
