-- What is decided by keys, needs and a root is what is to be decided behind a base.
use Rattle.std.proofs.Common.{◌≡◌, ℕ, Bool, true, List, [], Option, Some, None, refl, sym, ap, subst, arith, ◌∙◌}
use Rattle.std.specs.Prelude.{◌↔◌, IsTrue, IfOk, Result, option_map}
use Rattle.std.specs.Option.{option_or}
use Rattle.ledger_bytes.specs.declared.digest.Digest.{Digest}
use Rattle.ledger_bytes.specs.declared.failure.NoMemory.{NoMemory}
use Rattle.ledger_bytes.specs.declared.refusal.Refusal.{Refusal}
use Rattle.ledger_bytes.specs.declared.refusal.Refusal.TheVariants.{MissingApproval}
use Rattle.journal_record.specs.Entry.{Entry}
use Rattle.journal_record.specs.Items.{Item}
use Rattle.journal_record.specs.Request.{purge_request_digest_of}
use Rattle.journal_record.specs.declared.approval.Approval.{Approval}
use Rattle.journal_record.specs.declared.header.Kind.{Kind}
use Rattle.journal_record.specs.declared.header.Kind.TheVariants as kind
use Rattle.member_book.specs.Approvals.{approvals_refusal, order_refusal, unknown_refusal, key_refusal, missing_refusal}
use Rattle.pseudo_genesis.specs.declared.base.Base.{Base}
use Rattle.ledger_model.specs.History.{history}
use Rattle.ledger_model.specs.Needs.{HaveSame, purge_needs}
use Rattle.ledger_model.specs.Scheme.{Scheme}
use Rattle.ledger_model.proofs.NeedLaws.{missing_same}
use Rattle.audit_dump.specs.Approvals.{AreInForm, AreOf, IsPlacedBy, IsPlacedPurge}
use Rattle.audit_dump.specs.Deciding.{IsAskedOf, IsPlacedAmong, IsPurgeAmong}
use Rattle.audit_dump.specs.Known.{keys_behind, root_behind}

-- whose approval is missing doesn't depend on how often and in which order those are named who are needed
none_missing : (given : List Approval) (xs ys : List ℕ) → HaveSame xs ys → missing_refusal given xs ≡ missing_refusal given ys
none_missing given xs ys same = ap (option_map (λ (member : ℕ). MissingApproval member)) (missing_same given xs ys same)

same_refusal : (known : List (List ℕ)) (given : List Approval) (xs ys : List ℕ) → HaveSame xs ys → approvals_refusal known given xs ≡ approvals_refusal known given ys
same_refusal known given xs ys same =
    ap (λ (missing : Option Refusal). option_or (order_refusal given) (option_or (unknown_refusal known given) (option_or (key_refusal known given) missing))) (none_missing given xs ys same)

turned : (xs ys : List ℕ) → HaveSame xs ys → HaveSame ys xs
turned xs ys same = λ n. sym (same n)

of_same : (scheme : Scheme) (known : List (List ℕ)) (message xs ys who : List ℕ) → HaveSame xs ys → AreOf scheme known message xs who → AreOf scheme known message ys who
of_same scheme known message xs ys who same are =
    record { given = are.given; who_is = are.who_is; shown = are.shown; passed = sym (same_refusal known are.given xs ys same) ∙ are.passed }

form_same : (known : List (List ℕ)) (xs ys who : List ℕ) → HaveSame xs ys → AreInForm known xs who → AreInForm known ys who
form_same known xs ys who same are =
    record { given = are.given; who_is = are.who_is; short = are.short; in_order = are.in_order; are_known = are.are_known; none_missing = sym (none_missing are.given xs ys same) ∙ are.none_missing }

-- a purge, where a root is told or none
purge_here : (scheme : Scheme) (id : List ℕ) (start : Option Base) (before : List Entry) (item : Item) (needed : List ℕ) (root : Option Digest)
    → IsAskedOf start before item.header.a needed root
    → (IsPurgeAmong scheme id (keys_behind start before) needed item root → IsPlacedPurge scheme id start before item)
    × (IsPlacedPurge scheme id start before item → IsPurgeAmong scheme id (keys_behind start before) needed item root)
purge_here scheme id start before item needed None asked =
    let needs = purge_needs (history [] before) item.header.a in
    let known = keys_behind start before in (
      λ form. (λ le. absurd (omega (arith, le, asked.root_is)), λ lt. form_same known needed needs item.who asked.needed_are form),
      λ placed. form_same known needs needed item.who (turned needed needs asked.needed_are) (placed.1 asked.root_is),
    )
purge_here scheme id start before item needed (Some root) asked =
    let needs = purge_needs (history [] before) item.header.a in
    let known = keys_behind start before in
    let p = item.header.a in
    let same : purge_request_digest_of id p root.0 ≡ purge_request_digest_of id p (root_behind start before p) = ap (purge_request_digest_of id p) asked.root_is.1 in (
      λ of. (
        λ le. of_same scheme known (purge_request_digest_of id p (root_behind start before p)) needed needs item.who asked.needed_are (subst (λ (m : List ℕ). AreOf scheme known m needed item.who) same of),
        λ lt. absurd (omega (arith, lt, asked.root_is.0)),
      ),
      λ placed. of_same scheme known (purge_request_digest_of id p root.0) needs needed item.who (turned needed needs asked.needed_are)
          (subst (λ (m : List ℕ). AreOf scheme known m needs item.who) (sym same) (placed.0 asked.root_is.0)),
    )

by_kind : (scheme : Scheme) (id : List ℕ) (start : Option Base) (before : List Entry) (item : Item) (needed : List ℕ) (root : Option Digest) (sort : Kind)
    → (sort ≡ kind.Purge → IsAskedOf start before item.header.a needed root)
    → (IsPlacedAmong scheme id (keys_behind start before) needed root item sort → IsPlacedBy scheme id start before item sort)
    × (IsPlacedBy scheme id start before item sort → IsPlacedAmong scheme id (keys_behind start before) needed root item sort)
by_kind scheme id start before item needed root kind.Genesis asked = (λ is. is, λ is. is)
by_kind scheme id start before item needed root kind.Content asked = (λ is. is, λ is. is)
by_kind scheme id start before item needed root kind.Member asked = (λ is. is, λ is. is)
by_kind scheme id start before item needed root kind.Time asked = (λ is. is, λ is. is)
by_kind scheme id start before item needed root kind.Occult asked = (λ is. is, λ is. is)
by_kind scheme id start before item needed root kind.ClueOccult asked = (λ is. is, λ is. is)
by_kind scheme id start before item needed root kind.Purge asked = purge_here scheme id start before item needed root (asked refl)

-- what is decided among the members that are known is what is to be decided
pub placed_verdict : (scheme : Scheme) (id : List ℕ) (start : Option Base) (before : List Entry) (item : Item) (known : List (List ℕ)) (needed : List ℕ) (root : Option Digest) (good : Bool)
    → known ≡ keys_behind start before
    → (item.header.kind ≡ kind.Purge → IsAskedOf start before item.header.a needed root)
    → (good ≡ true → IsPlacedAmong scheme id known needed root item item.header.kind) × (IsPlacedAmong scheme id known needed root item item.header.kind → good ≡ true)
    → (good ≡ true → IsPlacedBy scheme id start before item item.header.kind) × (IsPlacedBy scheme id start before item item.header.kind → good ≡ true)
placed_verdict scheme id start before item known needed root good same asked told =
    let among = by_kind scheme id start before item needed root item.header.kind asked in
    let Among = λ (k : List (List ℕ)). IsPlacedAmong scheme id k needed root item item.header.kind in
    (λ is. among.0 (subst Among same (told.0 is)), λ placed. told.1 (subst Among (sym same) (among.1 placed)))

-- ---- what each kind's own test tells

pub with_root : (scheme : Scheme) (id : List ℕ) (known : List (List ℕ)) (needed : List ℕ) (item : Item) (root : Option Digest) (told : Digest) (message who : List ℕ) (p : ℕ) (result : Result Bool NoMemory)
    → root ≡ Some told → who ≡ item.who → p ≡ item.header.a → message ≡ purge_request_digest_of id p told.0
    → IfOk result (λ good. IsTrue good ↔ AreOf scheme known message needed who)
    → IfOk result (λ good. IsTrue good ↔ IsPurgeAmong scheme id known needed item root)
with_root scheme id known needed item root told message who p result root_is who_is p_is message_is ok =
    let said : message ≡ purge_request_digest_of id item.header.a told.0 = message_is ∙ ap (λ (a : ℕ). purge_request_digest_of id a told.0) p_is in
    let here = subst (λ (m : List ℕ). IfOk result (λ good. IsTrue good ↔ AreOf scheme known m needed item.who)) said
    (subst (λ (w : List ℕ). IfOk result (λ good. IsTrue good ↔ AreOf scheme known message needed w)) who_is ok) in
    subst (λ (r : Option Digest). IfOk result (λ good. IsTrue good ↔ IsPurgeAmong scheme id known needed item r)) (sym root_is) here

pub without_root : (scheme : Scheme) (id : List ℕ) (known : List (List ℕ)) (needed : List ℕ) (item : Item) (root : Option Digest) (who : List ℕ) (result : Result Bool NoMemory)
    → root ≡ None → who ≡ item.who
    → IfOk result (λ good. IsTrue good ↔ AreInForm known needed who)
    → IfOk result (λ good. IsTrue good ↔ IsPurgeAmong scheme id known needed item root)
without_root scheme id known needed item root who result root_is who_is ok =
    subst (λ (r : Option Digest). IfOk result (λ good. IsTrue good ↔ IsPurgeAmong scheme id known needed item r)) (sym root_is)
    (subst (λ (w : List ℕ). IfOk result (λ good. IsTrue good ↔ AreInForm known needed w)) who_is ok)

pub as_its_kind : (scheme : Scheme) (id : List ℕ) (known : List (List ℕ)) (needed : List ℕ) (root : Option Digest) (item : Item) (sort : Kind) (result : Result Bool NoMemory)
    → item.header.kind ≡ sort
    → IfOk result (λ good. IsTrue good ↔ IsPlacedAmong scheme id known needed root item sort)
    → IfOk result (λ good. IsTrue good ↔ IsPlacedAmong scheme id known needed root item item.header.kind)
as_its_kind scheme id known needed root item sort result is ok =
    subst (λ (k : Kind). IfOk result (λ good. IsTrue good ↔ IsPlacedAmong scheme id known needed root item k)) (sym is) ok
