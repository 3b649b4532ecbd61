-- Approvals are judged by their members and keys alone.
use Rattle.std.proofs.Common.{◌≡◌, ℕ, ◌^◌, ◌<◌, ◌≤◌, ◌+◌, Bool, true, false, cond, List, [], ◌∷◌, length, map, drop, get_or, All, Option, Some, None, Result, Ok, Err, refl, sym, ap, ap₂, ◌∙◌, subst, arith}
use Rattle.std.specs.Prelude.{not, min, find, position, zip, nat_lt, nat_le, slice_get, option_map, ◌==◌, ◌||◌}
use Rattle.std.specs.List.{list_any, reduce, prefix_len}
use Rattle.std.specs.Option.{option_or}
use Rattle.std.specs.Result.{is_ok}
use Rattle.std.proofs.lemmas.Bool.{ltb-true, false≢true}
use Rattle.std.proofs.lemmas.List.{drop-map, length-map}
use Rattle.std.proofs.lemmas.List.Elements.{All-head, All-tail, All-nil, All-cons, All-weaker, filter_agree}
use Rattle.std.proofs.lemmas.Option.{slice_get-get_or}
use Rattle.std.proofs.lemmas.Slice.Eq.{bytes_eq-Decides}
use Rattle.ledger_bytes.specs.Digests.{digest}
use Rattle.ledger_bytes.specs.declared.digest.Digest.{Digest}
use Rattle.ledger_bytes.specs.Fields.{IsBytes}
use Rattle.ledger_bytes.specs.declared.failure.Bad.{Bad}
use Rattle.ledger_bytes.specs.declared.limits.TheConstants.{MEMBER_LIMIT}
use Rattle.ledger_bytes.specs.declared.refusal.Refusal.{Refusal}
use Rattle.ledger_bytes.specs.declared.refusal.Refusal.TheVariants.{ApprovalOrder, UnknownMember, WrongKey, MissingApproval}
use Rattle.ledger_bytes.proofs.Fields.{wide32, ok_is}
use Rattle.journal_record.specs.Members.{is_known, is_key_of}
use Rattle.journal_record.specs.declared.approval.Approval.{Approval}
use Rattle.member_book.specs.Approvals.{neighbours, order_refusal, unknown_refusal, shows_key, key_refusal, approves, missing_refusal, approvals_refusal, judgement}
use Rattle.ledger_model.specs.Scheme.{Scheme}
use Rattle.audit_dump.specs.Approvals.{HasShortProof, IsOf, AreOf, AreInForm}
use Rattle.audit_dump.specs.Said.{IsSaid, AreSaid, AreShown, said_by, said_of, own_approval}
use Rattle.audit_dump.proofs.SaidLaws.{normal, only_is, only_told, same_normal, one_way}

-- ---- lists of what was made of others

module _ {X Y : Type 0} (f : X → Y) where
  prefix_of_map : (p : Y → Bool) (xs : List X) → prefix_len p (map f xs) ≡ prefix_len (λ x. p (f x)) xs
  prefix_of_map p [] = refl
  prefix_of_map p (x ∷ xs) = ap (λ (n : ℕ). cond (p (f x)) (1 + n) 0) (prefix_of_map p xs)

  position_of_map : (p : Y → Bool) (xs : List X) → position p (map f xs) ≡ position (λ x. p (f x)) xs
  position_of_map p xs = ap₂ (λ (n len : ℕ). cond (nat_lt n len) (Some n) None) (prefix_of_map (λ y. not (p y)) xs) (length-map xs f)

  find_of_map : (p : Y → Bool) (xs : List X) → find p (map f xs) ≡ option_map f (find (λ x. p (f x)) xs)
  find_of_map p [] = refl
  find_of_map p (x ∷ xs) = by (p (f x)) (find p (map f xs)) (find (λ x. p (f x)) xs) (find_of_map p xs)
    where
      by : (b : Bool) (o : Option Y) (u : Option X) → o ≡ option_map f u → cond b (Some (f x)) o ≡ option_map f (cond b (Some x) u)
      by true o u e = refl
      by false o u e = e

  any_of_map : (p : Y → Bool) (xs : List X) → list_any p (map f xs) ≡ list_any (λ x. p (f x)) xs
  any_of_map p [] = refl
  any_of_map p (x ∷ xs) = ap (λ (b : Bool). p (f x) || b) (any_of_map p xs)

  zip_of_maps : (xs us : List X) → zip (map f xs) (map f us) ≡ map (λ (p : X × X). (f p.0, f p.1)) (zip xs us)
  zip_of_maps [] us = refl
  zip_of_maps (x ∷ xs) [] = refl
  zip_of_maps (x ∷ xs) (u ∷ us) = ap (λ ps. (f x, f u) ∷ ps) (zip_of_maps xs us)

-- ---- approvals with other keys and proofs

module _ (key : Approval → Option Digest) (proof : Approval → List ℕ) where
  abbrev remade : Approval → Approval
  remade by = record { member = by.member; key = key by; proof = proof by }

  same_order : (given : List Approval) → order_refusal (map remade given) ≡ order_refusal given
  same_order given =
      let pairs : neighbours (map remade given) ≡ map (λ (p : Approval × Approval). (remade p.0, remade p.1)) (neighbours given) = ap (zip (map remade given)) (drop-map remade 1 given) ∙ zip_of_maps remade given (drop 1 given) in
      ap (option_map (λ (before : ℕ). ApprovalOrder (before + 1)))
      (ap (position (λ (p : Approval × Approval). nat_le p.1.member p.0.member)) pairs
      ∙ position_of_map (λ (p : Approval × Approval). (remade p.0, remade p.1)) (λ (p : Approval × Approval). nat_le p.1.member p.0.member) (neighbours given))

  same_unknown : (known : List (List ℕ)) (given : List Approval) → unknown_refusal known (map remade given) ≡ unknown_refusal known given
  same_unknown known given =
      ap (option_map (λ (g : Approval). UnknownMember g.member)) (find_of_map remade (λ (g : Approval). not (is_known known g.member)) given)
      ∙ told (find (λ (g : Approval). not (is_known known g.member)) given)
    where
      told : (o : Option Approval) → option_map (λ (g : Approval). UnknownMember g.member) (option_map remade o) ≡ option_map (λ (g : Approval). UnknownMember g.member) o
      told None = refl
      told (Some x) = refl

  same_missing : (given : List Approval) (needed : List ℕ) → missing_refusal (map remade given) needed ≡ missing_refusal given needed
  same_missing given needed =
      ap (λ (members : List ℕ). option_map (λ (member : ℕ). MissingApproval member) (reduce min members))
      (filter_agree (λ (member : ℕ). not (approves (map remade given) member)) (λ (member : ℕ). not (approves given member)) (λ member. ap not (any_of_map remade (λ (g : Approval). g.member == member) given)) needed)

-- ---- what passes

none_both : (a b : Option Refusal) → option_or a b ≡ None → (a ≡ None) × (b ≡ None)
none_both None b e = (refl, e)
none_both (Some why) b e = absurd cc

both_none : (a b : Option Refusal) → a ≡ None → b ≡ None → option_or a b ≡ None
both_none None b none also = also
both_none (Some why) b none also = absurd cc

-- nothing is found in a list, and so not at its head
none_found : (b : Bool) (f : Approval → Refusal) (x : Approval) (o : Option Approval) → option_map f (cond (not b) (Some x) o) ≡ None → (b ≡ true) × (option_map f o ≡ None)
none_found true f x o e = (refl, e)
none_found false f x o e = absurd cc

found_none : (b : Bool) (f : Approval → Refusal) (x : Approval) (o : Option Approval) → b ≡ true → option_map f o ≡ None → option_map f (cond (not b) (Some x) o) ≡ None
found_none true f x o is none = none
found_none false f x o is none = absurd cc

all_known : (known : List (List ℕ)) (given : List Approval) → unknown_refusal known given ≡ None → All (λ by. by.member < length known) given
all_known known [] none = All-nil (λ by. by.member < length known)
all_known known (x ∷ given) none =
    let n = none_found (is_known known x.member) (λ (g : Approval). UnknownMember g.member) x (find (λ (g : Approval). not (is_known known g.member)) given) none in
    All-cons (λ by. by.member < length known) x given (ltb-true x.member (length known) n.0) (all_known known given n.1)

-- as many members as there may be have numbers that fit their bytes
all_fit : (known : List (List ℕ)) (given : List Approval) → length known ≤ MEMBER_LIMIT → unknown_refusal known given ≡ None → All (λ by. by.member < 2 ^ 32) given
all_fit known given few none = All-weaker (λ by. by.member < length known) (λ by. by.member < 2 ^ 32) (λ by lt. omega (arith, lt, few)) given (all_known known given none)

own_shows : (known : List (List ℕ)) (member : ℕ) → member < length known → is_key_of (option_map digest (slice_get known member)) (slice_get known member) ≡ true
own_shows known member lt =
    let key : List ℕ = get_or known member [] in
    subst (λ (k : Option (List ℕ)). is_key_of (option_map digest k) k ≡ true) (sym (slice_get-get_or known member [] lt)) ((bytes_eq-Decides key key).1 refl)

own_keys : (known : List (List ℕ)) (given : List Approval) → All (λ by. by.member < length known) given → key_refusal known (map (own_approval known) given) ≡ None
own_keys known [] fits = refl
own_keys known (x ∷ given) fits =
    found_none (shows_key known (own_approval known x)) (λ (g : Approval). WrongKey g.member) (own_approval known x) (find (λ (g : Approval). not (shows_key known g)) (map (own_approval known) given))
    (own_shows known x.member (All-head (λ by. by.member < length known) x given fits)) (own_keys known given (All-tail (λ by. by.member < length known) x given fits))

-- ---- the verdicts

module _ (known : List (List ℕ)) (needed : List ℕ) (who : List ℕ) (few : length known ≤ MEMBER_LIMIT) where
  pub of_passed : (scheme : Scheme) (message : List ℕ) (given : List Approval) → AreShown scheme message who given → approvals_refusal known given needed ≡ None → AreOf scheme known message needed who
  of_passed scheme message given are none = record { given = given; who_is = are.who_is; shown = are.shown; passed = none }

  pub passed_of : (scheme : Scheme) (message : List ℕ) (given : List Approval) → AreShown scheme message who given → AreOf scheme known message needed who → approvals_refusal known given needed ≡ None
  passed_of scheme message given are is =
      let unknown = (none_both (unknown_refusal known is.given) _ (none_both (order_refusal is.given) _ is.passed).1).0 in
      let also : AreShown scheme message who is.given = record { who_is = is.who_is; shown = is.shown; members = all_fit known is.given few unknown } in
      ap (λ (xs : List Approval). approvals_refusal known xs needed) (one_way scheme message who given is.given are also) ∙ is.passed

  abbrev own : Approval → Option Digest
  own by = option_map digest (slice_get known by.member)

  own_order : (given : List Approval) → order_refusal (map (own_approval known) given) ≡ order_refusal given
  own_order given = same_order own (λ by. []) given

  own_unknown : (given : List Approval) → unknown_refusal known (map (own_approval known) given) ≡ unknown_refusal known given
  own_unknown given = same_unknown own (λ by. []) known given

  own_missing : (given : List Approval) → missing_refusal (map (own_approval known) given) needed ≡ missing_refusal given needed
  own_missing given = same_missing own (λ by. []) given needed

  pub form_passed : (said : List Approval) → AreSaid who said → approvals_refusal known (map (own_approval known) said) needed ≡ None → AreInForm known needed who
  form_passed said are none =
      let after_order = none_both (order_refusal (map (own_approval known) said)) _ none in
      let after_unknown = none_both (unknown_refusal known (map (own_approval known) said)) _ after_order.1 in
      let after_key = none_both (key_refusal known (map (own_approval known) said)) _ after_unknown.1 in
      record {
        given = said;
        who_is = are.who_is;
        short = All-weaker IsSaid HasShortProof (λ by is. is.short) said are.said;
        in_order = sym (own_order said) ∙ after_order.0;
        are_known = sym (own_unknown said) ∙ after_unknown.0;
        none_missing = sym (own_missing said) ∙ after_key.1;
      }

  -- without keys an approval whose number fits is as it is read
  bare_is : (given : List Approval) → All (λ by. by.member < 2 ^ 32) given → map normal given ≡ map (λ (by : Approval). said_by by.member by.proof) given
  bare_is [] fits = refl
  bare_is (x ∷ given) fits =
      ap₂ (λ (a : Approval) (rest : List Approval). a ∷ rest) (ap (λ (n : ℕ). said_by n x.proof) (wide32.again x.member (All-head (λ by. by.member < 2 ^ 32) x given fits)))
      (bare_is given (All-tail (λ by. by.member < 2 ^ 32) x given fits))

  said_is : (said : List Approval) → All IsSaid said → map normal said ≡ said
  said_is [] fits = refl
  said_is (x ∷ said) fits =
      let first : IsSaid x = All-head IsSaid x said fits in
      ap₂ (λ (a : Approval) (rest : List Approval). a ∷ rest) (ap₂ (λ (n : ℕ) (k : Option Digest). record { member = n; key = k; proof = x.proof }) (wide32.again x.member first.member) (sym first.no_key))
      (said_is said (All-tail IsSaid x said fits))

  pub passed_form : (said : List Approval) → AreSaid who said → AreInForm known needed who → approvals_refusal known (map (own_approval known) said) needed ≡ None
  passed_form said are is =
      let fits = all_fit known is.given few is.are_known in
      let same : map (λ (by : Approval). said_by by.member by.proof) is.given ≡ said =
      sym (bare_is is.given fits) ∙ (same_normal is.given said is.short (All-weaker IsSaid HasShortProof (λ by is. is.short) said are.said) (sym is.who_is ∙ are.who_is) ∙ said_is said are.said) in
      let order : order_refusal said ≡ None = ap order_refusal (sym same) ∙ (same_order (λ by. None) (λ by. by.proof) is.given ∙ is.in_order) in
      let unknown : unknown_refusal known said ≡ None = ap (unknown_refusal known) (sym same) ∙ (same_unknown (λ by. None) (λ by. by.proof) known is.given ∙ is.are_known) in
      let missing : missing_refusal said needed ≡ None = ap (λ (xs : List Approval). missing_refusal xs needed) (sym same) ∙ (same_missing (λ by. None) (λ by. by.proof) is.given needed ∙ is.none_missing) in
      both_none (order_refusal (map (own_approval known) said)) _ (own_order said ∙ order)
      (both_none (unknown_refusal known (map (own_approval known) said)) _ (own_unknown said ∙ unknown)
      (both_none (key_refusal known (map (own_approval known) said)) _ (own_keys known said (all_known known said unknown)) (own_missing said ∙ missing)))

  pub of_verdict : (scheme : Scheme) (message : List ℕ) (given : List Approval) (good : Bool) → AreShown scheme message who given
      → (good ≡ true → approvals_refusal known given needed ≡ None) × (approvals_refusal known given needed ≡ None → good ≡ true)
      → (good ≡ true → AreOf scheme known message needed who) × (AreOf scheme known message needed who → good ≡ true)
  of_verdict scheme message given good are told = (λ is. of_passed scheme message given are (told.0 is), λ of. told.1 (passed_of scheme message given are of))

  pub form_verdict : (said given : List Approval) (good : Bool) → AreSaid who said → given ≡ map (own_approval known) said
      → (good ≡ true → approvals_refusal known given needed ≡ None) × (approvals_refusal known given needed ≡ None → good ≡ true)
      → (good ≡ true → AreInForm known needed who) × (AreInForm known needed who → good ≡ true)
  form_verdict said given good are e told =
      let same = ap (λ (xs : List Approval). approvals_refusal known xs needed) e in
      (λ is. form_passed said are (sym same ∙ told.0 is), λ form. told.1 (same ∙ passed_form said are form))

-- the judge's answer
pub judged : (o : Option Refusal) (r : Result (Unit {0}) Refusal) → r ≡ judgement o → (is_ok r ≡ true → o ≡ None) × (o ≡ None → is_ok r ≡ true)
judged o r e = (λ ok. none o (sym (ap is_ok e) ∙ ok), λ is. ap is_ok e ∙ ap (λ (u : Option Refusal). is_ok (judgement u)) is)
  where
    none : (u : Option Refusal) → is_ok (judgement u) ≡ true → u ≡ None
    none None ok = refl
    none (Some why) ok = absurd (false≢true ok)

-- ---- one approval

-- a key by its bytes
pub key_found : (key : Option Digest) (bytes : Option (List ℕ)) → option_map (λ (d : Digest). d.0) key ≡ bytes → key ≡ option_map digest bytes
key_found None bytes e = ap (option_map digest) e
key_found (Some key) bytes e = ap (option_map digest) e

module _ (scheme : Scheme) (known : List (List ℕ)) (message : List ℕ) (member : ℕ) (who : List ℕ) where
  -- the approval that is read is the one that there is
  read_is : (m : ℕ) (proof : List ℕ) → Ok (said_by m proof) ≡ said_of who → member < 2 ^ 32 → (is : IsOf scheme known message member who) → (m ≡ member) × (proof ≡ is.by.proof)
  read_is m proof e lt is =
      let told = only_told who is.by (omega (arith, lt, is.member_is)) is.shown.short is.who_is in
      let same = ok_is (said_by m proof) (said_by is.by.member is.by.proof) (e ∙ told) in
      (ap (λ (a : Approval). a.member) same ∙ is.member_is, ap (λ (a : Approval). a.proof) same)

  pub other_member : (m : ℕ) (proof : List ℕ) → Ok (said_by m proof) ≡ said_of who → member < 2 ^ 32 → (m ≡ member → ⊥) → IsOf scheme known message member who → ⊥
  other_member m proof e lt other is = other (read_is m proof e lt is).0

  pub not_read : (bad : Bad) → Err bad ≡ said_of who → member < 2 ^ 32 → IsOf scheme known message member who → ⊥
  not_read bad e lt is = let never = e ∙ only_told who is.by (omega (arith, lt, is.member_is)) is.shown.short is.who_is in cc

  pub key_told : (m : ℕ) (proof : List ℕ) (key : Option Digest) → IsBytes who → member < 2 ^ 32 → Ok (said_by m proof) ≡ said_of who → m ≡ member
      → option_map (λ (d : Digest). d.0) key ≡ scheme message proof
      → (is_key_of key (slice_get known member) ≡ true → IsOf scheme known message member who) × (IsOf scheme known message member who → is_key_of key (slice_get known member) ≡ true)
  key_told m proof key plain lt e same shown =
      let found = only_is who (said_by m proof) plain (sym e) in
      let key_is : key ≡ option_map digest (scheme message proof) = key_found key (scheme message proof) shown in (
        λ ok. record {
          by = record { member = m; key = key; proof = proof };
          who_is = found.0;
          member_is = same;
          shown = record { short = found.1.short; key_is = key_is };
          key_is = ok;
        },
        λ is.
            let as_shown : key ≡ is.by.key = key_is ∙ (ap (λ (p : List ℕ). option_map digest (scheme message p)) (read_is m proof e lt is).1 ∙ sym is.shown.key_is) in
            ap (λ (k : Option Digest). is_key_of k (slice_get known member)) as_shown ∙ is.key_is,
      )
