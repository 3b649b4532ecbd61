-- Who has approved a purge that is accepted.
use Rattle.std.specs.Prelude.{filter, find, slice_get, option_map, ◌==◌, min}
use Rattle.std.specs.List.{list_all, reduce}
use Rattle.std.specs.Option.{option_or}
use Rattle.std.proofs.Common.{◌≡◌, ℕ, zero, suc, ◌<◌, ◌≤◌, ◌&&◌, ◌||◌, Bool, true, false, cond, not, List, [], ◌∷◌, map, Option, Some, None, refl, sym, ◌∙◌, ap, arith}
use Rattle.std.proofs.lemmas.Bool.{and_from, eq-eqb, le-leb, lt-ltb, true≢false}
use Rattle.std.proofs.lemmas.Option.{none-some}
use Rattle.ledger_bytes.specs.declared.digest.Digest.{Digest}
use Rattle.ledger_bytes.specs.declared.refusal.Refusal.{Refusal}
use Rattle.ledger_bytes.specs.declared.refusal.Refusal.TheVariants as refusals
use Rattle.journal_record.specs.Entry.{Entry}
use Rattle.journal_record.specs.declared.approval.Approval.{Approval}
use Rattle.journal_record.specs.declared.header.Kind.TheVariants as kind
use Rattle.member_book.specs.Approvals.{order_refusal, unknown_refusal, shows_key, key_refusal, approves, missing_refusal}
use Rattle.member_book.specs.Erasures.{is_record}
use Rattle.ledger_model.specs.History.{History, journals, point}
use Rattle.ledger_model.specs.Judgements.{own_refusal}
use Rattle.ledger_model.specs.Lawful.{IsLawful}
use Rattle.ledger_model.specs.Limits.{real_limits}
use Rattle.ledger_model.specs.Members.{keys}
use Rattle.ledger_model.specs.Needs.{is_taken, purge_needs, is_among}
use Rattle.ledger_model.specs.declared.job.Job.TheVariants.{Purge}
use Rattle.ledger_model.proofs.AcceptedLaws.{purge_approved}
use Rattle.ledger_model.proofs.HideLaws.{number_at}
use Rattle.ledger_model.proofs.LawfulLaws.{lawful_from}
use Rattle.ledger_model.proofs.NeedLaws.{filtered_in}

-- no refusal of two is none of each
neither : (a b : Option Refusal) → option_or a b ≡ None → (a ≡ None) × (b ≡ None)
neither None b is = (refl, is)
neither (Some x) b is = absurd (none-some x (sym is))

-- where none is missing, each that is needed approves
none_needed : (given : List Approval) (xs : List ℕ) → option_map (λ m. refusals.MissingApproval m) (reduce min xs) ≡ None → xs ≡ []
none_needed given [] is = refl
none_needed given (x ∷ xs) is = absurd cc

needed_approves : (given : List Approval) (needed : List ℕ) (m : ℕ) → missing_refusal given needed ≡ None → is_among m needed ≡ true → approves given m ≡ true
needed_approves given needed m none among = by_approval (approves given m) refl where
  lacks : is_among m (filter (λ member. not (approves given member)) needed) ≡ false
  lacks = ap (is_among m) (none_needed given (filter (λ member. not (approves given member)) needed) none)

  by_approval : (v : Bool) → approves given m ≡ v → v ≡ true
  by_approval true is = refl
  by_approval false is =
      absurd (true≢false (sym (filtered_in (λ member. not (approves given member)) m needed ∙ ap (λ v. not v && is_among m needed) is ∙ among) ∙ lacks))

-- a record that is taken has its member among those that are needed
taken_among : (from to : ℕ) (es : List Entry) (n : ℕ) (e : Entry) → slice_get es n ≡ Some e → is_taken from to e ≡ true → is_among e.header.member (map (λ (j : Entry). j.header.member) (filter (is_taken from to) es)) ≡ true
taken_among from to [] n e at is = absurd cc
taken_among from to (x ∷ es) zero e at is =
    let same : x ≡ e = cc in
    ap (λ v. is_among e.header.member (map (λ (j : Entry). j.header.member) (cond v (x ∷ filter (is_taken from to) es) (filter (is_taken from to) es)))) (ap (is_taken from to) same ∙ is)
    ∙ ap (λ v. v || is_among e.header.member (map (λ (j : Entry). j.header.member) (filter (is_taken from to) es))) (ap (λ (y : Entry). y.header.member == e.header.member) same ∙ eq-eqb e.header.member e.header.member refl)
taken_among from to (x ∷ es) (suc n) e at is = by_first (is_taken from to x) (taken_among from to es n e at is) where
  either : (v w : Bool) → w ≡ true → (v || w) ≡ true
  either true w is_w = refl
  either false w is_w = is_w

  by_first : (v : Bool) → is_among e.header.member (map (λ (j : Entry). j.header.member) (filter (is_taken from to) es)) ≡ true → is_among e.header.member (map (λ (j : Entry). j.header.member) (cond v (x ∷ filter (is_taken from to) es) (filter (is_taken from to) es))) ≡ true
  by_first true later = either (x.header.member == e.header.member) _ later
  by_first false later = later

-- where no proof shows another key, each shows that of its member
all_show : (known : List (List ℕ)) (given : List Approval) → key_refusal known given ≡ None → list_all (shows_key known) given ≡ true
all_show known [] none = refl
all_show known (g ∷ gs) none = by_first (shows_key known g) (all_show known gs) none where
  by_first : (v : Bool) → (key_refusal known gs ≡ None → list_all (shows_key known) gs ≡ true) → option_map (λ (x : Approval). refusals.WrongKey x.member) (cond (not v) (Some g) (find (λ (x : Approval). not (shows_key known x)) gs)) ≡ None → (v && list_all (shows_key known) gs) ≡ true
  by_first true later is = later is
  by_first false later is = absurd (none-some (refusals.WrongKey g.member) (sym is))

module _ (h : History) (p : ℕ) (told : Digest) (given : List Approval) (accepted : own_refusal real_limits h (Purge p told given) ≡ None) where
  approved : (key_refusal (keys h) given ≡ None) × (missing_refusal given (purge_needs h p) ≡ None)
  approved =
      let a = neither (order_refusal given) _ (purge_approved real_limits h p told given accepted) in
      let b = neither (unknown_refusal (keys h) given) _ a.1 in
      neither (key_refusal (keys h) given) (missing_refusal given (purge_needs h p)) b.1

  pub operator_approves : approves given 0 ≡ true
  operator_approves = needed_approves given (purge_needs h p) 0 approved.1 refl

  pub proofs_show : list_all (shows_key (keys h)) given ≡ true
  proofs_show = all_show (keys h) given approved.0

  pub owner_approves : (n : ℕ) (e : Entry) → IsLawful h → slice_get (journals h) n ≡ Some e → e.header.kind ≡ kind.Content → point h ≤ n → n < p → approves given e.header.member ≡ true
  owner_approves n e lawful at kind_is kept front =
      let number = number_at 0 n (journals h) e (lawful_from (journals h) lawful.journals_are) at in
      let taken : is_taken (point h) p e ≡ true =
      and_from _ _ (and_from _ _ (ap is_record kind_is) (le-leb (point h) e.header.jsn (omega (arith, number, kept)))) (lt-ltb e.header.jsn p (omega (arith, number, front))) in
      needed_approves given (purge_needs h p) e.header.member approved.1 (also (0 == e.header.member) (taken_among (point h) p (journals h) n e at taken))
    where
      also : {w : Bool} (v : Bool) → w ≡ true → (v || w) ≡ true
      also true is = refl
      also false is = is
