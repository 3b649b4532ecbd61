-- Two strings that are told of a judgement are a clash.
use Rattle.std.proofs.Common.{◌≡◌, ℕ, Bool, true, false, List, Option, None, Some, Result, Ok, Err, refl, sym, ap, ◌∙◌, subst}
use Rattle.ledger_bytes.specs.declared.digest.Digest.{Digest}
use Rattle.ledger_bytes.specs.declared.failure.Bad.{Bad}
use Rattle.ledger_bytes.specs.Fields.{IsBytes}
use Rattle.proof_codec.specs.declared.claim.Claim.{Claim}
use Rattle.proof_codec.specs.Proofs.{Shown}
use Rattle.proof_codec.specs.Reading.{proof_of}
use Rattle.proof_codec.proofs.Wholes.{proof_of_takes}
use Rattle.tree_model.specs.Tree.{Hash}
use Rattle.tree_model.specs.Clash.{IsClash, Clashes}
use Rattle.tree_model.proofs.PathClashes.{Makes}
use Rattle.audit_core.specs.declared.refusal.No.{No}
use Rattle.audit_core.specs.Acceptance.{acceptance_by, acceptance_of}
use Rattle.audit_core.specs.Truth.{Lists, lists_of}
use Rattle.audit_core.specs.Parts.{first_of_parts, parts_of}
use Rattle.audit_core.specs.Deciding.{is_true}
use Rattle.audit_core.specs.Judgement.{Judgement, refused, holds, shows, shows_found, judgement_by, judgement, own_ledger, own_notary, own_acceptance, clash_of, ByOwn}
use Rattle.audit_core.proofs.Judging.{false_shows}
use Rattle.audit_cli.specs.declared.line.Line.TheVariants.{Judge}
use Rattle.audit_cli.specs.declared.reply.Reply.TheVariants as reply
use Rattle.audit_cli.specs.Answers.{judge_reply, reply_to}
use Rattle.audit_cli.specs.Grammar.{line_of}
use Rattle.audit_cli.specs.Texts.{trusted_behind, reply_behind}
use Rattle.audit_cli.proofs.JudgedLines.{judged_line}

-- what is shown
judged : (j : Judgement) (told truth : List ℕ) → judge_reply j ≡ reply.Clash told truth → j ≡ shows (told, truth)
judged (refused why) told truth e = absurd cc
judged holds told truth e = absurd cc
judged (shows pair) told truth e =
    let first : pair.0 ≡ told = cc in
    let second : pair.1 ≡ truth = cc in
    rw (← first, ← second) refl

by_shows : (answer : Result (Unit {0}) No) (has : Bool) (found : Option (List ℕ × List ℕ)) (pair : List ℕ × List ℕ) → judgement_by answer has found ≡ shows pair
    → (answer ≡ Ok tt) × (has ≡ false) × (shows_found found ≡ shows pair)
by_shows (Err why) has found pair e = absurd cc
by_shows (Ok done) true found pair e = absurd cc
by_shows (Ok done) false found pair e = (refl, refl, e)

same_pair : (a b : List ℕ × List ℕ) → shows a ≡ shows b → a ≡ b
same_pair a b e = cc

clashing : (hash : Hash) (found : Option (List ℕ × List ℕ)) (pair : List ℕ × List ℕ) → shows_found found ≡ shows pair → Clashes hash found → IsClash hash pair.0 pair.1
clashing hash None pair e it = absurd (let no : None ≡ Some it.0 = it.1 in cc)
clashing hash (Some p) pair e it =
    let there : Some p ≡ Some it.0 = it.1 in
    let same : it.0 ≡ p = cc in
    subst (λ (q : List ℕ × List ℕ). IsClash hash q.0 q.1) (same ∙ same_pair p pair e) it.2

module _ (hash : Hash) (makes : Makes hash) (lists : Lists) (bytes : List ℕ) (claim : Claim) (fits : IsBytes bytes) where
  unread_never : (bad : Bad) → proof_of bytes ≡ Err bad → own_acceptance hash lists bytes claim ≡ Ok tt → ⊥
  unfolding acceptance_by
  unread_never bad read said =
      let e = ap (acceptance_of hash claim (own_ledger hash lists) (own_notary hash lists)) (sym read) ∙ said in
      absurd cc

  by_proof : (p : Shown) → proof_of bytes ≡ Ok p → own_acceptance hash lists bytes claim ≡ Ok tt → is_true hash lists claim ≡ false → Clashes hash (clash_of hash lists bytes)
  unfolding acceptance_by clash_of
  by_proof p read said not =
      let accepted : ByOwn hash lists claim p = ap (acceptance_of hash claim (own_ledger hash lists) (own_notary hash lists)) (sym read) ∙ said in
      let it : Clashes hash (first_of_parts (parts_of hash lists p)) = false_shows hash lists claim p accepted makes (proof_of_takes bytes p fits read).0 not in
      rw read it

  shown : (pair : List ℕ × List ℕ) → judgement hash lists bytes claim ≡ shows pair → IsClash hash pair.0 pair.1
  shown pair e =
      let it = by_shows (own_acceptance hash lists bytes claim) (is_true hash lists claim) (clash_of hash lists bytes) pair e in
      by (proof_of bytes) refl it.0 it.1 it.2 where
        by : (read : Result Shown Bad) → proof_of bytes ≡ read → own_acceptance hash lists bytes claim ≡ Ok tt → is_true hash lists claim ≡ false → shows_found (clash_of hash lists bytes) ≡ shows pair → IsClash hash pair.0 pair.1
        by (Err bad) read said not found = absurd (unread_never bad read said)
        by (Ok p) read said not found = clashing hash (clash_of hash lists bytes) pair found (by_proof p read said not)

pub told_clash : (hash : Hash) (lines : List (List ℕ)) (line : List ℕ) (id : Digest) (headers entries : List ℕ) (claim : Claim) (bytes told truth : List ℕ) → Makes hash
    → line_of line ≡ Ok (Judge id headers entries claim bytes) → reply_behind hash lines line ≡ reply.Clash told truth → IsClash hash told truth
told_clash hash lines line id headers entries claim bytes told truth makes read says =
    let lists : Lists = lists_of id headers entries in
    let is : judge_reply (judgement hash lists bytes claim) ≡ reply.Clash told truth = ap (reply_to hash (trusted_behind hash lines)) (sym read) ∙ says in
    shown hash makes lists bytes claim (judged_line line id headers entries claim bytes read).proof_is (told, truth) (judged (judgement hash lists bytes claim) told truth is)
