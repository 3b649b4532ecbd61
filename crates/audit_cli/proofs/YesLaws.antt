-- Lemmas on what is answered yes, true or clash.
use Rattle.std.proofs.Common.{◌≡◌, ◌⊎◌, ◌↔◌, ℕ, List, [], ◌++◌, get_or, length, Option, None, Some, Result, Ok, Err, refl, sym, ap, ◌∙◌, append_assoc}
use Rattle.std.specs.Prelude.{codes, decimal, ◌==◌, true}
use Rattle.std.proofs.lemmas.Bool.{false≢true}
use Rattle.std.proofs.lemmas.List.{append_cancel_left}
use Rattle.ledger_bytes.specs.declared.digest.Digest.{Digest}
use Rattle.merkle_tree.specs.declared.head.Head.{Head}
use Rattle.proof_codec.specs.declared.claim.Claim.{Claim}
use Rattle.proof_codec.specs.Proofs.{Shown}
use Rattle.proof_codec.specs.Reading.{proof_of}
use Rattle.script_lines.specs.Words.{spaced_words}
use Rattle.script_lines.specs.declared.said.Which.{Which}
use Rattle.tree_model.specs.Tree.{Hash, mth}
use Rattle.tree_model.specs.Clash.{Clashes}
use Rattle.tree_model.proofs.PathClashes.{Makes}
use Rattle.audit_core.specs.declared.refusal.No.{No}
use Rattle.audit_core.specs.Trust.{Trust, root_of}
use Rattle.audit_core.specs.Acceptance.{acceptance}
use Rattle.audit_core.specs.Extending.{extend_refusal}
use Rattle.audit_core.specs.Truth.{Lists, lists_of, HasJournal, IsTrueOf}
use Rattle.audit_core.specs.Judgement.{Judgement, refused, holds, shows, judgement, IsAcceptedByOwn, IsUnderHead, leaf_clash, clash_of}
use Rattle.audit_core.specs.Parts.{extension_clash}
use Rattle.audit_core.specs.Chains.{BeginsWith, AreReached}
use Rattle.audit_core.proofs.DecidingLaws.{pieces_bytes}
use Rattle.audit_core.proofs.Judging.{holds_means, holds_where, shows_means, shows_where}
use Rattle.audit_core.proofs.Truths.{journal_true, yes_true, extension_of, extension_true}
use Rattle.audit_core.proofs.Reaching.{plain_true}
use Rattle.audit_cli.specs.declared.line.Line.TheVariants.{Extend, Check, Judge}
use Rattle.audit_cli.specs.declared.reply.Reply.{Reply}
use Rattle.audit_cli.specs.declared.reply.Reply.TheVariants as reply
use Rattle.audit_cli.specs.Answers.{trust_reply, verdict, judge_reply, reply_to, answer_to}
use Rattle.audit_cli.specs.Grammar.{line_of}
use Rattle.audit_cli.specs.Replies.{reply_words, reply_text}
use Rattle.audit_cli.proofs.JudgedLines.{Judgeable, judged_line, checked_line}

-- ---- the word

abbrev pub words_text : Reply → List ℕ
words_text given = spaced_words (reply_words given) ++ codes "\n"

-- what reads as a reply has its first letter behind the space
first_letter : (text text' : List ℕ) (letter : ℕ) → text ≡ text' → (get_or text' 1 0 == letter) ≡ true → (get_or text 1 0 == letter) ≡ true
first_letter text text' letter e is = ap (λ t. get_or t 1 0 == letter) e ∙ is

-- no other reply has that of `yes`
yes_alone : (given : Reply) → words_text given ≡ words_text reply.Yes → given ≡ reply.Yes
yes_alone reply.Yes e = refl
yes_alone (reply.No why) e = absurd (false≢true (first_letter _ (words_text reply.Yes) 121 e refl))
yes_alone (reply.Unaccepted why) e = absurd (false≢true (first_letter _ (words_text reply.Yes) 121 e refl))
yes_alone reply.True e = absurd (false≢true (first_letter _ (words_text reply.Yes) 121 e refl))
yes_alone (reply.Clash told truth) e = absurd (false≢true (first_letter _ (words_text reply.Yes) 121 e refl))
yes_alone (reply.Refused refusal) e = absurd (false≢true (first_letter _ (words_text reply.Yes) 121 e refl))

-- .. or of `true`
true_alone : (given : Reply) → words_text given ≡ words_text reply.True → given ≡ reply.True
true_alone reply.Yes e = absurd (false≢true (first_letter _ (words_text reply.True) 116 e refl))
true_alone (reply.No why) e = absurd (false≢true (first_letter _ (words_text reply.True) 116 e refl))
true_alone (reply.Unaccepted why) e = absurd (false≢true (first_letter _ (words_text reply.True) 116 e refl))
true_alone reply.True e = refl
true_alone (reply.Clash told truth) e = absurd (false≢true (first_letter _ (words_text reply.True) 116 e refl))
true_alone (reply.Refused refusal) e = absurd (false≢true (first_letter _ (words_text reply.True) 116 e refl))

-- .. or of `clash`
pub clash_alone : (given : Reply) (told truth : List ℕ) → words_text given ≡ words_text (reply.Clash told truth) → (a : List ℕ) × (b : List ℕ) × (given ≡ reply.Clash a b)
clash_alone reply.Yes told truth e = absurd (false≢true (first_letter _ (words_text (reply.Clash told truth)) 99 e refl))
clash_alone (reply.No why) told truth e = absurd (false≢true (first_letter _ (words_text (reply.Clash told truth)) 99 e refl))
clash_alone (reply.Unaccepted why) told truth e = absurd (false≢true (first_letter _ (words_text (reply.Clash told truth)) 99 e refl))
clash_alone reply.True told truth e = absurd (false≢true (first_letter _ (words_text (reply.Clash told truth)) 99 e refl))
clash_alone (reply.Clash a b) told truth e = (a, b, refl)
clash_alone (reply.Refused refusal) told truth e = absurd (false≢true (first_letter _ (words_text (reply.Clash told truth)) 99 e refl))

-- what stands behind the number
pub behind_number : (number : ℕ) (a b : Reply) → reply_text number a ≡ reply_text number b → words_text a ≡ words_text b
behind_number number a b same =
    let split = λ (r : Reply). append_assoc (decimal number) (spaced_words (reply_words r)) (codes "\n") in
    append_cancel_left (decimal number) _ _ (sym (split a) ∙ same ∙ split b)

pub told_yes : (number : ℕ) (given : Reply) → (reply_text number given ≡ reply_text number reply.Yes) ↔ (given ≡ reply.Yes)
told_yes number given = (λ same. yes_alone given (behind_number number given reply.Yes same), λ is. ap (reply_text number) is)

-- ---- what it rests on

pub accepted : (said : Result (Unit {0}) No) → verdict said ≡ reply.Yes → said ≡ Ok tt
accepted (Ok done) e = refl
accepted (Err why) e = absurd cc

pub unrefused : (refusal : Option No) → trust_reply refusal ≡ reply.Yes → refusal ≡ None
unrefused None e = refl
unrefused (Some why) e = absurd cc

module _ (hash : Hash) (makes : Makes hash) (trust : Trust) (line : List ℕ) (says : answer_to hash trust line ≡ reply.Yes) where
  pub check_has : (claim : Claim) (bytes : List ℕ) (lists : Lists) → line_of line ≡ Ok (Check claim bytes) → (under : IsUnderHead hash trust bytes lists.headers)
      → HasJournal hash lists claim.n claim.leaf ⊎ Clashes hash (leaf_clash hash lists under.proof)
  check_has claim bytes lists read under =
      let said : acceptance hash bytes claim trust ≡ Ok tt = accepted (acceptance hash bytes claim trust) (ap (reply_to hash trust) (sym read) ∙ says) in
      journal_true hash makes bytes claim trust lists said under

  pub check_true : (claim : Claim) (bytes : List ℕ) (lists : Lists) → line_of line ≡ Ok (Check claim bytes) → claim.lo ≡ None → claim.hi ≡ None → IsUnderHead hash trust bytes lists.headers
      → IsTrueOf hash lists claim ⊎ Clashes hash (clash_of hash lists bytes)
  check_true claim bytes lists read lower upper under =
      let said : acceptance hash bytes claim trust ≡ Ok tt = accepted (acceptance hash bytes claim trust) (ap (reply_to hash trust) (sym read) ∙ says) in
      yes_true hash makes bytes claim trust lists said lower upper under

  pub check_bounded : (claim : Claim) (bytes : List ℕ) (p : Shown) (lists : Lists) → line_of line ≡ Ok (Check claim bytes) → proof_of bytes ≡ Ok p → AreReached hash trust p [] [] lists
      → IsTrueOf hash lists claim ⊎ Clashes hash (clash_of hash lists bytes)
  check_bounded claim bytes p lists read shown reached =
      let said : acceptance hash bytes claim trust ≡ Ok tt = accepted (acceptance hash bytes claim trust) (ap (reply_to hash trust) (sym read) ∙ says) in
      plain_true hash makes bytes claim trust lists p (checked_line line claim bytes read) said shown reached

  pub extend_true : (which : Which) (m : ℕ) (head : Head) (bytes : List ℕ) (list : List (List ℕ)) → line_of line ≡ Ok (Extend which m head bytes) → length list ≡ head.size → mth hash list ≡ head.root.0
      → (old : Digest) × (root_of which trust m ≡ Some old) × (BeginsWith hash list m old.0 ⊎ Clashes hash (extension_clash hash list m old.0 bytes))
  extend_true which m head bytes list read size_is root_is =
      let none : extend_refusal hash which m head bytes trust ≡ None = unrefused (extend_refusal hash which m head bytes trust) (ap (reply_to hash trust) (sym read) ∙ says) in
      let it = extension_of hash which m head bytes trust none in
      (it.old, it.trusted, extension_true hash makes list m head.size it.old.0 bytes size_is (it.leads ∙ ap Some (sym root_is)))

-- ---- what is judged

true_judged : (j : Judgement) → judge_reply j ≡ reply.True → j ≡ holds
true_judged (refused why) e = absurd cc
true_judged holds e = refl
true_judged (shows pair) e = absurd cc

clash_judged : (j : Judgement) (told truth : List ℕ) → judge_reply j ≡ reply.Clash told truth → (pair : List ℕ × List ℕ) × (j ≡ shows pair)
clash_judged (refused why) told truth e = absurd cc
clash_judged holds told truth e = absurd cc
clash_judged (shows pair) told truth e = (pair, refl)

module _ (hash : Hash) (trust : Trust) (number : ℕ) (line : List ℕ) (id : Digest) (headers entries : List ℕ) (claim : Claim) (bytes : List ℕ) (read : line_of line ≡ Ok (Judge id headers entries claim bytes)) where
  abbrev lists : Lists
  lists = lists_of id headers entries

  judged : Judgeable headers bytes
  judged = judged_line line id headers entries claim bytes read

  reply_is : answer_to hash trust line ≡ judge_reply (judgement hash lists bytes claim)
  reply_is = ap (reply_to hash trust) read

  pub judged_true : (reply_text number (answer_to hash trust line) ≡ reply_text number reply.True) ↔ (IsAcceptedByOwn hash lists bytes claim × IsTrueOf hash lists claim)
  judged_true = (
    λ same.
        let is : answer_to hash trust line ≡ reply.True = true_alone (answer_to hash trust line) (behind_number number (answer_to hash trust line) reply.True same) in
        holds_means hash lists bytes claim judged.proof_is (pieces_bytes headers judged.headers_are) (true_judged (judgement hash lists bytes claim) (sym reply_is ∙ is)),
    λ both. ap (reply_text number) (reply_is ∙ ap judge_reply (holds_where hash lists bytes claim judged.proof_is (pieces_bytes headers judged.headers_are) both.0 both.1)),
  )

  pub judged_false : ((told : List ℕ) × (truth : List ℕ) × (reply_text number (answer_to hash trust line) ≡ reply_text number (reply.Clash told truth)))
      ↔ (IsAcceptedByOwn hash lists bytes claim × (IsTrueOf hash lists claim → ⊥))
  judged_false = (
    λ some.
        let clash = clash_alone (answer_to hash trust line) some.0 some.1 (behind_number number (answer_to hash trust line) (reply.Clash some.0 some.1) some.2) in
        let shown = clash_judged (judgement hash lists bytes claim) clash.0 clash.1 (sym reply_is ∙ clash.2) in
        shows_means hash lists bytes claim judged.proof_is (pieces_bytes headers judged.headers_are) shown.0 shown.1,
    λ both.
        let shown = shows_where hash lists bytes claim judged.proof_is (pieces_bytes headers judged.headers_are) both.0 both.1 in
        (shown.0.0, shown.0.1, ap (reply_text number) (reply_is ∙ ap judge_reply shown.1)),
  )
