-- What the text of a script says is so.
use Rattle.std.proofs.Common.{◌≡◌, ◌⊎◌, inl, inr, ℕ, ◌+◌, List, [], ◌∷◌, ◌++◌, length, get_or, None, Some, Ok, refl, sym, ap, ◌∙◌}
use Rattle.std.specs.Prelude.{codes, decimal}
use Rattle.ledger_bytes.specs.declared.digest.Digest.{Digest}
use Rattle.ledger_io.specs.Lines.{lines_of}
use Rattle.proof_codec.specs.declared.claim.Claim.{Claim}
use Rattle.proof_codec.specs.Proofs.{Shown}
use Rattle.proof_codec.specs.Reading.{proof_of}
use Rattle.script_lines.specs.Words.{spaced_words}
use Rattle.script_lines.specs.declared.said.Which.{Which}
use Rattle.script_lines.specs.declared.said.Which.TheVariants.{Ledger, Notary}
use Rattle.tree_model.specs.Tree.{Hash, mth}
use Rattle.tree_model.specs.Extension.{fold_proof_bytes}
use Rattle.tree_model.specs.Clash.{Clashes}
use Rattle.tree_model.proofs.PathClashes.{Makes}
use Rattle.audit_core.specs.Acceptance.{acceptance}
use Rattle.audit_core.specs.Extending.{extend_refusal}
use Rattle.audit_core.specs.Trust.{Trust, root_of, nothing_trusted}
use Rattle.audit_core.specs.Judgement.{leaf_clash}
use Rattle.audit_core.specs.Truth.{Lists, HasJournal}
use Rattle.audit_core.specs.Chains.{lists_until, Extension, LeadsTo, IsReached, AreReached, chain_clash, reached_clash}
use Rattle.audit_core.proofs.Truths.{extension_of, chain_true, journal_stays}
use Rattle.audit_core.proofs.Reaching.{reached_true, moments_are}
use Rattle.audit_cli.specs.declared.line.Line.{Line}
use Rattle.audit_cli.specs.declared.line.Line.TheVariants.{Extend, Check, Judge}
use Rattle.audit_cli.specs.declared.reply.Reply.{Reply}
use Rattle.audit_cli.specs.declared.reply.Reply.TheVariants as reply
use Rattle.audit_cli.specs.Answers.{reply_to}
use Rattle.audit_cli.specs.Replies.{reply_words, reply_text}
use Rattle.audit_cli.specs.Texts.{audit_text, trusted_behind, reply_behind}
use Rattle.audit_cli.specs.Sound.{Says, SaysYes, ShowsClash, Extends, ScriptLeads, IsLed, AreLed, IsTrueInTime, IsSoundText}
use Rattle.audit_cli.specs.Runs.{AnswersScript}
use Rattle.audit_cli.proofs.JudgedLines.{checked_line}
use Rattle.audit_cli.proofs.LineLaws.{text_line}
use Rattle.audit_cli.proofs.ShownLaws.{told_clash}
use Rattle.audit_cli.proofs.YesLaws.{words_text, told_yes, clash_alone, behind_number, accepted, unrefused}

same_digest : (a b : Digest) → Some a ≡ Some b → a ≡ b
same_digest a b e = cc

module _ (hash : Hash) (lines : List (List ℕ)) (text : List ℕ) (text_is : text ≡ audit_text hash lines) where
  -- the reply has the text that stands there
  told_there : (before : List (List ℕ)) (asked : Line) (r : Reply) (it : Says lines text before asked r) → reply_text (length before + 1) (reply_behind hash before it.line) ≡ reply_text (length before + 1) r
  told_there before asked r it =
      let number : ℕ = length before + 1 in
      let given : Reply = reply_behind hash before it.line in
      let told : get_or (lines_of text) (length before) [] ≡ decimal number ++ spaced_words (reply_words given) =
      ap (λ t. get_or (lines_of t) (length before) []) (text_is ∙ ap (audit_text hash) it.place) ∙ text_line hash nothing_trusted 1 before it.line it.rest in
      ap (λ t. t ++ codes "\n") (sym told ∙ it.told)

  -- it is yes where the text reads so
  says_yes : (before : List (List ℕ)) (asked : Line) (it : SaysYes lines text before asked) → reply_to hash (trusted_behind hash before) (Ok asked) ≡ reply.Yes
  says_yes before asked it = ap (reply_to hash (trusted_behind hash before)) (sym it.asks) ∙ (told_yes (length before + 1) (reply_behind hash before it.line)).0 (told_there before asked reply.Yes it)

  -- an extension of the script folds the head that it extends to the next
  extends_folds : (which : Which) (e : Extension) (size : ℕ) (root : List ℕ) → Extends hash lines text which e size root → fold_proof_bytes hash e.m e.old size e.digests ≡ Some root
  extends_folds which e size root it =
      let trust : Trust = trusted_behind hash it.before in
      let none : extend_refusal hash which e.m it.head e.digests trust ≡ None =
      unrefused (extend_refusal hash which e.m it.head e.digests trust) (says_yes it.before (Extend which e.m it.head e.digests) it.says) in
      let extension = extension_of hash which e.m it.head e.digests trust none in
      let old : extension.old ≡ it.old = same_digest extension.old it.old (sym extension.trusted ∙ it.trusted) in
      ap (λ o. fold_proof_bytes hash e.m o size e.digests) (it.old_is ∙ ap (λ (d : Digest). d.0) (sym old))
      ∙ ap (λ n. fold_proof_bytes hash e.m extension.old.0 n e.digests) (sym it.size_is) ∙ extension.leads ∙ ap Some it.root_is

  leads : (which : Which) (m : ℕ) (old : List ℕ) (es : List Extension) (size : ℕ) (root : List ℕ) → ScriptLeads hash lines text which m old es size root → LeadsTo hash m old es size root
  unfolding ScriptLeads LeadsTo
  leads which m old [] size root it = it
  leads which m old (e ∷ es) size root it = (extends_folds which e size root it.0, leads which m old es e.m e.old it.1)

  reached : (which : Which) (trust : Trust) (size : ℕ) (es : List Extension) (list : List (List ℕ)) → IsLed hash lines text which trust size es list → IsReached hash (root_of which trust) size es list
  reached which trust size es list it =
      record { root = it.root; trusted = it.trusted; leads = leads which size it.root.0 es (length list) (mth hash list) it.leads }

  are_reached : (trust : Trust) (p : Shown) (ledger notary : List Extension) (lists : Lists) → AreLed hash lines text trust p ledger notary lists → AreReached hash trust p ledger notary lists
  are_reached trust p ledger notary lists it = record {
    id = it.id;
    headers = reached Ledger trust p.size ledger lists.headers it.headers;
    entries = λ bounded. reached Notary trust p.notary_size notary lists.entries (it.entries bounded);
  }

  module _ (makes : Makes hash) where
    checked_true : (before : List (List ℕ)) (claim : Claim) (bytes : List ℕ) (p : Shown) (ledger notary : List Extension) (lists : Lists) → SaysYes lines text before (Check claim bytes) → proof_of bytes ≡ Ok p
        → AreLed hash lines text (trusted_behind hash before) p ledger notary lists → IsTrueInTime hash lists claim ⊎ Clashes hash (reached_clash hash lists p ledger notary)
    checked_true before claim bytes p ledger notary lists it read led =
        let trust : Trust = trusted_behind hash before in
        let said : acceptance hash bytes claim trust ≡ Ok tt = accepted (acceptance hash bytes claim trust) (says_yes before (Check claim bytes) it) in
        elim (reached_true hash makes bytes claim trust lists p ledger notary (checked_line it.line claim bytes it.asks) said read (are_reached trust p ledger notary lists led)) [
          | inl so ↦ inl (record { holds = so; moments = λ moments honest. moments_are hash lists claim moments so honest })
          | inr clashes ↦ inr clashes
        ]

    journal_there : (before : List (List ℕ)) (claim : Claim) (bytes : List ℕ) (p : Shown) (ledger : List Extension) (lists : Lists) → SaysYes lines text before (Check claim bytes) → proof_of bytes ≡ Ok p
        → IsLed hash lines text Ledger (trusted_behind hash before) p.size ledger lists.headers
        → HasJournal hash lists claim.n claim.leaf ⊎ (Clashes hash (chain_clash hash lists.headers ledger) ⊎ Clashes hash (leaf_clash hash (lists_until p.size lists) p))
    journal_there before claim bytes p ledger lists it read led =
        let trust : Trust = trusted_behind hash before in
        let said : acceptance hash bytes claim trust ≡ Ok tt = accepted (acceptance hash bytes claim trust) (says_yes before (Check claim bytes) it) in
        let there = reached Ledger trust p.size ledger lists.headers led in
        journal_stays hash makes bytes claim trust lists p there.root ledger said read there.trusted there.leads

    -- two strings that are told are a clash
    clash_there : (before : List (List ℕ)) (id : Digest) (headers entries : List ℕ) (claim : Claim) (bytes told truth : List ℕ) → Says lines text before (Judge id headers entries claim bytes) (reply.Clash told truth) → ShowsClash hash (reply_words (reply.Clash told truth))
    clash_there before id headers entries claim bytes told truth it =
        let number : ℕ = length before + 1 in
        let given : Reply = reply_behind hash before it.line in
        let same = behind_number number given (reply.Clash told truth) (told_there before (Judge id headers entries claim bytes) (reply.Clash told truth) it) in
        let clash = clash_alone given told truth same in
        record { told = clash.0; truth = clash.1; spelled = ap words_text (sym clash.2) ∙ same; clash = told_clash hash before it.line id headers entries claim bytes clash.0 clash.1 makes it.asks clash.2 }

    pub text_sound : IsSoundText hash lines text
    text_sound = record {
      checked = checked_true;
      journal = journal_there;
      extended = λ which m old es list led. chain_true hash makes m old es (length list) (mth hash list) list (leads which m old es (length list) (mth hash list) led) refl refl;
      judged = clash_there;
    }

-- the text of a script answers it
pub answered : (hash : Hash) (makes : Makes hash) (lines : List (List ℕ)) → AnswersScript hash lines (audit_text hash lines)
answered hash makes lines = record { text = refl; sound = text_sound hash lines (audit_text hash lines) refl makes }
