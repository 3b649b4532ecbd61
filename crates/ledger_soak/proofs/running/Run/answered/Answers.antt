use Rattle.std.specs.Prelude.{All, true, false}
use Rattle.std.proofs.Common.{◌<◌, ◌^◌, refl, sym, subst, ◌∙◌}
use Rattle.std.proofs.lemmas.Bool.{true≢false}
use Rattle.std.proofs.lemmas.List.Elements.{All-push}
use Rattle.std.proofs.lemmas.Option.{same_Some}
use Rattle.ledger_book.specs.Books.{Kept, Serves}
use Rattle.ledger_soak.specs.Runs.{led_to, IsHeld}
use Rattle.ledger_soak.specs.Turns.{answer_in, next_stage}
use Rattle.ledger_soak.proofs.ReplyLaws.{tells_no, tells_proof, tells_other}
use Rattle.ledger_soak.proofs.RunLaws.{SameButFuses, answered_still, answer_counted, refused_low, proofs_low, yes_low, plus_none}
use Rattle.ledger_soak.proofs.running.Run.answered.Goals as goal
use Rattle.ledger_soak.proofs.running.Run.answered.Goals.{then-eq+then-self-ne0, else-eq, then-letter-eq110, else-letter-eq110+then-letter-eq112+then-is_line, else-letter-eq110+then-letter-eq112+else-is_line, else-letter-eq110+else-letter-eq112+in_ok-push}

pub returns-clause-underway : goal.returns-clause-underway
returns-clause-underway c = λ seed t x.
    let same : SameButFuses c.args.self c.if-eq.self = elim c.if-eq.branch [
      | then-eq+then-self-ne0 w ↦
          rw w.self-is (record {
            draws = refl;
            post = refl;
            notary = refl;
            auditor = refl;
            receipts = refl;
            stop = refl;
            taken = refl;
            stops = refl;
            refused = refl;
            proofs = refl;
            yes = refl;
            lost = refl;
            unfused = λ none off. absurd (w.if-self-ne0.true none);
          })
      | else-eq w ↦
          rw w.self-is (record {
            draws = refl;
            post = refl;
            notary = refl;
            auditor = refl;
            receipts = refl;
            stop = refl;
            taken = refl;
            stops = refl;
            refused = refl;
            proofs = refl;
            yes = refl;
            lost = refl;
            unfused = λ none off. off;
          })
    ] in
    let mid = c.if-eq.self in
    let given = c.args.accepted in
    let y = answered_still seed c.args.self mid same t given x in
    let s = led_to seed y.past in
    let h = (next_stage s t).history in
    let f = y.text.0 in
    let a = answer_in s t in
    let text = c.reply.result.now in
    let is = same_Some _ _ (sym c.reply.ensures ∙ y.text.1) in
    let low = subst (λ n. n < 2 ^ 64) (sym same.taken) c.requires in
    let counted = answer_counted seed mid t given y low in
    let held = y.stands.kept.receipts_held in
    let k = c.letter_of-letter.result in
    let told = c.letter_of-letter.ensures in
    elim c.if-letter-eq110.branch [
      | then-letter-eq110 w ↦
          rw w.self-is (
          counted _ true false (tells_no f a text is k told w.if-letter-eq110.true) refl refl refl refl (w.saturating_add.ensures ∙ refused_low seed mid t given y low) (plus_none mid.proofs) (plus_none mid.yes)
          refl refl refl refl held y.stands.unfused
          )
      | else-letter-eq110+then-letter-eq112+then-is_line w ↦
          rw w.self-is (
          counted _ false true (tells_proof f a text is k told w.if-letter-eq112.true) refl refl refl refl (plus_none mid.refused) (w.saturating_add-then-letter-eq112.ensures ∙ proofs_low seed mid t given y low) (w.saturating_add-then-is_line.ensures ∙ yes_low seed mid t given y low)
          refl refl refl refl held y.stands.unfused
          )
      | else-letter-eq110+then-letter-eq112+else-is_line w ↦
          let proved = (tells_proof f a text is k told w.if-letter-eq112.true).proof_is in
          absurd (true≢false (sym (w.is_line.ensures (y.line proved ∙ w.reply-then-letter-eq112.ensures)) ∙ w.if-is_line.false))
      | else-letter-eq110+else-letter-eq112+in_ok-push w ↦
          let serves = subst (λ (b : Kept). Serves b h) (sym w.book.ensures) y.stands.rests.holds.keeps.serves in
          rw w.self-is (
          counted _ false false (tells_other f a text is k told w.if-letter-eq110.false w.if-letter-eq112.false) refl refl refl refl (plus_none mid.refused) (plus_none mid.proofs) (plus_none mid.yes)
          refl refl refl refl (subst (All (IsHeld h)) (sym w.in_ok-push.ensures.items) (All-push (IsHeld h) mid.receipts.items w.of_last.result held (w.of_last.ensures h serves))) y.stands.unfused
          )
    ]
