use Rattle.std.specs.List.{count_by}
use Rattle.std.proofs.Common.{◌≡◌, refl, ap, sym, subst, ◌∙◌, arith}
use Rattle.std.proofs.lemmas.Bool.{true≢false}
use Rattle.ledger_book.specs.Books.{Kept, Serves}
use Rattle.ledger_soak.specs.Auditing.{is_lost}
use Rattle.ledger_soak.specs.Runs.{led_to}
use Rattle.ledger_soak.specs.declared.running.Run.{Run}
use Rattle.ledger_soak.specs.declared.running.Fuses.TheVariants.{Off}
use Rattle.ledger_soak.proofs.RunLaws.{none_lost, hand_low, stop_counted}
use Rattle.ledger_soak.proofs.running.Run.stopped.Goals as goal

pub returns-clause-underway : goal.returns-clause-underway
returns-clause-underway g c = λ seed step x.
    let run = c.args.self in
    let e = c.in_ok-self.ensures in
    let stops = c.saturating_add.ensures ∙ hand_low seed run step x c.requires in
    let plain : Run = record {
      alloc = run.alloc;
      draws = run.draws;
      post = c.in_ok-self.field-0;
      notary = run.notary;
      auditor = run.auditor;
      receipts = run.receipts;
      stop = run.stop;
      fuses = Off;
      taken = run.taken;
      stops = c.saturating_add.result;
      refused = run.refused;
      proofs = run.proofs;
      yes = run.yes;
      lost = run.lost;
    } in
    let y = stop_counted seed run step x plain refl stops refl refl refl refl refl refl refl refl refl refl e.opens e.open (λ off. true≢false (sym (rw off at c.if-eq.ensures))) in
    let h = (led_to seed y.past).history in
    let serves = subst (λ (b : Kept). Serves b h) (sym c.book.ensures) y.stands.rests.holds.keeps.serves in
    let none = c.count_lost-lost.ensures h serves ∙ ap (count_by (is_lost h)) c.as_slice.ensures.value ∙ none_lost h run.receipts.items y.stands.kept.receipts_held in
    let lost : c.saturating_add-2.result ≡ run.lost = omega (arith, c.saturating_add-2.ensures, none, x.tallied.none_lost) in
    stop_counted seed run step x _ refl stops refl refl refl lost refl refl refl refl refl refl e.opens e.open (λ off. true≢false (sym (rw off at c.if-eq.ensures)))
