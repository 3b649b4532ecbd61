use Rattle.std.proofs.Common.{◌-◌, ◌∙◌, ap, sym, get_or, take}
use Rattle.std.proofs.lemmas.List.{take_more}
use Rattle.ledger_book.specs.Hiders.{hidden_at, hidden_all}
use Rattle.ledger_book.proofs.HiderLaws.{hidden_more}
use Rattle.ledger_book.proofs.hiders.hide_all.Goals as goal

pub loop-target-preserved : goal.loop-target-preserved
loop-target-preserved c =
    let ts = c.args.targets.now in
    let i = c.loop-target.target-index in
    let old = c.args.hiders.now.items in (
      c.hide_at.ensures.items
          ∙ ap (λ place. hidden_at place c.args.jsn c.loop-target.hiders.items) c.saturating_sub.ensures
          ∙ ap (hidden_at (get_or ts i 0 - c.args.floor) c.args.jsn) c.loop-target.invariant.0
          ∙ sym (hidden_more c.args.floor c.args.jsn (get_or ts i 0) (take i ts) old)
          ∙ ap (λ l. hidden_all c.args.floor c.args.jsn l old) (sym (take_more ts i 0 c.loop-target-test.true)),
      c.hide_at.ensures.len ∙ c.loop-target.invariant.1,
    )
