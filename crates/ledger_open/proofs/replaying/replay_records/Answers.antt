use Rattle.std.proofs.Common.{refl, ap, ◌∙◌, arith, inr, get_or}
use Rattle.ledger_open.proofs.TakeLaws.{went_more, went_other, went_all, at_any, replayed, refused}
use Rattle.ledger_open.specs.declared.failure.OpenErr.TheVariants as errors
use Rattle.ledger_open.proofs.replaying.replay_records.Goals as goal

pub returns-in-Ok-Err-clause-err : goal.returns-in-Ok-Err-clause-err
returns-in-Ok-Err-clause-err c =
    let r = refused _ _ _ c.in-Ok-Err.field-0 c.in-Ok-Err.damage c.in-Ok-Err.field-0-is c.in-Ok-Err.ensures.ok in
    inr (_, ap errors.Damaged r.told_is, went_other _ _ _ _ _ (get_or c.args.records.now c.loop-index.index _) c.loop-index-test.true (at_any _ _ _ _ c.loop-index-test.true) c.loop-index.invariant.went r.never_behind refl)

pub loop-index-preserved : goal.loop-index-preserved
loop-index-preserved c =
    let e = c.in-Ok-Ok.ensures in
    let i = c.loop-index.invariant in
    record {
      went =
          went_more _ _ _ _ _ (get_or c.args.records.now c.loop-index.index _) c.loop-index-test.true (at_any _ _ _ _ c.loop-index-test.true) i.went
          (replayed _ _ _ c.in-Ok-Ok.field-0 c.in-Ok-Ok.field-0-0 c.in-Ok-Ok.field-0-is e.ok) e.ended.0;
      limits = e.same.limits ∙ i.limits;
      floor = e.same.floor ∙ i.floor;
      sealed = e.ended.1 ∙ i.sealed;
    }

pub returns-clause-ok : goal.returns-clause-ok
returns-clause-ok c = went_all _ _ _ _ (omega (arith, c.loop-index-test.false, c.loop-index.auto.index-end)) c.loop-index.invariant.went
