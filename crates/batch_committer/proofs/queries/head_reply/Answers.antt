use Rattle.std.specs.Prelude.{Err}
use Rattle.std.proofs.Common.{false, true, inl, inr, refl, sym, ap, subst, ◌∙◌, length}
use Rattle.sha2.specs.Sha256.{sha256}
use Rattle.tree_model.specs.Tree.{mth}
use Rattle.time_peg.specs.Entries.{CountsFailures}
use Rattle.time_peg.specs.declared.notary.NotaryErr.{NotaryErr}
use Rattle.batch_committer.specs.Attending.{step_in}
use Rattle.batch_committer.proofs.Attends.{attends_head, attends_headless}
use Rattle.batch_committer.proofs.Telling.{told_head}
use Rattle.batch_committer.proofs.queries.head_reply.Goals as goal

pub returns-in-Ok : goal.returns-in-Ok
returns-in-Ok g c =
    let e = c.in-Ok.ensures in
    let n = g.N.Notary.state c.args.notary.now in
    let m = g.N.Notary.state c.head.new.self in
    record {
      told = (
        false,
        λ h lane index line s none. (
          told_head h (step_in n m false lane index line) c.id.result c.head-head.result c.blocks-in-Ok.result c.point.result c.in-Ok.stamped.size c.in-Ok.stamped.root refl
              (e.size ∙ ap length (sym e.same)) (e.root ∙ ap (mth sha256) (sym e.same)) none (c.id.ensures h s.stands) (c.blocks-in-Ok.ensures h s.stands) (c.point.ensures.point h s) (c.head-head.ensures h s.stands),
          attends_head n m h lane index line e.origin e.same e.faults,
        ),
      );
      once = (e.origin, inl e.faults);
    }

pub returns-in-Err : goal.returns-in-Err
returns-in-Err g c =
    let e = c.in-Err.ensures in
    let n = g.N.Notary.state c.args.notary.now in
    let m = g.N.Notary.state c.head.new.self in
    record { told = (true, λ h lane index line s none. (refl, attends_headless n m h lane index line c.in-Err.field-0 e.err e.origin e.same e.faults)); once = (e.origin, inr (subst (λ (x : NotaryErr). CountsFailures {T = Unit {0}} (Err x) n.faults m.faults) e.err e.faults)) }
