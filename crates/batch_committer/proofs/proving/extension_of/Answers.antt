use Rattle.std.specs.Prelude.{Err}
use Rattle.std.proofs.Common.{ap, subst, ◌∙◌}
use Rattle.script_lines.specs.declared.reply.Reply.TheVariants.{Refused}
use Rattle.proof_maker.specs.Making.{ExtendsWhich, CountsFaults, is_fault}
use Rattle.proof_maker.specs.declared.made.MadeExtension.{MadeExtension}
use Rattle.batch_committer.proofs.Extending.{refused_told, refused_attended}
use Rattle.batch_committer.proofs.proving.extension_of.Goals as goal

pub returns-in-Err-Refused-clause-told : goal.returns-in-Err-Refused-clause-told
returns-in-Err-Refused-clause-told g c =
    let n = g.N.Notary.state c.args.notary.now in
    let m = g.N.Notary.state c.extend.new.notary in
    let e = c.in-Err-Refused.ensures in
    let why = c.in-Err-Refused.why in
    let count = subst (λ r. CountsFaults {A = MadeExtension} (Err r) n.faults m.faults) c.in-Err-Refused.field-0-is e.faults in (
      is_fault why,
      λ h lane index line s none.
          let x = subst (λ r. ExtendsWhich c.args.which h n.entries c.args.m (Err r)) c.in-Err-Refused.field-0-is (e.answer h s) in (
            ap (λ w. Refused w) c.in-Err-Refused.why-is ∙ refused_told n m e.same c.args.m h lane index line c.args.which why none x,
            refused_attended n m e.same c.args.m h lane index line c.args.which why none x e.origin count,
          ),
    )
