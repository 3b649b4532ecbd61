use Rattle.std.specs.Prelude.{IfSome, Option}
use Rattle.std.proofs.Common.{◌≡◌, ap, sym, subst, ◌∙◌}
use Rattle.merkle_tree.specs.declared.head.Head.{Head}
use Rattle.ledger_soak.specs.Auditing.{IsListHead}
use Rattle.ledger_soak.proofs.AuditLaws.{ok_and, trusts_both, line_accepted}
use Rattle.ledger_soak.proofs.auditor.Auditor.accepted_line.Goals as goal
use Rattle.ledger_soak.proofs.auditor.Auditor.accepted_line.Goals.{in-Some+in_ok-heads-in-Some, in-None}

pub returns-in-Ok-clause-line : goal.returns-in-Ok-clause-line
returns-in-Ok-clause-line g c =
    ok_and _ _
    (λ line told h serves pegged follows well none.
    let es = (g.N.Notary.state c.args.notary.now).entries in
    elim c.match-branch-2.branch [
      | in-Some+in_ok-heads-in-Some w ↦
          let e = w.in_ok-heads-in-Some.ensures in
          let same : (g.N.Notary.state c.match-branch-2.notary).entries ≡ es = ap (λ n. (g.N.Notary.state n).entries) w.notary-is ∙ e.same in
          let head = rw w.in-Some.is at (c.in_ok-heads.ensures.trusts h serves follows.ledger) in
          let listed = subst (λ (o : Option Head). IfSome o (IsListHead es)) (sym c.in_ok-heads.ensures.notary) follows.notary in
          let both = trusts_both h es w.in-Some.heads w.in_ok-heads-in-Some.heads head.0 (e.trusts listed (ap (λ n. (g.N.Notary.state n).faults) (sym w.notary-is) ∙ sym c.in-Ok.ensures.faults ∙ well)) in
          let made = rw same at (c.in-Ok.ensures.answer h serves) in
          let accepts = rw same at c.in-Ok.ensures.accepted in
          line_accepted h es c.args.n c.in-Ok.made c.match-branch-2.heads line made.1 (λ trust. accepts h trust serves pegged) (rw w.heads-is both) told
      | in-None w ↦ absurd (rw w.in-None.is at (c.in_ok-heads.ensures.trusts h serves follows.ledger))
    ])
    c.accepted.result c.accepted.ensures
