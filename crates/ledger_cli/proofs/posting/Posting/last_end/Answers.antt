use Rattle.std.proofs.Common.{◌≡◌, ◌-◌, ℕ, inl, inr, subst, sym, ap, ◌∙◌, arith}
use Rattle.merkle_batch.specs.Rows.{Levels}
use Rattle.ledger_model.specs.History.{size}
use Rattle.ledger_cli.specs.Boards.{IsBlockEnd}
use Rattle.ledger_cli.proofs.FollowLaws.{alone_end, settled_end, tree_size}
use Rattle.ledger_cli.proofs.posting.Posting.last_end.Goals.{else-size-self-2-via-then-size-self-2+else-ends_alone, else-size-self-2-via-else-size-self-2}
use Rattle.ledger_cli.proofs.posting.Posting.last_end.Goals as goal

pub returns-then-size-self-clause-ended : goal.returns-then-size-self-clause-ended
returns-then-size-self-clause-ended g c = λ more h serves blocks none.
    let is : c.size-size.result ≡ size h = c.size-size.ensures ∙ ap (λ (t : Levels). t.size) c.tree.ensures.is ∙ tree_size c.args.book.now h serves in
    subst (IsBlockEnd h) (sym is) (settled_end h none (omega (arith, is, more)))

pub returns-then-ends_alone-clause-ended : goal.returns-then-ends_alone-clause-ended
returns-then-ends_alone-clause-ended g c = λ more h serves blocks none.
    let is : c.size-size.result ≡ size h = c.size-size.ensures ∙ ap (λ (t : Levels). t.size) c.tree.ensures.is ∙ tree_size c.args.book.now h serves in
    subst (IsBlockEnd h) (ap (λ (n : ℕ). n - 1) (sym is)) (alone_end h none blocks (c.if-ends_alone.ensures h serves) (omega (arith, is, more)))

pub returns-then-size-self-clause-most : goal.returns-then-size-self-clause-most
returns-then-size-self-clause-most g c = λ h serves n which few.
    let is : c.size-size.result ≡ size h = c.size-size.ensures ∙ ap (λ (t : Levels). t.size) c.tree.ensures.is ∙ tree_size c.args.book.now h serves in
    elim which [
      | inl e ↦ omega (arith, e, is)
      | inr e ↦ (let last = e.0 in omega (arith, last, is))
    ]

pub returns-else-size-self-2-clause-most : goal.returns-else-size-self-2-clause-most
returns-else-size-self-2-clause-most g c = λ h serves n which few.
    let is : c.size-size.result ≡ size h = c.size-size.ensures ∙ ap (λ (t : Levels). t.size) c.tree.ensures.is ∙ tree_size c.args.book.now h serves in
    let more = c.if-size-self.false in
    elim which [
      | inl e ↦ absurd (let no : ⊥ = omega (arith, e, is, few, more) in no)
      | inr e ↦ (let last = e.0 in absurd (elim c.else-size-self-2.branch [
        | else-size-self-2-via-then-size-self-2+else-ends_alone w ↦ w.if-ends_alone.ensures h serves e.1
        | else-size-self-2-via-else-size-self-2 w ↦ w.if-size-self-2.false (omega (arith, last, is, few, more))
      ]))
    ]
