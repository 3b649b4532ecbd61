use Rattle.std.proofs.Common.{Some, ap, sym, ◌∙◌, arith, eq-eqb}
use Rattle.std.proofs.lemmas.Bool.{true≢false, ltb-true, ltb-false}
use Rattle.ledger_bytes.specs.declared.refusal.Refusal.TheVariants.{BadSize, Purged}
use Rattle.ledger_book.specs.Books.{Kept}
use Rattle.ledger_book.proofs.AskLaws.{extend_of_none, extend_beyond, extend_purged, extend_kept}
use Rattle.ledger_book.proofs.book.Book.ledger_refusal.Goals as goal
use Rattle.ledger_book.proofs.book.Book.ledger_refusal.Goals.{then-m-eq0, else-m-eq0}

pub returns-then-m-self-clause-why : goal.returns-then-m-self-clause-why
returns-then-m-self-clause-why c = λ h s.
    ap (λ (k : Kept). Some (BadSize k.size)) c.self.view_is
    ∙ elim c.if-m-eq0.branch [
      | then-m-eq0 w ↦ extend_of_none c.args.self.now h s c.args.m w.if-m-eq0.true
      | else-m-eq0 w ↦ extend_beyond c.args.self.now h s c.args.m (omega (arith, ap (λ (k : Kept). k.size) c.self.view_is, ltb-true c.self.inside.size c.args.m (sym w.value-is ∙ c.if-m-self.true)))
    ]

pub returns-then-m-self-2-clause-why : goal.returns-then-m-self-2-clause-why
returns-then-m-self-2-clause-why c = λ h s.
    ap (λ (k : Kept). Some (Purged k.point)) c.self.view_is
    ∙ elim c.if-m-eq0.branch [
      | then-m-eq0 w ↦ absurd (true≢false (sym (eq-eqb c.args.m 0 w.if-m-eq0.true) ∙ sym w.value-is ∙ c.if-m-self.false))
      | else-m-eq0 w ↦ extend_purged c.args.self.now h s c.args.m (omega (arith, w.if-m-eq0.false)) (omega (arith, ap (λ (k : Kept). k.size) c.self.view_is, ltb-false c.self.inside.size c.args.m (sym w.value-is ∙ c.if-m-self.false)))
          (omega (arith, ap (λ (k : Kept). k.point) c.self.view_is))
    ]

pub returns-else-m-self-2-clause-why : goal.returns-else-m-self-2-clause-why
returns-else-m-self-2-clause-why c = λ h s. elim c.if-m-eq0.branch [
  | then-m-eq0 w ↦ absurd (true≢false (sym (eq-eqb c.args.m 0 w.if-m-eq0.true) ∙ sym w.value-is ∙ c.if-m-self.false))
  | else-m-eq0 w ↦ extend_kept c.args.self.now h s c.args.m (omega (arith, w.if-m-eq0.false)) (omega (arith, ap (λ (k : Kept). k.size) c.self.view_is, ltb-false c.self.inside.size c.args.m (sym w.value-is ∙ c.if-m-self.false)))
      (omega (arith, ap (λ (k : Kept). k.point) c.self.view_is))
]
