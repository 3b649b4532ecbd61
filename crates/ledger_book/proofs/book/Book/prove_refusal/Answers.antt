use Rattle.std.proofs.Common.{Some, ap, ◌∙◌, arith}
use Rattle.ledger_bytes.specs.declared.refusal.Refusal.TheVariants.{NoJournal, Purged}
use Rattle.ledger_book.specs.Books.{Kept}
use Rattle.ledger_book.proofs.AskLaws.{prove_absent, prove_purged, prove_kept}
use Rattle.ledger_book.proofs.book.Book.prove_refusal.Goals as goal

pub returns-then-n-self-clause-why : goal.returns-then-n-self-clause-why
returns-then-n-self-clause-why c = λ h s. ap (λ (k : Kept). Some (NoJournal k.size)) c.self.view_is ∙ prove_absent c.args.self.now h s c.args.n (omega (arith, ap (λ (k : Kept). k.size) c.self.view_is))

pub returns-then-n-self-2-clause-why : goal.returns-then-n-self-2-clause-why
returns-then-n-self-2-clause-why c =
    λ h s. ap (λ (k : Kept). Some (Purged k.point)) c.self.view_is
    ∙ prove_purged c.args.self.now h s c.args.n (omega (arith, ap (λ (k : Kept). k.size) c.self.view_is)) (omega (arith, ap (λ (k : Kept). k.point) c.self.view_is))

pub returns-else-n-self-2-clause-why : goal.returns-else-n-self-2-clause-why
returns-else-n-self-2-clause-why c = λ h s. prove_kept c.args.self.now h s c.args.n (omega (arith, ap (λ (k : Kept). k.size) c.self.view_is)) (omega (arith, ap (λ (k : Kept). k.point) c.self.view_is))
