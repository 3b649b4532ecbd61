use Rattle.std.proofs.Common.{ap, sym, ◌∙◌, cond, Option, ℕ, arith}
use Rattle.std.specs.Option.{is_some}
use Rattle.ledger_book.specs.Books.{Kept}
use Rattle.ledger_model.specs.declared.view.View.TheVariants.{Purged, Occulted, Whole}
use Rattle.ledger_book.proofs.StandsLaws.{view_absent, view_purged, view_kept}
use Rattle.ledger_book.proofs.book.Book.view.Goals as goal

pub returns-then-n-self : goal.returns-then-n-self
returns-then-n-self c = λ h s. view_absent c.args.self.now h c.args.n s (omega (arith, ap (λ (k : Kept). k.size) c.self.view_is))

pub returns-then-n-self-2 : goal.returns-then-n-self-2
returns-then-n-self-2 c =
    λ h s. ap (λ (k : Kept). Purged k.point) c.self.view_is
    ∙ view_purged c.args.self.now h c.args.n s (omega (arith, ap (λ (k : Kept). k.size) c.self.view_is)) (omega (arith, ap (λ (k : Kept). k.point) c.self.view_is))

pub returns-in-Some : goal.returns-in-Some
returns-in-Some c = λ h s.
    sym (ap (λ (o : Option ℕ). cond (is_some o) Occulted Whole) c.in-Some.is)
    ∙ view_kept c.args.self.now h c.args.n c.hider.result s (omega (arith, c.if-n-self.false, ap (λ (k : Kept). k.size) c.self.view_is)) (omega (arith, c.if-n-self-2.false, ap (λ (k : Kept). k.point) c.self.view_is))
    (c.hider.ensures.told (omega (arith, s.seen, c.if-n-self-2.false, ap (λ (k : Kept). k.point) c.self.view_is)))

pub returns-in-None : goal.returns-in-None
returns-in-None c = λ h s.
    sym (ap (λ (o : Option ℕ). cond (is_some o) Occulted Whole) c.in-None.is)
    ∙ view_kept c.args.self.now h c.args.n c.hider.result s (omega (arith, c.if-n-self.false, ap (λ (k : Kept). k.size) c.self.view_is)) (omega (arith, c.if-n-self-2.false, ap (λ (k : Kept). k.point) c.self.view_is))
    (c.hider.ensures.told (omega (arith, s.seen, c.if-n-self-2.false, ap (λ (k : Kept). k.point) c.self.view_is)))
