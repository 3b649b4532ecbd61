use Rattle.std.proofs.Common.{◌≡◌, Option, Some, None, subst, arith}
use Rattle.ledger_bytes.specs.declared.refusal.Refusal.{Refusal}
use Rattle.ledger_bytes.specs.declared.refusal.Refusal.TheVariants.{Full}
use Rattle.ledger_book.specs.Books.{Kept, Serves}
use Rattle.ledger_model.specs.Judgements.{hard_fullness}
use Rattle.ledger_model.specs.Limits.{AreWithin}
use Rattle.ledger_book.specs.contracts.book.Book.{the_view}
use Rattle.ledger_book.proofs.JudgeLaws.{hard_by_kept, hard_by_size, hard_not}
use Rattle.ledger_book.specs.Steps.{HasOperatorRoom}
use Rattle.ledger_book.proofs.book.Book.hard_refusal.Goals as goal
use Rattle.ledger_book.proofs.book.Book.hard_refusal.Goals.{then-kept-self-via-then-kept-self, then-kept-self-via-else-kept-self+then-self}

pub returns-then-kept-self-clause-refusal : goal.returns-then-kept-self-clause-refusal
returns-then-kept-self-clause-refusal c = λ h.
    let i = c.self.inside in
    let n = c.saturating_sub-kept.result in
    subst (λ (k : Kept). Serves k h → Some (Full n i.size) ≡ hard_fullness k.limits h) c.self.view_is
    (λ s. elim c.then-kept-self.branch [
      | then-kept-self-via-then-kept-self w ↦ hard_by_kept (the_view i) h n s c.saturating_sub-kept.ensures w.if-kept-self.true
      | then-kept-self-via-else-kept-self+then-self w ↦ hard_by_size (the_view i) h n s c.saturating_sub-kept.ensures w.if-kept-self.false w.if-self.true
    ])

pub returns-clause-refusal : goal.returns-clause-refusal
returns-clause-refusal c = λ h.
    let i = c.self.inside in
    let n = c.saturating_sub-kept.result in
    subst (λ (k : Kept). Serves k h → (let none : Option Refusal = None in none ≡ hard_fullness k.limits h)) c.self.view_is
    (λ s. hard_not (the_view i) h n s c.saturating_sub-kept.ensures c.if-kept-self.false c.if-self.false)

pub returns-then-kept-self-clause-within : goal.returns-then-kept-self-clause-within
returns-then-kept-self-clause-within c = subst (λ (k : Kept). AreWithin k.limits) c.self.view_is c.self.invariant.2

pub returns-clause-within : goal.returns-clause-within
returns-clause-within c = subst (λ (k : Kept). AreWithin k.limits) c.self.view_is c.self.invariant.2

pub returns-then-kept-self-clause-some : goal.returns-then-kept-self-clause-some
returns-then-kept-self-clause-some c =
    subst (λ (k : Kept). HasOperatorRoom k → ⊥) c.self.view_is
    (λ room. elim c.then-kept-self.branch [
      | then-kept-self-via-then-kept-self w ↦ (let no : ⊥ = omega (arith, room.0, c.saturating_sub-kept.ensures, w.if-kept-self.true) in no)
      | then-kept-self-via-else-kept-self+then-self w ↦ (let no : ⊥ = omega (arith, room.1, w.if-self.true) in no)
    ])

pub returns-clause-none : goal.returns-clause-none
returns-clause-none c = subst HasOperatorRoom c.self.view_is (omega (arith, c.saturating_sub-kept.ensures, c.if-kept-self.false), c.if-self.false)
