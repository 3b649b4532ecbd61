use Rattle.std.proofs.Common.{◌≤◌, length, ℕ, List, ap, sym, subst, ◌∙◌}
use Rattle.ledger_cli.specs.Words.{is_ascending}
use Rattle.ledger_cli.proofs.NumberLaws.{Added, NotAdded, ascending_are, numbers_down, numbers_not, numbers_read, numbers_some}
use Rattle.ledger_cli.proofs.numbers.read_numbers.Goals as goal

pub returns-then-not-add_numbers-clause-read : goal.returns-then-not-add_numbers-clause-read
returns-then-not-add_numbers-clause-read c = numbers_not c.args.text.now (subst (NotAdded c.args.text.now) c.new-numbers.ensures (c.add_numbers.ensures.no c.if-not-add_numbers.true))

pub returns-then-is_ascending-clause-read : goal.returns-then-is_ascending-clause-read
returns-then-is_ascending-clause-read c =
    let new = c.add_numbers.new.numbers.items in
    let added = subst (λ (l : List ℕ). Added c.args.text.now l new) c.new-numbers.ensures (c.add_numbers.ensures.yes c.if-not-add_numbers.false) in
    let few = subst (λ (l : List ℕ). length l ≤ 64) c.as_slice.ensures.value c.as_slice.ensures.fits in
    numbers_read c.args.text.now new added few (ap is_ascending (sym c.as_slice.ensures.value) ∙ sym c.is_ascending.ensures ∙ c.if-is_ascending.true)

pub returns-then-is_ascending-clause-some : goal.returns-then-is_ascending-clause-some
returns-then-is_ascending-clause-some c =
    let new = c.add_numbers.new.numbers.items in
    let added = subst (λ (l : List ℕ). Added c.args.text.now l new) c.new-numbers.ensures (c.add_numbers.ensures.yes c.if-not-add_numbers.false) in
    let few = subst (λ (l : List ℕ). length l ≤ 64) c.as_slice.ensures.value c.as_slice.ensures.fits in
    numbers_some c.args.text.now new added few

pub returns-then-is_ascending-clause-ascending : goal.returns-then-is_ascending-clause-ascending
returns-then-is_ascending-clause-ascending c =
    ascending_are c.add_numbers.new.numbers.items (ap is_ascending (sym c.as_slice.ensures.value) ∙ sym c.is_ascending.ensures ∙ c.if-is_ascending.true)

pub returns-else-is_ascending-clause-read : goal.returns-else-is_ascending-clause-read
returns-else-is_ascending-clause-read c =
    let new = c.add_numbers.new.numbers.items in
    let added = subst (λ (l : List ℕ). Added c.args.text.now l new) c.new-numbers.ensures (c.add_numbers.ensures.yes c.if-not-add_numbers.false) in
    let few = subst (λ (l : List ℕ). length l ≤ 64) c.as_slice.ensures.value c.as_slice.ensures.fits in
    numbers_down c.args.text.now new added few (ap is_ascending (sym c.as_slice.ensures.value) ∙ sym c.is_ascending.ensures ∙ c.if-is_ascending.false)
