use Rattle.std.proofs.Common.{arith, ◌≡◌, Some, ap, sym, subst, ◌∙◌}
use Rattle.ledger_bytes.specs.Digests.{digest}
use Rattle.ledger_model.specs.History as model
use Rattle.ledger_model.specs.History.{block_of, end_of}
use Rattle.ledger_book.specs.Blocks.{told_end}
use Rattle.ledger_book.specs.Books.{Kept, Stands, leaf_digests}
use Rattle.ledger_book.specs.Seals.{head_at}
use Rattle.ledger_book.specs.contracts.book.Book.{the_view}
use Rattle.ledger_book.proofs.BlockLaws.{told_when, told_here, end_between, if_told, not_ok}
use Rattle.ledger_book.proofs.PurgeLaws.{root_before}
use Rattle.ledger_book.proofs.book.Book.block_end.Goals as goal

pub returns-in_err-root : goal.returns-in_err-root
returns-in_err-root c = λ h s0.
    let k = the_view c.self.inside in
    let s = subst (λ (k : Kept). Stands k h) (sym c.self.view_is) s0 in
    let told = told_when _ h c.args.n c.in_ok-block.block c.in_ok-block.size (c.in_ok-block.ensures h s0) in
    let floor = ap (λ (k : Kept). k.floor) c.self.view_is in
    let between = end_between h c.args.n told.1 in
    absurd (not_ok c.root_at.result c.in_err-root.ensures.value
    (c.root_at.ensures.ok (omega (arith, c.self.invariant.7, floor, told.0, told.3, between.0)) (omega (arith, c.self.invariant.4, c.self.invariant.6, told.3, between.1, s.counts.sealed_is))))

pub returns : goal.returns
returns c = λ h s0.
    let k = the_view c.self.inside in
    let s = subst (λ (k : Kept). Stands k h) (sym c.self.view_is) s0 in
    let n = c.args.n in
    let told = told_when _ h n c.in_ok-block.block c.in_ok-block.size (c.in_ok-block.ensures h s0) in
    let floor = ap (λ (k : Kept). k.floor) c.self.view_is in
    let over = if_told c.root_at.result c.in_ok-root.root _ c.in_ok-root.ensures.value c.root_at.ensures.root (leaf_digests h) s.tree.leaves in
    let root_is : c.in_ok-root.root.0 ≡ model.root h (end_of h n) = over ∙ root_before h c.in_ok-block.size ∙ ap (model.root h) told.3 in
    ap (λ b. Some (b, record { size = c.in_ok-block.size; root = c.in_ok-root.root })) told.2
    ∙ ap (λ z. Some (block_of h n, record { size = z; root = c.in_ok-root.root })) told.3
    ∙ ap (λ r. Some (block_of h n, record { size = end_of h n; root = digest r })) root_is
    ∙ sym (told_here k h n (block_of h n, head_at h (end_of h n)) s (omega (arith, floor, told.0)) (omega (arith, told.1, s.counts.sealed_is)))
    ∙ ap (λ (k : Kept). told_end k.floor h n) c.self.view_is
