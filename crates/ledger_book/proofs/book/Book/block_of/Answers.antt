use Rattle.std.proofs.Common.{rules, tests, arith, List, ◌≡◌, ◌≤◌, ◌<◌, ℕ, length, nat_le, get_or, sym, subst, ap, ◌∙◌}
use Rattle.std.proofs.lemmas.Bool.{ltb-false}
use Rattle.std.proofs.lemmas.List.Sorted.{IsPartitionPoint-from_clause}
use Rattle.std.proofs.lemmas.Option.{get_or_from_slice_get}
use Rattle.ledger_model.specs.History.{block_of, end_of}
use Rattle.ledger_book.specs.Blocks.{told_block}
use Rattle.ledger_book.specs.Books.{Kept, Stands}
use Rattle.ledger_book.specs.contracts.book.Book.{the_view}
use Rattle.ledger_book.proofs.BlockLaws.{IsBehind, ends_parted, block_found, end_found, end_within, tells}
use Rattle.ledger_book.proofs.book.Book.block_of.Goals as goal

pub returns-in_err-end : goal.returns-in_err-end
returns-in_err-end c = λ h s0.
    let k = the_view c.self.inside in
    let s = subst (λ (k : Kept). Stands k h) (sym c.self.view_is) s0 in
    let n = c.args.n in
    let i = c.partition_point-at.result in
    let at : IsBehind n k.ends i =
    IsPartitionPoint-from_clause (λ (e : ℕ). nat_le e n) k.ends i (rw c.deref.ensures.value at c.partition_point-at.ensures.partitioned) (ends_parted k h n s) (λ a r f h. search (rules, tests)) in
    let low : k.floor ≤ n = omega (arith, c.if-n-self.false) in
    let lt : n < k.sealed = omega (arith, c.if-n-self-2.false) in
    let within = end_within k h n i s low lt at in
    let past = ltb-false i (length c.deref-2.result.now) (sym c.in_err-end.ensures.lookup.0) in
    absurd (omega (arith, within, past, ap length c.deref-2.ensures.value))

pub returns : goal.returns
returns c = λ h s0.
    let k = the_view c.self.inside in
    let s = subst (λ (k : Kept). Stands k h) (sym c.self.view_is) s0 in
    let n = c.args.n in
    let i = c.partition_point-at.result in
    let at : IsBehind n k.ends i =
    IsPartitionPoint-from_clause (λ (e : ℕ). nat_le e n) k.ends i (rw c.deref.ensures.value at c.partition_point-at.ensures.partitioned) (ends_parted k h n s) (λ a r f h. search (rules, tests)) in
    let low : k.floor ≤ n = omega (arith, c.if-n-self.false) in
    let lt : n < k.sealed = omega (arith, c.if-n-self-2.false) in
    let end : ℕ = c.in_ok-end.field-0.now in
    let same : end ≡ end_of h n =
    c.in_ok-end.ensures.lookup.1 ∙ ap (λ (l : List ℕ). get_or l i end) c.deref-2.ensures.value ∙ get_or_from_slice_get k.ends i (end_of h n) end (end_found k h n i s low lt at) in
    let block : c.saturating_sub.result ≡ block_of h n = omega (arith, c.saturating_sub.ensures, c.len.ensures, c.self.inside.ends.ok.0, block_found k h n i s low lt at) in
    tells k h n c.saturating_sub.result end s low lt block same ∙ ap (λ (k : Kept). told_block k.floor h n) c.self.view_is
