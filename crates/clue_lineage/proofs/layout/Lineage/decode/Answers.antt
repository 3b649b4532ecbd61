use Rattle.std.proofs.Common.{rules, ℕ, List, sym, ap, subst, ◌∙◌, arith}
use Rattle.clue_lineage.specs.Lineages.{LineageItem, Lineage}
use Rattle.clue_lineage.specs.Reading.{HasItems, items_in}
use Rattle.clue_lineage.proofs.Spelled.{broken_front, broken_items, broken_end, whole_read, front_within, has_items, items_kept, read_so}
use Rattle.clue_lineage.proofs.layout.Lineage.decode.Goals as goal

pub returns-in_err-size : goal.returns-in_err-size
returns-in_err-size c =
    let broken = broken_front c.args.bytes.now c.new-reader.result c.new-reader.ensures c.in_err-size.field-0.0 c.in_err-size.ensures in
    search (broken, rules)

pub returns-in_err-pass_items : goal.returns-in_err-pass_items
returns-in_err-pass_items c =
    let broken = broken_items c.args.bytes.now c.new-reader.result c.new-reader.ensures (c.in_ok-size.size, c.in_ok-size.clue, c.in_ok-size.count) c.take_front.new.reader c.in_ok-size.ensures c.in_err-pass_items.field-0.0 c.in_err-pass_items.ensures in
    search (broken, rules)

pub returns-in_err-end : goal.returns-in_err-end
returns-in_err-end c =
    let broken = broken_end c.args.bytes.now c.new-reader.result c.new-reader.ensures (c.in_ok-size.size, c.in_ok-size.clue, c.in_ok-size.count) c.take_front.new.reader c.in_ok-size.ensures
    c.in_ok-pass_items.ensures.0 c.pass_items.new.reader c.in_ok-pass_items.ensures.1 c.in_err-end.field-0.0 (sym c.in_err-end.ensures) in
    search (broken, rules)

pub split_at-requires : goal.split_at-requires
split_at-requires c =
    front_within c.args.bytes.now c.new-reader.result c.new-reader.ensures (c.in_ok-size.size, c.in_ok-size.clue, c.in_ok-size.count) c.take_front.new.reader c.in_ok-size.ensures
    c.in_ok-pass_items.ensures.0 c.pass_items.new.reader c.in_ok-pass_items.ensures.1 (λ i. omega (arith, c.type_inv.bytes i)) (sym c.in_ok-end.ensures)

pub invariant_of-items : goal.invariant_of-items
invariant_of-items c =
    subst (λ (t : List ℕ). HasItems c.in_ok-size.count t) (sym c.split_at.ensures.back)
    (has_items c.args.bytes.now c.new-reader.result c.new-reader.ensures (c.in_ok-size.size, c.in_ok-size.clue, c.in_ok-size.count) c.take_front.new.reader c.in_ok-size.ensures
    c.in_ok-pass_items.ensures.0 c.pass_items.new.reader c.in_ok-pass_items.ensures.1 (λ i. omega (arith, c.type_inv.bytes i)) (sym c.in_ok-end.ensures))

pub returns : goal.returns
returns c =
    let shown : List LineageItem → Lineage = λ items. record { size = c.in_ok-size.size; clue = c.in_ok-size.clue; items = items } in
    let kept = items_kept c.args.bytes.now c.new-reader.result c.new-reader.ensures (c.in_ok-size.size, c.in_ok-size.clue, c.in_ok-size.count) c.take_front.new.reader c.in_ok-size.ensures
    c.in_ok-pass_items.ensures.0 c.pass_items.new.reader c.in_ok-pass_items.ensures.1 (λ i. omega (arith, c.type_inv.bytes i)) (sym c.in_ok-end.ensures) in
    ap (λ (t : List ℕ). read_so (shown (items_in c.in_ok-size.count t))) c.split_at.ensures.back
    ∙ ap (λ (xs : List LineageItem). read_so (shown xs)) kept
    ∙ whole_read c.args.bytes.now c.new-reader.result c.new-reader.ensures (c.in_ok-size.size, c.in_ok-size.clue, c.in_ok-size.count) c.take_front.new.reader c.in_ok-size.ensures
    c.in_ok-pass_items.ensures.0 c.pass_items.new.reader c.in_ok-pass_items.ensures.1 (λ i. omega (arith, c.type_inv.bytes i)) (sym c.in_ok-end.ensures)
