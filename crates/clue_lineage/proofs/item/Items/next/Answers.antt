use Rattle.std.proofs.Common.{ℕ, ◌-◌, List, ◌∷◌, sym, ap, subst, ◌∙◌, arith}
use Rattle.clue_lineage.specs.Lineages.{LineageItem}
use Rattle.clue_lineage.specs.Reading.{HasItems, items_in}
use Rattle.clue_lineage.proofs.Spelled.{none_in, never_broken, long_enough, others_left, first_taken}
use Rattle.clue_lineage.proofs.item.Items.next.Goals as goal

pub returns-then-self-eq0 : goal.returns-then-self-eq0
returns-then-self-eq0 c = sym c.self.view_is ∙ none_in c.self.inside.left c.self.inside.bytes.now c.if-self-eq0.true c.self.invariant

pub unreachable-requires : goal.unreachable-requires
unreachable-requires c =
    never_broken c.self.inside.left c.self.inside.bytes.now (omega (arith, c.if-self-eq0.false)) c.self.invariant c.new-reader.result c.in_default.field-0 c.new-reader.ensures c.in_default.ensures.item

pub split_at-requires : goal.split_at-requires
split_at-requires c =
    long_enough c.self.inside.left c.self.inside.bytes.now (omega (arith, c.if-self-eq0.false)) c.self.invariant c.new-reader.result c.take_item.new.reader c.in-Ok.item c.new-reader.ensures c.in-Ok.ensures.item
    c.item.inside.path.now (ap (λ (i : LineageItem). i.path) c.item.view_is)

pub invariant_of-self : goal.invariant_of-self
invariant_of-self c =
    subst (λ (t : List ℕ). HasItems (c.self.inside.left - 1) t) (sym c.split_at.ensures.back)
    (others_left c.self.inside.left c.self.inside.bytes.now (omega (arith, c.if-self-eq0.false)) c.self.invariant c.new-reader.result c.take_item.new.reader c.in-Ok.item c.new-reader.ensures c.in-Ok.ensures.item
    c.item.inside.path.now (ap (λ (i : LineageItem). i.path) c.item.view_is))

pub returns : goal.returns
returns c =
    sym c.self.view_is
    ∙ first_taken c.self.inside.left c.self.inside.bytes.now (omega (arith, c.if-self-eq0.false)) c.self.invariant c.new-reader.result c.take_item.new.reader c.in-Ok.item c.new-reader.ensures c.in-Ok.ensures.item
    c.item.inside.path.now (ap (λ (i : LineageItem). i.path) c.item.view_is)
    ∙ ap (λ (t : List ℕ). c.in-Ok.item ∷ items_in (c.self.inside.left - 1) t) (sym c.split_at.ensures.back)
