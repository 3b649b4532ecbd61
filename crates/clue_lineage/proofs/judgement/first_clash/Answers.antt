use Rattle.std.proofs.Common.{List, Some, sym, subst}
use Rattle.tree_model.specs.Tree.{cut}
use Rattle.audit_core.specs.Parts.{Finds}
use Rattle.audit_core.proofs.PartLaws.{finds_front}
use Rattle.clue_lineage.specs.Lineages.{LineageItem}
use Rattle.clue_lineage.specs.Judging.{item_parts, parts_of}
use Rattle.clue_lineage.proofs.judgement.first_clash.Goals as goal

pub returns-in-Some-item_differs : goal.returns-in-Some-item_differs
returns-in-Some-item_differs g c =
    let hash = g.H.TreeHash.of in
    let list = cut 174 c.args.headers.now in
    let clash = c.in-Some-item_differs.clash in
    let found = finds_front hash (item_parts hash list c.in-Some.item) (parts_of hash list c.next.new.self) clash c.in-Some-item_differs.ensures in
    c.loop-item.invariant.behind (Some clash) (subst (λ (xs : List LineageItem). Finds hash (parts_of hash list xs) (Some clash)) (sym c.in-Some.ensures) found)
