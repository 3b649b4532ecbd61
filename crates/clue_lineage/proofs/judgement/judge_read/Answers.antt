use Rattle.std.proofs.Common.{List, sym, ap, subst, ◌∙◌}
use Rattle.std.specs.List.{AllByRecursion}
use Rattle.tree_model.specs.Tree.{cut}
use Rattle.clue_lineage.specs.Lineages.{LineageItem, Lineage}
use Rattle.clue_lineage.specs.Judging.{Gives}
use Rattle.clue_lineage.proofs.Judged.{seen_under, gives_of, read_true, read_clash}
use Rattle.clue_lineage.proofs.judgement.judge_read.Goals as goal

pub first_clash-requires-clause-gives : goal.first_clash-requires-clause-gives
first_clash-requires-clause-gives g c =
    let accepted = seen_under g.H.TreeHash.of (cut 174 c.args.headers.now) c.args.clue.now c.own_head.result c.args.lineage.now c.accept_under.result c.own_head.ensures c.accept_under.ensures ∙ c.in-Ok.is in
    subst (λ (items : List LineageItem). AllByRecursion (Gives g.H.TreeHash.of (cut 174 c.args.headers.now)) items) (sym (ap (λ (l : Lineage). l.items) c.lineage.view_is))
    (gives_of g.H.TreeHash.of (cut 174 c.args.headers.now) c.args.clue.now c.args.lineage.now c.in-Ok.field-0 accepted)

pub returns-in-Some : goal.returns-in-Some
returns-in-Some g c =
    let accepted = seen_under g.H.TreeHash.of (cut 174 c.args.headers.now) c.args.clue.now c.own_head.result c.args.lineage.now c.accept_under.result c.own_head.ensures c.accept_under.ensures ∙ c.in-Ok.is in
    read_clash g.H.TreeHash.of (cut 174 c.args.headers.now) c.args.clue.now c.args.lineage.now c.in-Ok.field-0 c.lineage.inside.items c.in-Some.clash (ap (λ (l : Lineage). l.items) c.lineage.view_is) accepted c.in-Some.ensures

pub returns-in-None : goal.returns-in-None
returns-in-None g c =
    let accepted = seen_under g.H.TreeHash.of (cut 174 c.args.headers.now) c.args.clue.now c.own_head.result c.args.lineage.now c.accept_under.result c.own_head.ensures c.accept_under.ensures ∙ c.in-Ok.is in
    read_true g.H.TreeHash.of (cut 174 c.args.headers.now) c.args.clue.now c.args.lineage.now c.in-Ok.field-0 c.lineage.inside.items (ap (λ (l : Lineage). l.items) c.lineage.view_is) accepted c.in-None.ensures
