use Rattle.std.proofs.Common.{◌∙◌, ap, sym, subst, arith, refl}
use Rattle.ledger_model.specs.Bounds.{has_bound}
use Rattle.ledger_model.specs.Proofs.{shown_of}
use Rattle.proof_maker.specs.Making.{IsMade}
use Rattle.survivor_set.specs.Outcomes.{IsSurvivorOf}
use Rattle.survivor_set.specs.Sets.{Saved}
use Rattle.survivor_set.proofs.Revived.{few_digests, there_in, leads_up, asked_for}
use Rattle.survivor_set.proofs.reviving.revive_judged.Goals as goal

pub prove_from-requires-clause-few : goal.prove_from-requires-clause-few
prove_from-requires-clause-few g c = few_digests c.in_ok-row.row c.number-n.result c.size.result (omega (arith, c.size.ensures, c.tree-tree.ensures.fits)) c.in_ok-row.ensures.len

pub returns-clause-answer : goal.returns-clause-answer
returns-clause-answer g c = λ h x s here. (
  refl,
  λ is.
      let y = c.survivor-survivor.result in
      let same = asked_for c.args.set.now.survivors c.args.i x y c.survivor-survivor.ensures.is here in
      let mine = subst (IsSurvivorOf h c.point.result) (sym same) (subst (λ p. IsSurvivorOf h p x) (sym c.point.ensures) is) in
      let leads = leads_up h c.tree-tree.result.now y c.header.result.now c.leaf_of-leaf.result c.encode.result c.in_ok-row.row c.path.result.now c.number-n.result c.size.result c.point.result (c.tree-tree.ensures.stands h s.stands) mine
      c.header.ensures c.leaf_of-leaf.ensures c.encode.ensures.bytes c.number-n.ensures c.path.ensures c.size.ensures c.in_ok-row.ensures.path in
      subst (λ n. IsMade (shown_of h (g.N.Notary.state c.args.notary.now).entries n) c.in_ok-prove_from.field-0) (c.number-n.ensures ∙ ap (λ (z : Saved). z.item.header.jsn) same) (c.in_ok-prove_from.ensures.answer h s leads),
)

pub returns-clause-accepted : goal.returns-clause-accepted
returns-clause-accepted g c = λ h trust x s here is pegged head list.
    let y = c.survivor-survivor.result in
    let same = asked_for c.args.set.now.survivors c.args.i x y c.survivor-survivor.ensures.is here in
    let mine = subst (IsSurvivorOf h c.point.result) (sym same) (subst (λ p. IsSurvivorOf h p x) (sym c.point.ensures) is) in
    let leads = leads_up h c.tree-tree.result.now y c.header.result.now c.leaf_of-leaf.result c.encode.result c.in_ok-row.row c.path.result.now c.number-n.result c.size.result c.point.result (c.tree-tree.ensures.stands h s.stands) mine
    c.header.ensures c.leaf_of-leaf.ensures c.encode.ensures.bytes c.number-n.ensures c.path.ensures c.size.ensures c.in_ok-row.ensures.path in
    let n_is = c.number-n.ensures ∙ ap (λ (z : Saved). z.item.header.jsn) same in
    c.in_ok-prove_from.ensures.accepted h trust s leads (omega (arith, n_is, there_in h c.args.set.now.point x is)) pegged head (λ bound. list (sym (ap (has_bound h) n_is) ∙ bound))
