use Rattle.std.proofs.Common.{ap, arith, rules}
use Rattle.std.specs.Prelude.{◌||◌}
use Rattle.std.specs.Option.{is_some}
use Rattle.ledger_model.specs.Bounds.{has_bound}
use Rattle.merkle_tree.specs.declared.head.Head.{Head}
use Rattle.proof_maker.proofs.AcceptLaws.{made_accepted}
use Rattle.proof_maker.proofs.ProofLaws.{asked_of, has_spelling, notary_err, noted_of, shown_made}
use Rattle.proof_maker.proofs.TreeLaws.{settled_head}
use Rattle.proof_maker.proofs.proving.prove_from.Goals as goal

pub spell-requires : goal.spell-requires
spell-requires g c =
    let es = (g.N.Notary.state c.args.notary.now).entries in
    let noted_is = noted_of es c.in_ok-parts.parts c.index_of-lower.result c.index_of-upper.result c.in_ok-noted.noted c.index_of-lower.ensures c.index_of-upper.ensures c.in_ok-noted.ensures.noted in
    has_spelling c.head-size.result.size c.args.n c.in_ok-parts.parts c.in_ok-noted.noted es (search (rules, arith)) c.ranges.n.fits c.in_ok-parts.ensures.short c.in_ok-noted.ensures.short noted_is

pub returns-in_err-noted-clause-err : goal.returns-in_err-noted-clause-err
returns-in_err-noted-clause-err g c = λ h s.
    notary_err (is_some c.index_of-lower.result || is_some c.index_of-upper.result) (has_bound h c.args.n) c.from_residual-in_err-noted.result c.in_err-noted.field-0.0
    (asked_of h c.args.n c.in_ok-parts.parts c.index_of-lower.result c.index_of-upper.result (c.in_ok-parts.ensures.bounds h s) c.index_of-lower.ensures c.index_of-upper.ensures) c.from_residual-in_err-noted.ensures c.in_err-noted.ensures.err

pub returns-clause-answer : goal.returns-clause-answer
returns-clause-answer g c = λ h s leads.
    let es = (g.N.Notary.state c.args.notary.now).entries in
    let size_is = ap (λ (x : Head). x.size) (settled_head c.args.book.now h s.stands c.head-size.result c.requires.settled (c.head-size.ensures h s.stands)) in
    let noted_is = noted_of es c.in_ok-parts.parts c.index_of-lower.result c.index_of-upper.result c.in_ok-noted.noted c.index_of-lower.ensures c.index_of-upper.ensures c.in_ok-noted.ensures.noted in
    shown_made h es c.head-size.result.size c.args.n c.in_ok-parts.parts c.in_ok-noted.noted size_is (c.in_ok-parts.ensures.parts h s leads) noted_is c.in_ok-spell.field-0 c.in_ok-spell.ensures

pub returns-clause-accepted : goal.returns-clause-accepted
returns-clause-accepted g c = λ h trust s leads there pegged head list.
    let es = (g.N.Notary.state c.args.notary.now).entries in
    let size_is = ap (λ (x : Head). x.size) (settled_head c.args.book.now h s.stands c.head-size.result c.requires.settled (c.head-size.ensures h s.stands)) in
    let noted_is = noted_of es c.in_ok-parts.parts c.index_of-lower.result c.index_of-upper.result c.in_ok-noted.noted c.index_of-lower.ensures c.index_of-upper.ensures c.in_ok-noted.ensures.noted in
    made_accepted h es trust s.stands.lawful pegged c.args.n c.in_ok-spell.field-0 there head list
    (shown_made h es c.head-size.result.size c.args.n c.in_ok-parts.parts c.in_ok-noted.noted size_is (c.in_ok-parts.ensures.parts h s leads) noted_is c.in_ok-spell.field-0 c.in_ok-spell.ensures)
