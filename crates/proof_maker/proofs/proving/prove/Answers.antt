use Rattle.ledger_bytes.specs.Causes.{count_after}
use Rattle.std.proofs.Common.{cond, refl, sym, ap}
use Rattle.std.proofs.lemmas.Result.{err_from_is_err_and}
use Rattle.proof_maker.proofs.RefusalLaws.{passes, no_fault, of_leaf, each_ok}
use Rattle.proof_maker.proofs.proving.prove.Goals as goal

pub returns-in_err-leaf-clause-answer : goal.returns-in_err-leaf-clause-answer
returns-in_err-leaf-clause-answer g c = λ h s.
    let p = err_from_is_err_and c.from_residual.result c.from_residual.ensures.1 in
    let none = sym (c.in_default.ensures.why h s) in
    let may = passes h c.args.n none in
    rw (p.1, p.2, c.in_err-leaf.ensures.err h s may.0 may.1) none

pub returns-in-Some-clause-faults : goal.returns-in-Some-clause-faults
returns-in-Some-clause-faults g c =
    let before = (g.N.Notary.state c.args.notary.now).faults in
    sym (ap (λ v. cond v (count_after before) before) (no_fault c.in-Some.why c.in-Some.ensures.kinds refl refl))

pub returns-clause-answer : goal.returns-clause-answer
returns-clause-answer g c = λ h s.
    of_leaf h (g.N.Notary.state c.args.notary.now).entries c.args.n c.prove_from.result (sym (c.in_default.ensures.why h s)) (c.prove_from.ensures.answer h s (c.in_ok-leaf.ensures.leads h s))

pub returns-clause-accepted : goal.returns-clause-accepted
returns-clause-accepted g c =
    each_ok c.prove_from.result _ _
    (λ made is. λ h trust s pegged head list. is h trust s (c.in_ok-leaf.ensures.leads h s) (passes h c.args.n (sym (c.in_default.ensures.why h s))).0 pegged head list)
    c.prove_from.ensures.accepted
