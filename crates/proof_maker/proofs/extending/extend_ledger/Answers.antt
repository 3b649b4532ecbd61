use Rattle.std.proofs.Common.{◌≡◌, length, refl, ◌∙◌, ap, sym, arith}
use Rattle.std.proofs.lemmas.List.{length-map}
use Rattle.std.proofs.lemmas.Result.{err_from_is_err_and}
use Rattle.ledger_bytes.specs.Digests.{digest}
use Rattle.merkle_tree.specs.declared.head.Head.{Head}
use Rattle.ledger_model.specs.History as model
use Rattle.ledger_model.specs.History.{journals, leaf_digest}
use Rattle.ledger_book.specs.Books.{leaf_digests}
use Rattle.ledger_book.proofs.StandsLaws.{point_is}
use Rattle.script_lines.specs.declared.said.Which.TheVariants.{Ledger}
use Rattle.proof_maker.proofs.ExtendLaws.{extension_accepted}
use Rattle.proof_maker.proofs.RefusalLaws.{no_fault}
use Rattle.proof_maker.proofs.TreeLaws.{settled_head, all_wide, root_told, whole_root, tree_is, size_told, leaf_kept}
use Rattle.proof_maker.proofs.extending.extend_ledger.Goals as goal

pub returns-in-Some-clause-answer : goal.returns-in-Some-clause-answer
returns-in-Some-clause-answer c = λ h s. sym (c.ledger_refusal.ensures.why h s) ∙ c.in-Some.is

pub returns-in-Some-clause-own : goal.returns-in-Some-clause-own
returns-in-Some-clause-own c = no_fault c.in-Some.why c.in-Some.ensures.kinds refl refl

pub returns-in_err-proof-clause-answer : goal.returns-in_err-proof-clause-answer
returns-in_err-proof-clause-answer c = λ h s.
    let p = err_from_is_err_and c.from_residual.result c.from_residual.ensures.1 in
    let within = c.in_default.ensures.within in
    let low = leaf_kept c.args.book.now c.tree.result.now c.tree.ensures.stands c.tree.ensures.floor h s c.args.m (omega (arith, point_is c.args.book.now h s, within.2)) in
    let all = size_told c.args.book.now c.tree.result.now c.tree.ensures.stands c.tree.ensures.floor h s in
    rw (p.1, p.2, c.in_err-proof.ensures.err low within.0 (omega (arith, within.1, s.stands.counts.size, all)))
    (sym (c.in_default.ensures.why h s))

pub returns-clause-answer : goal.returns-clause-answer
returns-clause-answer c = λ h s.
    let head = settled_head c.args.book.now h s.stands c.head-head.result c.requires.settled (c.head-head.ensures h s.stands) in
    let within = c.in_default.ensures.within in
    let all = size_told c.args.book.now c.tree.result.now c.tree.ensures.stands c.tree.ensures.floor h s in
    let stands = tree_is c.args.book.now c.tree.result.now c.tree.ensures.stands c.tree.ensures.floor h s in (
      sym (c.in_default.ensures.why h s),
      record { head_is = head; proof_is = c.in_ok-proof.ensures.proof (leaf_digests h) stands (omega (arith, within.1, s.stands.counts.size, all)) },
    )

pub returns-clause-accepted : goal.returns-clause-accepted
returns-clause-accepted c = λ h trust s trusts.
    let head = settled_head c.args.book.now h s.stands c.head-head.result c.requires.settled (c.head-head.ensures h s.stands) in
    let size_is = ap (λ (x : Head). x.size) head in
    let within = c.in_default.ensures.within in
    let all = size_told c.args.book.now c.tree.result.now c.tree.ensures.stands c.tree.ensures.floor h s in
    let long : length (leaf_digests h) ≡ model.size h = length-map (journals h) leaf_digest in
    let bytes = c.in_ok-proof.ensures.proof (leaf_digests h) (tree_is c.args.book.now c.tree.result.now c.tree.ensures.stands c.tree.ensures.floor h s) (omega (arith, within.1, s.stands.counts.size, all)) in
    let same = ap (λ (x : Head). x.root) head in
    extension_accepted Ledger (leaf_digests h) c.args.m (model.size h) c.head-head.result (digest (model.root h c.args.m)) (digest (model.root h (model.size h))) c.in_ok-proof.proof trust (all_wide h) within.0
    (omega (arith, within.1, s.stands.counts.size, long)) long size_is (sym same) (ap (λ (x : Head). x.root.0) head ∙ sym (whole_root h)) (sym (root_told h c.args.m)) bytes (omega (arith, (c.in_ok-proof.ensures.short c.tree.ensures.fits).few)) trusts
