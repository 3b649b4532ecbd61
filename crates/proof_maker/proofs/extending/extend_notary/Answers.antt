use Rattle.std.proofs.Common.{◌∙◌, ℕ, ◌≤◌, List, length, map, ap, arith}
use Rattle.std.specs.List.{concat}
use Rattle.sha2.specs.Sha256.{sha256}
use Rattle.ledger_bytes.specs.declared.digest.Digest.{Digest}
use Rattle.tree_model.specs.Extension.{proof}
use Rattle.tree_model.specs.Tree.{leaf}
use Rattle.proof_maker.proofs.ExtendLaws.{list_few, list_accepted}
use Rattle.proof_maker.proofs.RefusalLaws.{size_passes}
use Rattle.proof_maker.proofs.extending.extend_notary.Goals as goal

pub returns-clause-accepted : goal.returns-clause-accepted
returns-clause-accepted g c = λ trust trusts.
    let es = (g.N.Notary.state c.args.notary.now).entries in
    let passes = size_passes c.in_ok-head.head.size c.args.m c.in_ok-check_size.ensures in
    let within : c.args.m ≤ length es = omega (arith, passes.1, c.in_ok-head.ensures.size) in
    let told = c.in_ok-digests.ensures.proof ∙ ap (λ (l : List (List ℕ)). proof sha256 c.args.m (map (leaf sha256) l)) c.head.ensures.same in
    let few = list_few es c.args.m c.in_ok-digests.digests.items (omega (arith, c.head.ensures.lawful.few, ap length c.head.ensures.same)) passes.0 within told in
    list_accepted es c.args.m c.in_ok-head.head c.in_ok-proof.proof trust passes.0 within c.in_ok-head.ensures.size c.in_ok-head.ensures.root
    (c.in_ok-proof.ensures.bytes ∙ ap (λ (l : List Digest). concat (map (λ (d : Digest). d.0) l)) c.as_slice.ensures.value ∙ ap concat told)
    (omega (arith, (c.in_ok-proof.ensures.short 33 (omega (arith, ap length c.as_slice.ensures.value, few))).few)) trusts
