use Rattle.std.proofs.Common.{subst}
use Rattle.std.specs.Prelude.{map}
use Rattle.sha2.specs.Sha256.{sha256}
use Rattle.tree_model.specs.Tree.{leaf}
use Rattle.merkle_batch.specs.Rows.{StandsFor}
use Rattle.notary_ledger.proofs.ListLaws.{proof_is}
use Rattle.notary_ledger.proofs.list.Entries.proof.Goals as goal

pub returns-in-Ok : goal.returns-in-Ok
returns-in-Ok c =
    let es = c.args.self.now.entries in
    let stands : StandsFor sha256 c.self.inside.tree (map (leaf sha256) es) = subst (λ v. StandsFor sha256 c.self.inside.tree (map (leaf sha256) v.entries)) c.self.view_is c.self.invariant.0 in
    proof_is c.args.m c.len.result es c.in-Ok.digests.items c.len.ensures c.requires.within (c.in-Ok.ensures.proof _ stands) c.in-Ok.ensures.all
