use Rattle.std.proofs.Common.{◌+◌, [], ◌∷◌, sym, ap, ◌∙◌}
use Rattle.block_file.specs.FileView.{gate_of}
use Rattle.batch_committer.proofs.Committing.{one_block}
use Rattle.batch_committer.proofs.commit.commit_in.Goals as goal

pub returns-in-Ok-clause-ends : goal.returns-in-Ok-clause-ends
returns-in-Ok-clause-ends g c = λ told same. (c.in-Ok.ensures.ok (c.args.bytes.now ∷ []) (one_block c.args.bytes.now)).ends told (same ∙ ap (λ f. gate_of f + 1) (sym c.file.ensures.value))

pub returns-in-Ok-clause-reads : goal.returns-in-Ok-clause-reads
returns-in-Ok-clause-reads g c = record { told = c.in-Ok.ensures.length; shut = (c.in-Ok.ensures.ok (c.args.bytes.now ∷ []) (one_block c.args.bytes.now)).gate }

pub returns-in-Ok-clause-head : goal.returns-in-Ok-clause-head
returns-in-Ok-clause-head g c = (c.in-Ok.ensures.ok (c.args.bytes.now ∷ []) (one_block c.args.bytes.now)).head
