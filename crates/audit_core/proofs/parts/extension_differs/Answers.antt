use Rattle.audit_core.proofs.PartLaws.{flat_most, flat_extension}
use Rattle.audit_core.proofs.parts.extension_differs.Goals as goal

pub first_root-requires-clause-within : goal.first_root-requires-clause-within
first_root-requires-clause-within g c = flat_most g.H.TreeHash.of 174 c.args.headers.now c.args.m c.args.old.now.0 c.args.ext.now c.requires.gives

pub clash_proof-requires-clause-gives : goal.clash_proof-requires-clause-gives
clash_proof-requires-clause-gives g c = flat_extension g.H.TreeHash.of 174 c.args.headers.now c.args.m c.args.old.now.0 c.args.ext.now c.requires.gives
