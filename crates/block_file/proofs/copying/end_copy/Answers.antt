use Rattle.std.proofs.Common.{◌∷◌, []}
use Rattle.block_file.proofs.VeilLaws.{guards_both}
use Rattle.block_file.proofs.copying.end_copy.Goals as goal

pub returns-clause-veiled : goal.returns-clause-veiled
returns-clause-veiled g c told veiled = guards_both c.write.result _ _ _ (0 ∷ []) _ _ _ c.write.ensures.ok c.write.ensures.err c.requires.behind told veiled
