use Rattle.sha2.specs.Sha256.{sha256}
use Rattle.sha2.proofs.Facts256.{length-sha256}
use Rattle.dump_model.proofs.Agreeing.{true_shows_none}
use Rattle.dump_model.proofs.Sound.{sound}
use Rattle.dump_model.proofs.laws.checked_dumps_are_true.Goals as goal

pub returns-clause-any : goal.returns-clause-any
returns-clause-any c hash dump ledger notary headers entries makes fits hidden purged head noted size root count noted_root =
    sound hash makes dump ledger notary headers entries fits hidden purged head noted size root count noted_root

pub returns-clause-by_sha256 : goal.returns-clause-by_sha256
returns-clause-by_sha256 c dump ledger notary headers entries fits hidden purged head noted size root count noted_root =
    sound sha256 length-sha256 dump ledger notary headers entries fits hidden purged head noted size root count noted_root

pub returns-clause-exact : goal.returns-clause-exact
returns-clause-exact c hash dump headers entries is = true_shows_none hash dump headers entries is
