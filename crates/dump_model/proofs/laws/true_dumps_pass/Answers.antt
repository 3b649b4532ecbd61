use Rattle.dump_model.proofs.Sound.{is_erased_so, is_purged_so}
use Rattle.dump_model.proofs.Passing.{ledger_passes, notary_passes}
use Rattle.dump_model.proofs.laws.true_dumps_pass.Goals as goal

pub returns-clause-erased : goal.returns-clause-erased
returns-clause-erased c hash dump headers entries fits is = is_erased_so headers dump fits is.headers_are is.erased

pub returns-clause-purged : goal.returns-clause-purged
returns-clause-purged c hash dump headers entries fits is = is_purged_so headers dump fits is.headers_are hash dump.base is.purged

pub returns-clause-ledger : goal.returns-clause-ledger
returns-clause-ledger c hash dump headers entries head is = ledger_passes hash dump headers entries head is

pub returns-clause-notary : goal.returns-clause-notary
returns-clause-notary c hash dump headers entries head is = notary_passes hash dump headers entries head is
