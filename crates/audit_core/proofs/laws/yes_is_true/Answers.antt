use Rattle.audit_core.proofs.Truths.{journal_true, bare, yes_true}
use Rattle.audit_core.proofs.Reaching.{plain_true}
use Rattle.audit_core.proofs.laws.yes_is_true.Goals as goal

pub returns-clause-journal : goal.returns-clause-journal
returns-clause-journal c hash bytes claim trust lists makes said under = journal_true hash makes bytes claim trust lists said under

pub returns-clause-bare : goal.returns-clause-bare
returns-clause-bare c hash bytes claim trust proof said lower upper read = bare hash bytes claim trust said proof read lower upper

pub returns-clause-unbounded : goal.returns-clause-unbounded
returns-clause-unbounded c hash bytes claim trust lists makes said lower upper under = yes_true hash makes bytes claim trust lists said lower upper under

pub returns-clause-bounded : goal.returns-clause-bounded
returns-clause-bounded c hash bytes claim trust lists proof makes fits said read reached =
    plain_true hash makes bytes claim trust lists proof fits said read reached
