use Rattle.audit_core.proofs.Truths.{journal_stays, yes_stays}
use Rattle.audit_core.proofs.Reaching.{reached_true}
use Rattle.audit_core.proofs.laws.yes_stays_true.Goals as goal

pub returns-clause-unbounded : goal.returns-clause-unbounded
returns-clause-unbounded c hash bytes claim trust lists proof root extensions head makes said lower upper read trusted leads size_is root_is =
    yes_stays hash makes bytes claim trust lists proof root extensions head said lower upper read trusted leads size_is root_is

pub returns-clause-bounded : goal.returns-clause-bounded
returns-clause-bounded c hash bytes claim trust lists proof ledger notary makes fits said read reached =
    reached_true hash makes bytes claim trust lists proof ledger notary fits said read reached

pub returns-clause-journal : goal.returns-clause-journal
returns-clause-journal c hash bytes claim trust lists proof root extensions makes said read trusted leads =
    journal_stays hash makes bytes claim trust lists proof root extensions said read trusted leads
