use Rattle.notary_ledger.proofs.LocalLaws.{time_of_entry}
use Rattle.notary_ledger.proofs.entry.new_entry.Goals as goal

pub returns-clause-time : goal.returns-clause-time
returns-clause-time c = time_of_entry c.args.time c.args.peg.now.0 c.args.salt.now.0 _ c.ranges.time.fits c.entry_bytes.ensures
