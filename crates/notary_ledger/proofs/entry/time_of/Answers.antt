use Rattle.std.proofs.Common.{ap, ◌∙◌, take}
use Rattle.notary_ledger.proofs.LocalLaws.{time_is}
use Rattle.notary_ledger.proofs.entry.time_of.Goals as goal

pub returns-in-Some : goal.returns-in-Some
returns-in-Some c = time_is c.in-Some.first.now c.args.entry.now c.from_be_bytes.result (c.in-Some.ensures.cases.0 ∙ ap (take 8) c.as_slice.ensures) c.from_be_bytes.ensures
