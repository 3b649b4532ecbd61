use Rattle.std.proofs.Common.{◌≡◌, refl, ◌∙◌, arith}
use Rattle.notary_ledger.proofs.OpenLaws.{behind_gate}
use Rattle.notary_ledger.proofs.open.read_whole.Goals as goal

pub returns-clause-entry : goal.returns-clause-entry
returns-clause-entry g c told =
    let whole : c.in_ok-read.field-0 ≡ 73 = grind arith in
    c.copy_from_slice.ensures.after ∙ c.split_at.ensures.back ∙ behind_gate (g.D.Disk.state c.args.disk.now).bytes.seen _ _ c.args.at c.in_ok-read.field-0 whole refl (c.in_ok-read.ensures.bytes told)
