use Rattle.std.proofs.Common.{refl}
use Rattle.ledger_io.specs.declared.ending.Ending.TheVariants.{WriteFault}
use Rattle.ledger_cli.proofs.TopLaws.{wrote_part}
use Rattle.ledger_cli.proofs.top.write_text.Goals as goal

pub returns-in-Err : goal.returns-in-Err
returns-in-Err g c = λ source disks notary. record {
  plain = WriteFault;
  ending_is = refl;
  wrote = wrote_part _ c.args.text.now source _ _ c.in-Err.field-0 refl c.in-Err.ensures.taken c.in-Err.ensures.once;
  disks_are = refl;
  notary_is = refl;
}
