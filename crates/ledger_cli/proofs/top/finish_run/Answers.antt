use Rattle.std.proofs.Common.{refl, inr, subst}
use Rattle.std.specs.Prelude.{IfNone}
use Rattle.ledger_cli.specs.Endings.{HasWords}
use Rattle.ledger_io.specs.declared.ending.Ending.TheVariants.{NoMemory}
use Rattle.ledger_cli.specs.declared.ending.LedgerEnding.TheVariants.{Run}
use Rattle.ledger_cli.proofs.top.finish_run.Goals as goal

pub returns : goal.returns
returns g c = record {
  ending = Run NoMemory;
  told = inr (refl, subst (λ (line : _). IfNone line (HasWords c.args.met)) c.in_default.is c.fixed_line.ensures.none);
  status_is = c.finish.ensures.status;
  last = c.finish.ensures.last;
}
