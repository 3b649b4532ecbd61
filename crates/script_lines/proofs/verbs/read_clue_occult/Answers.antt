use Rattle.std.proofs.Common.{length}
use Rattle.std.proofs.lemmas.Bool.{and_from, le-leb}
use Rattle.ledger_bytes.specs.declared.limits.TheConstants.{NAME_LIMIT}
use Rattle.script_lines.proofs.Approving.{proofs_fit}
use Rattle.script_lines.proofs.verbs.read_clue_occult.Goals as goal

pub returns-clause-fits : goal.returns-clause-fits
returns-clause-fits c =
    and_from _ _ (le-leb (length c.in_ok-name.name) NAME_LIMIT c.in_ok-name.ensures.long) (proofs_fit c.in_ok-given.given c.in_ok-given.ensures.few c.in_ok-given.ensures.long)
