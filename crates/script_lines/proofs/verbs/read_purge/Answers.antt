use Rattle.script_lines.proofs.Approving.{proofs_fit}
use Rattle.script_lines.proofs.verbs.read_purge.Goals as goal

pub returns-clause-fits : goal.returns-clause-fits
returns-clause-fits c = proofs_fit c.in_ok-given.given c.in_ok-given.ensures.few c.in_ok-given.ensures.long
