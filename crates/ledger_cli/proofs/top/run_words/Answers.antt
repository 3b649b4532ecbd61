use Rattle.ledger_cli.proofs.TopLaws.{unstarted_by}
use Rattle.ledger_cli.proofs.top.run_words.Goals as goal

pub returns-in-Err : goal.returns-in-Err
returns-in-Err g c = unstarted_by _ g.D.Disk.tells _ _ c.in-Err.ensures.err
