use Rattle.ledger_cli.proofs.ListLaws.{some_goes}
use Rattle.ledger_cli.proofs.laws.the_list_of_a_notary_goes_on.Goals as goal

pub returns : goal.returns
returns c scheme h windows first last t = let g = some_goes scheme h first last windows t in (g.begins, g.few)
