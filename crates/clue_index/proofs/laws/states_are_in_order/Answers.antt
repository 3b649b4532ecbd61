use Rattle.clue_index.proofs.OrderLaws.{states_ascend, states_counted, states_named}
use Rattle.clue_index.proofs.laws.states_are_in_order.Goals as goal

pub returns-clause-ascending : goal.returns-clause-ascending
returns-clause-ascending c = states_ascend

pub returns-clause-counted : goal.returns-clause-counted
returns-clause-counted c = states_counted

pub returns-clause-named : goal.returns-clause-named
returns-clause-named c = states_named
