use Rattle.survivor_set.proofs.reading.+nth.Given as goal

abbrev pub decreases-nth : goal.decreases-nth
decreases-nth l = l.i
