use Rattle.survivor_set.proofs.reading.+read_survivors.Given as goal

abbrev pub decreases-read_survivors : goal.decreases-read_survivors
decreases-read_survivors l = l.count
