use Rattle.survivor_set.proofs.growing.+add_carried.Given as goal

abbrev pub decreases-add_carried : goal.decreases-add_carried
decreases-add_carried g l = l.size
