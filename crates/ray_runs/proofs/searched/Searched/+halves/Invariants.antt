use Rattle.ray_runs.proofs.searched.Searched.+halves.Given as goal

abbrev pub decreases-open_in : goal.decreases-open_in
decreases-open_in l = l.levels
