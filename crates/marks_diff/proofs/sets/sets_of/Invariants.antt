use Rattle.marks_diff.proofs.sets.sets_of.Given as goal

abbrev pub ghosts-sets_from : goal.ghosts-sets_from
ghosts-sets_from a = record { name = a.blank.name; parts = a.blank.parts }
