use Rattle.box_bisect.proofs.point.mark_point_uncounted.Given as goal

abbrev pub ghosts-mark_point_from : goal.ghosts-mark_point_from
ghosts-mark_point_from a = record { name = a.blank.name; parts = a.blank.parts }
