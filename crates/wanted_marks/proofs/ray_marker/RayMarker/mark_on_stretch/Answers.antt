use Rattle.wanted_marks.proofs.ray_marker.RayMarker.mark_on_stretch.Goals as goal

pub mark_on_stretch-requires-clause-fits : goal.mark_on_stretch-requires-clause-fits
mark_on_stretch-requires-clause-fits c = c.requires.line.fits c.args.l c.requires.within
