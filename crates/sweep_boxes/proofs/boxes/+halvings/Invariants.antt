use Rattle.sweep_boxes.proofs.boxes.+halvings.Given as goal

abbrev pub decreases-halvings : goal.decreases-halvings
decreases-halvings l = l.most
