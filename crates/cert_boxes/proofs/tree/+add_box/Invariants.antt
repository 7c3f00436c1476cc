use Rattle.cert_boxes.specs.Drafts.{halvings_left}
use Rattle.cert_boxes.proofs.tree.+add_box.Given as goal

abbrev pub decreases-add_box : goal.decreases-add_box
decreases-add_box l = halvings_left l.depth l.cell
