use Rattle.std.proofs.Common.{arith, ◌*◌, subst, sym}
use Rattle.bern_form.specs.Forms.{lifted}
use Rattle.bern_form.specs.Sizes.{IsBounded4, axis_limit}
use Rattle.axis_cells.proofs.Bounds.{list4}
use Rattle.cert_boxes.proofs.BoxFitting.{raised_small}
use Rattle.cert_boxes.proofs.test.BoxTest.of_forms.Goals as goal

pub lift24-requires : goal.lift24-requires
lift24-requires c = let s = c.args.forms.now.first in list4 (lifted s.n.c) (18 * (axis_limit * axis_limit)) (omega arith) (raised_small s.n.c s.n_small)

pub invariant_of-result : goal.invariant_of-result
invariant_of-result c =
    let s = c.args.forms.now.first in record {
      scale_small = c.requires;
      raised_small = subst (IsBounded4 (18 * (axis_limit * axis_limit))) (sym c.lift24.ensures.coefficients) (raised_small s.n.c s.n_small);
    }
