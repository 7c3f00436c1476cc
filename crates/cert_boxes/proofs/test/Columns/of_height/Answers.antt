use Rattle.std.proofs.Common.{pos, ap, sym, subst, ◌∙◌}
use Rattle.bern_form.specs.Forms.{scaled4}
use Rattle.bern_form.specs.Sizes.{IsBounded4}
use Rattle.bern_form.proofs.Sizes.{small_as}
use Rattle.cert_boxes.specs.Forms.{column_bound}
use Rattle.cert_boxes.proofs.BoxFitting.{height_fits}
use Rattle.cert_boxes.proofs.test.Columns.of_height.Goals as goal

pub times22-requires : goal.times22-requires
times22-requires c = (height_fits c.args.u.now.c c.args.u.now.c c.requires.u c.requires.u).once

pub times22-requires-2 : goal.times22-requires-2
times22-requires-2 c = (height_fits c.args.u.now.c c.args.v.now.c c.requires.u c.requires.v).once

pub scale4-requires : goal.scale4-requires
scale4-requires c = small_as (ap (scaled4 (pos 2)) c.times22-2.ensures.coefficients) (height_fits c.args.u.now.c c.args.v.now.c c.requires.u c.requires.v).twice

pub times22-requires-3 : goal.times22-requires-3
times22-requires-3 c = (height_fits c.args.v.now.c c.args.v.now.c c.requires.v c.requires.v).once

pub invariant_of-result : goal.invariant_of-result
invariant_of-result c =
    let u = c.args.u.now.c in let v = c.args.v.now.c in record {
      first_small = subst (IsBounded4 column_bound) (sym c.times22.ensures.coefficients) (height_fits u u c.requires.u c.requires.u).once_small;
      middle_small = subst (IsBounded4 column_bound) (sym (c.scale4.ensures.coefficients ∙ ap (scaled4 (pos 2)) c.times22-2.ensures.coefficients)) (height_fits u v c.requires.u c.requires.v).twice_small;
      last_small = subst (IsBounded4 column_bound) (sym c.times22-3.ensures.coefficients) (height_fits v v c.requires.v c.requires.v).once_small;
    }
