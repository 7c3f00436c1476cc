use Rattle.std.proofs.Common.{refl}
use Rattle.axis_cells.proofs.Fits.{products_fit}
use Rattle.axis_cells.proofs.sample.Sample.of_pose.Goals as goal

pub of-requires-clause-u : goal.of-requires-clause-u
of-requires-clause-u c =
    let pose = c.args.pose.now in let f = products_fit pose.offset pose.axis pose.offset_within pose.axis_within in
    simp (c.scalar_product-u.ensures, f.u_back) f.u_small

pub of-requires-clause-n : goal.of-requires-clause-n
of-requires-clause-n c =
    let pose = c.args.pose.now in let f = products_fit pose.offset pose.axis pose.offset_within pose.axis_within in
    simp (c.scalar_product-n.ensures, f.n_back) f.n_small

pub of-requires-clause-d : goal.of-requires-clause-d
of-requires-clause-d c =
    let pose = c.args.pose.now in let f = products_fit pose.offset pose.axis pose.offset_within pose.axis_within in
    simp (c.scalar_product-d.ensures, f.d_back) f.d_small

pub returns-clause-w : goal.returns-clause-w
returns-clause-w c =
    let pose = c.args.pose.now in let f = products_fit pose.offset pose.axis pose.offset_within pose.axis_within in
    simp (c.of.ensures.w, c.scalar_product-u.ensures, c.scalar_product-n.ensures, c.scalar_product-d.ensures, f.u_back, f.n_back, f.d_back) refl
