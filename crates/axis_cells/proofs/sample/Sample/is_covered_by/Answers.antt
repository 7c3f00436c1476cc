use Rattle.std.proofs.Common.{◌≡◌, pos, FitsSigned, arith, rules, subst, ◌∙◌}
use Rattle.std.proofs.lemmas.Int.{ints, to_z-of_z}
use mir.Syntax.{w32, w128}
use Rattle.bern_form.specs.Slab.{SlabSize, covers}
use Rattle.axis_cells.proofs.Comparisons.{covers_by}
use Rattle.axis_cells.proofs.Fits.{height_fits, read_height_fits, read_length_small, read_width_fits, width_fits}
use Rattle.axis_cells.proofs.sample.Sample.is_covered_by.Goals as goal

pub squared-lowest-requires : goal.squared-lowest-requires
squared-lowest-requires c =
    let is = c.slab.invariant in
    let ordered = is.ordered in let height = is.height in
    read_length_small c.slab.inside.lo is.above_tip (omega (arith, ints))

pub squared-highest-requires : goal.squared-highest-requires
squared-highest-requires c =
    let is = c.slab.invariant in
    let above = is.above_tip in let ordered = is.ordered in
    read_length_small c.slab.inside.hi (omega (arith, ints)) is.height

pub squared-widest-requires : goal.squared-widest-requires
squared-widest-requires c =
    let is = c.slab.invariant in
    let width = is.width in
    read_length_small c.slab.inside.dia is.thick (omega (arith, ints))

pub overflow_mul-height : goal.overflow_mul-height
overflow_mul-height c = read_height_fits c.args.self.now.u c.args.self.now.u_small

pub overflow_mul-width : goal.overflow_mul-width
overflow_mul-width c = read_width_fits c.args.self.now.w c.args.self.now.w_small

pub returns : goal.returns
returns c =
    let s = c.slab.inside in let at = c.args.self.now in
    let lo : FitsSigned w32 s.lo = search rules in
    let hi : FitsSigned w32 s.hi = search rules in
    let dia : FitsSigned w32 s.dia = search rules in
    let u : FitsSigned w128 at.u = search rules in
    let w : FitsSigned w128 at.w = search rules in
    let lowest : FitsSigned w128 c.squared-lowest.result = search rules in
    let highest : FitsSigned w128 c.squared-highest.result = search rules in
    let widest : FitsSigned w128 c.squared-widest.result = search rules in
    let height = height_fits at.u at.u_small in
    let width = width_fits at.w at.w_small in
    subst (λ (slab : SlabSize). c.lies_within.result ≡ covers slab (pos at.scale) at.u at.n at.w) c.slab.view_is
    ((simp to_z-of_z at c.lies_within.ensures)
    ∙ covers_by record { lo = s.lo; hi = s.hi; dia = s.dia } (pos at.scale) at.u at.n at.w _ _ _ (simp to_z-of_z at c.squared-lowest.ensures) (simp to_z-of_z at c.squared-highest.ensures) (simp to_z-of_z at c.squared-widest.ensures))
