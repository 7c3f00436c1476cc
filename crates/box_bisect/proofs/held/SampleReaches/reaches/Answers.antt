use Rattle.std.proofs.Common.{ℤ, ◌≤◌, ◌≤ℤ◌, unsigned_abs, arith, pos, ◌*ℤ◌, int_le, FitsSigned, rules, ap, subst, sym, ◌∙◌}
use Rattle.std.proofs.lemmas.Int.{ints, to_z-of_z}
use borrow.Author.Differences.{abs_is}
use mir.Syntax.{w32, w128}
use Rattle.axis_cells.proofs.Fits.{height_fits}
use Rattle.box_bisect.specs.SlabTests.{is_reached}
use Rattle.space.proofs.Reread.{both_back, small_back}
use Rattle.box_bisect.proofs.held.SampleReaches.reaches.Goals as goal

pub returns : goal.returns
returns c =
    let s = c.slab.inside in let at = c.args.self.now in
    let lo : FitsSigned w32 s.lo = search rules in
    let u : FitsSigned w128 at.u = search rules in
    let low : FitsSigned w128 c.squared.result = record { sfits = c.squared.type_inv } in
    let height = height_fits at.u at.u_small in
    simp to_z-of_z (ap (λ z. int_le z (at.u *ℤ at.u)) (simp to_z-of_z at c.squared.ensures) ∙ ap (is_reached (pos at.scale) at.u at.n) c.slab.view_is)

pub overflow_mul-result : goal.overflow_mul-result
overflow_mul-result c =
    let at = c.args.self.now in let u : FitsSigned w128 at.u = search rules in
    subst (FitsSigned w128) (sym (both_back w128 at.u at.u u u)) (height_fits at.u at.u_small)

low_small : (lo hi : ℤ) → pos 0 ≤ℤ lo → lo ≤ℤ hi → hi ≤ℤ pos 300000 → unsigned_abs lo ≤ 300000
low_small lo hi h k l = omega (arith, ints, abs_is lo, h, k, l)

pub squared-requires : goal.squared-requires
squared-requires c =
    let s = c.slab.inside in let h = c.slab.invariant in small_back w32 s.lo 300000 (omega arith) (low_small s.lo s.hi h.above_tip h.ordered h.height)
