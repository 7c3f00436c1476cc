use Rattle.std.proofs.Common.{◌≡◌, ◌∙◌, ap, arith, rules, unsigned_abs, min, max, w64, FitsSigned}
use Rattle.std.proofs.lemmas.Int.{ints, to_z-of_z}
use Rattle.space.specs.Vectors.{at}
use Rattle.ray_grid.proofs.Distances.{indices_exact}
use Rattle.ray_grid.proofs.near.Reach.indices.Goals as goal

pub returns-clause-exact : goal.returns-clause-exact
returns-clause-exact c =
    let size : c.from-step.result ≡ unsigned_abs c.args.step = c.from-step.ensures ∙ c.unsigned_abs.ensures.value ∙ ap unsigned_abs (to_z-of_z _ _ c.ranges.step) in
    let first : c.min-first.result ≡ min c.steps_up_to.result c.args.count = c.min-first.ensures ∙ ap (min c.steps_up_to.result) c.from.ensures in
    let last : c.max.result ≡ max (min c.steps_within.result c.args.count) c.min-first.result =
    c.max.ensures ∙ ap (λ n. max n c.min-first.result) (c.min-end.ensures ∙ ap (min c.steps_within.result) c.from-2.ensures) in
    let fits_low : FitsSigned w64 c.to_lowest.result = search rules in
    let fits_high : FitsSigned w64 c.to_highest.result = search rules in
    λ l.
    indices_exact (at c.args.self.now.from c.args.axis) (at c.args.self.now.to c.args.axis) c.args.self.now.reach c.args.origin c.args.step c.to_lowest.result c.to_highest.result c.from-step.result c.args.count
    c.steps_up_to.result c.steps_within.result c.min-first.result c.max.result l c.requires.step size (omega (arith, ints)) (omega (arith, ints)) (simp to_z-of_z at (c.steps_up_to.ensures l)) (simp to_z-of_z at (c.steps_within.ensures l)) first last
