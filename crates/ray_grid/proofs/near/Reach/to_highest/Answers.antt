use Rattle.std.proofs.Common.{◌≡◌, arith, rules, ap₂, ◌∙◌, w32, FitsSigned}
use Rattle.std.specs.Int.{int_max}
use Rattle.std.proofs.lemmas.Int.{ints, to_z-of_z}
use Rattle.space.specs.Vectors.{at}
use Rattle.ray_grid.proofs.near.Reach.to_highest.Goals as goal

pub overflow_sub-result : goal.overflow_sub-result
overflow_sub-result c = omega (arith, ints)

pub returns : goal.returns
returns c =
    let a : FitsSigned w32 (at c.args.self.now.from c.args.axis) = search rules in
    let b : FitsSigned w32 (at c.args.self.now.to c.args.axis) = search rules in
    let end : c.max-end.result ≡ int_max (at c.args.self.now.from c.args.axis) (at c.args.self.now.to c.args.axis) = c.max-end.ensures.value ∙ ap₂ int_max (to_z-of_z w32 _ a) (to_z-of_z w32 _ b) in
    omega (arith, ints)
