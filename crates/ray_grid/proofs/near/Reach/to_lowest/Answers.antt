use Rattle.std.proofs.Common.{◌≡◌, arith, rules, ap₂, ◌∙◌, w32, FitsSigned}
use Rattle.std.specs.Int.{int_min}
use Rattle.std.proofs.lemmas.Int.{ints, to_z-of_z}
use Rattle.space.specs.Vectors.{at}
use Rattle.ray_grid.proofs.near.Reach.to_lowest.Goals as goal

pub overflow_sub-result-2 : goal.overflow_sub-result-2
overflow_sub-result-2 c = omega (arith, ints)

pub returns : goal.returns
returns c =
    let a : FitsSigned w32 (at c.args.self.now.from c.args.axis) = search rules in
    let b : FitsSigned w32 (at c.args.self.now.to c.args.axis) = search rules in
    let end : c.min-end.result ≡ int_min (at c.args.self.now.from c.args.axis) (at c.args.self.now.to c.args.axis) = c.min-end.ensures.value ∙ ap₂ int_min (to_z-of_z w32 _ a) (to_z-of_z w32 _ b) in
    omega (arith, ints)
