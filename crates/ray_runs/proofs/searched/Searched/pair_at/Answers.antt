use Rattle.std.proofs.Common.{rules, ℤ, FitsSigned, subst}
use Rattle.std.proofs.lemmas.Int.{to_z-of_z}
use mir.Syntax.{w64}
use Rattle.ray_runs.specs.Missed.{AreBesideAt}
use Rattle.ray_runs.proofs.searched.Searched.pair_at.Goals as goal

pub returns : goal.returns
returns c =
    let x = c.args.self.now in let pair = c.of_poses.result in
    let fits : FitsSigned w64 x.square = search rules in record {
      stands = search rules;
      beside = λ yes. subst (λ (f : ℤ). AreBesideAt f pair.first_moment pair.last_moment pair.first.axis) (to_z-of_z w64 x.square fits) (c.of_poses.ensures.beside yes);
    }
