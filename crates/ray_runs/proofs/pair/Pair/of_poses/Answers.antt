use Rattle.std.proofs.Common.{ℤ, subst}
use Rattle.std.proofs.lemmas.Int.{to_z-of_z}
use mir.Syntax.{w64}
use Rattle.ray_runs.specs.Missed.{AreBesideAt}
use Rattle.moment_forms.proofs.Fits.{turn_within}
use Rattle.ray_runs.proofs.pair.Pair.of_poses.Goals as goal

pub invariant_of-result : goal.invariant_of-result
invariant_of-result c = record {
  first_is = c.moment-first_moment.ensures.value;
  last_is = c.moment-last_moment.ensures.value;
  first_small = turn_within c.moment-first_moment.result c.moment-first_moment.ensures.small;
  last_small = turn_within c.moment-last_moment.result c.moment-last_moment.ensures.small;
  behind = c.are_behind_at-is_behind.ensures;
}

pub returns-clause-beside : goal.returns-clause-beside
returns-clause-beside c = λ yes.
    subst (λ (f : ℤ). AreBesideAt f c.moment-first_moment.result c.moment-last_moment.result c.args.first.axis) (to_z-of_z w64 c.args.square c.ranges.square) (c.are_beside_at-is_beside.ensures yes)
