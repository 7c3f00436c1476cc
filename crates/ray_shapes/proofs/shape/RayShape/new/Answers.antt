use Rattle.std.proofs.Common.{refl, subst, sym}
use Rattle.std.specs.Fn.{FnReturnsAt}
use Rattle.ray_shapes.specs.declared.solid.Solid.{Solid}
use Rattle.ray_shapes.specs.Sets.{Gives}
use Rattle.ray_shapes.proofs.shape.RayShape.new.Goals as goal

pub returns-clause-gives : goal.returns-clause-gives
returns-clause-gives g c = record {
  kept_for = refl;
  callable = λ ray on. c.requires.callable ray on;
  gives = subst (λ (solid : Solid). Gives (FnReturnsAt g.F.Fn c.args.source) c.args.grid solid) (sym c.of.ensures) c.requires.gives;
}

pub returns-clause-own : goal.returns-clause-own
returns-clause-own g c = returns-clause-gives g c
