-- The planes of the bodies of a setup are in their ranges.
use Rattle.std.proofs.Common.{◌≡◌, List, subst, sym}
use Rattle.std.specs.List.{All}
use Rattle.ray_shapes.specs.declared.plane.Plane.{Plane}
use Rattle.setup_file.specs.Sound.{IsBody, IsPlane}

pub planes_in : (bodies given : List (List Plane)) → given ≡ bodies → All IsBody bodies → All (All IsPlane) given
planes_in bodies given same bodies_in = subst (λ (all : List (List Plane)). All (All IsPlane) all) (sym same) (λ k other within. (bodies_in k other within).planes)
