-- A saved stock that is turned: which points of a new grid are in it, and which saved points have no place there.
use Rattle.std.specs.Prelude.{◌≡◌, nat_eq, ◌&&◌, not, Bool, ℤ, List, Option, Some}
use Rattle.std.specs.List.{find, list_any}
use Rattle.std.specs.Ordering.{int_eq}
use Rattle.space.specs.Vectors.{at}
use Rattle.vf_spans.specs.Members.{has}
use Rattle.ray_grid.specs.Families.{ray_axis}
use Rattle.ray_grid.specs.Grids.{GridSize}
use Rattle.ray_grid.specs.Points.{LatticePoint, lattice_of, point_in}
use Rattle.ray_grid.specs.Turns.{back, old_axis}
use Rattle.ray_grid.specs.declared.ray.Family.{Family}
use Rattle.ray_grid.specs.declared.turn.Turn.{Turn}
use Rattle.stock_file.specs.Saved.{Saved, set_of}
use Rattle.setup_turn.specs.declared.turn.TurnEnd.{TurnEnd}
use Rattle.setup_turn.specs.declared.turn.TurnEnd.TheVariants.{NoMemory, Outside}

-- the two places are one
abbrev pub is_same_place : List ℤ → List ℤ → Bool
is_same_place p q = int_eq (at p 0) (at q 0) && (int_eq (at p 1) (at q 1) && int_eq (at p 2) (at q 2))

-- the new family runs along the axis on which the axis of the old one lies after the turn
abbrev pub is_turned_family : Turn → Family → Family → Bool
is_turned_family turn old new = nat_eq (old_axis turn (ray_axis new)) (ray_axis old)

-- the new point is the old one, turned: on a ray of the family into which that of the old ray is turned, and where the old point lies then
abbrev pub is_turned_to : Turn → LatticePoint → LatticePoint → Bool
is_turned_to turn old new =
    is_turned_family turn old.ray.family new.ray.family && is_same_place (back turn new.position) old.position

-- the point is one of the saved stock
abbrev pub is_saved : Saved → LatticePoint → Bool
is_saved saved point = has (set_of saved point.ray) point.l

-- a point of a new grid is in the turned stock where it is some saved point, turned
abbrev pub in_turned : Turn → Saved → LatticePoint → Bool
in_turned turn saved new = list_any (λ old. is_saved saved old && is_turned_to turn old new) (lattice_of saved.grid)

-- no point of the new grid is this old one, turned
abbrev pub has_no_place : Turn → GridSize → LatticePoint → Bool
has_no_place turn grid old = not (list_any (is_turned_to turn old) (lattice_of grid))

-- the first saved point that has no place in the new grid, in the order of strips, rays and indices
abbrev pub lies_outside : Turn → Saved → GridSize → LatticePoint → Bool
lies_outside turn saved grid old = is_saved saved old && has_no_place turn grid old

abbrev pub first_outside : Turn → Saved → GridSize → Option LatticePoint
first_outside turn saved grid = find (lies_outside turn saved grid) (lattice_of saved.grid)

-- an end without a stock is due: it tells that point, or is out of memory
abbrev pub EndsTurn : GridSize → Option LatticePoint → TurnEnd → Type 0
EndsTurn grid first (Outside ray l) = first ≡ Some (point_in grid ray l)
EndsTurn grid first NoMemory = Unit {0}
