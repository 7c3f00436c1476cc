-- The rays of a strip, and a move of a plan on one of them.
use Rattle.std.proofs.Common.{◌≡◌, ℕ, ◌+◌, ◌-◌, ◌^◌, ◌<◌, ◌≤◌, true, false, List, Some, length, get_or, arith, sym, ap, ◌∙◌, subst, ⊎_elim}
use Rattle.std.specs.List.{slice_get}
use Rattle.std.proofs.lemmas.Bool.{cases_lt, false_from_ne_true}
use Rattle.std.proofs.lemmas.Option.{get_or_from_slice_get, slice_get-get_or, slice_get_cases, slice_get_within}
use Rattle.std.proofs.Math.Pow.{pow_mono}
use Rattle.cutter_marks.proofs.Decided.{sure_possible}
use Rattle.ray_grid.specs.Grids.{GridSize}
use Rattle.ray_grid.specs.declared.ray.Family.{Family}
use Rattle.ray_grid.specs.declared.ray.Family.TheVariants.{X, Y, Z}
use Rattle.ray_grid.specs.declared.ray.Ray.{Ray}
use Rattle.ray_grid.specs.Families.{first_axis, second_axis}
use Rattle.ray_grid.specs.Lattice.{IsRay, nodes_of}
use Rattle.ray_grid.specs.Points.{LatticePoint}
use Rattle.ray_grid.specs.Strips.{strip_at, strip_of, strips_of}
use Rattle.ray_grid.proofs.Rows.{length-strip, length-strips, only_place, ray_in, row_x, row_y, row_z, strip_there}
use Rattle.wanted_marks.specs.Rays.{MoveOf, RayOf}
use Rattle.wanted_marks.specs.Strips.{StripOf, ray_at}
use Rattle.job_model.specs.Points.{is_possible, is_sure}
use Rattle.job_model.specs.Tasks.{IsJobMove, IsPlan, JobMove, PlanOf}
use Rattle.strip_plan.specs.Plans.{HasNumber, move_in}
use Rattle.strip_plan.specs.Windows.{HoldsEntered, HoldsPossible, IsFrom}
use Rattle.strip_marks.specs.Marks.{point_at, points_at, possible_there, ray_of, sure_there}
use Rattle.strip_marks.specs.RayMarks.{IsWindow}
use Rattle.strip_marks.specs.RowMarks.{IsMarkerOf}

-- a strip is the rays of a family with a node i
record IsRow (grid : GridSize) (strip : ℕ) : Type 0 where
  family : Family
  i : ℕ
  first : i < nodes_of grid (first_axis family)
  rays : strip_at grid strip ≡ strip_of grid family i

row_of : (grid : GridSize) (strip : ℕ) → strip < length (strips_of grid) → IsRow grid strip
row_of grid strip lt =
    let all : length (strips_of grid) ≡ nodes_of grid 0 + nodes_of grid 1 + nodes_of grid 0 = length-strips grid in
    ⊎_elim
    (λ (z : strip < nodes_of grid 0). record { family = Z; i = strip; first = z; rays = row_z grid strip z })
    (λ (ge : nodes_of grid 0 ≤ strip).
    ⊎_elim
    (λ (x : strip < nodes_of grid 0 + nodes_of grid 1). record {
      family = X;
      i = strip - nodes_of grid 0;
      first = omega
          arith;
      rays = row_x grid strip ge x;
    })
    (λ (y : nodes_of grid 0 + nodes_of grid 1 ≤ strip).
    record { family = Y; i = strip - nodes_of grid 0 - nodes_of grid 1; first = omega arith; rays = row_y grid strip y lt })
    (cases_lt strip (nodes_of grid 0 + nodes_of grid 1)))
    (cases_lt strip (nodes_of grid 0))

-- ray n of it has the node n
pub ray_is : (grid : GridSize) (strip n : ℕ) (family : Family) (i : ℕ) → strip_at grid strip ≡ strip_of grid family i
    → n < length (strip_at grid strip)
    → ray_of grid strip n ≡ record { family = family; i = i; j = n }
ray_is grid strip n family i e lt =
    let size : length (strip_at grid strip) ≡ nodes_of grid (second_axis family) = ap length e ∙ length-strip grid family i in
    get_or_from_slice_get (strip_at grid strip) n (record { family = family; i = i; j = n }) (record { family = X; i = 0; j = 0 })
    (ap (λ (s : List Ray). slice_get s n) e ∙ ray_in grid family i n (omega arith))

pub nodes_enough : (grid : GridSize) (strip n : ℕ) (family : Family) (i : ℕ) → strip_at grid strip ≡ strip_of grid family i
    → n < length (strip_at grid strip)
    → n < nodes_of grid (second_axis family)
nodes_enough grid strip n family i e lt =
    let size : length (strip_at grid strip) ≡ nodes_of grid (second_axis family) = ap length e ∙ length-strip grid family i in omega arith

-- it is a ray of the grid
pub on_grid : (grid : GridSize) (strip n : ℕ) → strip < length (strips_of grid) → n < length (strip_at grid strip)
    → IsRay grid (ray_of grid strip n)
on_grid grid strip n lt within =
    let row = row_of grid strip lt in
    subst (λ (ray : Ray). IsRay grid ray) (sym (ray_is grid strip n row.family row.i row.rays within))
    (record { first = row.first; second = nodes_enough grid strip n row.family row.i row.rays within })

pub ray_there : (grid : GridSize) (strip n : ℕ) (ray : Ray) → slice_get (strip_at grid strip) n ≡ Some ray → ray_of grid strip n ≡ ray
ray_there grid strip n ray e = get_or_from_slice_get (strip_at grid strip) n ray (record { family = X; i = 0; j = 0 }) e

pub ray_stands : (grid : GridSize) (strip n : ℕ) → n < length (strip_at grid strip)
    → slice_get (strip_at grid strip) n ≡ Some (ray_of grid strip n)
ray_stands grid strip n lt = slice_get-get_or (strip_at grid strip) n (record { family = X; i = 0; j = 0 }) lt

-- the strip's rays are those of the family and the node of any of them
pub row_of_ray : (grid : GridSize) (strip n : ℕ) (ray : Ray) → IsRay grid ray → slice_get (strip_at grid strip) n ≡ Some ray
    → strip_at grid strip ≡ strip_of grid ray.family ray.i
row_of_ray grid strip n ray on there = ap (strip_at grid) (only_place grid ray strip n there).0 ∙ strip_there grid ray.family ray.i on.first

-- a plan has a move with each number below how many there are
pub some_move : (plan : PlanOf) (number : ℕ) → number < length plan.moves → (move : JobMove) × HasNumber plan number move
some_move plan number lt =
    ⊎_elim (λ (found : (x : JobMove) × (number < length plan.moves) × (slice_get plan.moves number ≡ Some x) ×
    (get_or plan.moves number x ≡ x)). (found.0, found.2))
    (λ past. absurd (omega (arith, past.0))) (slice_get_cases plan.moves number).1

-- a move that is sure of a point is possible there
pub both_there : (plan : PlanOf) (number : ℕ) (move : JobMove) (point : LatticePoint) → IsPlan plan → HasNumber plan number move
    → is_sure plan move point ≡ true
    → is_possible plan move point ≡ true
both_there plan number move point valid has sure =
    let lt = slice_get_within plan.moves number move has in
    let here : IsJobMove move = subst (λ (m : JobMove). IsJobMove m) (get_or_from_slice_get plan.moves number move move has)
    (valid.moves number move lt) in
    let cells : 0 < 2 ^ plan.depth = let least : 2 ^ 0 ≤ 2 ^ plan.depth = pow_mono {i = 0} {j = plan.depth} (omega arith) in least in
    sure_possible move.cutter plan.slabs move.sweep point.position (2 ^ plan.depth) here.cutter valid.some cells here.sweep sure

pub not_sure_there : (plan : PlanOf) (number : ℕ) (move : JobMove) (strip n l : ℕ) → IsPlan plan → HasNumber plan number move
    → possible_there plan move strip n l ≡ false → sure_there plan move strip n l ≡ false
not_sure_there plan number move strip n l valid has none =
    false_from_ne_true (sure_there plan move strip n l)
    (λ t. let met = both_there plan number move (point_at plan.grid strip n l) valid has t in cc)

-- the move on ray n of the strip
abbrev pub move_on : PlanOf → JobMove → ℕ → ℕ → RayOf
move_on plan move strip n = record { sweep = move_in plan move; grid = plan.grid; ray = ray_of plan.grid strip n }

-- what is ready for marks on ray n of the strip marks by that
pub marker_is : (plan : PlanOf) (number strip n : ℕ) (move : JobMove) (s : StripOf) → IsMarkerOf plan number strip s
    → HasNumber plan number move
    → n < length (strip_at plan.grid strip) → ray_at s n ≡ move_on plan move strip n
marker_is plan number strip n move s h has lt =
    let sweep = h.sweep move has in
    let grid = h.grid in
    let ray = sym (ray_is plan.grid strip n s.family s.i h.rays lt) in
    λ k. record { sweep = sweep k; grid = grid k; ray = ray k }

pub node_within : (plan : PlanOf) (number strip n : ℕ) (s : StripOf) → IsMarkerOf plan number strip s
    → n < length (strip_at plan.grid strip)
    → n < nodes_of s.grid (second_axis s.family)
node_within plan number strip n s h lt =
    subst (λ (g : GridSize). n < nodes_of g (second_axis s.family)) (sym h.grid) (nodes_enough plan.grid strip n s.family s.i h.rays lt)

-- outside its window on ray n the move is possible at no point
pub window_on : (plan : PlanOf) (number : ℕ) (move : JobMove) (strip n lo hi : ℕ) → IsPlan plan → HasNumber plan number move
    → strip < length (strips_of plan.grid) → n < length (strip_at plan.grid strip) → lo ≤ hi → hi ≤ points_at plan.grid strip n
    → HoldsPossible plan move (ray_of plan.grid strip n) lo hi
    → IsWindow (move_on plan move strip n) lo hi
window_on plan number move strip n lo hi valid has within lt order below holds = record {
  order = order;
  within = below;
  holds = λ l less t. holds l record { on_grid = on_grid plan.grid strip n within lt; index = less; possible = t };
  both = λ l t. both_there plan number move (point_at plan.grid strip n l) valid has t;
}

-- with an empty window, it is possible at none
pub nowhere_on : (plan : PlanOf) (number : ℕ) (move : JobMove) (strip n lo hi l : ℕ) → IsWindow (move_on plan move strip n) lo hi
    → hi ≤ lo → l < points_at plan.grid strip n
    → possible_there plan move strip n l ≡ false
nowhere_on plan number move strip n lo hi l w le lt =
    false_from_ne_true (possible_there plan move strip n l)
    (λ t. let inside : IsFrom lo hi l = w.holds l lt t in omega (arith, inside.0, inside.1))

-- on a ray beyond the strip's window it is possible at none
pub nowhere_beyond : (plan : PlanOf) (move : JobMove) (strip lo hi n l : ℕ) → strip < length (strips_of plan.grid)
    → HoldsEntered plan move strip lo hi
    → n < length (strip_at plan.grid strip) → ¬ IsFrom lo hi n → l < points_at plan.grid strip n
    → possible_there plan move strip n l ≡ false
nowhere_beyond plan move strip lo hi n l within holds lt out below =
    false_from_ne_true (possible_there plan move strip n l)
    (λ t. out (holds n (ray_of plan.grid strip n) l
    (ray_stands plan.grid strip n lt) record { on_grid = on_grid plan.grid strip n within lt; index = below; possible = t }))

-- what is made ready for the rays of the strip's first one marks by the move on the strip
pub marker_of : (plan : PlanOf) (number strip : ℕ) (s : StripOf) (sweep : MoveOf) (grid : GridSize) (first : Ray)
    → s ≡ record { sweep = sweep; grid = grid; family = first.family; i = first.i }
    → grid ≡ plan.grid → slice_get (strip_at grid strip) 0 ≡ Some first → IsRay grid first →
    ((move : JobMove) → HasNumber plan number move → sweep ≡ move_in plan move)
    → IsMarkerOf plan number strip s
marker_of plan number strip s sweep grid first e g there on by =
    let rays = row_of_ray plan.grid strip 0 first (subst (λ (x : GridSize). IsRay x first) g on)
    (subst (λ (x : GridSize). slice_get (strip_at x strip) 0 ≡ Some first) g there) in
    subst (λ (x : StripOf). IsMarkerOf plan number strip x) (sym e) (record { grid = g; rays = rays; sweep = by })
