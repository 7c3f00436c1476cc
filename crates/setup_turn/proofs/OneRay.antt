-- One ray of the saved stock while it is turned.
use Rattle.std.proofs.Common.{◌≡◌, ℕ, ◌+◌, ◌<◌, ◌≤◌, Bool, true, false, IsTrue, ℤ, List, length, Some, None, arith, sym, ap, ◌∙◌, subst, ⊎_elim}
use Rattle.std.proofs.lemmas.Bool.{cases_lt, true≢false}
use Rattle.std.proofs.lemmas.List.{get_or_past}
use Rattle.std.proofs.Math.Nat.{mul-le-mul}
use Rattle.vf_spans.specs.Members.{has, ranges_of}
use Rattle.ray_grid.specs.Families.{ray_axis}
use Rattle.ray_grid.specs.Grids.{GridSize}
use Rattle.ray_grid.specs.Lattice.{IsRay, nodes_of, point_of, points_of}
use Rattle.ray_grid.specs.Points.{point_in}
use Rattle.ray_grid.specs.Ranges.{IsGrid}
use Rattle.ray_grid.specs.Strips.{ray_number}
use Rattle.ray_grid.specs.Turns.{forth, is_negated, is_turn, old_axis}
use Rattle.ray_grid.specs.declared.ray.Family.{Family}
use Rattle.ray_grid.specs.declared.ray.Family.TheVariants.{X, Y, Z}
use Rattle.ray_grid.specs.declared.ray.Ray.{Ray}
use Rattle.ray_grid.specs.declared.turn.Turn.{Turn}
use Rattle.ray_shapes.specs.Sets.{AreSetsOver}
use Rattle.stock_file.specs.Saved.{Saved, saved_with, set_of}
use Rattle.setup_turn.specs.Moved.{IsFirstFrom, IsTurnedSet, LiesWithin}
use Rattle.setup_turn.specs.Places.{HasPlace, IsFound, IsNewLine, IsPointAt, room_of}
use Rattle.setup_turn.specs.Turned.{first_outside}
use Rattle.setup_turn.specs.Walk.{IsTurnedUpTo}
use Rattle.setup_turn.specs.declared.line.TurnedLine.{TurnedLine}
use Rattle.setup_turn.proofs.Along.{axis_low, same_axis, same_family}
use Rattle.setup_turn.proofs.Moving.{lowest, no_ranges}
use Rattle.setup_turn.proofs.NextRay.{empty_more, leaves, line_more, no_line}
use Rattle.setup_turn.proofs.Places.{AreGiven}
use Rattle.setup_turn.proofs.RangeOrder.{IsRangeOf}

-- the point that was found is that of the turned place, and with none found there is no place
pub no_place_found : (turn : Turn) (a b : GridSize) (old : Ray) (first : ℕ) (f : Family) (place : List ℤ) → IsTrue (is_turn turn) → old_axis turn (ray_axis f) ≡ ray_axis old.family
    → place ≡ forth turn (point_of a old first) → IsFound b f place None → (new : Ray) (m : ℕ) → HasPlace turn a b old first new m → ⊥
no_place_found turn a b old first f place test family place_is none new m is =
    none new m (record {
      on = is.on;
      low = is.low;
      along = same_family new.family f (same_axis turn (ray_axis new.family) (ray_axis f) test (axis_low new.family) (axis_low f) (is.turned.family ∙ sym family));
      there = sym is.turned.place ∙ sym place_is;
    })

pub line_found : (turn : Turn) (a b : GridSize) (old new : Ray) (first l n : ℕ) (f : Family) (place : List ℤ) → old_axis turn (ray_axis f) ≡ ray_axis old.family
    → place ≡ forth turn (point_of a old first) → IsPointAt b f place new l → n ≡ ray_axis f
    → IsNewLine turn a b old first (record { ray = new; l = l; reversed = is_negated turn n })
line_found turn a b old new first l n f place family place_is is axis = record {
  place = record {
    on = is.on;
    low = is.low;
    turned = record { family = ap (λ (h : Family). old_axis turn (ray_axis h)) is.along ∙ family; place = sym place_is ∙ sym is.there };
  };
  reversed = ap (is_negated turn) (axis ∙ ap ray_axis (sym is.along));
}

-- a ray has few points
most_of : (g : GridSize) (f : Family) → IsGrid g → nodes_of g (ray_axis f) ≤ 400
most_of g X is = is.x.most
most_of g Y is = is.y.most
most_of g Z is = is.z.most

pub few_points : (g : GridSize) (f : Family) → IsGrid g → points_of g f ≤ 400000
few_points g f is = let nodes = most_of g f is in mul-le-mul nodes is.fine

-- what is known of a ray with points, and of its first range
pub record IsWalked (turn : Turn) (saved : Saved) (grid : GridSize) (ray : Ray) (stock : Saved) (set : List Bool) (r : ℕ × ℕ) : Type 0 where
  pub given : AreGiven turn saved.grid grid
  pub over : AreSetsOver saved.grid saved.sets
  pub on : IsRay saved.grid ray
  pub before : IsTurnedUpTo turn saved grid (ray_number saved.grid ray) stock
  pub set_is : set ≡ set_of saved ray
  pub range : IsRangeOf set 0 r
  pub some : r.0 < r.1
  pub within : r.1 ≤ length set

pub size_of : (turn : Turn) (saved : Saved) (grid : GridSize) (ray : Ray) (stock : Saved) (set : List Bool) (r : ℕ × ℕ) → IsWalked turn saved grid ray stock set r
    → length set ≡ points_of saved.grid ray.family
size_of turn saved grid ray stock set r is = ap (λ (flags : List Bool). length flags) is.set_is ∙ is.over.bounds ray is.on

pub first_low : (turn : Turn) (saved : Saved) (grid : GridSize) (ray : Ray) (stock : Saved) (set : List Bool) (r : ℕ × ℕ) → IsWalked turn saved grid ray stock set r
    → r.0 < points_of saved.grid ray.family
first_low turn saved grid ray stock set r is =
    let size = size_of turn saved grid ray stock set r is in let some = is.some in let within = is.within in omega arith

pub few_set : (turn : Turn) (saved : Saved) (grid : GridSize) (ray : Ray) (stock : Saved) (set : List Bool) (r : ℕ × ℕ) → IsWalked turn saved grid ray stock set r
    → length set ≤ 400000
few_set turn saved grid ray stock set r is =
    let size = size_of turn saved grid ray stock set r is in let few = few_points saved.grid ray.family is.given.old in omega arith

saved_at : (saved : Saved) (ray : Ray) (set : List Bool) (l : ℕ) (b : Bool) → set ≡ set_of saved ray → has set l ≡ b → has (set_of saved ray) l ≡ b
saved_at saved ray set l b is h = ap (λ (flags : List Bool). has flags l) (sym is) ∙ h

in_set : (saved : Saved) (ray : Ray) (set : List Bool) (l : ℕ) (b : Bool) → set ≡ set_of saved ray → has (set_of saved ray) l ≡ b → has set l ≡ b
in_set saved ray set l b is h = ap (λ (flags : List Bool). has flags l) is ∙ h

from_first : (turn : Turn) (saved : Saved) (grid : GridSize) (ray : Ray) (stock : Saved) (set : List Bool) (r : ℕ × ℕ) → IsWalked turn saved grid ray stock set r
    → (l : ℕ) → has (set_of saved ray) l ≡ true → r.0 ≤ l
from_first turn saved grid ray stock set r is l h = lowest set r is.range is.some l (in_set saved ray set l true is.set_is h)

-- a ray with no range
pub none_more_there : (turn : Turn) (saved : Saved) (grid : GridSize) (ray : Ray) (stock : Saved) (set : List Bool) → AreGiven turn saved.grid grid → AreSetsOver saved.grid saved.sets
    → IsRay saved.grid ray → set ≡ set_of saved ray → length (ranges_of set) ≡ 0 → IsTurnedUpTo turn saved grid (ray_number saved.grid ray) stock
    → IsTurnedUpTo turn saved grid (ray_number saved.grid ray + 1) stock
none_more_there turn saved grid ray stock set given over on is none before =
    empty_more turn saved grid ray stock given over on (λ l. saved_at saved ray set l false is (no_ranges set none l)) before

-- a ray whose first point has no place
pub first_is_outside : (turn : Turn) (saved : Saved) (grid old : GridSize) (ray : Ray) (stock : Saved) (set : List Bool) (r : ℕ × ℕ) → IsWalked turn saved grid ray stock set r → old ≡ saved.grid
    → ((new : Ray) (m : ℕ) → HasPlace turn old grid ray r.0 new m → ⊥) → first_outside turn saved grid ≡ Some (point_in saved.grid ray r.0)
first_is_outside turn saved grid old ray stock set r is same none =
    no_line turn saved grid ray r.0 stock is.given is.on (first_low turn saved grid ray stock set r is)
    (saved_at saved ray set r.0 true is.set_is (is.range.inside r.0 (omega arith) is.some))
    (from_first turn saved grid ray stock set r is)
    (λ new m place. none new m (subst (λ (g : GridSize). HasPlace turn g grid ray r.0 new m) (sym same) place))
    is.before

-- the end of the places on the new ray
room_same : (line : TurnedLine) (first points k : ℕ) (n : ℕ) → k ≡ room_of line.reversed line.l points → points ≡ n → first + k ≡ first + room_of line.reversed line.l n
room_same line first points k n is same = ap (λ j. first + j) (is ∙ ap (room_of line.reversed line.l) same)

-- a ray that leaves the new grid
pub leaves_at : (turn : Turn) (saved : Saved) (grid old : GridSize) (ray : Ray) (stock : Saved) (set : List Bool) (r : ℕ × ℕ) (line : TurnedLine) (points k l : ℕ)
    → IsWalked turn saved grid ray stock set r → old ≡ saved.grid → IsNewLine turn old grid ray r.0 line → points ≡ points_of grid line.ray.family
    → k ≡ room_of line.reversed line.l points → IsFirstFrom set (r.0 + k) (Some l) → first_outside turn saved grid ≡ Some (point_in saved.grid ray l)
leaves_at turn saved grid old ray stock set r line points k l is same line_is size room first =
    let end = room_same line r.0 points k (points_of grid line.ray.family) room size in
    let count = size_of turn saved grid ray stock set r is in
    leaves turn saved grid ray r.0 l line stock is.given is.on
    (⊎_elim (λ (low : l < length set). omega arith)
    (λ (past : length set ≤ l). absurd (true≢false (sym first.1 ∙ get_or_past set l false past)))
    (cases_lt l (length set)))
    (subst (λ (g : GridSize). IsNewLine turn g grid ray r.0 line) same line_is)
    (from_first turn saved grid ray stock set r is)
    (let past = first.0 in omega arith)
    (saved_at saved ray set l true is.set_is first.1)
    (λ i from before. saved_at saved ray set i false is.set_is (first.2 i (omega arith) before))
    is.before

-- a ray that stays in it
pub stays_within : (turn : Turn) (saved : Saved) (grid : GridSize) (ray : Ray) (stock : Saved) (set : List Bool) (r : ℕ × ℕ) (line : TurnedLine) (points k : ℕ)
    → IsWalked turn saved grid ray stock set r → k ≡ room_of line.reversed line.l points → IsFirstFrom set (r.0 + k) None
    → LiesWithin set r.0 (r.0 + room_of line.reversed line.l points)
stays_within turn saved grid ray stock set r line points k is room none = record {
  from = λ l h. lowest set r is.range is.some l h;
  before = λ l h.
      ⊎_elim (λ (near : l < r.0 + room_of line.reversed line.l points). near)
      (λ (far : r.0 + room_of line.reversed line.l points ≤ l). absurd (true≢false (sym h ∙ none l (omega arith))))
      (cases_lt l (r.0 + room_of line.reversed line.l points));
}

pub turned_more : (turn : Turn) (saved : Saved) (grid old : GridSize) (ray : Ray) (stock new : Saved) (set moved : List Bool) (r : ℕ × ℕ) (line : TurnedLine) (points k : ℕ)
    → IsWalked turn saved grid ray stock set r → old ≡ saved.grid → IsNewLine turn old grid ray r.0 line → points ≡ points_of grid line.ray.family
    → k ≡ room_of line.reversed line.l points → IsFirstFrom set (r.0 + k) None → length moved ≡ points → IsTurnedSet line.reversed set r.0 line.l moved
    → new ≡ saved_with stock line.ray moved → IsTurnedUpTo turn saved grid (ray_number saved.grid ray + 1) new
turned_more turn saved grid old ray stock new set moved r line points k is same line_is size room none bound turned put =
    let lies = stays_within turn saved grid ray stock set r line points k is room none in
    subst (λ (s : Saved). IsTurnedUpTo turn saved grid (ray_number saved.grid ray + 1) s) (sym put)
    (line_more turn saved grid ray r.0 line moved stock is.given is.over
    (record {
      on = is.on;
      line_is = subst (λ (g : GridSize). IsNewLine turn g grid ray r.0 line) same line_is;
      within = subst (λ (n : ℕ). LiesWithin (set_of saved ray) r.0 (r.0 + room_of line.reversed line.l n)) size
          (subst (λ (flags : List Bool). LiesWithin flags r.0 (r.0 + room_of line.reversed line.l points)) is.set_is lies);
      bound = bound ∙ size;
      moved_is = subst (λ (flags : List Bool). IsTurnedSet line.reversed flags r.0 line.l moved) is.set_is turned;
    })
    is.before)
