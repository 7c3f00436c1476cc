-- Where the points of one old ray lie on its new one.
use Rattle.std.proofs.Common.{◌≡◌, ℕ, ◌+◌, ◌-◌, ◌<◌, ◌≤◌, Bool, true, false, ◌&&◌, not, IsTrue, List, Some, None, arith, refl, sym, ap, ◌∙◌, subst, ⊎_elim}
use Rattle.std.specs.List.{find, list_any}
use Rattle.std.proofs.lemmas.Bool.{and_from, cases_lt, false_from_ne_true, true≢false}
use Rattle.vf_spans.specs.Members.{has}
use Rattle.ray_grid.specs.Families.{ray_axis}
use Rattle.ray_grid.specs.Grids.{GridSize}
use Rattle.ray_grid.specs.Lattice.{points_of}
use Rattle.ray_grid.specs.Points.{lattice_of, point_in, points_on}
use Rattle.ray_grid.specs.Ranges.{IsGrid}
use Rattle.ray_grid.specs.Turns.{is_negated, is_turn}
use Rattle.ray_grid.specs.declared.ray.Ray.{Ray}
use Rattle.ray_grid.specs.declared.turn.Turn.{Turn}
use Rattle.stock_file.specs.Saved.{Saved, set_of}
use Rattle.setup_turn.specs.Moved.{IsTurnedSet}
use Rattle.setup_turn.specs.Places.{HasPlace, IsNewLine, IsTurnedTo, room_of}
use Rattle.setup_turn.specs.Turned.{has_no_place, lies_outside, is_turned_to}
use Rattle.setup_turn.specs.declared.line.TurnedLine.{TurnedLine}
use Rattle.setup_turn.proofs.Along.{ahead, axis_low, backward, forward, one_new, paired, same_axis}
use Rattle.setup_turn.proofs.Firsts.{first_along, none_along}
use Rattle.setup_turn.proofs.Listing.{is_tested, point_passes, some_point, test_is}

-- index m of the new ray is d points on from index l, or before it on a reversed ray
abbrev pub IsOnFrom : Bool → ℕ → ℕ → ℕ → Type 0
IsOnFrom false l d m = m ≡ l + d
IsOnFrom true l d m = l ≡ m + d

-- a point that is d further than a turned one is turned to there
pub turned_on : (r : Bool) (turn : Turn) (a b : GridSize) (old new : Ray) (first l d m : ℕ) → IsTrue (is_turn turn) → a.step ≡ b.step
    → is_negated turn (ray_axis new.family) ≡ r → IsTurnedTo turn a b old first new l → IsOnFrom r l d m → IsTurnedTo turn a b old (first + d) new m
turned_on false turn a b old new first l d m test step sign is at =
    subst (λ k. IsTurnedTo turn a b old (first + d) new k) (sym at) (forward turn a b old new first l d (paired turn a b old new first l false test step is sign) is)
turned_on true turn a b old new first l d m test step sign is at =
    backward turn a b old new first m d (paired turn a b old new first l true test step is sign) (subst (λ k. IsTurnedTo turn a b old first new k) at is)

-- and nowhere else
pub record IsThere (r : Bool) (to : Ray) (l d : ℕ) (new : Ray) (m : ℕ) : Type 0 where
  pub ray : to ≡ new
  pub index : IsOnFrom r l d m

sign_of : (turn : Turn) (a b : GridSize) (old to new : Ray) (k l n m : ℕ) (r : Bool) → IsTrue (is_turn turn) → IsTurnedTo turn a b old k to l → IsTurnedTo turn a b old n new m
    → is_negated turn (ray_axis to.family) ≡ r → is_negated turn (ray_axis new.family) ≡ r
sign_of turn a b old to new k l n m r test p q sign =
    ap (is_negated turn) (same_axis turn (ray_axis new.family) (ray_axis to.family) test (axis_low new.family) (axis_low to.family) (q.family ∙ sym p.family)) ∙ sign

pub only_there : (r : Bool) (turn : Turn) (a b : GridSize) (old to new : Ray) (first l d m : ℕ) → IsTrue (is_turn turn) → a.step ≡ b.step → IsGrid b
    → is_negated turn (ray_axis to.family) ≡ r → IsTurnedTo turn a b old first to l → IsTurnedTo turn a b old (first + d) new m → IsThere r to l d new m
only_there false turn a b old to new first l d m test step valid sign p q =
    let one = one_new turn a b old (first + d) to new (l + d) m test valid (forward turn a b old to first l d (paired turn a b old to first l false test step p sign) p) q in
    record { ray = one.ray; index = sym one.index }
only_there true turn a b old to new first l d m test step valid sign p q =
    let sign' = sign_of turn a b old to new first l (first + d) m true test p q sign in
    let one = one_new turn a b old first to new l (m + d) test valid p (ahead turn a b old new first m d (paired turn a b old new (first + d) m true test step q sign') q) in
    record { ray = one.ray; index = one.index }

-- there is a point of the new ray as far as there is room
pub some_there : (r : Bool) (l d points : ℕ) → l < points → d < room_of r l points → (m : ℕ) × (m < points) × IsOnFrom r l d m
some_there false l d points low room = (l + d, omega arith, refl)
some_there true l d points low room = (l - d, omega arith, omega arith)

pub room_there : (r : Bool) (l d m points : ℕ) → m < points → IsOnFrom r l d m → d < room_of r l points
room_there false l d m points low at = omega arith
room_there true l d m points low at = omega arith

-- the set on the new ray has what the old one has
pub has_there : (r : Bool) (set moved : List Bool) (first l d m : ℕ) → IsTurnedSet r set first l moved → IsOnFrom r l d m → has moved m ≡ has set (first + d)
has_there false set moved first l d m is at = ap (has moved) at ∙ is.same d
has_there true set moved first l d m is at =
    ap (has moved) (let q : m ≡ l - d = omega arith in q) ∙ is.same d (omega arith)

pub from_there : (r : Bool) (set moved : List Bool) (first l m : ℕ) → IsTurnedSet r set first l moved → has moved m ≡ true → (d : ℕ) × IsOnFrom r l d m
from_there false set moved first l m is h =
    ⊎_elim (λ (low : m < l). absurd (true≢false (sym h ∙ is.below m low))) (λ (at : l ≤ m). (m - l, omega arith)) (cases_lt m l)
from_there true set moved first l m is h =
    ⊎_elim (λ (high : l < m). absurd (true≢false (sym h ∙ is.above m high))) (λ (at : m ≤ l). (l - m, omega arith)) (cases_lt l m)

-- what is known of the whole turn
pub record AreGiven (turn : Turn) (a b : GridSize) : Type 0 where
  pub turned : IsTrue (is_turn turn)
  pub step : a.step ≡ b.step
  pub old : IsGrid a
  pub new : IsGrid b

-- of a line: a point further on has a place as far as there is room, and none beyond
pub on_line : (turn : Turn) (a b : GridSize) (old : Ray) (first d : ℕ) (line : TurnedLine) → AreGiven turn a b → IsNewLine turn a b old first line
    → d < room_of line.reversed line.l (points_of b line.ray.family) → (m : ℕ) × HasPlace turn a b old (first + d) line.ray m
on_line turn a b old first d line given is room =
    let place = is.place in
    let found = some_there line.reversed line.l d (points_of b line.ray.family) place.low room in (
      found.0,
      record {
        on = place.on;
        low = found.1;
        turned = turned_on line.reversed turn a b old line.ray first line.l d found.0 given.turned given.step (sym is.reversed) place.turned found.2;
      },
    )

pub off_line : (turn : Turn) (a b : GridSize) (old : Ray) (first d : ℕ) (line : TurnedLine) → AreGiven turn a b → IsNewLine turn a b old first line
    → room_of line.reversed line.l (points_of b line.ray.family) ≤ d → (new : Ray) (m : ℕ) → HasPlace turn a b old (first + d) new m → ⊥
off_line turn a b old first d line given is past new m has_it =
    let place = is.place in
    let there = only_there line.reversed turn a b old line.ray new first line.l d m given.turned given.step given.new (sym is.reversed) place.turned has_it.turned in
    let low : m < points_of b line.ray.family = subst (λ (ray : Ray). m < points_of b ray.family) (sym there.ray) has_it.low in
    let room = room_there line.reversed line.l d m (points_of b line.ray.family) low there.index in
    omega (arith, room, past)

-- the tests of a point that has a place, and of one that has none
pub placed_test : (turn : Turn) (a b : GridSize) (old : Ray) (l : ℕ) (new : Ray) (m : ℕ) → IsTrue (is_turn turn) → HasPlace turn a b old l new m
    → has_no_place turn b (point_in a old l) ≡ false
placed_test turn a b old l new m test is =
    ap not (point_passes b (is_turned_to turn (point_in a old l)) new m (record { on = is.on; low = is.low; holds = is_tested turn a b old l new m test is.turned }))

pub unplaced_test : (turn : Turn) (a b : GridSize) (old : Ray) (l : ℕ) → IsTrue (is_turn turn) → ((new : Ray) (m : ℕ) → HasPlace turn a b old l new m → ⊥)
    → has_no_place turn b (point_in a old l) ≡ true
unplaced_test turn a b old l test none =
    ap not (false_from_ne_true (list_any (is_turned_to turn (point_in a old l)) (lattice_of b))
    (λ any. let found = some_point b (is_turned_to turn (point_in a old l)) any in
    let at = found.1.1 in
    none found.0 found.1.0 (record { on = at.on; low = at.low; turned = test_is turn a b old l found.0 found.1.0 test at.holds })))

no_both : (b c : Bool) → (b ≡ true → c ≡ false) → (b && c) ≡ false
no_both true c h = h refl
no_both false c h = refl

-- the points of a ray up to an index that have a place, or are not saved
pub record AreInside (turn : Turn) (saved : Saved) (grid : GridSize) (ray : Ray) (end : ℕ) : Type 0 where
  pub placed : (l : ℕ) → l < end → has (set_of saved ray) l ≡ true → (new : Ray) × ((m : ℕ) × HasPlace turn saved.grid grid ray l new m)

inside_test : (turn : Turn) (saved : Saved) (grid : GridSize) (ray : Ray) (end l : ℕ) → IsTrue (is_turn turn) → AreInside turn saved grid ray end → l < end
    → lies_outside turn saved grid (point_in saved.grid ray l) ≡ false
inside_test turn saved grid ray end l test inside low =
    no_both (has (set_of saved ray) l) (has_no_place turn grid (point_in saved.grid ray l))
    (λ h. let place = inside.placed l low h in placed_test turn saved.grid grid ray l place.0 place.1.0 test place.1.1)

pub none_outside : (turn : Turn) (saved : Saved) (grid : GridSize) (ray : Ray) → IsTrue (is_turn turn) → AreInside turn saved grid ray (points_of saved.grid ray.family)
    → find (lies_outside turn saved grid) (points_on saved.grid ray) ≡ None
none_outside turn saved grid ray test inside =
    none_along (lies_outside turn saved grid) (point_in saved.grid ray) 0 (points_of saved.grid ray.family)
    (λ l from before. inside_test turn saved grid ray (points_of saved.grid ray.family) l test inside (omega arith))

pub first_on_ray : (turn : Turn) (saved : Saved) (grid : GridSize) (ray : Ray) (l : ℕ) → IsTrue (is_turn turn) → l < points_of saved.grid ray.family → AreInside turn saved grid ray l
    → has (set_of saved ray) l ≡ true → ((new : Ray) (m : ℕ) → HasPlace turn saved.grid grid ray l new m → ⊥)
    → find (lies_outside turn saved grid) (points_on saved.grid ray) ≡ Some (point_in saved.grid ray l)
first_on_ray turn saved grid ray l test low inside h none =
    first_along (lies_outside turn saved grid) (point_in saved.grid ray) 0 (points_of saved.grid ray.family) l (omega arith) (omega arith)
    (λ k from before. inside_test turn saved grid ray l k test inside before)
    (and_from (has (set_of saved ray) l) (has_no_place turn grid (point_in saved.grid ray l)) h (unplaced_test turn saved.grid grid ray l test none))
