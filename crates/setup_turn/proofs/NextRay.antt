-- What one ray more of the saved stock adds to the turned one.
use Rattle.std.proofs.Common.{◌≡◌, ℕ, ◌+◌, ◌-◌, ◌<◌, ◌≤◌, ◌↔◌, Bool, true, false, List, [], length, get_or, take, Some, None, arith, refl, sym, ap, ◌∙◌, subst, ⊎_elim, get_or-set_same, get_or-set_other}
use Rattle.std.specs.List.{find, flat_map, sum_by}
use Rattle.std.proofs.lemmas.Bool.{cases_eq, cases_lt, true≢false}
use Rattle.std.proofs.lemmas.List.{take_more, get_or_past}
use Rattle.std.proofs.lemmas.List.Sums.{sum_by-set, sum_by_push}
use Rattle.vf_spans.specs.Members.{count_of, has}
use Rattle.ray_grid.specs.Grids.{GridSize}
use Rattle.ray_grid.specs.Lattice.{IsRay, points_of}
use Rattle.ray_grid.specs.Points.{LatticePoint, point_in, points_on, rays_of}
use Rattle.ray_grid.specs.Strips.{ray_number}
use Rattle.ray_grid.specs.declared.ray.Ray.{Ray}
use Rattle.ray_grid.specs.declared.turn.Turn.{Turn}
use Rattle.ray_shapes.specs.Sets.{AreSetsOver}
use Rattle.stock_file.specs.Rays.{IsRayAt}
use Rattle.stock_file.specs.Saved.{Saved, saved_with, set_of, with_set}
use Rattle.stock_file.proofs.RayOrder.{number_low, ray_at, same_number}
use Rattle.stock_file.proofs.SetLemmas.{with_set_over}
use Rattle.setup_turn.specs.Moved.{IsTurnedSet, LiesWithin}
use Rattle.setup_turn.specs.Places.{HasPlace, IsNewLine, IsTurnedTo, room_of}
use Rattle.setup_turn.specs.Turned.{EndsTurn, first_outside, lies_outside}
use Rattle.setup_turn.specs.Walk.{IsSavedPoint, IsTurnedUpTo}
use Rattle.setup_turn.specs.declared.line.TurnedLine.{TurnedLine}
use Rattle.setup_turn.specs.declared.turn.TurnEnd.TheVariants.{Outside}
use Rattle.setup_turn.proofs.Along.{never_shared}
use Rattle.setup_turn.proofs.Counting.{count_none, count_turned}
use Rattle.setup_turn.proofs.Firsts.{found_in, none_more}
use Rattle.setup_turn.proofs.Places.{AreGiven, AreInside, first_on_ray, from_there, has_there, none_outside, off_line, on_line, only_there, turned_on}

-- the points of the rays before a number, in order
abbrev points_before : GridSize → ℕ → List LatticePoint
points_before g n = flat_map (points_on g) (take n (rays_of g))

at_it : (g : GridSize) (ray : Ray) → IsRay g ray → IsRayAt g (ray_number g ray) ray
at_it g ray on = record { on = on; same = refl }

-- a ray with no point outside, and one with a first
inside_more : (turn : Turn) (saved : Saved) (grid : GridSize) (ray : Ray) → IsRay saved.grid ray
    → find (lies_outside turn saved grid) (points_before saved.grid (ray_number saved.grid ray)) ≡ None
    → find (lies_outside turn saved grid) (points_on saved.grid ray) ≡ None
    → find (lies_outside turn saved grid) (points_before saved.grid (ray_number saved.grid ray + 1)) ≡ None
inside_more turn saved grid ray on before here =
    let g = saved.grid in
    none_more (lies_outside turn saved grid) (points_on g) (rays_of g) (ray_number g ray) ray (number_low g ray on) before
    (ap (λ (r : Ray). find (lies_outside turn saved grid) (points_on g r)) (ray_at g (ray_number g ray) ray ray (at_it g ray on)) ∙ here)

outside_at : (turn : Turn) (saved : Saved) (grid : GridSize) (ray : Ray) (l : ℕ) → IsRay saved.grid ray
    → find (lies_outside turn saved grid) (points_before saved.grid (ray_number saved.grid ray)) ≡ None
    → find (lies_outside turn saved grid) (points_on saved.grid ray) ≡ Some (point_in saved.grid ray l)
    → first_outside turn saved grid ≡ Some (point_in saved.grid ray l)
outside_at turn saved grid ray l on before here =
    let g = saved.grid in
    found_in (lies_outside turn saved grid) (points_on g) (rays_of g) (ray_number g ray) ray (point_in g ray l) (number_low g ray on) before
    (ap (λ (r : Ray). find (lies_outside turn saved grid) (points_on g r)) (ray_at g (ray_number g ray) ray ray (at_it g ray on)) ∙ here)

-- saved points of the rays up to one that is no ray's
wider : (turn : Turn) (saved : Saved) (grid : GridSize) (n : ℕ) (new : Ray) (m : ℕ) → IsSavedPoint turn saved grid n new m → IsSavedPoint turn saved grid (n + 1) new m
wider turn saved grid n new m is = record {
  ray = is.ray;
  l = is.l;
  on = is.on;
  before = let low = is.before in omega arith;
  is_saved = is.is_saved;
  turned = is.turned;
}

-- a saved point of the rays up to this one is one of those before it, or of this one
narrower : (turn : Turn) (saved : Saved) (grid : GridSize) (ray new : Ray) (m : ℕ) → IsRay saved.grid ray
    → IsSavedPoint turn saved grid (ray_number saved.grid ray + 1) new m
    → ((l : ℕ) → has (set_of saved ray) l ≡ true → IsTurnedTo turn saved.grid grid ray l new m → ⊥)
    → IsSavedPoint turn saved grid (ray_number saved.grid ray) new m
narrower turn saved grid ray new m on is not_here =
    ⊎_elim
    (λ (less : ray_number saved.grid is.ray < ray_number saved.grid ray).
    record { ray = is.ray; l = is.l; on = is.on; before = less; is_saved = is.is_saved; turned = is.turned })
    (λ (more : ray_number saved.grid ray ≤ ray_number saved.grid is.ray).
    let low = is.before in
    let same : is.ray ≡ ray = same_number saved.grid is.ray ray is.on on (omega arith) in
    absurd (not_here is.l (subst (λ (r : Ray). has (set_of saved r) is.l ≡ true) same is.is_saved)
    (subst (λ (r : Ray). IsTurnedTo turn saved.grid grid r is.l new m) same is.turned)))
    (cases_lt (ray_number saved.grid is.ray) (ray_number saved.grid ray))

-- how many points the rays up to this one have
sum_more : (saved : Saved) (ray : Ray) → IsRay saved.grid ray → AreSetsOver saved.grid saved.sets
    → sum_by count_of (take (ray_number saved.grid ray + 1) saved.sets) ≡ sum_by count_of (take (ray_number saved.grid ray) saved.sets) + count_of (set_of saved ray)
sum_more saved ray on over =
    let n = ray_number saved.grid ray in
    ap (sum_by count_of) (take_more saved.sets n [] (let low = number_low saved.grid ray on in let many = over.many in omega arith))
    ∙ sum_by_push count_of (take n saved.sets) (get_or saved.sets n [])

-- a ray without points
pub empty_more : (turn : Turn) (saved : Saved) (grid : GridSize) (ray : Ray) (stock : Saved) → AreGiven turn saved.grid grid → AreSetsOver saved.grid saved.sets → IsRay saved.grid ray
    → ((l : ℕ) → has (set_of saved ray) l ≡ false) → IsTurnedUpTo turn saved grid (ray_number saved.grid ray) stock
    → IsTurnedUpTo turn saved grid (ray_number saved.grid ray + 1) stock
empty_more turn saved grid ray stock given over on none before = record {
  same_grid = before.same_grid;
  over = before.over;
  inside = inside_more turn saved grid ray on before.inside
      (none_outside turn saved grid ray given.turned (record { placed = λ l low h. absurd (true≢false (sym h ∙ none l)) }));
  points = λ new m on_new low. (
    λ h. wider turn saved grid (ray_number saved.grid ray) new m ((before.points new m on_new low).0 h),
    λ is. (before.points new m on_new low).1 (narrower turn saved grid ray new m on is (λ l h turned. true≢false (sym h ∙ none l))),
  );
  many = let more = sum_more saved ray on over in let all = before.many in let no = count_none (set_of saved ray) none in omega arith;
}

-- the set that is put, and the others
pub number_kept : (stock : Saved) (grid : GridSize) (ray : Ray) → stock.grid ≡ grid → ray_number stock.grid ray ≡ ray_number grid ray
number_kept stock grid ray same = ap (λ (g : GridSize). ray_number g ray) same

set_there : (stock : Saved) (grid : GridSize) (to : Ray) (moved : List Bool) → stock.grid ≡ grid → AreSetsOver grid stock.sets → IsRay grid to
    → set_of (saved_with stock to moved) to ≡ moved
set_there stock grid to moved same over on =
    get_or-set_same stock.sets (ray_number stock.grid to) moved []
    (let low = number_low grid to on in let many = over.many in let kept = number_kept stock grid to same in omega arith)

set_elsewhere : (stock : Saved) (grid : GridSize) (to new : Ray) (moved : List Bool) → stock.grid ≡ grid → (ray_number grid new ≡ ray_number grid to → ⊥)
    → set_of (saved_with stock to moved) new ≡ set_of stock new
set_elsewhere stock grid to new moved same differs =
    get_or-set_other stock.sets (ray_number stock.grid to) (ray_number stock.grid new) moved []
    (λ e. differs (sym (number_kept stock grid new same) ∙ e ∙ number_kept stock grid to same))

-- one old ray with points: its new ray, and its set there
pub record IsRayTurned (turn : Turn) (saved : Saved) (grid : GridSize) (ray : Ray) (first : ℕ) (line : TurnedLine) (moved : List Bool) : Type 0 where
  pub on : IsRay saved.grid ray
  pub line_is : IsNewLine turn saved.grid grid ray first line
  pub within : LiesWithin (set_of saved ray) first (first + room_of line.reversed line.l (points_of grid line.ray.family))
  pub bound : length moved ≡ points_of grid line.ray.family
  pub moved_is : IsTurnedSet line.reversed (set_of saved ray) first line.l moved

-- where a saved point of the ray is turned to
goes_there : (turn : Turn) (saved : Saved) (grid : GridSize) (ray : Ray) (first : ℕ) (line : TurnedLine) (moved : List Bool) (l : ℕ) (new : Ray) (m : ℕ) → AreGiven turn saved.grid grid
    → IsRayTurned turn saved grid ray first line moved → has (set_of saved ray) l ≡ true → IsTurnedTo turn saved.grid grid ray l new m
    → (line.ray ≡ new) × (has moved m ≡ true)
goes_there turn saved grid ray first line moved l new m given is h turned =
    let from = is.within.from l h in
    let place = is.line_is.place in
    let d = l - first in
    let there = only_there line.reversed turn saved.grid grid ray line.ray new first line.l d m given.turned given.step given.new (sym is.line_is.reversed) place.turned
    (subst (λ k. IsTurnedTo turn saved.grid grid ray k new m) (let q : l ≡ first + (l - first) = omega arith in q) turned) in (
      there.ray,
      has_there line.reversed (set_of saved ray) moved first line.l d m is.moved_is there.index
          ∙ ap (has (set_of saved ray)) (let q : first + (l - first) ≡ l = omega arith in q) ∙ h,
    )

comes_from : (turn : Turn) (saved : Saved) (grid : GridSize) (ray : Ray) (first : ℕ) (line : TurnedLine) (moved : List Bool) (m : ℕ) → AreGiven turn saved.grid grid
    → IsRayTurned turn saved grid ray first line moved → has moved m ≡ true → IsSavedPoint turn saved grid (ray_number saved.grid ray + 1) line.ray m
comes_from turn saved grid ray first line moved m given is h =
    let place = is.line_is.place in
    let found = from_there line.reversed (set_of saved ray) moved first line.l m is.moved_is h in
    record {
      ray = ray;
      l = first + found.0;
      on = is.on;
      before = omega arith;
      is_saved = sym (has_there line.reversed (set_of saved ray) moved first line.l found.0 m is.moved_is found.1) ∙ h;
      turned = turned_on line.reversed turn saved.grid grid ray line.ray first line.l found.0 m given.turned given.step (sym is.line_is.reversed) place.turned found.1;
    }

-- the new ray had no points before
none_before : (turn : Turn) (saved : Saved) (grid : GridSize) (ray : Ray) (first : ℕ) (line : TurnedLine) (moved : List Bool) (m : ℕ) → AreGiven turn saved.grid grid
    → IsRayTurned turn saved grid ray first line moved → IsSavedPoint turn saved grid (ray_number saved.grid ray) line.ray m → ⊥
none_before turn saved grid ray first line moved m given is earlier =
    let place = is.line_is.place in
    let one = never_shared turn saved.grid grid earlier.ray ray earlier.l first line.ray m line.l given.turned given.step given.old earlier.turned place.turned in
    let same = ap (ray_number saved.grid) one in
    let low = earlier.before in
    omega arith

points_there : (turn : Turn) (saved : Saved) (grid : GridSize) (ray : Ray) (first : ℕ) (line : TurnedLine) (moved : List Bool) (m : ℕ) → AreGiven turn saved.grid grid
    → IsRayTurned turn saved grid ray first line moved → IsSavedPoint turn saved grid (ray_number saved.grid ray + 1) line.ray m → has moved m ≡ true
points_there turn saved grid ray first line moved m given is later =
    ⊎_elim
    (λ (less : ray_number saved.grid later.ray < ray_number saved.grid ray).
    absurd (none_before turn saved grid ray first line moved m given is
    (record { ray = later.ray; l = later.l; on = later.on; before = less; is_saved = later.is_saved; turned = later.turned })))
    (λ (more : ray_number saved.grid ray ≤ ray_number saved.grid later.ray).
    let low = later.before in
    let same : later.ray ≡ ray = same_number saved.grid later.ray ray later.on is.on (omega arith) in
    (goes_there turn saved grid ray first line moved later.l line.ray m given is
    (subst (λ (r : Ray). has (set_of saved r) later.l ≡ true) same later.is_saved)
    (subst (λ (r : Ray). IsTurnedTo turn saved.grid grid r later.l line.ray m) same later.turned)).1)
    (cases_lt (ray_number saved.grid later.ray) (ray_number saved.grid ray))

points_more : (turn : Turn) (saved : Saved) (grid : GridSize) (ray : Ray) (first : ℕ) (line : TurnedLine) (moved : List Bool) (stock : Saved) → AreGiven turn saved.grid grid
    → IsRayTurned turn saved grid ray first line moved → IsTurnedUpTo turn saved grid (ray_number saved.grid ray) stock
    → (new : Ray) (m : ℕ) → IsRay grid new → m < points_of grid new.family
    → (has (set_of (saved_with stock line.ray moved) new) m ≡ true) ↔ IsSavedPoint turn saved grid (ray_number saved.grid ray + 1) new m
points_more turn saved grid ray first line moved stock given is before new m on low =
    ⊎_elim
    (λ (here : ray_number grid new ≡ ray_number grid line.ray).
    let same : line.ray ≡ new = same_number grid line.ray new is.line_is.place.on on (sym here) in
    let there : set_of (saved_with stock line.ray moved) new ≡ moved =
    ap (λ (r : Ray). set_of (saved_with stock line.ray moved) r) (sym same) ∙ set_there stock grid line.ray moved before.same_grid before.over is.line_is.place.on in (
      λ h. subst (λ (r : Ray). IsSavedPoint turn saved grid (ray_number saved.grid ray + 1) r m) same
          (comes_from turn saved grid ray first line moved m given is (ap (λ (set : List Bool). has set m) (sym there) ∙ h)),
      λ later. ap (λ (set : List Bool). has set m) there
          ∙ points_there turn saved grid ray first line moved m given is (subst (λ (r : Ray). IsSavedPoint turn saved grid (ray_number saved.grid ray + 1) r m) (sym same) later),
    ))
    (λ (differs : ray_number grid new ≡ ray_number grid line.ray → ⊥).
    let kept : set_of (saved_with stock line.ray moved) new ≡ set_of stock new = set_elsewhere stock grid line.ray new moved before.same_grid differs in (
      λ h. wider turn saved grid (ray_number saved.grid ray) new m ((before.points new m on low).0 (ap (λ (set : List Bool). has set m) (sym kept) ∙ h)),
      λ later. ap (λ (set : List Bool). has set m) kept
          ∙ (before.points new m on low).1
          (narrower turn saved grid ray new m is.on later
          (λ l h turned. differs (ap (ray_number grid) (sym (goes_there turn saved grid ray first line moved l new m given is h turned).0)))),
    ))
    (cases_eq (ray_number grid new) (ray_number grid line.ray))

-- the set of the new ray before has none, so as many are added as the old ray has
none_there : (turn : Turn) (saved : Saved) (grid : GridSize) (ray : Ray) (first : ℕ) (line : TurnedLine) (moved : List Bool) (stock : Saved) → AreGiven turn saved.grid grid
    → IsRayTurned turn saved grid ray first line moved → IsTurnedUpTo turn saved grid (ray_number saved.grid ray) stock → (m : ℕ) → (b : Bool) → has (set_of stock line.ray) m ≡ b → b ≡ false
none_there turn saved grid ray first line moved stock given is before m false h = refl
none_there turn saved grid ray first line moved stock given is before m true h =
    let on = is.line_is.place.on in
    let size : length (set_of stock line.ray) ≡ points_of grid line.ray.family =
    ap (λ (n : ℕ). length (get_or stock.sets n [])) (number_kept stock grid line.ray before.same_grid) ∙ before.over.bounds line.ray on in
    ⊎_elim
    (λ (low : m < length (set_of stock line.ray)).
    absurd (none_before turn saved grid ray first line moved m given is ((before.points line.ray m on (omega arith)).0 h)))
    (λ (past : length (set_of stock line.ray) ≤ m). sym h ∙ get_or_past (set_of stock line.ray) m false past)
    (cases_lt m (length (set_of stock line.ray)))

many_more : (turn : Turn) (saved : Saved) (grid : GridSize) (ray : Ray) (first : ℕ) (line : TurnedLine) (moved : List Bool) (stock : Saved) → AreGiven turn saved.grid grid → AreSetsOver saved.grid saved.sets
    → IsRayTurned turn saved grid ray first line moved → IsTurnedUpTo turn saved grid (ray_number saved.grid ray) stock
    → sum_by count_of (saved_with stock line.ray moved).sets ≡ sum_by count_of (take (ray_number saved.grid ray + 1) saved.sets)
many_more turn saved grid ray first line moved stock given over is before =
    let n = ray_number stock.grid line.ray in
    let low : n < length stock.sets =
    let lt = number_low grid line.ray is.line_is.place.on in let many = before.over.many in let kept = number_kept stock grid line.ray before.same_grid in omega arith in
    let put = sum_by-set count_of stock.sets n moved [] low in
    let no : count_of (get_or stock.sets n []) ≡ 0 =
    count_none (set_of stock line.ray) (λ m. none_there turn saved grid ray first line moved stock given is before m (has (set_of stock line.ray) m) refl) in
    let same : count_of moved ≡ count_of (set_of saved ray) =
    count_turned line.reversed (set_of saved ray) moved first line.l (points_of grid line.ray.family) is.within
    (let lt = is.line_is.place.low in let size = is.bound in omega arith) is.moved_is in
    let more = sum_more saved ray is.on over in
    let all = before.many in
    omega arith

-- a ray with points that has its place in the new grid
inside_line : (turn : Turn) (saved : Saved) (grid : GridSize) (ray : Ray) (first end : ℕ) (line : TurnedLine) → AreGiven turn saved.grid grid → IsNewLine turn saved.grid grid ray first line
    → ((l : ℕ) → l < end → has (set_of saved ray) l ≡ true → (first ≤ l) × (l < first + room_of line.reversed line.l (points_of grid line.ray.family)))
    → AreInside turn saved grid ray end
inside_line turn saved grid ray first end line given is within = record {
  placed = λ l low h.
      let lies = within l low h in
      let from = lies.0 in
      let before = lies.1 in
      let found = on_line turn saved.grid grid ray first (l - first) line given is (omega arith) in
      (line.ray, (found.0, subst (λ k. HasPlace turn saved.grid grid ray k line.ray found.0) (let q : first + (l - first) ≡ l = omega arith in q) found.1));
}

pub line_more : (turn : Turn) (saved : Saved) (grid : GridSize) (ray : Ray) (first : ℕ) (line : TurnedLine) (moved : List Bool) (stock : Saved) → AreGiven turn saved.grid grid
    → AreSetsOver saved.grid saved.sets → IsRayTurned turn saved grid ray first line moved → IsTurnedUpTo turn saved grid (ray_number saved.grid ray) stock
    → IsTurnedUpTo turn saved grid (ray_number saved.grid ray + 1) (saved_with stock line.ray moved)
line_more turn saved grid ray first line moved stock given over is before = record {
  same_grid = before.same_grid;
  over = subst (λ (g : GridSize). AreSetsOver grid (with_set g line.ray moved stock.sets)) (sym before.same_grid)
      (with_set_over grid line.ray moved stock.sets before.over is.line_is.place.on is.bound);
  inside = inside_more turn saved grid ray is.on before.inside
      (none_outside turn saved grid ray given.turned
      (inside_line turn saved grid ray first (points_of saved.grid ray.family) line given is.line_is (λ l low h. (is.within.from l h, is.within.before l h))));
  points = points_more turn saved grid ray first line moved stock given is before;
  many = many_more turn saved grid ray first line moved stock given over is before;
}

-- a ray whose first point has no place
pub no_line : (turn : Turn) (saved : Saved) (grid : GridSize) (ray : Ray) (first : ℕ) (stock : Saved) → AreGiven turn saved.grid grid → IsRay saved.grid ray → first < points_of saved.grid ray.family
    → has (set_of saved ray) first ≡ true → ((l : ℕ) → has (set_of saved ray) l ≡ true → first ≤ l) → ((new : Ray) (m : ℕ) → HasPlace turn saved.grid grid ray first new m → ⊥)
    → IsTurnedUpTo turn saved grid (ray_number saved.grid ray) stock → EndsTurn saved.grid (first_outside turn saved grid) (Outside ray first)
no_line turn saved grid ray first stock given on low h from none before =
    outside_at turn saved grid ray first on before.inside
    (first_on_ray turn saved grid ray first given.turned low (record { placed = λ l less there. absurd (let le = from l there in omega arith) }) h none)

-- a ray that leaves the new grid
pub leaves : (turn : Turn) (saved : Saved) (grid : GridSize) (ray : Ray) (first l : ℕ) (line : TurnedLine) (stock : Saved) → AreGiven turn saved.grid grid → IsRay saved.grid ray → l < points_of saved.grid ray.family
    → IsNewLine turn saved.grid grid ray first line → ((k : ℕ) → has (set_of saved ray) k ≡ true → first ≤ k)
    → first + room_of line.reversed line.l (points_of grid line.ray.family) ≤ l → has (set_of saved ray) l ≡ true
    → ((k : ℕ) → first + room_of line.reversed line.l (points_of grid line.ray.family) ≤ k → k < l → has (set_of saved ray) k ≡ false)
    → IsTurnedUpTo turn saved grid (ray_number saved.grid ray) stock → EndsTurn saved.grid (first_outside turn saved grid) (Outside ray l)
leaves turn saved grid ray first l line stock given on low is from past h none before =
    outside_at turn saved grid ray l on before.inside
    (first_on_ray turn saved grid ray l given.turned low
    (inside_line turn saved grid ray first l line given is
    (λ k less there. (
      from k there,
      ⊎_elim (λ (near : k < first + room_of line.reversed line.l (points_of grid line.ray.family)). near)
          (λ (far : first + room_of line.reversed line.l (points_of grid line.ray.family) ≤ k). absurd (true≢false (sym there ∙ none k far less)))
          (cases_lt k (first + room_of line.reversed line.l (points_of grid line.ray.family))),
    )))
    h
    (λ new m place.
    off_line turn saved.grid grid ray first (l - first) line given is (omega arith) new m
    (subst (λ k. HasPlace turn saved.grid grid ray k new m) (let q : l ≡ first + (l - first) = omega arith in q) place)))
