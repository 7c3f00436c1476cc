-- The turned stock when no ray is turned yet, and when all are.
use Rattle.std.proofs.Common.{◌≡◌, ℕ, ◌<◌, ◌≤◌, Bool, true, false, ◌&&◌, IsTrue, List, [], ◌∷◌, length, map, replicate, get_or, None, arith, refl, sym, ap, ◌∙◌, subst, ⊎_elim}
use Rattle.std.specs.List.{find, flat_map, sum_by}
use Rattle.std.proofs.lemmas.Bool.{and_from, and_parts, cases_lt, true≢false}
use Rattle.std.proofs.lemmas.List.{get_or-map, get_or-replicate, get_or_past, length-replicate, take_all}
use Rattle.std.proofs.lemmas.List.Sums.{sum_by-cons}
use Rattle.vf_spans.specs.Members.{count_of, has}
use Rattle.ray_grid.specs.Grids.{GridSize}
use Rattle.ray_grid.specs.Lattice.{IsRay, points_of}
use Rattle.ray_grid.specs.Points.{LatticePoint, point_in, points_on, rays_of}
use Rattle.ray_grid.specs.Strips.{ray_number}
use Rattle.ray_grid.specs.Turns.{is_turn}
use Rattle.ray_grid.specs.declared.ray.Ray.{Ray}
use Rattle.ray_grid.specs.declared.turn.Turn.{Turn}
use Rattle.ray_shapes.specs.Sets.{AreSetsOver, HoldsPointsOf}
use Rattle.stock_file.specs.Saved.{Saved, no_flags, no_sets, set_of}
use Rattle.stock_file.proofs.RayOrder.{number_low, ray_at}
use Rattle.stock_file.proofs.SetLemmas.{no_sets_over}
use Rattle.setup_turn.specs.Turned.{first_outside, in_turned, lies_outside, is_saved, is_turned_to}
use Rattle.setup_turn.specs.Walk.{IsSavedPoint, IsTurnedUpTo}
use Rattle.setup_turn.proofs.Along.{one_old}
use Rattle.setup_turn.proofs.Counting.{count_none}
use Rattle.setup_turn.proofs.Listing.{is_tested, point_passes, some_point, test_is}
use Rattle.setup_turn.proofs.NextRay.{number_kept}
use Rattle.setup_turn.proofs.Places.{AreGiven}
use Rattle.setup_turn.proofs.Tests.{same_bools}

-- a set without points
has_none : (bound i : ℕ) → has (replicate bound false) i ≡ false
has_none bound i =
    ⊎_elim (λ (low : i < bound). get_or-replicate bound i false false low)
    (λ (past : bound ≤ i). let size = length-replicate bound false in get_or_past (replicate bound false) i false (omega arith)) (cases_lt i bound)

empty_set : (g : GridSize) (ray : Ray) (i : ℕ) → IsRay g ray → has (get_or (no_sets g) (ray_number g ray) []) i ≡ false
empty_set g ray i on =
    ap (λ (flags : List Bool). has flags i)
    (get_or-map (no_flags g) (rays_of g) (ray_number g ray) ray [] (number_low g ray on)
    ∙ ap (no_flags g) (ray_at g (ray_number g ray) ray ray (record { on = on; same = refl })))
    ∙ has_none (points_of g ray.family) i

none_many : (g : GridSize) (rays : List Ray) → sum_by count_of (map (no_flags g) rays) ≡ 0
none_many g [] = refl
none_many g (ray ∷ rays) =
    sum_by-cons count_of (no_flags g ray) (map (no_flags g) rays)
    ∙ (let one = count_none (no_flags g ray) (has_none (points_of g ray.family)) in let rest = none_many g rays in omega arith)

none_yet : (turn : Turn) (saved : Saved) (grid : GridSize) → IsTurnedUpTo turn saved grid 0 (record { grid = grid; sets = no_sets grid })
none_yet turn saved grid = record {
  same_grid = refl;
  over = no_sets_over grid;
  inside = refl;
  points = λ new m on low. (λ h. absurd (true≢false (sym h ∙ empty_set grid new m on)), λ is. absurd (let before = is.before in omega arith));
  many = none_many grid (rays_of grid);
}

pub at_start : (turn : Turn) (saved : Saved) (grid : GridSize) (stock : Saved) → stock ≡ record { grid = grid; sets = no_sets grid } → IsTurnedUpTo turn saved grid 0 stock
at_start turn saved grid stock is = subst (λ (s : Saved). IsTurnedUpTo turn saved grid 0 s) (sym is) (none_yet turn saved grid)

-- a point of a set is one of its ray
in_bound : (saved : Saved) (ray : Ray) (l : ℕ) → AreSetsOver saved.grid saved.sets → IsRay saved.grid ray → has (set_of saved ray) l ≡ true → l < points_of saved.grid ray.family
in_bound saved ray l over on h =
    let size = over.bounds ray on in
    ⊎_elim (λ (low : l < length (set_of saved ray)). omega arith)
    (λ (past : length (set_of saved ray) ≤ l). absurd (true≢false (sym h ∙ get_or_past (set_of saved ray) l false past)))
    (cases_lt l (length (set_of saved ray)))

-- a saved point that is turned to a new one
abbrev is_source : Turn → Saved → LatticePoint → LatticePoint → Bool
is_source turn saved new old = is_saved saved old && is_turned_to turn old new

listed : (turn : Turn) (saved : Saved) (grid : GridSize) (n : ℕ) (new : Ray) (m : ℕ) → IsTrue (is_turn turn) → AreSetsOver saved.grid saved.sets
    → IsSavedPoint turn saved grid n new m → in_turned turn saved (point_in grid new m) ≡ true
listed turn saved grid n new m test over is =
    point_passes saved.grid (is_source turn saved (point_in grid new m)) is.ray is.l
    (record {
      on = is.on;
      low = in_bound saved is.ray is.l over is.on is.is_saved;
      holds = and_from (has (set_of saved is.ray) is.l) (is_turned_to turn (point_in saved.grid is.ray is.l) (point_in grid new m)) is.is_saved
          (is_tested turn saved.grid grid is.ray is.l new m test is.turned);
    })

unlisted : (turn : Turn) (saved : Saved) (grid : GridSize) (n : ℕ) (new : Ray) (m : ℕ) → IsTrue (is_turn turn) → length (rays_of saved.grid) ≤ n
    → in_turned turn saved (point_in grid new m) ≡ true → IsSavedPoint turn saved grid n new m
unlisted turn saved grid n new m test all told =
    let found = some_point saved.grid (is_source turn saved (point_in grid new m)) told in
    let at = found.1.1 in
    let parts = and_parts (has (set_of saved found.0) found.1.0) (is_turned_to turn (point_in saved.grid found.0 found.1.0) (point_in grid new m)) at.holds in
    record {
      ray = found.0;
      l = found.1.0;
      on = at.on;
      before = let low = number_low saved.grid found.0 at.on in omega arith;
      is_saved = parts.0;
      turned = test_is turn saved.grid grid found.0 found.1.0 new m test parts.1;
    }

-- all rays are turned
pub holds_points : (turn : Turn) (saved : Saved) (grid : GridSize) (n : ℕ) (stock : Saved) → IsTrue (is_turn turn) → AreSetsOver saved.grid saved.sets → length (rays_of saved.grid) ≤ n
    → IsTurnedUpTo turn saved grid n stock → (ray : Ray) → IsRay grid ray → HoldsPointsOf grid ray (in_turned turn saved) (set_of stock ray)
holds_points turn saved grid n stock test over all is ray on = record {
  bound = ap (λ (k : ℕ). length (get_or stock.sets k [])) (number_kept stock grid ray is.same_grid) ∙ is.over.bounds ray on;
  points = λ l low.
      same_bools (has (set_of stock ray) l) (in_turned turn saved (point_in grid ray l))
      (λ h. listed turn saved grid n ray l test over ((is.points ray l on low).0 h))
      (λ told. (is.points ray l on low).1 (unlisted turn saved grid n ray l test all told));
}

pub all_inside : (turn : Turn) (saved : Saved) (grid : GridSize) (n : ℕ) (stock : Saved) → length (rays_of saved.grid) ≤ n → IsTurnedUpTo turn saved grid n stock
    → first_outside turn saved grid ≡ None
all_inside turn saved grid n stock all is =
    ap (λ (rays : List Ray). find (lies_outside turn saved grid) (flat_map (points_on saved.grid) rays)) (sym (take_all n (rays_of saved.grid) all)) ∙ is.inside

pub kept : (turn : Turn) (saved : Saved) (grid : GridSize) (n : ℕ) (stock : Saved) → AreGiven turn saved.grid grid → length (rays_of saved.grid) ≤ n → IsTurnedUpTo turn saved grid n stock
    → (old new : Ray) (l m : ℕ) → IsRay saved.grid old → l < points_of saved.grid old.family → IsRay grid new → m < points_of grid new.family
    → IsTrue (is_turned_to turn (point_in saved.grid old l) (point_in grid new m)) → has (set_of stock new) m ≡ has (set_of saved old) l
kept turn saved grid n stock given all is old new l m on low on_new low_new told =
    let turned = test_is turn saved.grid grid old l new m given.turned told in
    same_bools (has (set_of stock new) m) (has (set_of saved old) l)
    (λ h.
    let from = (is.points new m on_new low_new).0 h in
    let one = one_old turn saved.grid grid from.ray old from.l l new m given.turned given.old from.turned turned in
    subst (λ (k : ℕ). has (set_of saved old) k ≡ true) one.index (subst (λ (r : Ray). has (set_of saved r) from.l ≡ true) one.ray from.is_saved))
    (λ h. (is.points new m on_new low_new).1 (record {
      ray = old;
      l = l;
      on = on;
      before = let lt = number_low saved.grid old on in omega arith;
      is_saved = h;
      turned = turned;
    }))

pub as_many : (turn : Turn) (saved : Saved) (grid : GridSize) (n : ℕ) (stock : Saved) → AreSetsOver saved.grid saved.sets → length (rays_of saved.grid) ≤ n → IsTurnedUpTo turn saved grid n stock
    → sum_by count_of stock.sets ≡ sum_by count_of saved.sets
as_many turn saved grid n stock over all is = is.many ∙ ap (sum_by count_of) (take_all n saved.sets (let many = over.many in omega arith))
