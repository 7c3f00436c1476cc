-- The first index of a set, and the first point of a ray, of a strip and of the lattice that is not covered.
use Rattle.std.proofs.Common.{◌≡◌, ℕ, zero, suc, ◌+◌, ◌-◌, ◌<◌, ◌≤◌, Bool, true, false, not, ◌||◌, ◌&&◌, leb, ltb, List, [], ◌∷◌, length, Option, Some, None, pos, arith, refl, ap, sym, subst, ◌∙◌}
use Rattle.std.specs.List.{list_any, slice_get}
use Rattle.std.specs.Prelude.{IsTrue}
use Rattle.std.proofs.lemmas.Bool.{and_from, and_left, and_parts, false_from_ne_true, le-leb, leb-true, lt-ltb, ltb-true}
use Rattle.space.specs.Reach.{is_in_reach}
use Rattle.cutter_slabs.specs.Stacks.{reach_of}
use Rattle.ray_shapes.specs.Sets.{HoldsPointsOf, in_solid}
use Rattle.vf_spans.specs.Members.{has, in_range, ranges_from, ranges_of}
use Rattle.ray_grid.specs.Lattice.{point_of, points_of}
use Rattle.ray_grid.specs.Points.{point_in}
use Rattle.ray_grid.specs.Selects.{Selects}
use Rattle.ray_grid.specs.declared.ray.Ray.{Ray}
use Rattle.cert_boxes.specs.declared.span.CellSpan.{CellSpan}
use Rattle.cert_boxes.specs.Covering.{wants_cover}
use Rattle.cert_boxes.specs.Rows.{covers_throughout}
use Rattle.cert_boxes.specs.Search.{IsFirstIndex, IsFirstOn, is_missed_by}
use Rattle.cert_boxes.specs.Tasks.{CertTask, is_guarded}
use Rattle.cert_boxes.proofs.Covers.{same_tests}
use Rattle.cert_boxes.proofs.Found.{first_along, none_along}

-- a range that has begun begins there
begun : (at first : ℕ) (flags : List Bool) (r : ℕ × ℕ) → slice_get (ranges_from at (Some first) flags) 0 ≡ Some r → r.0 ≡ first
begun at first [] r h = let e : (first, at) ≡ r = cc in sym (ap (λ (p : ℕ × ℕ). p.0) e)
begun at first (true ∷ flags) r h = begun (at + 1) first flags r h
begun at first (false ∷ flags) r h = let e : (first, at) ≡ r = cc in sym (ap (λ (p : ℕ × ℕ). p.0) e)

later : (at r : ℕ) (flags : List Bool) → ((l : ℕ) → at + 1 + l < r → has flags l ≡ false) → (l : ℕ) → at + l < r → has (false ∷ flags) l ≡ false
later at r flags h zero low = refl
later at r flags h (suc l) low = h l (omega arith)

-- before the first range of a set there is no index, and it has its first
pub record IsLowest (at : ℕ) (flags : List Bool) (r : ℕ) : Type 0 where
  pub after : at ≤ r
  pub there : has flags (r - at) ≡ true
  pub before : (l : ℕ) → at + l < r → has flags l ≡ false

lowest_from : (at : ℕ) (flags : List Bool) (r : ℕ × ℕ) → slice_get (ranges_from at None flags) 0 ≡ Some r → IsLowest at flags r.0
lowest_from at [] r h = cc
lowest_from at (true ∷ flags) r h =
    let e = begun (at + 1) at flags r h in let none : r.0 - at ≡ 0 = omega arith in record {
      after = omega arith;
      there = subst (λ k. has (true ∷ flags) k ≡ true) (sym none) refl;
      before = λ l low. absurd (omega arith);
    }
lowest_from at (false ∷ flags) r h =
    let rest = lowest_from (at + 1) flags r h in
    let after = rest.after in
    let one : r.0 - at ≡ suc (r.0 - (at + 1)) = omega arith in record {
      after = omega arith;
      there = subst (λ k. has (false ∷ flags) k ≡ true) (sym one) rest.there;
      before = later at r.0 flags rest.before;
    }

pub lowest : (set : List Bool) (r : ℕ × ℕ) → slice_get (ranges_of set) 0 ≡ Some r → IsFirstIndex set (Some r.0)
lowest set r h =
    let low = lowest_from 0 set r h in let same : r.0 - 0 ≡ r.0 = omega arith in record {
      there = subst (λ k. has set k ≡ true) same low.there;
      before = λ l lt. low.before l (omega arith);
    }

pub no_range : (set : List Bool) (ranges : List (ℕ × ℕ)) → length ranges ≡ 0 → ((i : ℕ) → has set i ≡ list_any (in_range i) ranges) → IsFirstIndex set None
no_range set [] none members = λ l. members l
no_range set (r ∷ ranges) none members = absurd (omega arith)

-- the window of a ray has the indices in reach
pub in_window : (lo hi l points : ℕ) (near : ℕ → Bool) → Selects lo hi (λ k. (k < points) × IsTrue (near k)) → l < points → (leb lo l && ltb l hi) ≡ near l
in_window lo hi l points near selects low =
    same_tests (leb lo l && ltb l hi) (near l)
    (λ both. let ends = and_parts (leb lo l) (ltb l hi) both in ((selects l).0 (leb-true lo l ends.0, ltb-true l hi ends.1)).1)
    (λ is. let ends = (selects l).1 (low, is) in and_from (leb lo l) (ltb l hi) (le-leb lo l ends.0) (lt-ltb l hi ends.1))

-- an index of a set is below its bound
has_within : (set : List Bool) (l : ℕ) → has set l ≡ true → l < length set
has_within [] l h = cc
has_within (b ∷ set) zero h = omega arith
has_within (b ∷ set) (suc l) h = let low = has_within set l h in omega arith

-- the first point of a ray: what is wanted less what is covered
pub none_wanted : (task : CertTask) (row : List CellSpan) (ray : Ray) → ((l : ℕ) → l < points_of task.grid ray.family → wants_cover task (point_in task.grid ray l) ≡ false)
    → IsFirstOn task row ray None
none_wanted task row ray none =
    none_along (is_missed_by task row) (point_in task.grid ray) 0 (points_of task.grid ray.family)
    (λ l after before. ap (λ b. b && not (covers_throughout row l)) (none l (omega arith)))

pub first_left : (task : CertTask) (row : List CellSpan) (ray : Ray) (left : List Bool) (found : Option ℕ) → length left ≡ points_of task.grid ray.family
    → ((l : ℕ) → l < points_of task.grid ray.family → has left l ≡ is_missed_by task row (point_in task.grid ray l)) → IsFirstIndex left found → IsFirstOn task row ray found
first_left task row ray left None size same first =
    none_along (is_missed_by task row) (point_in task.grid ray) 0 (points_of task.grid ray.family) (λ l after before. let low : l < points_of task.grid ray.family = omega arith in sym (same l low) ∙ first l)
first_left task row ray left (Some l) size same first =
    let low : l < points_of task.grid ray.family = subst (λ n. l < n) size (has_within left l first.there) in
    first_along (is_missed_by task row) (point_in task.grid ray) 0 (points_of task.grid ray.family) l (omega arith) (omega arith)
    (λ k after before. let less : k < points_of task.grid ray.family = omega arith in sym (same k less) ∙ first.before k before) (sym (same l low) ∙ first.there)

-- what is wanted and not covered is what the row misses
pub wanted_left : (task : CertTask) (row : List CellSpan) (ray : Ray) (wanted covered left : List Bool) → length wanted ≡ points_of task.grid ray.family
    → ((l : ℕ) → l < points_of task.grid ray.family → has wanted l ≡ wants_cover task (point_in task.grid ray l)) → ((l : ℕ) → l < length wanted → has covered l ≡ covers_throughout row l)
    → ((l : ℕ) → has left l ≡ (has wanted l && not (has covered l))) → (l : ℕ) → l < points_of task.grid ray.family → has left l ≡ is_missed_by task row (point_in task.grid ray l)
wanted_left task row ray wanted covered left size wants covers less l low =
    less l ∙ ap (λ b. b && not (has covered l)) (wants l low) ∙ ap (λ b. wants_cover task (point_in task.grid ray l) && not b) (covers l (subst (λ n. l < n) (sym size) low))

-- the points of a ray that have to be covered: those in reach, of either body
abbrev pub reaches : CertTask → Ray → ℕ → Bool
reaches task ray l = is_in_reach (pos (reach_of task.cutter)) task.sweep.from task.sweep.to (point_of task.grid ray l)

pub wanted_is : (task : CertTask) (ray : Ray) (lo hi : ℕ) (near of_part of_fixture guarded wanted : List Bool)
    → Selects lo hi (λ l. (l < points_of task.grid ray.family) × IsTrue (reaches task ray l)) → ((l : ℕ) → has near l ≡ (leb lo l && ltb l hi))
    → HoldsPointsOf task.grid ray (in_solid task.part task.grid) of_part → HoldsPointsOf task.grid ray (in_solid task.fixture task.grid) of_fixture
    → ((l : ℕ) → has guarded l ≡ (has of_part l || has of_fixture l)) → ((l : ℕ) → has wanted l ≡ (has near l && has guarded l))
    → (l : ℕ) → l < points_of task.grid ray.family → has wanted l ≡ wants_cover task (point_in task.grid ray l)
wanted_is task ray lo hi near of_part of_fixture guarded wanted selects nears parts fixtures either both l low =
    both l
    ∙ ap (λ b. b && has guarded l) (nears l ∙ in_window lo hi l (points_of task.grid ray.family) (reaches task ray) selects low)
    ∙ ap (λ b. reaches task ray l && b)
    (either l ∙ ap (λ b. b || has of_fixture l) (parts.points l low) ∙ ap (λ b. in_solid task.part task.grid (point_in task.grid ray l) || b) (fixtures.points l low))

-- and none where no point is in reach
outside : (lo hi l : ℕ) → lo ≡ hi → (leb lo l && ltb l hi) ≡ false
outside lo hi l same =
    false_from_ne_true (leb lo l && ltb l hi)
    (λ both. let ends = and_parts (leb lo l) (ltb l hi) both in let low = leb-true lo l ends.0 in let high = ltb-true l hi ends.1 in omega arith)

pub none_is : (task : CertTask) (ray : Ray) (lo hi : ℕ) (near : List Bool) → Selects lo hi (λ l. (l < points_of task.grid ray.family) × IsTrue (reaches task ray l))
    → ((l : ℕ) → has near l ≡ (leb lo l && ltb l hi)) → lo ≡ hi → (l : ℕ) → l < points_of task.grid ray.family → has near l ≡ wants_cover task (point_in task.grid ray l)
none_is task ray lo hi near selects nears same l low =
    let no : reaches task ray l ≡ false = sym (in_window lo hi l (points_of task.grid ray.family) (reaches task ray) selects low) ∙ outside lo hi l same in
    nears l ∙ outside lo hi l same ∙ sym (and_left (reaches task ray l) (is_guarded task (point_in task.grid ray l)) no)
