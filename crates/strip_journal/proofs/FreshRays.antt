-- The fresh rays of a strip, one by one.
use Rattle.std.proofs.Common.{◌≡◌, ◌≢◌, ℕ, ◌+◌, ◌*◌, ◌^◌, ◌<◌, ◌≤◌, Bool, List, [], ◌∷◌, ◌++◌, length, length-append, slice_get, Some, arith, sym, ap, ◌∙◌, subst, ⊎_elim}
use Rattle.std.proofs.lemmas.Bool.{cases_eq}
use Rattle.std.proofs.lemmas.List.{get_or_append_left, get_or_default, get_or_push}
use Rattle.std.proofs.lemmas.List.Sums.{count_by-le-length, sum_by-le, sum_by_push}
use Rattle.std.proofs.Math.Nat.{mul-le-mul_right}
use Rattle.vf_spans.specs.Members.{count_of}
use Rattle.ray_grid.specs.Grids.{GridSize}
use Rattle.ray_grid.specs.declared.ray.Ray.{Ray}
use Rattle.ray_grid.specs.Ranges.{IsGrid}
use Rattle.ray_grid.specs.Strips.{strip_at, strips_of}
use Rattle.ray_shapes.specs.declared.solid.Solid.{Solid}
use Rattle.ray_words.specs.Rays.{KeptSets}
use Rattle.ray_words.specs.Rows.{kept_at}
use Rattle.strip_marks.specs.Marks.{ray_of}
use Rattle.strip_marks.proofs.MoreRays.{no_sets}
use Rattle.strip_marks.proofs.OnStrips.{ray_there}
use Rattle.strip_journal.specs.Fresh.{AreFreshRays, IsFreshRay, stock_points}
use Rattle.strip_journal.proofs.StripSizes.{points_at_few, rays_few}

-- how many stock points one has
abbrev stock_of : KeptSets → ℕ
stock_of r = count_of r.sets.stock

-- a fresh ray of the grid of a shape is one of an equal grid
pub fresh_on : (grid other : GridSize) (ray : Ray) (stock part fixture : Solid) (r : KeptSets) → other ≡ grid
    → IsFreshRay other ray stock part fixture r → IsFreshRay grid ray stock part fixture r
fresh_on grid other ray stock part fixture r same fresh =
    subst (λ (g : GridSize). IsFreshRay g ray stock part fixture r) same fresh

-- with one ray more they are fresh
fresh_push : (grid : GridSize) (strip n : ℕ) (stock part fixture : Solid) (rays : List KeptSets) (ray : Ray) (r : KeptSets)
    → AreFreshRays grid strip n stock part fixture rays → slice_get (strip_at grid strip) n ≡ Some ray
    → IsFreshRay grid ray stock part fixture r → AreFreshRays grid strip (n + 1) stock part fixture (rays ++ r ∷ [])
fresh_push grid strip n stock part fixture rays ray r fresh there one = record {
  many = length-append rays (r ∷ []) ∙ ap (λ k. k + 1) fresh.many;
  each = λ m low.
      ⊎_elim
      (λ (last : m ≡ n).
      subst (λ (k : KeptSets). IsFreshRay grid (ray_of grid strip m) stock part fixture k)
      (sym (get_or_push rays r no_sets m (fresh.many ∙ sym last)))
      (subst (λ (s : Ray). IsFreshRay grid s stock part fixture r)
      (sym (ap (ray_of grid strip) last ∙ ray_there grid strip n ray there)) one))
      (λ (other : m ≢ n).
      let before : m < n = omega (arith, low, other) in
      subst (λ (k : KeptSets). IsFreshRay grid (ray_of grid strip m) stock part fixture k)
      (sym (get_or_append_left rays (r ∷ []) no_sets m (omega (arith, before, fresh.many))))
      (fresh.each m before))
      (cases_eq m n);
}

pub fresh_more : (grid : GridSize) (strip n : ℕ) (stock part fixture : Solid) (rays after : List KeptSets) (ray : Ray) (r : KeptSets)
    → AreFreshRays grid strip n stock part fixture rays → slice_get (strip_at grid strip) n ≡ Some ray
    → IsFreshRay grid ray stock part fixture r → after ≡ rays ++ r ∷ [] → AreFreshRays grid strip (n + 1) stock part fixture after
fresh_more grid strip n stock part fixture rays after ray r fresh there one pushed =
    subst (λ (l : List KeptSets). AreFreshRays grid strip (n + 1) stock part fixture l) (sym pushed)
    (fresh_push grid strip n stock part fixture rays ray r fresh there one)

pub stock_more : (rays after : List KeptSets) (r : KeptSets) (points more : ℕ) → points ≡ stock_points rays → more ≡ stock_of r
    → after ≡ rays ++ r ∷ [] → points + more ≡ stock_points after
stock_more rays after r points more so new pushed =
    let all = ap stock_points pushed ∙ sum_by_push stock_of rays r in omega (arith, so, new, all)

-- a fresh ray has few stock points
one_few : (grid : GridSize) (strip n : ℕ) (stock part fixture : Solid) (r : KeptSets) → IsGrid grid
    → IsFreshRay grid (ray_of grid strip n) stock part fixture r → stock_of r ≤ 400000
one_few grid strip n stock part fixture r is fresh =
    let most = count_by-le-length (λ (flag : Bool). flag) r.sets.stock in
    let few = points_at_few grid strip n is in
    omega (arith, most, few, fresh.bound.stock)

-- and the rays together
all_few : (grid : GridSize) (strip n : ℕ) (stock part fixture : Solid) (rays : List KeptSets) → IsGrid grid
    → AreFreshRays grid strip n stock part fixture rays → stock_points rays ≤ n * 400000
all_few grid strip n stock part fixture rays is fresh =
    let all =
    sum_by-le stock_of 400000 rays
    (λ k d low.
    let few = one_few grid strip k stock part fixture (kept_at rays k) is (fresh.each k (omega (arith, low, fresh.many))) in
    omega (arith, few, ap stock_of (get_or_default rays k d no_sets low))) in
    omega (arith, all, ap (λ k. k * 400000) fresh.many)

-- so their count with that of one ray more is no more than what 32 bits hold
pub few_more : (grid : GridSize) (strip n points more : ℕ) (stock part fixture : Solid) (rays : List KeptSets) (ray : Ray) (r : KeptSets)
    → IsGrid grid → strip < length (strips_of grid) → n < length (strip_at grid strip)
    → AreFreshRays grid strip n stock part fixture rays → points ≡ stock_points rays → slice_get (strip_at grid strip) n ≡ Some ray
    → IsFreshRay grid ray stock part fixture r → more ≡ stock_of r → points + more < 2 ^ 32
few_more grid strip n points more stock part fixture rays ray r is among low fresh so there one new =
    let few = rays_few grid strip is among in
    let all = all_few grid strip n stock part fixture rays is fresh in
    let last =
    one_few grid strip n stock part fixture r is
    (subst (λ (s : Ray). IsFreshRay grid s stock part fixture r) (sym (ray_there grid strip n ray there)) one) in
    let below : n ≤ 400 = omega (arith, few, low) in
    let most = mul-le-mul_right 400000 below in
    omega (arith, all, last, so, new, most)
