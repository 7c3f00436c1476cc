-- The points of a ray follow each other at equal distances, so each is between any two that have it between them.
use Rattle.std.proofs.Common.{◌≡◌, false, ℕ, ◌+◌, ◌-◌, ◌*◌, ◌^◌, ◌≤◌, ◌<◌, [], ◌∷◌, List, ℤ, pos, ◌+ℤ◌, ◌*ℤ◌, arith, refl, ap, ⊎_elim, ◌∙◌}
use Rattle.space.specs.Vectors.{at}
use Rattle.space.proofs.Solver.{var, add, mul, ring}
use Rattle.ray_grid.specs.Grids.{GridSize}
use Rattle.ray_grid.specs.declared.ray.Ray.{Ray}
use Rattle.ray_grid.specs.declared.ray.Family.{Family}
use Rattle.ray_grid.specs.declared.ray.Family.TheVariants.{X, Y, Z}
use Rattle.ray_grid.specs.Lattice.{node_at, point_at, point_of}
use Rattle.ray_boxes.proofs.Mixed.{IsAlong}

-- the point with the index l is between those with the indices a and b
pub record IsLine (point : ℕ → List ℤ) : Type 0 where
  pub each : (a l b w v : ℕ) → 0 < v + w → (w + v) * l ≡ w * a + v * b → IsAlong (point a) (point b) (point l) w v

place_along : (o s : ℤ) (a l b w v : ℕ) → (w + v) * l ≡ w * a + v * b
    → (pos w +ℤ pos v) *ℤ (o +ℤ pos l *ℤ s) ≡ pos w *ℤ (o +ℤ pos a *ℤ s) +ℤ pos v *ℤ (o +ℤ pos b *ℤ s)
place_along o s a l b w v h =
    let W = var 0 in let V = var 1 in let O = var 2 in let S = var 3 in let A = var 4 in let B = var 5 in
    let same : (pos w +ℤ pos v) *ℤ pos l ≡ pos w *ℤ pos a +ℤ pos v *ℤ pos b = ap pos h in
    let before : (pos w +ℤ pos v) *ℤ (o +ℤ pos l *ℤ s) ≡ (pos w +ℤ pos v) *ℤ o +ℤ ((pos w +ℤ pos v) *ℤ pos l) *ℤ s =
    ring (pos w ∷ pos v ∷ o ∷ s ∷ pos l ∷ []) (mul (add W V) (add O (mul A S))) (add (mul (add W V) O) (mul (mul (add W V) A) S)) refl in
    let after : (pos w +ℤ pos v) *ℤ o +ℤ (pos w *ℤ pos a +ℤ pos v *ℤ pos b) *ℤ s ≡ pos w *ℤ (o +ℤ pos a *ℤ s) +ℤ pos v *ℤ (o +ℤ pos b *ℤ s) =
    ring (pos w ∷ pos v ∷ o ∷ s ∷ pos a ∷ pos b ∷ []) (add (mul (add W V) O) (mul (add (mul W A) (mul V B)) S)) (add (mul W (add O (mul A S))) (mul V (add O (mul B S)))) refl in
    before ∙ ap (λ z. (pos w +ℤ pos v) *ℤ o +ℤ z *ℤ s) same ∙ after

still_along : (c : ℤ) (w v : ℕ) → (pos w +ℤ pos v) *ℤ c ≡ pos w *ℤ c +ℤ pos v *ℤ c
still_along c w v = ring (pos w ∷ pos v ∷ c ∷ []) (mul (add (var 0) (var 1)) (var 2)) (add (mul (var 0) (var 2)) (mul (var 1) (var 2))) refl

along_at : (grid : GridSize) (family : Family) (i j a l b w v : ℕ) → 0 < v + w → (w + v) * l ≡ w * a + v * b
    → IsAlong (point_at grid family i j a) (point_at grid family i j b) (point_at grid family i j l) w v
along_at grid X i j a l b w v some h = record {
  place = some;
  x = place_along (at grid.origin 0) grid.step a l b w v h;
  y = still_along (node_at grid 1 i) w v;
  z = still_along (node_at grid 2 j) w v;
}
along_at grid Y i j a l b w v some h = record {
  place = some;
  x = still_along (node_at grid 0 i) w v;
  y = place_along (at grid.origin 1) grid.step a l b w v h;
  z = still_along (node_at grid 2 j) w v;
}
along_at grid Z i j a l b w v some h = record {
  place = some;
  x = still_along (node_at grid 0 i) w v;
  y = still_along (node_at grid 1 j) w v;
  z = place_along (at grid.origin 2) grid.step a l b w v h;
}

pub ray_line : (grid : GridSize) (ray : Ray) → IsLine (point_of grid ray)
ray_line grid ray = record { each = λ a l b w v some h. along_at grid ray.family ray.i ray.j a l b w v some h }
