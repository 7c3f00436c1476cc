-- The points of a ray between two that are held at the first sample, or at the last one.
use Rattle.std.proofs.Common.{◌≡◌, true, ℕ, ◌^◌, ◌≤◌, ◌<◌, List, ℤ, pos, ◌*ℤ◌, ◌≤ℤ◌, arith, refl, ap, ap₂, subst, sym, ◌∙◌}
use Rattle.space.specs.Sweeps.{axis_at}
use Rattle.space.specs.Vectors.{at}
use Rattle.space.proofs.Naturals.{dot_natural}
use Rattle.cutter_slabs.specs.Rising.{IsRising}
use Rattle.cutter_slabs.specs.Stacks.{inner_stack}
use Rattle.ray_grid.specs.Lattice.{point_of, points_of}
use Rattle.width_bisect.specs.Bounds.{meets}
use Rattle.width_bisect.specs.declared.bounds.Bounds.{Bounds}
use Rattle.wanted_marks.specs.declared.held.Held.{Held}
use Rattle.wanted_marks.specs.declared.line.Line.{Line}
use Rattle.wanted_marks.specs.Lines.{HasFormsIn, IsLineOf, height_at, coefficient_at}
use Rattle.wanted_marks.specs.Nears.{AreInnerBounds}
use Rattle.wanted_marks.specs.Rays.{MoveOf, RayOf, is_possible_in, is_sure_in}
use Rattle.wanted_marks.specs.Runs.{IsHeldAt, IsHeldFirst, IsHeldIn, IsHeldLast, IsRun}
use Rattle.wanted_marks.specs.Samples.{sample_n, sample_u, sample_width}
use Rattle.wanted_marks.proofs.Amid.{IsAmid, is_amid}
use Rattle.wanted_marks.proofs.Holding.{first_width_is, is_removed, last_width_is, spread_at}
use Rattle.wanted_marks.proofs.Running.{run_held}

n_natural : (v : MoveOf) (k : ℕ) → pos 0 ≤ℤ sample_n v k
n_natural v k = dot_natural (axis_at v.sweep (pos k) (pos (2 ^ v.depth)))

abbrev on_ray : RayOf → ℕ → List ℤ
on_ray r l = point_of r.grid r.ray l

-- The coefficients i of u and j of the width of a line are the values at the sample k, and the width bends upwards there.
record IsConvexAt (line : Line) (r : RayOf) (k i j : ℕ) : Type 0 where
  u_is : (l : ℕ) → l < points_of r.grid r.ray.family → height_at line i (pos l) ≡ sample_u r.sweep (on_ray r l) k
  width_is : (l : ℕ) → l < points_of r.grid r.ray.family → coefficient_at line j (pos l) ≡ sample_width r.sweep (on_ray r l) k
  convex : pos 0 ≤ℤ at line.second.c j

at_first : (r : RayOf) (line : Line) → IsLineOf line r → IsConvexAt line r 0 0 0
at_first r line is = record {
  u_is = λ l below. ap (λ c. at c 0) (is.forms l below).height;
  width_is = λ l below. ap (λ c. at c 0) (is.forms l below).width ∙ first_width_is r.sweep.sweep (on_ray r l) (2 ^ r.sweep.depth);
  convex = is.first_convex;
}

at_last : (r : RayOf) (line : Line) → IsLineOf line r → IsConvexAt line r (2 ^ r.sweep.depth) 2 4
at_last r line is = record {
  u_is = λ l below. ap (λ c. at c 2) (is.forms l below).height;
  width_is = λ l below. ap (λ c. at c 4) (is.forms l below).width ∙ last_width_is r.sweep.sweep (on_ray r l) (2 ^ r.sweep.depth);
  convex = is.last_convex;
}

points_amid : (r : RayOf) (line : Line) (k i j l x m : ℕ) → IsConvexAt line r k i j → l ≤ x → x ≤ m → m < points_of r.grid r.ray.family
    → pos 0 ≤ℤ sample_u r.sweep (on_ray r l) k → pos 0 ≤ℤ sample_u r.sweep (on_ray r m) k
    → IsAmid (sample_u r.sweep (on_ray r l) k) (sample_width r.sweep (on_ray r l) k) (sample_u r.sweep (on_ray r m) k) (sample_width r.sweep (on_ray r m) k)
    (sample_u r.sweep (on_ray r x) k) (sample_width r.sweep (on_ray r x) k)
points_amid r line k i j l x m is from to below f g =
    let W = λ (z : ℕ). sample_width r.sweep (on_ray r z) k in let U = λ (z : ℕ). sample_u r.sweep (on_ray r z) k in
    let A = coefficient_at line j in let H = height_at line i in
    let bl : l < points_of r.grid r.ray.family = omega (arith, from, to, below) in let bx : x < points_of r.grid r.ray.family = omega (arith, to, below) in
    let ul = is.u_is l bl in let um = is.u_is m below in let ux = is.u_is x bx in
    let a0 = is_amid (at line.height i) (at line.height_step i) (at line.constant.c j) (at line.first.c j) (at line.second.c j) l x m from to is.convex
    (subst (λ z. pos 0 ≤ℤ z) (sym ul) f) (subst (λ z. pos 0 ≤ℤ z) (sym um) g) in
    let a1 = subst (λ z. IsAmid z (A (pos l)) (H (pos m)) (A (pos m)) (H (pos x)) (A (pos x))) ul a0 in
    let a2 = subst (λ z. IsAmid (U l) z (H (pos m)) (A (pos m)) (H (pos x)) (A (pos x))) (is.width_is l bl) a1 in
    let a3 = subst (λ z. IsAmid (U l) (W l) z (A (pos m)) (H (pos x)) (A (pos x))) um a2 in
    let a4 = subst (λ z. IsAmid (U l) (W l) (U m) z (H (pos x)) (A (pos x))) (is.width_is m below) a3 in
    let a5 = subst (λ z. IsAmid (U l) (W l) (U m) (W m) z (A (pos x))) ux a4 in
    subst (λ z. IsAmid (U l) (W l) (U m) (W m) (U x) z) (is.width_is x bx) a5

met_is : (held : Held) (u W y z : ℤ) → u ≡ y → W ≡ z → meets held.bounds u W ≡ true → meets held.bounds y z ≡ true
met_is held u W y z eu ew met = ap₂ (λ a b. meets held.bounds a b) (sym eu) (sym ew) ∙ met

-- of two that are held at one sample, each no farther from the axis than the slab of the other is wide
run_between : (r : RayOf) (line : Line) (low high : Held) (k i j : ℕ) → k ≤ 2 ^ r.sweep.depth → IsRising (inner_stack r.sweep.cutter r.sweep.slabs)
    → ((p : List ℤ) → is_sure_in r.sweep p ≡ true → is_possible_in r.sweep p ≡ true) → IsConvexAt line r k i j → IsHeldAt low r k → IsHeldAt high r k
    → low.sample.width ≤ℤ high.bounds.width → high.sample.width ≤ℤ low.bounds.width → IsRun r low.index high.index
run_between r line low high k i j within rising both is first last less more x from to =
    let v = r.sweep in let l = low.index in let m = high.index in let f = first.there in let g = last.there in
    let U = λ (z : ℕ). sample_u v (on_ray r z) k in let w = λ (z : ℕ). spread_at v (on_ray r z) k in
    let ul = subst (λ z. pos 0 ≤ℤ z) f.there.u_is f.ahead in let um = subst (λ z. pos 0 ≤ℤ z) g.there.u_is g.ahead in
    is_removed v (on_ray r x) k (inner_stack v.cutter v.slabs) (U x) (sample_n v k) within refl (both (on_ray r x)) refl refl
    (run_held low.bounds high.bounds (2 ^ v.depth) (sample_n v k) (inner_stack v.cutter v.slabs) (U l) (w l) (U m) (w m) (U x) (w x) rising (n_natural v k) f.near g.near ul um
    (met_is low low.sample.u low.sample.width (U l) (pos 4 *ℤ w l) f.there.u_is f.there.width_is f.met)
    (met_is high high.sample.u high.sample.width (U m) (pos 4 *ℤ w m) g.there.u_is g.there.width_is g.met)
    (subst (λ z. z ≤ℤ high.bounds.width) f.there.width_is less) (subst (λ z. z ≤ℤ low.bounds.width) g.there.width_is more)
    (points_amid r line k i j l x m is from to last.within ul um))

run_on : (r : RayOf) (v : MoveOf) (line : Line) (low high : Held) (k i j : ℕ) → r.sweep ≡ v → k ≤ 2 ^ r.sweep.depth → IsRising (inner_stack v.cutter v.slabs)
    → ((p : List ℤ) → is_sure_in v p ≡ true → is_possible_in v p ≡ true) → IsConvexAt line r k i j → IsHeldAt low r k → IsHeldAt high r k
    → low.sample.width ≤ℤ high.bounds.width → high.sample.width ≤ℤ low.bounds.width → IsRun r low.index high.index
run_on r v line low high k i j same within rising both is first last less more =
    run_between r line low high k i j within (subst (λ (x : MoveOf). IsRising (inner_stack x.cutter x.slabs)) (sym same) rising)
    (subst (λ (x : MoveOf). (p : List ℤ) → is_sure_in x p ≡ true → is_possible_in x p ≡ true) (sym same) both) is first last less more

pub is_first_run : (r : RayOf) (v : MoveOf) (line : Line) (low high : Held) → r.sweep ≡ v → IsRising (inner_stack v.cutter v.slabs)
    → ((p : List ℤ) → is_sure_in v p ≡ true → is_possible_in v p ≡ true) → IsLineOf line r → IsHeldFirst low r → IsHeldFirst high r
    → low.sample.width ≤ℤ high.bounds.width → high.sample.width ≤ℤ low.bounds.width → IsRun r low.index high.index
is_first_run r v line low high same rising both is first last less more =
    run_on r v line low high 0 0 0 same (omega arith) rising both (at_first r line is) first last less more

pub is_last_run : (r : RayOf) (v : MoveOf) (line : Line) (low high : Held) → r.sweep ≡ v → IsRising (inner_stack v.cutter v.slabs)
    → ((p : List ℤ) → is_sure_in v p ≡ true → is_possible_in v p ≡ true) → IsLineOf line r → IsHeldLast low r → IsHeldLast high r
    → low.sample.width ≤ℤ high.bounds.width → high.sample.width ≤ℤ low.bounds.width → IsRun r low.index high.index
is_last_run r v line low high same rising both is first last less more =
    run_on r v line low high (2 ^ r.sweep.depth) 2 4 same (omega arith) rising both (at_last r line is) first last less more

-- a point that is held at the first sample of the move is held on the ray
pub held_first_on : (line : Line) (r : RayOf) (v : MoveOf) (held : Held) (l : ℕ) → v ≡ r.sweep → IsLineOf line r → l < points_of r.grid r.ray.family → held.index ≡ l
    → ((p : List ℤ) → HasFormsIn line (pos l) v p → IsHeldIn held v p 0) → IsHeldFirst held r
held_first_on line r v held l same is below index there =
    let forms = subst (λ (x : MoveOf). HasFormsIn line (pos l) x (on_ray r l)) (sym same) (is.forms l below) in record {
      within = subst (λ z. z < points_of r.grid r.ray.family) (sym index) below;
      there = subst (λ z. IsHeldIn held r.sweep (on_ray r z) 0) (sym index) (subst (λ (x : MoveOf). IsHeldIn held x (on_ray r l) 0) same (there (on_ray r l) forms));
    }

-- the slab that is kept of a move at the last sample, for a ray
pub same_near : (b : Bounds) (v w : MoveOf) → v ≡ w → AreInnerBounds b v (2 ^ v.depth) → AreInnerBounds b w (2 ^ w.depth)
same_near b v w same near = subst (λ (x : MoveOf). AreInnerBounds b x (2 ^ x.depth)) same near
