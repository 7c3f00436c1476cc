-- A place of the tests over whole numbers, and the same over natural ones.
use Rattle.std.proofs.Common.{◌≡◌, ℕ, ◌*◌, List, ℤ, pos, ◌≤ℤ◌, arith, sym, subst}
use Rattle.std.proofs.lemmas.Int.{ints}
use Rattle.std.specs.List.{Contains}
use Rattle.space.specs.Sweeps.{SweepOf, axis_at, offset_at}
use Rattle.space.specs.Vectors.{dot, spread}
use Rattle.space.proofs.Naturals.{dot_natural, natural, spread_natural}
use Rattle.bern_form.specs.Slab.{SlabSize}
use Rattle.bern_form.proofs.Relations.{Covers, SomeHolds}
use Rattle.cutter_slabs.specs.Stacks.{slab_of}
use Rattle.cutter_slabs.proofs.Corners.{InSlab}

-- the offset p under the axis a, ahead of the tip, by natural numbers
pub record Place (p a : List ℤ) : Type 0 where
  pub u : ℕ
  pub n : ℕ
  pub w : ℕ
  pub u_is : dot p a ≡ pos u
  pub n_is : dot a a ≡ pos n
  pub w_is : spread p a ≡ pos w

pub place_of : (p a : List ℤ) → pos 0 ≤ℤ dot p a → Place p a
place_of p a forward =
    let u = natural (dot p a) forward in let n = natural (dot a a) (dot_natural a) in let w = natural (spread p a) (spread_natural p a) in
    record { u = u.0; n = n.0; w = w.0; u_is = u.1; n_is = n.1; w_is = w.1 }

-- what holds of a place in one writing holds in the other
pub to_naturals : (P : ℤ → ℤ → ℤ → Type 0) (p a : List ℤ) (x : Place p a) → P (dot p a) (dot a a) (spread p a) → P (pos x.u) (pos x.n) (pos x.w)
to_naturals P p a x h = subst (λ w. P (pos x.u) (pos x.n) w) x.w_is (subst (λ n. P (pos x.u) n (spread p a)) x.n_is (subst (λ u. P u (dot a a) (spread p a)) x.u_is h))

pub from_naturals : (P : ℤ → ℤ → ℤ → Type 0) (p a : List ℤ) (x : Place p a) → P (pos x.u) (pos x.n) (pos x.w) → P (dot p a) (dot a a) (spread p a)
from_naturals P p a x h =
    subst (λ u. P u (dot a a) (spread p a)) (sym x.u_is) (subst (λ n. P (pos x.u) n (spread p a)) (sym x.n_is) (subst (λ w. P (pos x.u) (pos x.n) w) (sym x.w_is) h))

-- a slab's test, both ways
pub covers_down : (b lo hi dia u N W : ℕ) → Covers (slab_of lo hi dia) (pos b) (pos u) (pos N) (pos W) → InSlab (b * lo) (b * hi) (b * dia) u N W
covers_down b lo hi dia u N W h =
    let low = h.above in let high = h.below in let wide = h.near in
    record { above = omega (arith, ints, low); below = omega (arith, ints, high); near = omega (arith, ints, wide) }

pub covers_up : (b lo hi dia u N W : ℕ) → InSlab (b * lo) (b * hi) (b * dia) u N W → Covers (slab_of lo hi dia) (pos b) (pos u) (pos N) (pos W)
covers_up b lo hi dia u N W h =
    let low = h.above in let high = h.below in let wide = h.near in
    record { forward = omega (arith, ints); above = omega (arith, ints, low); below = omega (arith, ints, high); near = omega (arith, ints, wide) }

-- a slab of the list that holds the place
abbrev pub Found : ℕ → ℕ → ℕ → ℕ → List SlabSize → Type 0
Found b u N W xs = (s : SlabSize) × Contains xs s × Covers s (pos b) (pos u) (pos N) (pos W)

pub found_holds : (xs : List SlabSize) (m : SweepOf) (p : List ℤ) (a b : ℕ) (x : Place (offset_at m p (pos a) (pos b)) (axis_at m (pos a) (pos b)))
    → Found b x.u x.n x.w xs → SomeHolds xs m p a b
found_holds xs m p a b x f = record {
  slab = f.0;
  among = f.1;
  holds = from_naturals (λ u n w. Covers f.0 (pos b) u n w) (offset_at m p (pos a) (pos b)) (axis_at m (pos a) (pos b)) x f.2;
}
