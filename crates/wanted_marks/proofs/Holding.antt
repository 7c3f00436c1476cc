-- What an inner slab holds at a sample is sure.
use Rattle.std.proofs.Common.{◌≡◌, true, ℕ, ◌+◌, ◌^◌, ◌≤◌, List, ℤ, pos, ◌*ℤ◌, arith, subst, sym, refl, ap₂, ◌∙◌}
use Rattle.space.specs.Sweeps.{SweepOf, axis_at, offset_at}
use Rattle.space.specs.Vectors.{at, spread}
use Rattle.bern_form.specs.Marks.{held_at_sample, some_holds}
use Rattle.bern_form.specs.Slab.{SlabSize}
use Rattle.bern_form.proofs.Decided.{found_below}
use Rattle.box_bisect.specs.SlabTests.{some_covers}
use Rattle.cutter_slabs.specs.Stacks.{inner_stack}
use Rattle.cutter_marks.specs.MarkBy.{is_possible_by, is_sure_by}
use Rattle.wanted_marks.specs.Rays.{IsRemovedBy, MoveOf}
use Rattle.wanted_marks.specs.Samples.{sample_n, sample_u}
use Rattle.wanted_marks.specs.Widths.{whole_width}

-- the first coefficients are the values at the first sample, and the last ones those at the last sample
pub first_width_is : (m : SweepOf) (p : List ℤ) (S : ℕ) → at (whole_width m p S) 0 ≡ pos 4 *ℤ spread (offset_at m p (pos 0) (pos S)) (axis_at m (pos 0) (pos S))
first_width_is m p S = refl

pub last_width_is : (m : SweepOf) (p : List ℤ) (S : ℕ) → at (whole_width m p S) 4 ≡ pos 4 *ℤ spread (offset_at m p (pos S) (pos S)) (axis_at m (pos S) (pos S))
last_width_is m p S = refl

-- four times this is the width of the point p at the sample k
abbrev pub spread_at : MoveOf → List ℤ → ℕ → ℤ
spread_at v p k = spread (offset_at v.sweep p (pos k) (pos (2 ^ v.depth))) (axis_at v.sweep (pos k) (pos (2 ^ v.depth)))

sure_of : (v : MoveOf) (p : List ℤ) (slabs : List SlabSize) → slabs ≡ inner_stack v.cutter v.slabs → held_at_sample slabs v.sweep p (2 ^ v.depth) ≡ true → is_sure_by v.cutter v.slabs v.sweep p (2 ^ v.depth) ≡ true
unfolding is_sure_by
sure_of v p slabs e held = subst (λ l. held_at_sample l v.sweep p (2 ^ v.depth) ≡ true) e held

pub is_removed : (v : MoveOf) (p : List ℤ) (k : ℕ) (slabs : List SlabSize) (u n : ℤ) → k ≤ 2 ^ v.depth → slabs ≡ inner_stack v.cutter v.slabs
    → (is_sure_by v.cutter v.slabs v.sweep p (2 ^ v.depth) ≡ true → is_possible_by v.cutter v.slabs v.sweep p (2 ^ v.depth) ≡ true)
    → u ≡ sample_u v p k → n ≡ sample_n v k → some_covers (pos (2 ^ v.depth)) u n (spread_at v p k) slabs ≡ true → IsRemovedBy v p
is_removed v p k slabs u n within e both eu en held =
    let S = 2 ^ v.depth in
    let there : some_holds slabs v.sweep p k S ≡ true = ap₂ (λ x y. some_covers (pos S) x y (spread_at v p k) slabs) (sym eu) (sym en) ∙ held in
    let sure = sure_of v p slabs e (found_below (λ i. some_holds slabs v.sweep p i S) (S + 1) k (omega (arith, within)) there) in
    record { sure = sure; possible = both sure }
