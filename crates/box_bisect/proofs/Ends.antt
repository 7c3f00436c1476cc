-- What a sample at an end of a stretch says of the slabs: its numbers are read again from their bits.
use Rattle.std.proofs.Common.{◌≡◌, ℕ, ◌*◌, List, ℤ, pos, ◌*ℤ◌, ◌-ℤ◌, to_z, of_z, arith, ap, ap₂, ◌∙◌}
use mir.Syntax.{w128}
use Rattle.space.specs.Vectors.{at}
use Rattle.bern_form.specs.Sizes.{IsBounded2, axis_limit, offset_limit}
use Rattle.bern_form.specs.Slab.{SlabSize}
use Rattle.box_bisect.specs.SlabTests.{is_held_with, some_covers}
use Rattle.space.proofs.Reread.{back_of}

-- by what the coefficients are at the end, and what the sample has
held_by : (i : ℕ) (slabs : List SlabSize) (S s : ℕ) (u n d : List ℤ) (x y w : ℤ)
    → to_z w128 (of_z w128 (at u i)) ≡ at u i → to_z w128 (of_z w128 (at n i)) ≡ at n i → to_z w128 (of_z w128 (at d i)) ≡ at d i
    → s ≡ S → x ≡ to_z w128 (of_z w128 (at u i)) → y ≡ to_z w128 (of_z w128 (at n i))
    → w ≡ to_z w128 (of_z w128 (at d i)) *ℤ to_z w128 (of_z w128 (at n i)) -ℤ to_z w128 (of_z w128 (at u i)) *ℤ to_z w128 (of_z w128 (at u i))
    → some_covers (pos s) x y w slabs ≡ is_held_with i slabs S u n d
held_by i slabs S s u n d x y w eu en ed es ex ey ew =
    let U = at u i in let N = at n i in
    ap (λ a. some_covers (pos a) x y w slabs) es
    ∙ ap (λ a. some_covers (pos S) a y w slabs) (ex ∙ eu)
    ∙ ap (λ a. some_covers (pos S) U a w slabs) (ey ∙ en)
    ∙ ap (λ a. some_covers (pos S) U N a slabs) (ew ∙ ap₂ (λ a b. a -ℤ b) (ap₂ (λ a b. a *ℤ b) ed en) (ap₂ (λ a b. a *ℤ b) eu eu))

-- at the first sample, and at the last
pub held_first : (slabs : List SlabSize) (S s : ℕ) (u n d : List ℤ) (x y w : ℤ)
    → IsBounded2 (3 * (offset_limit * axis_limit)) u → IsBounded2 (3 * (axis_limit * axis_limit)) n → IsBounded2 (3 * (offset_limit * offset_limit)) d
    → s ≡ S → x ≡ to_z w128 (of_z w128 (at u 0)) → y ≡ to_z w128 (of_z w128 (at n 0))
    → w ≡ to_z w128 (of_z w128 (at d 0)) *ℤ to_z w128 (of_z w128 (at n 0)) -ℤ to_z w128 (of_z w128 (at u 0)) *ℤ to_z w128 (of_z w128 (at u 0))
    → some_covers (pos s) x y w slabs ≡ is_held_with 0 slabs S u n d
held_first slabs S s u n d x y w bu bn bd es ex ey ew =
    held_by 0 slabs S s u n d x y w (back_of w128 (at u 0) _ (omega arith) bu.first) (back_of w128 (at n 0) _ (omega arith) bn.first) (back_of w128 (at d 0) _ (omega arith) bd.first) es ex ey ew

pub held_last : (slabs : List SlabSize) (S s : ℕ) (u n d : List ℤ) (x y w : ℤ)
    → IsBounded2 (3 * (offset_limit * axis_limit)) u → IsBounded2 (3 * (axis_limit * axis_limit)) n → IsBounded2 (3 * (offset_limit * offset_limit)) d
    → s ≡ S → x ≡ to_z w128 (of_z w128 (at u 2)) → y ≡ to_z w128 (of_z w128 (at n 2))
    → w ≡ to_z w128 (of_z w128 (at d 2)) *ℤ to_z w128 (of_z w128 (at n 2)) -ℤ to_z w128 (of_z w128 (at u 2)) *ℤ to_z w128 (of_z w128 (at u 2))
    → some_covers (pos s) x y w slabs ≡ is_held_with 2 slabs S u n d
held_last slabs S s u n d x y w bu bn bd es ex ey ew =
    held_by 2 slabs S s u n d x y w (back_of w128 (at u 2) _ (omega arith) bu.last) (back_of w128 (at n 2) _ (omega arith) bn.last) (back_of w128 (at d 2) _ (omega arith) bd.last) es ex ey ew
