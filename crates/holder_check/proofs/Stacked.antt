-- A holder as a cutter of its own has one slab in either stack, and the holder's reach.
use Rattle.std.proofs.Common.{◌≡◌, ℕ, ◌+◌, ◌*◌, ◌-◌, ◌<◌, ℤ, pos, List, [], ◌∷◌, ◌++◌, arith, zero-add, refl, ap, ◌∙◌}
use Rattle.std.proofs.lemmas.Int.{ints}
use Rattle.space.specs.Sweeps.{SweepOf}
use Rattle.bern_form.specs.Marks.{held_at_sample, is_possible_with}
use Rattle.bern_form.specs.Roots.{ceil_root, floor_root}
use Rattle.cutter_slabs.specs.Cutter.{CutterSize, flat_of}
use Rattle.cutter_slabs.specs.Stacks.{bound_of, inner_stack, outer_stack, reach_of, slab_of, top_slab}
use Rattle.cutter_slabs.proofs.Bounds.{bound_of-none}
use Rattle.cutter_slabs.proofs.Slabs.{no_slabs}
use Rattle.cutter_slabs.proofs.Widening.{upright_top}
use Rattle.holder_check.specs.Above.{HolderSize, holder_cutter, slab_above}
use Rattle.holder_check.specs.Holder.{holder_reach, is_holder_possible, is_holder_sure}
use Rattle.holder_check.proofs.Slabs.{held_alone, possible_alone}

top_is : (holder : HolderSize) (cutter : CutterSize) → top_slab (holder_cutter holder cutter) ≡ slab_above holder cutter
top_is holder cutter = ap (λ lo. slab_of lo (cutter.h + holder.length) holder.diameter) (zero-add cutter.h)

pub inner_alone : (holder : HolderSize) (cutter : CutterSize) (n : ℕ) → 0 < n → inner_stack (holder_cutter holder cutter) n ≡ slab_above holder cutter ∷ []
inner_alone holder cutter n some =
    let c = holder_cutter holder cutter in let z = bound_of 0 n in
    ap (λ slabs. slabs ++ top_slab c ∷ [])
    (no_slabs z (λ j. flat_of c + 2 * floor_root (2 * c.r * z j - z j * z j)) 0 n (λ j. let e = bound_of-none 0 n (j + 1) refl some in omega (arith, e)))
    ∙ ap (λ slab. slab ∷ []) (top_is holder cutter)

pub outer_alone : (holder : HolderSize) (cutter : CutterSize) (n : ℕ) → 0 < n → outer_stack (holder_cutter holder cutter) n ≡ slab_above holder cutter ∷ []
outer_alone holder cutter n some =
    let c = holder_cutter holder cutter in let z = bound_of 0 n in
    ap (λ slabs. slabs ++ top_slab c ∷ [])
    (no_slabs z (λ j. flat_of c + 2 * ceil_root (2 * c.r * z (j + 1) - z (j + 1) * z (j + 1))) 0 n
    (λ j. let e = bound_of-none 0 n (j + 1) refl some in omega (arith, e)))
    ∙ ap (λ slab. slab ∷ []) (top_is holder cutter)

pub reach_is : (holder : HolderSize) (cutter : CutterSize) → pos (reach_of (holder_cutter holder cutter)) ≡ holder_reach (slab_above holder cutter)
reach_is holder cutter =
    let high = cutter.h + holder.length in let top = upright_top holder.diameter high in omega (arith, ints, top)

-- so its marks are those of the holder
pub held_by_holder : (holder : HolderSize) (cutter : CutterSize) (n : ℕ) (m : SweepOf) (p : List ℤ) (S : ℕ) → 0 < n
    → held_at_sample (inner_stack (holder_cutter holder cutter) n) m p S ≡ is_holder_sure (slab_above holder cutter) m p S
held_by_holder holder cutter n m p S some =
    ap (λ slabs. held_at_sample slabs m p S) (inner_alone holder cutter n some) ∙ held_alone (slab_above holder cutter) m p S

pub possible_by_holder : (holder : HolderSize) (cutter : CutterSize) (n : ℕ) (m : SweepOf) (p : List ℤ) (S : ℕ) → 0 < n
    → is_possible_with (outer_stack (holder_cutter holder cutter) n) (pos (reach_of (holder_cutter holder cutter))) m p S
    ≡ is_holder_possible (slab_above holder cutter) m p S
possible_by_holder holder cutter n m p S some =
    ap (λ slabs. is_possible_with slabs (pos (reach_of (holder_cutter holder cutter))) m p S) (outer_alone holder cutter n some)
    ∙ ap (λ reach. is_possible_with (slab_above holder cutter ∷ []) reach m p S) (reach_is holder cutter)
    ∙ possible_alone (slab_above holder cutter) m p S
