use Rattle.std.proofs.Common.{◌≡◌, true, ◌≤◌, ◌<◌, ◌+◌, ◌^◌, ℕ, ℤ, List, pos, to_z, of_z, FitsSigned, arith, rules, subst, sym}
use mir.Syntax.{w32}
use Rattle.std.proofs.lemmas.Int.{to_z-of_z}
use Rattle.space.specs.Reach.{is_in_reach}
use Rattle.space.specs.Sweeps.{SweepOf}
use Rattle.bern_form.specs.Between.{is_unexcluded_between}
use Rattle.bern_form.specs.Slab.{SlabSize}
use Rattle.cutter_slabs.specs.Stacks.{outer_stack, reach_of}
use Rattle.sweep_boxes.specs.Intervals.{AreAsLarge, AreFrom}
use Rattle.sweep_boxes.specs.Limits.{most_level}
use Rattle.sweep_boxes.proofs.Coarse.{LeftPart, left_part, possible_parts}
use Rattle.space.proofs.Words.{fits32}
use Rattle.sweep_boxes.proofs.Words.{kept_place}
use Rattle.sweep_boxes.proofs.around.cylinder_of.Goals as goal

pub interval_of-interval-requires : goal.interval_of-interval-requires
interval_of-interval-requires c = record { level = none_deep; cell = first_cell } where
  none_deep : 0 ≤ most_level
  none_deep = omega arith

  first_cell : 0 < 2 ^ 0
  first_cell = omega arith

pub narrowed-closer-requires : goal.narrowed-closer-requires
narrowed-closer-requires c = record {
  widest = kept_place c.size_of-size.result.widest c.size_of-size.ensures.widest;
  highest = kept_place c.size_of-size.result.highest c.size_of-size.ensures.highest;
  lowest = kept_place c.size_of-size.result.lowest c.size_of-size.ensures.lowest;
  low = c.clip_to_reach-near.ensures.low;
  high = c.clip_to_reach-near.ensures.high;
}

pub bounds_in-bounds-requires : goal.bounds_in-bounds-requires
bounds_in-bounds-requires c = record {
  widest = c.size_of-size.ensures.widest;
  highest = c.size_of-size.ensures.highest;
  lowest = c.size_of-size.ensures.lowest;
  low = c.narrowed-closer.ensures.low;
  high = c.narrowed-closer.ensures.high;
}

pub side_bound_in-side_bound-requires : goal.side_bound_in-side_bound-requires
side_bound_in-side_bound-requires c = record { widest = c.size_of-size.ensures.widest; low = c.narrowed-closer.ensures.low; high = c.narrowed-closer.ensures.high }

pub bands_in-bands-requires-clause-low : goal.bands_in-bands-requires-clause-low
bands_in-bands-requires-clause-low c = c.narrowed-closer.ensures.low

pub bands_in-bands-requires-clause-high : goal.bands_in-bands-requires-clause-high
bands_in-bands-requires-clause-high c = c.narrowed-closer.ensures.high

-- of one part there is only the first
whole : (slabs : List SlabSize) (m : SweepOf) (p : List ℤ) → LeftPart slabs m p 0 → is_unexcluded_between slabs m p 0 (0 + 1) (2 ^ 0) ≡ true
whole slabs m p here =
    let within = here.within in let first : here.part ≡ 0 = omega (arith, within) in
    subst (λ (k : ℕ). is_unexcluded_between slabs m p k (k + 1) (2 ^ 0) ≡ true) first here.left

pub returns : goal.returns
returns c p depth inside possible =
    let cutter = c.args.stacks.now.cutter in let n = c.args.stacks.now.slabs in let m = c.args.sweep.now in
    let outer = outer_stack cutter n in
    let parts = possible_parts cutter n m p (2 ^ depth) possible in
    let left = whole outer m p (left_part outer m p 0 depth parts.1.0 (omega arith) parts.1.1 parts.1.2) in
    let large : AreAsLarge c.size_of-size.result.widest c.size_of-size.result.highest outer =
    subst (AreAsLarge c.size_of-size.result.widest c.size_of-size.result.highest) c.outer.ensures.stack c.size_of-size.ensures.large in
    let begin : AreFrom c.size_of-size.result.lowest outer = subst (AreFrom c.size_of-size.result.lowest) c.outer.ensures.stack c.size_of-size.ensures.from in
    let low : FitsSigned w32 c.size_of-size.result.lowest = search rules in
    let wide : FitsSigned w32 c.size_of-size.result.widest = search rules in
    let tall : FitsSigned w32 c.size_of-size.result.highest = search rules in
    let sizes : AreAsLarge (to_z w32 (of_z w32 c.size_of-size.result.widest)) (to_z w32 (of_z w32 c.size_of-size.result.highest)) outer = simp to_z-of_z large in
    let begins : AreFrom (to_z w32 (of_z w32 c.size_of-size.result.lowest)) outer = simp to_z-of_z begin in
    let fits = fits32 c.reach.result c.reach.type_inv in
    let reached : is_in_reach c.reach.result c.sweep.inside.from c.sweep.inside.to p ≡ true =
    subst (λ (z : ℤ). is_in_reach z c.sweep.inside.from c.sweep.inside.to p ≡ true) (sym c.reach.ensures.value)
    (subst (λ (q : SweepOf). is_in_reach (pos (reach_of cutter)) q.from q.to p ≡ true) (sym c.sweep.view_is) parts.0) in
    let near = c.clip_to_reach-near.ensures.value p inside (simp to_z-of_z reached) in
    let closer = c.narrowed-closer.ensures.kept m 0 (2 ^ 0) outer p c.interval_of-interval.ensures sizes begins near left in
    let held = c.bounds_in-bounds.ensures m 0 (2 ^ 0) outer p c.interval_of-interval.ensures large begin closer left in
    c.cylinder_about.ensures p held (c.side_bound_in-side_bound.ensures m 0 (2 ^ 0) outer p c.interval_of-interval.ensures large closer left)
    (c.bands_in-bands.ensures m 0 (2 ^ 0) p c.interval_of-interval.ensures closer (subst (λ (slabs : List SlabSize). is_unexcluded_between slabs m p 0 (0 + 1) (2 ^ 0) ≡ true) (sym c.outer-2.ensures.stack) left) held)
