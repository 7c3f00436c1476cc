use Rattle.std.proofs.Common.{◌≡◌, true, ◌+◌, ◌^◌, ℤ, pos, length, arith, subst, sym}
use Rattle.space.specs.Sweeps.{SweepOf}
use Rattle.std.proofs.lemmas.Int.{to_z-of_z}
use Rattle.space.specs.Reach.{is_in_reach}
use Rattle.cutter_slabs.specs.Stacks.{outer_stack, reach_of}
use Rattle.sweep_boxes.specs.Covers.{CoverParts, IsInSome}
use Rattle.sweep_boxes.specs.Intervals.{AreAsLarge, AreFrom}
use Rattle.sweep_boxes.proofs.Coarse.{left_part, on_ok, possible_parts}
use Rattle.space.proofs.Words.{fits32}
use Rattle.sweep_boxes.proofs.boxes.push_boxes.Goals as goal

pub returns-clause-covered : goal.returns-clause-covered
returns-clause-covered c p inside possible =
    let cutter = c.args.stacks.now.cutter in let n = c.args.stacks.now.slabs in let m = c.args.sweep.now in
    let outer = outer_stack cutter n in
    let parts = possible_parts cutter n m p (2 ^ c.args.depth) possible in
    let here = left_part outer m p c.level_of-level.result c.args.depth parts.1.0 c.level_of-level.ensures.deep parts.1.1 parts.1.2 in
    let large : AreAsLarge c.size_of-size.result.widest c.size_of-size.result.highest outer =
    subst (AreAsLarge c.size_of-size.result.widest c.size_of-size.result.highest) c.outer.ensures.stack c.size_of-size.ensures.large in
    let begin : AreFrom c.size_of-size.result.lowest outer = subst (AreFrom c.size_of-size.result.lowest) c.outer.ensures.stack c.size_of-size.ensures.from in
    let fits = fits32 c.reach.result c.reach.type_inv in
    let reached : is_in_reach c.reach.result c.sweep.inside.from c.sweep.inside.to p ≡ true =
    subst (λ (z : ℤ). is_in_reach z c.sweep.inside.from c.sweep.inside.to p ≡ true) (sym c.reach.ensures.value)
    (subst (λ (q : SweepOf). is_in_reach (pos (reach_of cutter)) q.from q.to p ≡ true) (sym c.sweep.view_is) parts.0) in
    let near = c.clip_to_reach-near.ensures.value p inside (simp to_z-of_z reached) in
    on_ok c.push_parts.result (CoverParts c.push_parts.new.boxes.items (length c.args.boxes.now.items) (2 ^ c.level_of-level.result) c.clip_to_reach-near.result outer m (2 ^ c.level_of-level.result))
    (IsInSome c.push_parts.new.boxes.items (length c.args.boxes.now.items) p)
    (λ cover. record {
      place = length c.args.boxes.now.items + here.part;
      after = omega arith;
      within = let long = cover.long in let within = here.within in omega (arith, long, within);
      inside = λ d. cover.each here.part p d here.within near here.left;
    })
    (c.push_parts.ensures.cover outer large begin)
