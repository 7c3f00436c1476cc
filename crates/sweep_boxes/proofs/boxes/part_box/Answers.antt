use Rattle.std.proofs.Common.{◌^◌, to_z, of_z, FitsSigned, rules}
use Rattle.std.proofs.lemmas.Int.{to_z-of_z}
use mir.Syntax.{w32}
use Rattle.sweep_boxes.specs.Intervals.{AreAsLarge, AreFrom}
use Rattle.sweep_boxes.proofs.Words.{kept_place}
use Rattle.sweep_boxes.proofs.boxes.part_box.Goals as goal

pub interval_of-interval-requires : goal.interval_of-interval-requires
interval_of-interval-requires c = record { level = c.requires.level; cell = c.requires.cell }

pub narrowed-once-requires : goal.narrowed-once-requires
narrowed-once-requires c = record {
  widest = kept_place c.args.size.now.widest c.requires.widest;
  highest = kept_place c.args.size.now.highest c.requires.highest;
  lowest = kept_place c.args.size.now.lowest c.requires.lowest;
  low = c.requires.low;
  high = c.requires.high;
}

pub narrowed-requires : goal.narrowed-requires
narrowed-requires c = record {
  widest = kept_place c.args.size.now.widest c.requires.widest;
  highest = kept_place c.args.size.now.highest c.requires.highest;
  lowest = kept_place c.args.size.now.lowest c.requires.lowest;
  low = c.narrowed-once.ensures.low;
  high = c.narrowed-once.ensures.high;
}

pub returns-clause-kept : goal.returns-clause-kept
returns-clause-kept c slabs p large begin inside left =
    let wide : FitsSigned w32 c.args.size.now.widest = search rules in let tall : FitsSigned w32 c.args.size.now.highest = search rules in
    let size : AreAsLarge (to_z w32 (of_z w32 c.args.size.now.widest)) (to_z w32 (of_z w32 c.args.size.now.highest)) slabs = simp to_z-of_z large in
    let low : FitsSigned w32 c.args.size.now.lowest = search rules in
    let begins : AreFrom (to_z w32 (of_z w32 c.args.size.now.lowest)) slabs = simp to_z-of_z begin in
    let m = c.args.sweep.now in let k = c.args.cell in let S = 2 ^ c.args.level in
    let once = c.narrowed-once.ensures.kept m k S slabs p c.interval_of-interval.ensures size begins inside left in
    c.narrowed.ensures.kept m k S slabs p c.interval_of-interval.ensures size begins once left

pub returns-clause-within : goal.returns-clause-within
returns-clause-within c p inside = c.narrowed-once.ensures.within p (c.narrowed.ensures.within p inside)
