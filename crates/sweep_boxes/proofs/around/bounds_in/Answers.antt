use Rattle.std.proofs.lemmas.Int.{to_z-of_z}
use Rattle.sweep_boxes.proofs.Boxed.{among_of, held_of}
use Rattle.sweep_boxes.proofs.Words.{kept_place, place_fits}
use Rattle.sweep_boxes.proofs.around.bounds_in.Goals as goal

pub offset_from-low-requires : goal.offset_from-low-requires
offset_from-low-requires c = record { scale = c.args.interval.now.scaled.1; place = c.requires.low; tip = c.args.interval.now.tip_within }

pub offset_from-high-requires : goal.offset_from-high-requires
offset_from-high-requires c = record { scale = c.args.interval.now.scaled.1; place = c.requires.high; tip = c.args.interval.now.tip_within }

pub bounds_of-requires : goal.bounds_of-requires
bounds_of-requires c = record {
  widest = kept_place c.args.size.now.widest c.requires.widest;
  highest = kept_place c.args.size.now.highest c.requires.highest;
  lowest = kept_place c.args.size.now.lowest c.requires.lowest;
  low = c.offset_from-low.ensures.small;
  high = c.offset_from-high.ensures.small;
}

pub returns : goal.returns
returns c m k S slabs p of large begin inside left =
    let wide = place_fits c.args.size.now.widest c.requires.widest in
    let tall = place_fits c.args.size.now.highest c.requires.highest in
    let low = place_fits c.args.size.now.lowest c.requires.lowest in
    let among = among_of c.args.interval.now m k S p c.args.region.now.low c.args.region.now.high c.offset_from-low.result c.offset_from-high.result of c.offset_from-low.ensures.value c.offset_from-high.ensures.value inside in
    held_of c.args.interval.now m k S p c.bounds_of.result.least c.bounds_of.result.most c.bounds_of.result.moment of (c.bounds_of.ensures m k S slabs p of (simp to_z-of_z large) (simp to_z-of_z begin) among left)
