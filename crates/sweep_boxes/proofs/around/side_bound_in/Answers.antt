use Rattle.std.proofs.lemmas.Int.{to_z-of_z}
use Rattle.sweep_boxes.proofs.Boxed.{among_of, beside_of}
use Rattle.sweep_boxes.proofs.Words.{kept_place, place_fits}
use Rattle.sweep_boxes.proofs.around.side_bound_in.Goals as goal

pub offset_from-low-requires : goal.offset_from-low-requires
offset_from-low-requires c = record { scale = c.args.interval.now.scaled.1; place = c.requires.low; tip = c.args.interval.now.tip_within }

pub offset_from-high-requires : goal.offset_from-high-requires
offset_from-high-requires c = record { scale = c.args.interval.now.scaled.1; place = c.requires.high; tip = c.args.interval.now.tip_within }

pub side_bound_of-requires : goal.side_bound_of-requires
side_bound_of-requires c = record {
  widest = kept_place c.args.size.now.widest c.requires.widest;
  low = c.offset_from-low.ensures.small;
  high = c.offset_from-high.ensures.small;
}

pub returns : goal.returns
returns c m k S slabs p of large inside left =
    let wide = place_fits c.args.size.now.widest c.requires.widest in
    let among = among_of c.args.interval.now m k S p c.args.region.now.low c.args.region.now.high c.offset_from-low.result c.offset_from-high.result of c.offset_from-low.ensures.value c.offset_from-high.ensures.value inside in
    beside_of c.args.interval.now m k S p c.side_bound_of.result.side c.side_bound_of.result.across of (c.side_bound_of.ensures m k S slabs p c.args.size.now.highest of (simp to_z-of_z large) among left)
