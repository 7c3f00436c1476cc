use Rattle.sweep_boxes.specs.Intervals.{middle_offset}
use Rattle.sweep_boxes.proofs.Boxed.{among_of}
use Rattle.sweep_boxes.proofs.around.bands_in.Goals as goal

pub offset_from-low-requires : goal.offset_from-low-requires
offset_from-low-requires c = record { scale = c.args.interval.now.scaled.1; place = c.requires.low; tip = c.args.interval.now.tip_within }

pub offset_from-high-requires : goal.offset_from-high-requires
offset_from-high-requires c = record { scale = c.args.interval.now.scaled.1; place = c.requires.high; tip = c.args.interval.now.tip_within }

pub farthest-requires : goal.farthest-requires
farthest-requires c = record { low = c.offset_from-low.ensures.small; high = c.offset_from-high.ensures.small }

pub bands_of-requires : goal.bands_of-requires
bands_of-requires c = record { rising = c.requires.rising; side = c.args.side_bound.now.side_within; far = c.farthest.ensures.small }

pub returns : goal.returns
returns c m k S p of inside left held =
    let among = among_of c.args.interval.now m k S p c.args.region.now.low c.args.region.now.high c.offset_from-low.result c.offset_from-high.result of c.offset_from-low.ensures.value c.offset_from-high.ensures.value inside in
    c.bands_of.ensures m k S p of (c.farthest.ensures.value (middle_offset m p k S) among) left held
