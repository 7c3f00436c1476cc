use Rattle.std.proofs.Common.{arith}
use Rattle.space.proofs.Words.{kept_small}
use Rattle.sweep_boxes.proofs.side_direction.side_direction_of.Goals as goal

pub dot-square-requires : goal.dot-square-requires
dot-square-requires c = record { p = c.args.interval.now.axis_within; a = c.args.interval.now.axis_within }

pub dot-along-requires : goal.dot-along-requires
dot-along-requires c = record { p = c.args.interval.now.offset_change_within; a = c.args.interval.now.axis_within }

pub across_along-x-requires : goal.across_along-x-requires
across_along-x-requires c = record {
  i = omega arith;
  square = kept_small c.dot-square.result _ c.dot-square.type_inv c.dot-square.ensures.small;
  along = kept_small c.dot-along.result _ c.dot-along.type_inv c.dot-along.ensures.small;
}

pub across_along-y-requires : goal.across_along-y-requires
across_along-y-requires c = record {
  i = omega arith;
  square = kept_small c.dot-square.result _ c.dot-square.type_inv c.dot-square.ensures.small;
  along = kept_small c.dot-along.result _ c.dot-along.type_inv c.dot-along.ensures.small;
}

pub across_along-z-requires : goal.across_along-z-requires
across_along-z-requires c = record {
  i = omega arith;
  square = kept_small c.dot-square.result _ c.dot-square.type_inv c.dot-square.ensures.small;
  along = kept_small c.dot-along.result _ c.dot-along.type_inv c.dot-along.ensures.small;
}

pub size-requires : goal.size-requires
size-requires c = kept_small c.across_along-x.result _ c.across_along-x.type_inv c.across_along-x.ensures

pub size-requires-2 : goal.size-requires-2
size-requires-2 c = kept_small c.across_along-y.result _ c.across_along-y.type_inv c.across_along-y.ensures

pub size-requires-3 : goal.size-requires-3
size-requires-3 c = kept_small c.across_along-z.result _ c.across_along-z.type_inv c.across_along-z.ensures

pub greater-requires : goal.greater-requires
greater-requires c = record {
  a = kept_small c.size-2.result _ c.size-2.type_inv c.size-2.ensures;
  b = kept_small c.size-3.result _ c.size-3.type_inv c.size-3.ensures;
}

pub greater-most-requires : goal.greater-most-requires
greater-most-requires c = record {
  a = kept_small c.size.result _ c.size.type_inv c.size.ensures;
  b = kept_small c.greater.result _ c.greater.type_inv c.greater.ensures;
}

pub eighths-requires : goal.eighths-requires
eighths-requires c = record {
  part = kept_small c.across_along-x.result _ c.across_along-x.type_inv c.across_along-x.ensures;
  most = kept_small c.greater-most.result _ c.greater-most.type_inv c.greater-most.ensures;
}

pub eighths-requires-2 : goal.eighths-requires-2
eighths-requires-2 c = record {
  part = kept_small c.across_along-y.result _ c.across_along-y.type_inv c.across_along-y.ensures;
  most = kept_small c.greater-most.result _ c.greater-most.type_inv c.greater-most.ensures;
}

pub eighths-requires-3 : goal.eighths-requires-3
eighths-requires-3 c = record {
  part = kept_small c.across_along-z.result _ c.across_along-z.type_inv c.across_along-z.ensures;
  most = kept_small c.greater-most.result _ c.greater-most.type_inv c.greater-most.ensures;
}

pub returns : goal.returns
returns c = (
  kept_small c.eighths.result _ c.eighths.type_inv c.eighths.ensures,
  kept_small c.eighths-2.result _ c.eighths-2.type_inv c.eighths-2.ensures,
  kept_small c.eighths-3.result _ c.eighths-3.type_inv c.eighths-3.ensures,
)
