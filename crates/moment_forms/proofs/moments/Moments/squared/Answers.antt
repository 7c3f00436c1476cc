use Rattle.std.proofs.Common.{◌≡◌, ◌*◌, arith}
use mir.Syntax.{w128}
use Rattle.space.proofs.Reread.{small_back}
use Rattle.moment_forms.specs.Moments.{vector_product}
use Rattle.moment_forms.specs.Sizes.{moments_limit}
use Rattle.moment_forms.proofs.Fits.{all_fit, at_place, both_fit, both_within, small_within, squares_fit, squares_within}
use Rattle.moment_forms.proofs.moments.Moments.squared.Goals as goal

pub product-requires : goal.product-requires
product-requires c = let s = c.args.self.now in record { x = s.start_small; y = s.start_small }

pub both_ways-requires : goal.both_ways-requires
both_ways-requires c = let s = c.args.self.now in record { x = s.start_small; y = s.middle_small }

pub middle_squared-requires : goal.middle_squared-requires
middle_squared-requires c = let s = c.args.self.now in record { x = s.start_small; y = s.middle_small; z = s.end_small }

pub both_ways-requires-in-3 : goal.both_ways-requires-in-3
both_ways-requires-in-3 c = let s = c.args.self.now in record { x = s.middle_small; y = s.end_small }

pub product-requires-in_default : goal.product-requires-in_default
product-requires-in_default c = let s = c.args.self.now in record { x = s.end_small; y = s.end_small }

pub returns-in-0 : goal.returns-in-0
returns-in-0 c =
    let s = c.args.self.now in let r = c.product in let n = moments_limit * moments_limit in record {
      value = at_place w128 r.result (vector_product s.start s.middle s.end s.start s.middle s.end) c.args.i 0 (3 * n) c.in-0.is squares_fit r.ensures.small r.ensures.value;
      small = small_within w128 r.result (3 * n) (9 * n) all_fit squares_within r.ensures.small;
    }

pub returns-in-1 : goal.returns-in-1
returns-in-1 c =
    let s = c.args.self.now in let r = c.both_ways in let n = moments_limit * moments_limit in record {
      value = at_place w128 r.result (vector_product s.start s.middle s.end s.start s.middle s.end) c.args.i 1 (6 * n) c.in-1.is both_fit r.ensures.small r.ensures.value;
      small = small_within w128 r.result (6 * n) (9 * n) all_fit both_within r.ensures.small;
    }

pub returns-in-2 : goal.returns-in-2
returns-in-2 c =
    let s = c.args.self.now in let r = c.middle_squared in let n = moments_limit * moments_limit in record {
      value = at_place w128 r.result (vector_product s.start s.middle s.end s.start s.middle s.end) c.args.i 2 (9 * n) c.in-2.is all_fit r.ensures.small r.ensures.value;
      small = small_back w128 r.result (9 * n) all_fit r.ensures.small;
    }

pub returns-in-3 : goal.returns-in-3
returns-in-3 c =
    let s = c.args.self.now in let r = c.both_ways-in-3 in let n = moments_limit * moments_limit in record {
      value = at_place w128 r.result (vector_product s.start s.middle s.end s.start s.middle s.end) c.args.i 3 (6 * n) c.in-3.is both_fit r.ensures.small r.ensures.value;
      small = small_within w128 r.result (6 * n) (9 * n) all_fit both_within r.ensures.small;
    }

pub returns-in_default : goal.returns-in_default
returns-in_default c =
    let s = c.args.self.now in let r = c.product-in_default in let n = moments_limit * moments_limit in
    let last : c.args.i ≡ 4 = omega arith in record {
      value = at_place w128 r.result (vector_product s.start s.middle s.end s.start s.middle s.end) c.args.i 4 (3 * n) last squares_fit r.ensures.small r.ensures.value;
      small = small_within w128 r.result (3 * n) (9 * n) all_fit squares_within r.ensures.small;
    }
