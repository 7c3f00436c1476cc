use Rattle.std.proofs.Common.{◌≡◌, ◌*◌, ◌+ℤ◌, arith, ap, ap₂, sym, ◌∙◌}
use mir.Syntax.{w128}
use Rattle.space.specs.Vectors.{at}
use Rattle.space.proofs.Reread.{back_of, small_back}
use Rattle.moment_forms.specs.Moments.{vector_product}
use Rattle.moment_forms.specs.Sizes.{moments_limit}
use Rattle.moment_forms.proofs.Fits.{all_fit, at_place, both_fit, both_within, small_within, squares_fit, squares_within, sum_fits, sum_is, sum_within, three_same}
use Rattle.moment_forms.proofs.moments.Moments.times.Goals as goal

pub product-requires : goal.product-requires
product-requires c = record { x = c.args.self.now.start_small; y = c.args.y.now.start_small }

pub product-requires-in-1 : goal.product-requires-in-1
product-requires-in-1 c = record { x = c.args.self.now.start_small; y = c.args.y.now.middle_small }

pub product-requires-in-1-2 : goal.product-requires-in-1-2
product-requires-in-1-2 c = record { x = c.args.self.now.middle_small; y = c.args.y.now.start_small }

pub product-requires-in-2 : goal.product-requires-in-2
product-requires-in-2 c = record { x = c.args.self.now.start_small; y = c.args.y.now.end_small }

pub product-requires-in-2-2 : goal.product-requires-in-2-2
product-requires-in-2-2 c = record { x = c.args.self.now.middle_small; y = c.args.y.now.middle_small }

pub product-requires-in-2-3 : goal.product-requires-in-2-3
product-requires-in-2-3 c = record { x = c.args.self.now.end_small; y = c.args.y.now.start_small }

pub product-requires-in-3 : goal.product-requires-in-3
product-requires-in-3 c = record { x = c.args.self.now.middle_small; y = c.args.y.now.end_small }

pub product-requires-in-3-2 : goal.product-requires-in-3-2
product-requires-in-3-2 c = record { x = c.args.self.now.end_small; y = c.args.y.now.middle_small }

pub product-requires-in_default : goal.product-requires-in_default
product-requires-in_default c = record { x = c.args.self.now.end_small; y = c.args.y.now.end_small }

pub three-requires : goal.three-requires
three-requires c =
    let n = 3 * (moments_limit * moments_limit) in record {
      x = small_back w128 c.product-in-2.result n squares_fit c.product-in-2.ensures.small;
      y = small_back w128 c.product-in-2-2.result n squares_fit c.product-in-2-2.ensures.small;
      z = small_back w128 c.product-in-2-3.result n squares_fit c.product-in-2-3.ensures.small;
    }

pub overflow_add-result : goal.overflow_add-result
overflow_add-result c =
    let p = c.product-in-1 in let q = c.product-in-1-2 in
    sum_fits w128 p.result q.result (3 * (moments_limit * moments_limit)) both_fit p.ensures.small q.ensures.small

pub overflow_add-result-in-3 : goal.overflow_add-result-in-3
overflow_add-result-in-3 c =
    let p = c.product-in-3 in let q = c.product-in-3-2 in
    sum_fits w128 p.result q.result (3 * (moments_limit * moments_limit)) both_fit p.ensures.small q.ensures.small

pub returns-in-0 : goal.returns-in-0
returns-in-0 c =
    let s = c.args.self.now in let t = c.args.y.now in let r = c.product in let n = moments_limit * moments_limit in record {
      value = at_place w128 r.result (vector_product s.start s.middle s.end t.start t.middle t.end) c.args.i 0 (3 * n) c.in-0.is squares_fit r.ensures.small r.ensures.value;
      small = small_within w128 r.result (3 * n) (9 * n) all_fit squares_within r.ensures.small;
    }

pub returns-in-1 : goal.returns-in-1
returns-in-1 c =
    let s = c.args.self.now in let t = c.args.y.now in let p = c.product-in-1 in let q = c.product-in-1-2 in let n = moments_limit * moments_limit in record {
      value = sum_is w128 p.result q.result (3 * n) both_fit p.ensures.small q.ensures.small
          ∙ ap₂ (λ a b. a +ℤ b) p.ensures.value q.ensures.value ∙ ap (λ k. at (vector_product s.start s.middle s.end t.start t.middle t.end) k) (sym c.in-1.is);
      small = sum_within w128 p.result q.result (3 * n) both_fit p.ensures.small q.ensures.small (9 * n) both_within;
    }

pub returns-in-2 : goal.returns-in-2
returns-in-2 c =
    let s = c.args.self.now in let t = c.args.y.now in let r = c.three in let n = moments_limit * moments_limit in
    let p = c.product-in-2 in let q = c.product-in-2-2 in let o = c.product-in-2-3 in record {
      value = back_of w128 r.result (9 * n) all_fit r.ensures.small ∙ r.ensures.value
          ∙ three_same _ _ _ _ _ _ (back_of w128 p.result (3 * n) squares_fit p.ensures.small ∙ p.ensures.value)
          (back_of w128 q.result (3 * n) squares_fit q.ensures.small ∙ q.ensures.value) (back_of w128 o.result (3 * n) squares_fit o.ensures.small ∙ o.ensures.value)
          ∙ ap (λ k. at (vector_product s.start s.middle s.end t.start t.middle t.end) k) (sym c.in-2.is);
      small = small_back w128 r.result (9 * n) all_fit r.ensures.small;
    }

pub returns-in-3 : goal.returns-in-3
returns-in-3 c =
    let s = c.args.self.now in let t = c.args.y.now in let p = c.product-in-3 in let q = c.product-in-3-2 in let n = moments_limit * moments_limit in record {
      value = sum_is w128 p.result q.result (3 * n) both_fit p.ensures.small q.ensures.small
          ∙ ap₂ (λ a b. a +ℤ b) p.ensures.value q.ensures.value ∙ ap (λ k. at (vector_product s.start s.middle s.end t.start t.middle t.end) k) (sym c.in-3.is);
      small = sum_within w128 p.result q.result (3 * n) both_fit p.ensures.small q.ensures.small (9 * n) both_within;
    }

pub returns-in_default : goal.returns-in_default
returns-in_default c =
    let s = c.args.self.now in let t = c.args.y.now in let r = c.product-in_default in let n = moments_limit * moments_limit in
    let last : c.args.i ≡ 4 = omega arith in record {
      value = at_place w128 r.result (vector_product s.start s.middle s.end t.start t.middle t.end) c.args.i 4 (3 * n) last squares_fit r.ensures.small r.ensures.value;
      small = small_within w128 r.result (3 * n) (9 * n) all_fit squares_within r.ensures.small;
    }
