use Rattle.std.proofs.Common.{◌≡◌, ◌≤◌, ◌≤ℤ◌, ◌*ℤ◌, ◌*◌, ℕ, ℤ, pos, unsigned_abs, arith, subst}
use Rattle.std.proofs.lemmas.Int.{to_z-of_z}
use Rattle.sweep_boxes.specs.Limits.{place_limit}
use Rattle.sweep_boxes.proofs.Numbers.{radius_fits}
use Rattle.space.proofs.Words.{fits_of, kept_small, kept_some, small32_in}
use Rattle.sweep_boxes.proofs.bounds.radius.Goals as goal

small_as : (scale : ℕ) (x : ℤ) → scale ≤ 256 → unsigned_abs x ≤ scale * place_limit → unsigned_abs x ≤ 256 * place_limit
small_as scale x h k = omega (arith, h, k)

pub weighted-scaled-requires : goal.weighted-scaled-requires
weighted-scaled-requires c = record { weight = c.requires.scale; place = small32_in c.args.length _ c.ranges.length c.requires.length }

pub overflow_mul-scaled : goal.overflow_mul-scaled
overflow_mul-scaled c =
    let scaled = c.weighted-scaled in let x = fits_of scaled.result scaled.type_inv in
    let f = radius_fits scaled.result c.args.longest (small_as c.args.scale scaled.result c.requires.scale scaled.ensures.small) c.requires.some c.requires.few in
    simp to_z-of_z f.square

pub overflow_mul-scaled-2 : goal.overflow_mul-scaled-2
overflow_mul-scaled-2 c =
    let scaled = c.weighted-scaled in let x = fits_of scaled.result scaled.type_inv in let n = c.ranges.longest in
    let f = radius_fits scaled.result c.args.longest (small_as c.args.scale scaled.result c.requires.scale scaled.ensures.small) c.requires.some c.requires.few in
    let square = f.square in
    simp to_z-of_z f.whole

pub root_up-requires : goal.root_up-requires
root_up-requires c =
    let scaled = c.weighted-scaled in let x = fits_of scaled.result scaled.type_inv in let n = c.ranges.longest in
    let f = radius_fits scaled.result c.args.longest (small_as c.args.scale scaled.result c.requires.scale scaled.ensures.small) c.requires.some c.requires.few in
    let square = f.square in let whole = f.whole in
    record { some = simp to_z-of_z f.some; small = simp to_z-of_z f.small }

pub returns : goal.returns
returns c =
    let scaled = c.weighted-scaled in let root = c.root_up in
    let x = fits_of scaled.result scaled.type_inv in let r = fits_of root.result root.type_inv in let n = c.ranges.longest in let l = c.ranges.length in
    let f = radius_fits scaled.result c.args.longest (small_as c.args.scale scaled.result c.requires.scale scaled.ensures.small) c.requires.some c.requires.few in
    let square = f.square in let whole = f.whole in
    let value : ((scaled.result *ℤ scaled.result) *ℤ c.args.longest) ≤ℤ (root.result *ℤ root.result) = simp to_z-of_z at root.ensures.value in
    let is : scaled.result ≡ pos c.args.scale *ℤ c.args.length = simp to_z-of_z at scaled.ensures.value in
    record {
      value = simp to_z-of_z (subst (λ (z : ℤ). ((z *ℤ z) *ℤ c.args.longest) ≤ℤ (root.result *ℤ root.result)) is value);
      some = kept_some root.result root.type_inv root.ensures.some;
      small = kept_small root.result _ root.type_inv root.ensures.small;
    }
