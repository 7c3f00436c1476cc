use Rattle.std.proofs.Common.{◌≡◌, ℤ, pos, ◌-ℤ◌, FitsSigned, true, false, int_lt, to_z, of_z, ap, subst, sym}
use mir.Syntax.{w64}
use Rattle.space.proofs.Tests.{decides_lt}
use Rattle.near_points.specs.Limits.{moment_limit}
use Rattle.near_points.proofs.Bits.{as_bits, moment_bits, moment_fits, small_fits}
use Rattle.near_points.proofs.Trimming.{not_less}
use Rattle.near_points.proofs.Widened.{AreEnds, IsLeastOf, ends, least_about, least_above, least_below}
use Rattle.near_points.proofs.wide.least_size.Goals as goal

-- both are positive
ends_above : (c : goal.Then-low-gt0) → AreEnds c.args.a c.args.b c.min-low.result c.max-high.result
ends_above c =
    let low = c.min-low in let high = c.max-high in
    ends c.args.a c.args.b _ _ low.result high.result c.requires.a c.requires.b (moment_bits c.args.a c.requires.a) (moment_bits c.args.b c.requires.b)
    low.ensures.value high.ensures.value low.ensures.self_bound high.ensures.self_bound

above : (c : goal.Then-low-gt0) → IsLeastOf c.args.a c.args.b (to_z w64 (of_z w64 c.min-low.result))
above c =
    let low = c.min-low.result in let are = ends_above c in let bits = moment_bits low are.low_small in
    let some = (decides_lt (pos 0) low).0 (subst (λ (z : ℤ). int_lt (pos 0) z ≡ true) bits c.if-low-gt0.true) in
    subst (IsLeastOf c.args.a c.args.b) (sym bits) (are.least low (least_above low c.max-high.result are.order some are.low_small))

pub returns-then-low-gt0-clause-least : goal.returns-then-low-gt0-clause-least
returns-then-low-gt0-clause-least c = (above c).least

pub returns-then-low-gt0-clause-most : goal.returns-then-low-gt0-clause-most
returns-then-low-gt0-clause-most c = (above c).most

pub returns-then-low-gt0-clause-small : goal.returns-then-low-gt0-clause-small
returns-then-low-gt0-clause-small c = (above c).small

-- both are negative
ends_below : (c : goal.Then-high-lt0) → AreEnds c.args.a c.args.b c.min-low.result c.max-high.result
ends_below c =
    let low = c.min-low in let high = c.max-high in
    ends c.args.a c.args.b _ _ low.result high.result c.requires.a c.requires.b (moment_bits c.args.a c.requires.a) (moment_bits c.args.b c.requires.b)
    low.ensures.value high.ensures.value low.ensures.self_bound high.ensures.self_bound

ray_axis_first : (c : goal.Then-high-lt0) → pos 0 -ℤ to_z w64 (of_z w64 c.max-high.result) ≡ pos 0 -ℤ c.max-high.result
ray_axis_first c = ap (λ z. pos 0 -ℤ z) (moment_bits c.max-high.result (ends_below c).high_small)

below : (c : goal.Then-high-lt0) → IsLeastOf c.min-low.result c.max-high.result (pos 0 -ℤ c.max-high.result)
below c =
    let high = c.max-high.result in let are = ends_below c in let bits = moment_bits high are.high_small in
    let none = (decides_lt high (pos 0)).0 (subst (λ (z : ℤ). int_lt z (pos 0) ≡ true) bits c.if-high-lt0.true) in
    least_below c.min-low.result high are.order none are.high_small

fits : (c : goal.Then-high-lt0) → FitsSigned w64 (pos 0 -ℤ c.max-high.result)
fits c = small_fits moment_limit (pos 0 -ℤ c.max-high.result) moment_fits (below c).small

pub overflow_sub-result : goal.overflow_sub-result
overflow_sub-result c = subst (FitsSigned w64) (sym (ray_axis_first c)) (fits c)

told_below : (c : goal.Then-high-lt0) → IsLeastOf c.args.a c.args.b (to_z w64 (of_z w64 (pos 0 -ℤ to_z w64 (of_z w64 c.max-high.result))))
told_below c =
    subst (IsLeastOf c.args.a c.args.b) (sym (as_bits w64 _ (pos 0 -ℤ c.max-high.result) (ray_axis_first c) (fits c)))
    ((ends_below c).least (pos 0 -ℤ c.max-high.result) (below c))

pub returns-then-high-lt0-clause-least : goal.returns-then-high-lt0-clause-least
returns-then-high-lt0-clause-least c = (told_below c).least

pub returns-then-high-lt0-clause-most : goal.returns-then-high-lt0-clause-most
returns-then-high-lt0-clause-most c = (told_below c).most

pub returns-then-high-lt0-clause-small : goal.returns-then-high-lt0-clause-small
returns-then-high-lt0-clause-small c = (told_below c).small

-- zero lies between them
ends_about : (c : goal.Else-high-lt0) → AreEnds c.args.a c.args.b c.min-low.result c.max-high.result
ends_about c =
    let low = c.min-low in let high = c.max-high in
    ends c.args.a c.args.b _ _ low.result high.result c.requires.a c.requires.b (moment_bits c.args.a c.requires.a) (moment_bits c.args.b c.requires.b)
    low.ensures.value high.ensures.value low.ensures.self_bound high.ensures.self_bound

about : (c : goal.Else-high-lt0) → IsLeastOf c.args.a c.args.b (pos 0)
about c =
    let low = c.min-low.result in let high = c.max-high.result in let are = ends_about c in
    let under = not_less (pos 0) low (subst (λ (z : ℤ). int_lt (pos 0) z ≡ false) (moment_bits low are.low_small) c.if-low-gt0.false) in
    let over = not_less high (pos 0) (subst (λ (z : ℤ). int_lt z (pos 0) ≡ false) (moment_bits high are.high_small) c.if-high-lt0.false) in
    are.least (pos 0) (least_about low high under over)

pub returns-else-high-lt0-clause-least : goal.returns-else-high-lt0-clause-least
returns-else-high-lt0-clause-least c = (about c).least

pub returns-else-high-lt0-clause-most : goal.returns-else-high-lt0-clause-most
returns-else-high-lt0-clause-most c = (about c).most

pub returns-else-high-lt0-clause-small : goal.returns-else-high-lt0-clause-small
returns-else-high-lt0-clause-small c = (about c).small
