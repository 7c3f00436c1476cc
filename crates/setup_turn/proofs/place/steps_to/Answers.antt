use Rattle.std.proofs.Common.{◌≡◌, ◌≤ℤ◌, ◌-ℤ◌, unsigned_abs, arith, rules, w32, FitsSigned}
use Rattle.std.proofs.lemmas.Int.{ints, to_z-of_z}
use Rattle.setup_turn.proofs.Steps.{not_whole, only_whole, whole_leads}
use Rattle.setup_turn.proofs.place.steps_to.Goals as goal

pub returns-then-gap-width-ne0 : goal.returns-then-gap-width-ne0
returns-then-gap-width-ne0 c n low is =
    let ahead : c.args.origin ≤ℤ c.args.place = omega (arith, ints) in
    let p = c.ranges.place in let o = c.ranges.origin in let w = c.ranges.width in
    let gap_fits : FitsSigned w32 (c.args.place -ℤ c.args.origin) = search rules in
    let gap : c.unsigned_abs-gap.result ≡ unsigned_abs (c.args.place -ℤ c.args.origin) = simp to_z-of_z at c.unsigned_abs-gap.ensures.value in
    let width : c.unsigned_abs-width.result ≡ unsigned_abs c.args.width = simp to_z-of_z at c.unsigned_abs-width.ensures.value in
    not_whole c.args.origin c.args.width c.args.place n c.unsigned_abs-gap.result c.unsigned_abs-width.result c.requires.width.from_least ahead gap width
    c.if-gap-width-ne0.true is

pub returns-then-steps-count : goal.returns-then-steps-count
returns-then-steps-count c =
    let ahead : c.args.origin ≤ℤ c.args.place = omega (arith, ints) in
    let p = c.ranges.place in let o = c.ranges.origin in let w = c.ranges.width in
    let gap_fits : FitsSigned w32 (c.args.place -ℤ c.args.origin) = search rules in
    let gap : c.unsigned_abs-gap.result ≡ unsigned_abs (c.args.place -ℤ c.args.origin) = simp to_z-of_z at c.unsigned_abs-gap.ensures.value in
    let width : c.unsigned_abs-width.result ≡ unsigned_abs c.args.width = simp to_z-of_z at c.unsigned_abs-width.ensures.value in (
      c.if-steps-count.true,
      whole_leads c.args.origin c.args.width c.args.place c.unsigned_abs-gap.result c.unsigned_abs-width.result c.requires.width.from_least ahead gap width
          c.if-gap-width-ne0.false,
    )

pub returns-else-steps-count : goal.returns-else-steps-count
returns-else-steps-count c n low is =
    let ahead : c.args.origin ≤ℤ c.args.place = omega (arith, ints) in
    let p = c.ranges.place in let o = c.ranges.origin in let w = c.ranges.width in
    let gap_fits : FitsSigned w32 (c.args.place -ℤ c.args.origin) = search rules in
    let gap : c.unsigned_abs-gap.result ≡ unsigned_abs (c.args.place -ℤ c.args.origin) = simp to_z-of_z at c.unsigned_abs-gap.ensures.value in
    let width : c.unsigned_abs-width.result ≡ unsigned_abs c.args.width = simp to_z-of_z at c.unsigned_abs-width.ensures.value in
    let past = c.if-steps-count.false in
    let only = only_whole c.args.origin c.args.width c.args.place n c.unsigned_abs-gap.result c.unsigned_abs-width.result c.requires.width.from_least ahead gap width
    c.if-gap-width-ne0.false is in
    omega (arith, low, past, only)
