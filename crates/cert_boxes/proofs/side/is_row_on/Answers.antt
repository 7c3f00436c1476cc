use Rattle.std.proofs.Common.{pos, ◌&&◌, ◌<◌, ◌*◌, ◌^◌, int_lt, arith, ap, sym, ◌∙◌}
use Rattle.std.proofs.lemmas.Int.{to_z-of_z}
use mir.Syntax.{w128}
use mir.Val.{hbits}
use Rattle.space.proofs.Reread.{product_is}
use Rattle.cert_boxes.specs.Sides.{is_row_on, limit_bound}
use Rattle.cert_boxes.proofs.BoxRows.{row_above, row_below}
use Rattle.cert_boxes.proofs.side.is_row_on.Goals as goal

twice_fits : 2 * limit_bound < 2 ^ hbits w128
twice_fits = omega arith

pub returns-in-Below : goal.returns-in-Below
returns-in-Below c =
    let f = to_z-of_z w128 c.args.first c.ranges.first in let m = to_z-of_z w128 c.args.middle c.ranges.middle in let l = to_z-of_z w128 c.args.last c.ranges.last in
    let o = to_z-of_z w128 c.args.once c.ranges.once in
    let t = product_is w128 (pos 2) c.args.once 2 limit_bound record { sfits = omega arith } c.ranges.once (omega arith) c.requires twice_fits in
    (λ i. ((int_lt (f i) (o i) && int_lt (m i) (t i)) && int_lt (l i) (o i))) ∙ row_below c.args.first c.args.middle c.args.last c.args.once
    ∙ ap (λ s. is_row_on s c.args.first c.args.middle c.args.last c.args.once) (sym c.in-Below.is)

pub returns-in-Above : goal.returns-in-Above
returns-in-Above c =
    let f = to_z-of_z w128 c.args.first c.ranges.first in let m = to_z-of_z w128 c.args.middle c.ranges.middle in let l = to_z-of_z w128 c.args.last c.ranges.last in
    let o = to_z-of_z w128 c.args.once c.ranges.once in
    let t = product_is w128 (pos 2) c.args.once 2 limit_bound record { sfits = omega arith } c.ranges.once (omega arith) c.requires twice_fits in
    (λ i. ((int_lt (o i) (f i) && int_lt (t i) (m i)) && int_lt (o i) (l i))) ∙ row_above c.args.first c.args.middle c.args.last c.args.once
    ∙ ap (λ s. is_row_on s c.args.first c.args.middle c.args.last c.args.once) (sym c.in-Above.is)
