use Rattle.std.proofs.Common.{pos, ◌∙◌}
use Rattle.wanted_marks.proofs.Stepping.{product_is}
use Rattle.wanted_marks.proofs.line.Line.between.Goals as goal

pub returns : goal.returns
returns c =
    let P = c.args.from.now in let Q = c.args.to.now in let v = c.args.way.now in let A = c.args.a.now in let C = c.args.c.now in
    let x = c.between-origin.result in let y = c.between-step.result in let o = c.between-origin.ensures in let s = c.between-step.ensures in record {
      constant_is = c.four_squares.ensures ∙ product_is (pos 4) x.start x.middle x.end x.start x.middle x.end P Q P Q A C o.start o.middle o.end o.start o.middle o.end;
      first_is = c.eight_products.ensures ∙ product_is (pos 8) x.start x.middle x.end y.start y.middle y.end P Q v v A C o.start o.middle o.end s.start s.middle s.end;
      second_is = c.four_squares-2.ensures ∙ product_is (pos 4) y.start y.middle y.end y.start y.middle y.end v v v v A C s.start s.middle s.end s.start s.middle s.end;
      height_is = c.heights.ensures;
      height_step_is = c.heights-2.ensures;
    }
