use Rattle.std.proofs.Common.{◌≡◌, ◌+◌, ◌^◌, pos, ap, ap₂, subst, ◌∙◌}
use Rattle.space.specs.Sweeps.{axis_at, offset_at}
use Rattle.bern_form.specs.Between.{n_between}
use Rattle.bern_form.specs.Cells.{dot_on_cell}
use Rattle.wanted_marks.specs.Lines.{IsThroughBetween}
use Rattle.wanted_marks.specs.Ways.{scaled_way}
use Rattle.wanted_marks.proofs.Stepping.{line_as}
use Rattle.wanted_marks.proofs.on_stretch.StretchLine.through.Goals as goal

pub returns : goal.returns
returns c =
    let s = c.args.stretch.now in let m = c.args.sweep.now in let S = c.args.scale in let o = c.args.start.now in
    let from = c.at_sample-from in let to = c.at_sample-to in let way = c.scaled_way-way in let line = c.between.result in
    let v = scaled_way (pos S) o c.args.next.now in let j = s.first in let k = s.first + c.cells_of.result in
    let end : k ≡ s.first + 2 ^ s.levels = ap (λ i. s.first + i) c.cells_of.ensures.cells in record {
      line_is = subst (λ i. IsThroughBetween line m o v j i S) end
          (line_as line from.result.offset to.result.offset way.result from.result.axis to.result.axis
          (offset_at m o (pos j) (pos S)) (offset_at m o (pos k) (pos S)) v (axis_at m (pos j) (pos S)) (axis_at m (pos k) (pos S))
          from.ensures.offset to.ensures.offset way.ensures.way from.ensures.axis to.ensures.axis c.between.ensures);
      n_is = c.scalar_product_on_cell.ensures ∙ ap₂ (λ a b. dot_on_cell a b a b) from.ensures.axis to.ensures.axis ∙ ap (λ i. n_between m j i S) end;
    }
