use Rattle.std.proofs.Common.{pos, ◌≡◌, ℕ, List, true, ◌<◌, ◌≤◌, ◌^◌, FitsSigned, arith, rules, subst, sym, ap, ap₂, ◌∙◌}
use Rattle.std.specs.List.{All}
use Rattle.std.proofs.Math.Pow.{pow_mono}
use Rattle.std.proofs.lemmas.Int.{to_z-of_z}
use mir.Syntax.{w32}
use Rattle.space.specs.Sweeps.{IsSweep}
use Rattle.bern_form.specs.Between.{n_between}
use Rattle.bern_form.specs.Marks.{held_at_sample}
use Rattle.bern_form.specs.Slab.{SlabSize}
use Rattle.cutter_slabs.specs.Rising.{IsRising}
use Rattle.cutter_marks.specs.MarkBy.{is_possible_by, is_sure_by}
use Rattle.axis_cells.specs.Exclusion.{squared}
use Rattle.ray_grid.specs.Grids.{GridSize}
use Rattle.wanted_marks.specs.GridForms.{AreGridForms}
use Rattle.wanted_marks.specs.Limits.{IsNoWider, all_not_below_zero}
use Rattle.wanted_marks.proofs.Widest.{all_within}
use Rattle.wanted_marks.proofs.ready_move.ReadyMove.new.Goals as goal

some_cells : (depth : ℕ) → 0 < 2 ^ depth
some_cells depth = let some : 2 ^ 0 ≤ 2 ^ depth = pow_mono {i = 0} {j = depth} (omega arith) in some

pub returns : goal.returns
unfolding is_possible_by is_sure_by
returns c =
    let valid = subst IsSweep c.sweep.view_is c.sweep.invariant in
    let m = c.args.sweep.now in let S = 2 ^ c.args.depth in
    let scale = c.cells_of-scale in let axis_forms = c.of_sweep-axis_forms in let widest = c.greatest_diameter-diameter.result in
    let fits : FitsSigned w32 widest = search rules in
    let n_is : axis_forms.result.n.c ≡ n_between m 0 S S = axis_forms.ensures.n_is ∙ ap (λ k. n_between m 0 k k) scale.ensures.cells in
    let limits : c.limits_of-limits.result ≡ all_not_below_zero (squared (pos S) widest (n_between m 0 S S)) =
    (simp to_z-of_z at c.limits_of-limits.ensures.value) ∙ ap₂ (λ k n. all_not_below_zero (squared (pos k) widest n)) scale.ensures.cells n_is in
    record {
      shallow = c.requires;
      valid = valid;
      both = λ p sure.
          c.inner-inner.ensures.possible m p S (some_cells c.args.depth) valid (subst (λ l. held_at_sample l m p S ≡ true) (sym c.inner-inner.ensures.stack) sure);
      rising = subst IsRising c.inner-inner.ensures.stack c.inner-inner.ensures.rising;
      outer_rising = subst IsRising c.outer.ensures.stack c.outer.ensures.rising;
      scale_is = scale.ensures.cells;
      few = scale.ensures.few;
      axis_forms = axis_forms.ensures;
      limits_are = all_within S widest (n_between m 0 S S) c.limits_of-limits.result _ limits (subst (λ (l : List SlabSize). All (IsNoWider widest) l) c.outer.ensures.stack c.greatest_diameter-diameter.ensures.greatest);
      limits_small = c.limits_of-limits.ensures.small;
      forms = subst (λ (g : GridSize). AreGridForms c.of_grid-forms.result m g scale.result) (sym c.of_grid-forms.ensures.grid) c.of_grid-forms.ensures.forms;
    }
