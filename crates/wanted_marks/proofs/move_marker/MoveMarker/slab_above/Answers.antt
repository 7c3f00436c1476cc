use Rattle.std.proofs.Common.{◌≡◌, ◌≤◌, ◌≤ℤ◌, ℤ, unsigned_abs, pos, FitsSigned, arith, rules, ap, ap₂, subst, sym, ◌∙◌}
use Rattle.std.proofs.lemmas.Int.{ints, to_z-of_z}
use borrow.Author.Differences.{abs_is}
use mir.Syntax.{w32, w64, w128}
use Rattle.bern_form.specs.Between.{n_between}
use Rattle.bern_form.specs.Cells.{scaled_square}
use Rattle.bern_form.specs.Forms.{all_positive, difference4, scaled4}
use Rattle.axis_cells.specs.Exclusion.{squared}
use Rattle.cutter_slabs.specs.Stacks.{outer_stack}
use Rattle.space.proofs.Reread.{small_back}
use Rattle.wanted_marks.specs.Limits.{all_not_below_zero}
use Rattle.wanted_marks.specs.Lines.{heights_at, width_at}
use Rattle.wanted_marks.specs.Peaks.{is_under}
use Rattle.wanted_marks.specs.Rays.{MoveOf}
use Rattle.wanted_marks.specs.Ready.{IsReadyMove}
use Rattle.wanted_marks.proofs.Outside.{asked_slab, below_from, outside_by}
use Rattle.wanted_marks.proofs.Running.{nth}
use Rattle.wanted_marks.proofs.Widest.{limits_are}
use Rattle.wanted_marks.proofs.move_marker.MoveMarker.slab_above.Goals as goal

pub returns-then-reached-eq0 : goal.returns-then-reached-eq0
returns-then-reached-eq0 c = λ p forms.
    let s = c.self.inside in let v = c.args.self.now in let line = c.args.line.now in let l = pos c.args.l in
    let ready = subst (IsReadyMove s.ready.now) c.self.view_is c.self.invariant in
    let f : FitsSigned w128 c.peak.result = record { sfits = c.peak.type_inv } in let g : FitsSigned w64 s.ready.now.axis_forms.least = search rules in
    let stack = c.outer-outer.ensures.stack ∙ ap (λ (y : MoveOf). outer_stack y.cutter y.slabs) c.self.view_is in
    outside_by v p s.ready.now.scale c.reached-reached.result c.outer-outer.result.now (heights_at line l) s.ready.now.axis_forms.n.c (width_at line l) c.peak.result s.ready.now.axis_forms.least stack ready.scale_is forms.height
    (ready.axis_forms.n_is ∙ ap (λ k. n_between v.sweep 0 k k) ready.scale_is) forms.width (ready.both p) ready.outer_rising c.peak.ensures s.ready.now.axis_forms.least_is
    record { under = λ h. ap₂ (λ a b. is_under s.ready.now.scale a b (nth c.outer-outer.result.now c.reached-reached.result)) (sym (to_z-of_z w128 c.peak.result f)) (sym (to_z-of_z w64 s.ready.now.axis_forms.least g)) ∙ c.reached-reached.ensures.under h; beside = λ i e. let none = c.if-reached-eq0.true in absurd (omega (arith, e, none)) }

pub returns-then-exceed_times : goal.returns-then-exceed_times
returns-then-exceed_times c = λ p forms.
    let s = c.self.inside in let v = c.args.self.now in let line = c.args.line.now in let l = pos c.args.l in
    let ready = subst (IsReadyMove s.ready.now) c.self.view_is c.self.invariant in
    let outer = c.outer-outer.result.now in let n = s.ready.now.axis_forms.n.c in let W = width_at line l in let x = c.index-outer-reached.result in let d = c.diameter_of.result in
    let f : FitsSigned w128 c.peak.result = record { sfits = c.peak.type_inv } in let g : FitsSigned w64 s.ready.now.axis_forms.least = search rules in
    let stack = c.outer-outer.ensures.stack ∙ ap (λ (y : MoveOf). outer_stack y.cutter y.slabs) c.self.view_is in
    let fits : FitsSigned w32 d = search rules in
    let square : FitsSigned w64 c.short_scaled_square-factor.result = record { sfits = c.short_scaled_square-factor.type_inv } in
    let factor : c.short_scaled_square-factor.result ≡ scaled_square s.ready.now.scale d = simp to_z-of_z at c.short_scaled_square-factor.ensures in
    let limits : scaled4 c.short_scaled_square-factor.result s.ready.now.axis_forms.raised ≡ all_not_below_zero (squared (pos s.ready.now.scale) d n) =
    ap₂ scaled4 factor s.ready.now.axis_forms.raised_is ∙ limits_are s.ready.now.scale d n c.diameter_of.ensures.not_negative in
    outside_by v p s.ready.now.scale c.reached-reached.result outer (heights_at line l) n W c.peak.result s.ready.now.axis_forms.least stack ready.scale_is forms.height
    (ready.axis_forms.n_is ∙ ap (λ k. n_between v.sweep 0 k k) ready.scale_is) forms.width (ready.both p) ready.outer_rising c.peak.ensures s.ready.now.axis_forms.least_is
    record {
      under = λ h. ap₂ (λ a b. is_under s.ready.now.scale a b (nth c.outer-outer.result.now c.reached-reached.result)) (sym (to_z-of_z w128 c.peak.result f)) (sym (to_z-of_z w64 s.ready.now.axis_forms.least g)) ∙ c.reached-reached.ensures.under h;
      beside = λ i e.
          let at = asked_slab outer c.reached-reached.result i x e c.reached-reached.ensures.within c.index-outer-reached.is in (
            at.0,
            ap (λ z. all_positive (difference4 W (all_not_below_zero (squared (pos s.ready.now.scale) z n)))) (ap (λ z. z.dia) at.1 ∙ sym c.diameter_of.ensures.value)
                ∙ ap (λ z. all_positive (difference4 W z)) (sym limits) ∙ sym (simp to_z-of_z at c.exceed_times.ensures) ∙ c.if-exceed_times.true,
          );
    }

pub returns : goal.returns
returns c = λ p forms.
    let s = c.self.inside in let v = c.args.self.now in let line = c.args.line.now in let l = pos c.args.l in
    let ready = subst (IsReadyMove s.ready.now) c.self.view_is c.self.invariant in
    let f : FitsSigned w128 c.peak.result = record { sfits = c.peak.type_inv } in let g : FitsSigned w64 s.ready.now.axis_forms.least = search rules in
    let stack = c.outer-outer.ensures.stack ∙ ap (λ (y : MoveOf). outer_stack y.cutter y.slabs) c.self.view_is in
    below_from v p s.ready.now.scale c.reached-reached.result c.outer-outer.result.now (heights_at line l) s.ready.now.axis_forms.n.c c.peak.result s.ready.now.axis_forms.least stack ready.scale_is forms.height
    (ready.axis_forms.n_is ∙ ap (λ k. n_between v.sweep 0 k k) ready.scale_is) c.peak.ensures s.ready.now.axis_forms.least_is c.reached-reached.ensures.within
    (λ h. ap₂ (λ a b. is_under s.ready.now.scale a b (nth c.outer-outer.result.now c.reached-reached.result)) (sym (to_z-of_z w128 c.peak.result f)) (sym (to_z-of_z w64 s.ready.now.axis_forms.least g)) ∙ c.reached-reached.ensures.under h)

pub peak-requires-clause-last : goal.peak-requires-clause-last
peak-requires-clause-last c =
    let f : FitsSigned w64 c.args.last.now.u = search rules in to_z-of_z w64 c.args.last.now.u f ∙ c.requires.u

pub exceed_times-requires-clause-last : goal.exceed_times-requires-clause-last
exceed_times-requires-clause-last c =
    let f : FitsSigned w128 c.args.last.now.width = search rules in to_z-of_z w128 c.args.last.now.width f ∙ c.requires.width

pub invariant_of-peak : goal.invariant_of-peak
invariant_of-peak c = record { scale_small = c.self.invariant.few }

diameter_small : (d : ℤ) → pos 0 ≤ℤ d → d ≤ℤ pos 200000 → unsigned_abs d ≤ 300000
diameter_small d h k = omega (arith, ints, abs_is d, h, k)

pub short_scaled_square-factor-requires : goal.short_scaled_square-factor-requires
short_scaled_square-factor-requires c =
    let d = c.diameter_of.result in
    record { scale = c.self.invariant.few; length = small_back w32 d 300000 (omega arith) (diameter_small d c.diameter_of.ensures.not_negative c.diameter_of.ensures.few) }
