use Rattle.std.proofs.Common.{◌≡◌, ◌+◌, true, false, pos, List, arith, subst, sym, ap, ◌∙◌, ⊎_elim}
use Rattle.std.proofs.lemmas.Bool.{and_parts, cases_Bool}
use Rattle.sweep_boxes.specs.declared.band.Band.{Band}
use Rattle.vf_spans.specs.Members.{in_range}
use Rattle.vf_spans.specs.Words.{has_bit}
use Rattle.vf_spans.proofs.WordBits.{has_bit-and}
use Rattle.vf_spans.proofs.HighestBit.{at_least, at_most}
use Rattle.near_points.specs.Rays.{CylinderStripOf, cylinder_ray_at}
use Rattle.near_points.specs.Lines.{is_held_after}
use Rattle.near_points.specs.Trimmed.{IsLeftOut}
use Rattle.near_points.proofs.Holding.{holds_point, not_left_out, point_holds}
use Rattle.near_points.proofs.Told.{both_true}
use Rattle.near_points.proofs.Turning.{first_fits_on, ready_on}
use Rattle.near_points.proofs.strip.CylinderStrip.some_held_points.Goals as goal

pub moved-start-requires : goal.moved-start-requires
moved-start-requires c =
    let i = c.self.inside in first_fits_on i.start i.across i.step i.test _ _ c.args.j c.self.view_is c.self.invariant c.requires.node

pub overflow_add-l : goal.overflow_add-l
overflow_add-l c =
    let i = c.self.inside in let lo = c.lowest_bit in
    let few = (ready_on i.start i.across c.moved-start.result i.step i.test _ c.args.self.now c.args.j c.self.view_is c.self.invariant c.requires.node c.moved-start.ensures).few in
    let within = c.requires.on_ray lo.result lo.ensures.within lo.ensures.set in
    omega (arith, within, few)

pub overflow_add-m : goal.overflow_add-m
overflow_add-m c =
    let i = c.self.inside in let hi = c.highest_bit in
    let few = (ready_on i.start i.across c.moved-start.result i.step i.test _ c.args.self.now c.args.j c.self.view_is c.self.invariant c.requires.node c.moved-start.ensures).few in
    let within = c.requires.on_ray hi.result hi.ensures.within hi.ensures.set in
    omega (arith, within, few)

pub kept_between-kept-requires-clause-few : goal.kept_between-kept-requires-clause-few
kept_between-kept-requires-clause-few c =
    let i = c.self.inside in let hi = c.highest_bit in
    let few = (ready_on i.start i.across c.moved-start.result i.step i.test _ c.args.self.now c.args.j c.self.view_is c.self.invariant c.requires.node c.moved-start.ensures).few in
    let within = c.requires.on_ray hi.result hi.ensures.within hi.ensures.set in
    omega (arith, within, few)

pub kept_between-kept-requires-clause-fits : goal.kept_between-kept-requires-clause-fits
kept_between-kept-requires-clause-fits c = λ x from to.
    let i = c.self.inside in let hi = c.highest_bit in
    let ready = ready_on i.start i.across c.moved-start.result i.step i.test _ c.args.self.now c.args.j c.self.view_is c.self.invariant c.requires.node c.moved-start.ensures in
    let within = c.requires.on_ray hi.result hi.ensures.within hi.ensures.set in
    ready.fits x (omega (arith, within, to))

pub returns-clause-kept : goal.returns-clause-kept
returns-clause-kept c = λ b below kept.
    let i = c.self.inside in let w = c.args.wanted in let r = cylinder_ray_at c.args.self.now c.args.j in let first = c.moved-start.result in let x = c.args.first + b in
    let ready = ready_on i.start i.across first i.step i.test _ c.args.self.now c.args.j c.self.view_is c.self.invariant c.requires.node c.moved-start.ensures in
    let range = c.kept_between-kept in let on = c.requires.on_ray b below kept.0 in
    let low = at_least w c.lowest_bit.result b c.lowest_bit.ensures.lowest kept.0 in let high = at_most w c.highest_bit.result b c.highest_bit.ensures.highest kept.0 in
    let held = point_holds first i.step i.test r x ready on kept.1.widest in
    let bands : i.cylinder.now.bands ≡ r.cylinder.bands = ap (λ (z : CylinderStripOf). z.cylinder.bands) c.self.view_is in
    let stays : in_range x range.result ≡ true =
    ⊎_elim (λ (yes : in_range x range.result ≡ true). yes)
    (λ (no : in_range x range.result ≡ false).
    ⊎_elim (λ (un : is_held_after i.test first i.step (pos x) ≡ false). absurd (cc))
    (λ (out : IsLeftOut i.cylinder.now.bands first i.step (pos x)).
    absurd (not_left_out first i.step i.test r x ready on kept.1 (subst (λ (z : List Band). IsLeftOut z first i.step (pos x)) bands out)))
    (range.ensures.out x (omega (arith, low)) (omega (arith, high)) no))
    (cases_Bool (in_range x range.result)) in
    has_bit-and c.bits_between.result w b ∙ both_true (has_bit c.bits_between.result b) (has_bit w b) (c.bits_between.ensures b below ∙ stays) kept.0

pub returns-clause-held : goal.returns-clause-held
returns-clause-held c = λ b below set.
    let i = c.self.inside in let w = c.args.wanted in let r = cylinder_ray_at c.args.self.now c.args.j in let first = c.moved-start.result in let x = c.args.first + b in
    let ready = ready_on i.start i.across first i.step i.test _ c.args.self.now c.args.j c.self.view_is c.self.invariant c.requires.node c.moved-start.ensures in
    let range = c.kept_between-kept in
    let both = and_parts (has_bit c.bits_between.result b) (has_bit w b) (sym (has_bit-and c.bits_between.result w b) ∙ set) in
    let low = at_least w c.lowest_bit.result b c.lowest_bit.ensures.lowest both.1 in let high = at_most w c.highest_bit.result b c.highest_bit.ensures.highest both.1 in
    let inside : in_range x range.result ≡ true = sym (c.bits_between.ensures b below) ∙ both.0 in (
      both.1,
      holds_point first i.step i.test r x ready (c.requires.on_ray b below both.1)
          (range.ensures.held x (omega (arith, low)) (omega (arith, high)) inside),
    )
