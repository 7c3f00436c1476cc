use Rattle.std.proofs.Common.{◌≡◌, Bool, true, false, ◌&&◌, nat_eq, ap, refl, sym, ◌∙◌}
use Rattle.std.specs.Cmp.Lexicographic.{same_text}
use Rattle.std.specs.Cmp.Rules.{signed_items}
use Rattle.std.specs.Ordering.{int_eq}
use Rattle.std.proofs.lemmas.Bool.Decides.{Decides-int_eq}
use lib.Pointwise.{pointwise}
use Rattle.ray_grid.specs.Grids.{GridSize}
use Rattle.wanted_marks.proofs.grid_forms.GridForms.is_of.Goals as goal

both : (a b : Bool) → (a && b) ≡ true → (a ≡ true) × (b ≡ true)
both true b e = (refl, e)
both false b e = cc

-- two grids whose parts are the same
same_grid : (g h : GridSize)
    → (pointwise int_eq g.origin h.origin && (int_eq g.pitch h.pitch && (int_eq g.step h.step && pointwise nat_eq g.counts h.counts))) ≡ true → g ≡ h
same_grid g h e =
    let at_origin = both (pointwise int_eq g.origin h.origin) _ e in let at_pitch = both (int_eq g.pitch h.pitch) _ at_origin.1 in
    let at_step = both (int_eq g.step h.step) _ at_pitch.1 in
    ap (λ x. record { origin = x; pitch = g.pitch; step = g.step; counts = g.counts }) ((signed_items g.origin h.origin).0 at_origin.0)
    ∙ ap (λ x. record { origin = h.origin; pitch = x; step = g.step; counts = g.counts }) ((Decides-int_eq g.pitch h.pitch).0 at_pitch.0)
    ∙ ap (λ x. record { origin = h.origin; pitch = h.pitch; step = x; counts = g.counts }) ((Decides-int_eq g.step h.step).0 at_step.0)
    ∙ ap (λ x. record { origin = h.origin; pitch = h.pitch; step = h.step; counts = x }) (same_text g.counts h.counts (sym at_step.1))

pub returns : goal.returns
returns c = λ same. same_grid c.args.self.now.grid c.args.grid.now (sym c.eq.ensures ∙ same)
