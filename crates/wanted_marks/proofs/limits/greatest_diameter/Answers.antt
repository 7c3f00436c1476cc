use Rattle.std.proofs.Common.{◌-◌, ◌<◌, length, get_or, FitsSigned, arith, rules, ap, sym, subst, ◌∙◌}
use Rattle.std.specs.List.{All}
use Rattle.std.proofs.lemmas.Int.{to_z-of_z}
use Rattle.std.proofs.lemmas.List.Elements.{All-weaker}
use mir.Syntax.{w32}
use Rattle.ray_runs.specs.Missed.{IsNoWider as IsNarrow}
use Rattle.ray_runs.proofs.ClearPoints.{all_no_wider}
use Rattle.wanted_marks.specs.Limits.{IsNoWider}
use Rattle.wanted_marks.proofs.limits.greatest_diameter.Goals as goal

pub returns-clause-greatest : goal.returns-clause-greatest
returns-clause-greatest c =
    let slabs = c.args.slabs.now in let s = c.index-slabs-slabs.result in let d = c.diameter_of.result in
    let fits : FitsSigned w32 d = search rules in
    let some : 0 < length slabs = search rules in
    let highest = get_or slabs (length slabs - 1) s in
    let all = all_no_wider slabs s (length slabs - 1) c.requires (omega (arith, some)) in
    subst (λ z. All (IsNoWider z) slabs) (ap (λ r. r.dia) (sym c.index-slabs-slabs.is) ∙ sym c.diameter_of.ensures.value ∙ sym (to_z-of_z w32 d fits))
    (All-weaker (IsNarrow highest.dia) (IsNoWider highest.dia) (λ t narrow. record { not_negative = narrow.thick; no_wider = narrow.narrow }) slabs all)
