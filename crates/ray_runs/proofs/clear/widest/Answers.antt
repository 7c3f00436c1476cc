use Rattle.std.proofs.Common.{◌-◌, ◌<◌, length, FitsSigned, arith, rules, ap, sym, subst, ◌∙◌}
use Rattle.std.specs.List.{All}
use Rattle.std.proofs.lemmas.Int.{to_z-of_z}
use mir.Syntax.{w32}
use Rattle.ray_runs.specs.Missed.{IsNoWider}
use Rattle.ray_runs.proofs.ClearPoints.{all_no_wider}
use Rattle.ray_runs.proofs.clear.widest.Goals as goal

pub returns-clause-no_wider : goal.returns-clause-no_wider
returns-clause-no_wider c =
    let slabs = c.args.slabs.now in let x = c.index-slabs-slabs.result in let s = c.highest.inside in
    let fits : FitsSigned w32 s.dia = search rules in
    let some : 0 < length slabs = search rules in
    subst (λ z. All (IsNoWider z) slabs) (ap (λ r. r.dia) (sym c.index-slabs-slabs.is ∙ sym c.highest.view_is) ∙ sym (to_z-of_z w32 s.dia fits))
    (all_no_wider slabs x (length slabs - 1) c.requires (omega (arith, some)))
