use Rattle.std.proofs.Common.{◌≡◌, length, rules, ◌∙◌}
use Rattle.std.proofs.lemmas.Bool.{both_ways}
use Rattle.width_bisect.proofs.Behind.{by_first, by_last, by_second}
use Rattle.width_bisect.proofs.Fitting.{height_form_fits}
use Rattle.width_bisect.proofs.stretch.Stretch.is_behind.Goals as goal
use Rattle.width_bisect.proofs.stretch.Stretch.is_behind.Goals.{then-a-lt0, else-a-lt0}

pub returns-then-b-lt0 : goal.returns-then-b-lt0
returns-then-b-lt0 c =
    let u = c.args.self.now.u in
    let long : length u ≡ 3 = search rules in
    let fits = height_form_fits u c.args.self.now.u_small in
    elim c.if-a-lt0.branch [
      | then-a-lt0 w ↦ by_last u c.if-a-lt0.value long fits w.if-a-lt0.true w.value-is c.if-b-lt0.true
      | else-a-lt0 w ↦ absurd (both_ways c.if-a-lt0.value (w.value-is ∙ w.if-a-lt0.false) c.if-b-lt0.true)
    ]

pub returns-else-b-lt0 : goal.returns-else-b-lt0
returns-else-b-lt0 c =
    let u = c.args.self.now.u in
    let long : length u ≡ 3 = search rules in
    let fits = height_form_fits u c.args.self.now.u_small in
    elim c.if-a-lt0.branch [
      | then-a-lt0 w ↦ by_second u c.if-a-lt0.value long fits w.if-a-lt0.true w.value-is c.if-b-lt0.false
      | else-a-lt0 w ↦ by_first u c.if-a-lt0.value long fits w.if-a-lt0.false c.if-b-lt0.false
    ]
