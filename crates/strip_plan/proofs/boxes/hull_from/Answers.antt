use Rattle.std.proofs.Common.{⊎_elim}
use Rattle.strip_plan.proofs.Boxed.{before_or_at, in_none, up_to}
use Rattle.strip_plan.proofs.Joined.{fits_joined, of_one, of_other}
use Rattle.strip_plan.proofs.boxes.hull_from.Goals as goal

pub loop-place-init : goal.loop-place-init
loop-place-init c = (λ grid fit. c.none-hull.ensures grid, λ ray x is. absurd (in_none c.args.boxes.now c.args.start ray x is))

pub loop-place-preserved : goal.loop-place-preserved
loop-place-preserved c =
    let boxes = c.args.boxes.now in
    let before = c.loop-place.invariant in
    let hull = c.hull-hull.result in (
      λ grid fit.
          fits_joined grid c.loop-place.hull _ hull c.hull-hull.ensures (before.0 grid fit) (fit c.loop-place.place _ c.loop-place-test.true),
      λ ray x is.
          ⊎_elim (λ less. of_one c.loop-place.hull _ hull ray x c.hull-hull.ensures (before.1 ray x less))
          (λ here. of_other c.loop-place.hull _ hull ray x c.hull-hull.ensures (here _))
          (before_or_at boxes c.args.start c.loop-place.place ray x is),
    )

pub returns-clause-has : goal.returns-clause-has
returns-clause-has c ray l is = c.loop-place.invariant.1 ray l (up_to c.args.boxes.now c.args.start _ c.loop-place.place ray l c.loop-place-test.false is)
