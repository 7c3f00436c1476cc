use Rattle.std.proofs.Common.{⊎_elim, arith}
use Rattle.strip_plan.proofs.Boxed.{before_or_at, up_to}
use Rattle.strip_plan.proofs.windows.range_of.Goals as goal

pub loop-place-preserved : goal.loop-place-preserved
loop-place-preserved c =
    let before = c.loop-place.invariant in (
      λ grid fit.
          c.hull-range.ensures.range _ (before.0 grid fit) (c.in_strip.ensures.range grid (fit c.loop-place.place _ (omega (arith, c.loop-place-test.true, c.requires)))),
      λ j x is.
          ⊎_elim (λ less. c.hull-range.ensures.of_one _ (before.1 j x less))
          (λ here. c.hull-range.ensures.of_other _ (c.in_strip.ensures.has j x (here _)))
          (before_or_at c.args.boxes.now c.args.start c.loop-place.place _ x is),
    )

pub returns-clause-has : goal.returns-clause-has
returns-clause-has c j x is = c.loop-place.invariant.1 j x (up_to c.args.boxes.now c.args.start c.args.end c.loop-place.place _ x c.loop-place-test.false is)
