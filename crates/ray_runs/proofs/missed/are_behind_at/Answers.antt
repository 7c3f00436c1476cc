use Rattle.space.specs.Vectors.{dot}
use Rattle.moment_forms.proofs.Fits.{below_told}
use Rattle.ray_runs.proofs.missed.are_behind_at.Goals as goal

pub returns-then-height-lt0 : goal.returns-then-height-lt0
returns-then-height-lt0 c = λ yes.
    let a = c.args.a.now in (
      below_told c.height.result (dot c.args.p.now a) c.height.ensures.small c.height.ensures.value c.if-height-lt0.true,
      below_told c.height-then-height-lt0.result (dot c.args.q.now a) c.height-then-height-lt0.ensures.small c.height-then-height-lt0.ensures.value yes,
    )
