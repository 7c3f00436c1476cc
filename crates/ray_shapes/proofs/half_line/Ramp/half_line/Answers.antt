use Rattle.std.proofs.Common.{◌-◌, arith}
use Rattle.ray_shapes.proofs.Rising.{both_within, both_beyond, told_not}
use Rattle.ray_shapes.proofs.half_line.Ramp.half_line.Goals as goal

pub returns-then-is_within-2-clause-exact : goal.returns-then-is_within-2-clause-exact
returns-then-is_within-2-clause-exact c =
    let side = c.args.self.now in let part = c.args.part in
    let first = c.is_within.ensures.0 c.if-is_within.true in let last = c.is_within-then-is_within.ensures.0 c.if-is_within-2.true in
    λ l. (λ p. (p.0, p.1, (let low = p.0 in let high = p.1 in both_within side.start side.slope side.limit part.lo (part.hi - 1) l first last low (omega arith))), λ p. (p.0, p.1))

pub returns-clause-exact : goal.returns-clause-exact
returns-clause-exact c =
    let side = c.args.self.now in let part = c.args.part in
    let first = told_not c.is_within.result c.is_within.ensures c.if-is_within.false in let last = told_not c.is_within-2.result c.is_within-2.ensures c.if-is_within-3.false in
    λ l. (λ p. absurd (let low = p.0 in let high = p.1 in omega arith), λ p. absurd (let low = p.0 in let high = p.1 in both_beyond side.start side.slope side.limit part.lo (part.hi - 1) l first last low (omega arith) p.2))

pub returns-then-is_within-3-clause-exact : goal.returns-then-is_within-3-clause-exact
returns-then-is_within-3-clause-exact c =
    let part = c.args.part in let back = c.steps_down in let inside = back.ensures.inside in
    λ l. (
      λ p. let low = p.0 in let high = p.1 in
          (omega (arith, low, inside), high, (back.ensures.exact l (omega (arith, high))).0 (omega (arith, low, inside))),
      λ p. let high = p.1 in let reached = (back.ensures.exact l (omega (arith, high))).1 p.2 in (omega (arith, reached, inside), high),
    )
