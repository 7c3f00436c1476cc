use Rattle.std.proofs.Common.{arith, sym, subst, ◌≡◌, ◌<◌, ◌≤◌, ℕ}
use Rattle.std.specs.Option.{MatchOption}
use Rattle.cl_lines.proofs.PowerLemmas.{scaled-up, scaled-down}
use Rattle.cl_lines.proofs.rounding.rounded.Goals as goal

pub returns-then-up-down : goal.returns-then-up-down
returns-then-up-down c =
    subst (λ (k : ℕ). MatchOption c.raised.result (c.args.most < k) (λ r. (r ≡ k) × (r ≤ c.args.most))) (sym (scaled-up c.args.digits c.args.factor c.args.up c.args.down c.if-up-down.true)) c.raised.ensures

pub returns-then-value-most : goal.returns-then-value-most
returns-then-value-most c = let down = scaled-down c.args.digits c.args.factor c.args.up c.args.down c.if-up-down.false in omega arith

pub returns-else-value-most : goal.returns-else-value-most
returns-else-value-most c = let down = scaled-down c.args.digits c.args.factor c.args.up c.args.down c.if-up-down.false in omega arith
