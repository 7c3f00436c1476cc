use Rattle.std.proofs.Common.{◌≡◌, inl, inr, true, false, ℤ, int_le, subst, sym, ◌∙◌}
use Rattle.std.proofs.lemmas.Bool.{true≢false}
use Rattle.std.proofs.lemmas.Int.{to_z-of_z}
use mir.Syntax.{w64, w128}
use Rattle.near_points.proofs.Passing.{out_by}
use Rattle.near_points.proofs.walk.is_passed.Goals as goal

pub returns-then-not-has_width-clause-passed : goal.returns-then-not-has_width-clause-passed
returns-then-not-has_width-clause-passed c = λ yes.
    inl (subst (λ (w : ℤ). int_le w c.args.test.now.square ≡ false) (to_z-of_z w128 c.args.width c.ranges.width)
    (sym c.has_width.ensures ∙ c.if-not-has_width.true))

pub returns-then-not-has_width-clause-kept : goal.returns-then-not-has_width-clause-kept
returns-then-not-has_width-clause-kept c = λ no. absurd (true≢false no)

pub returns-clause-passed : goal.returns-clause-passed
returns-clause-passed c = λ yes.
    inr (out_by c.args.bands.now _ _ _ _ _ _ (to_z-of_z w64 c.args.height c.ranges.height) (to_z-of_z w64 c.args.side c.ranges.side)
    (to_z-of_z w128 c.args.width c.ranges.width) (c.is_out.ensures yes))

pub returns-clause-kept : goal.returns-clause-kept
returns-clause-kept c = λ no.
    subst (λ (w : ℤ). int_le w c.args.test.now.square ≡ true) (to_z-of_z w128 c.args.width c.ranges.width)
    (sym c.has_width.ensures ∙ c.if-not-has_width.false)
