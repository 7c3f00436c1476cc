use Rattle.std.proofs.Common.{ℤ, ◌≡◌, arith, ◌+ℤ◌, ◌*ℤ◌, ◌∙◌, ap}
use Rattle.std.proofs.lemmas.Int.{ints, wrapping_add_onto, int_wrap-add_left, wrapping_mul_is}
use Rattle.std.specs.Int.{int_wrap}
use mir.Syntax.{w128}
use Rattle.wanted_marks.proofs.line.wrapped.Goals as goal

turned : (a b : ℤ) → a +ℤ b ≡ b +ℤ a
turned a b = omega (arith, ints)

pub returns : goal.returns
returns c =
    let a = c.args.a in let l = c.args.l in let x = c.args.x in
    wrapping_add_onto w128 _ a (omega arith) c.ranges.a
    ∙ ap (λ z. int_wrap w128 (z +ℤ a)) (wrapping_mul_is w128 l x c.ranges.l c.ranges.x)
    ∙ int_wrap-add_left w128 (l *ℤ x) a ∙ ap (int_wrap w128) (turned (l *ℤ x) a)
