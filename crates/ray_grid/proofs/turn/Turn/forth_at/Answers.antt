use Rattle.std.proofs.Common.{◌≡◌, ◌≤◌, ◌<◌, ℕ, ℤ, to_z, of_z, w32, unsigned_abs, FitsSigned, rules, List, refl, ap, ◌∙◌, subst, sym, arith}
use Rattle.std.proofs.lemmas.Int.{to_z-of_z}
use Rattle.space.specs.Vectors.{at}
use Rattle.space.specs.Ranges.{IsWithin}
use Rattle.ray_grid.specs.declared.turn.Turn.{Turn}
use Rattle.ray_grid.specs.Turns.{IsTurn, is_negated, old_axis, negated_if}
use Rattle.ray_grid.proofs.Turned.{component, old_below, size_of_signed}
use Rattle.ray_grid.proofs.TurnSizes.{IsMoved, is_moved, small_read}
use Rattle.ray_grid.proofs.turn.Turn.forth_at.Goals as goal

moved : (turn : Turn) (point : List ℤ) (n k : ℕ) (r : ℤ) → IsTurn turn → IsWithin 3000000 point → n < 3 → k ≡ old_axis turn n → FitsSigned w32 r
    → r ≡ negated_if (is_negated turn n) (to_z w32 (of_z w32 (at point k)))
    → IsMoved (to_z w32 (of_z w32 r)) (negated_if (is_negated turn n) (at point (old_axis turn n))) (at turn.shift n)
moved turn point n k r is near three axis fits turned =
    let old = at point (old_axis turn n) in
    let small : unsigned_abs old ≤ 3000000 = component 3000000 point (old_axis turn n) near (old_below turn n is.quarter three) in
    is_moved (to_z w32 (of_z w32 r)) (negated_if (is_negated turn n) old) (at turn.shift n)
    (to_z-of_z w32 r fits ∙ turned ∙ ap (λ j. negated_if (is_negated turn n) (to_z w32 (of_z w32 (at point j)))) axis
    ∙ ap (negated_if (is_negated turn n)) (small_read old (omega arith)))
    (subst (λ m. m ≤ 3000000) (sym (size_of_signed (is_negated turn n) old)) small)
    (component 2000000 turn.shift n is.near three)

pub overflow_add-result : goal.overflow_add-result
overflow_add-result c =
    let fits : FitsSigned w32 c.negated_if-turned.result = search rules in
    (moved c.args.self.now c.args.point.now c.args.n (old_axis c.args.self.now c.args.n) c.negated_if-turned.result c.requires.turn c.requires.point c.requires.axis
    refl fits c.negated_if-turned.ensures.value).fits

pub returns-clause-value : goal.returns-clause-value
returns-clause-value c =
    let fits : FitsSigned w32 c.negated_if-turned.result = search rules in
    (moved c.args.self.now c.args.point.now c.args.n (old_axis c.args.self.now c.args.n) c.negated_if-turned.result c.requires.turn c.requires.point c.requires.axis
    refl fits c.negated_if-turned.ensures.value).read

pub returns-clause-near : goal.returns-clause-near
returns-clause-near c =
    let fits : FitsSigned w32 c.negated_if-turned.result = search rules in
    (moved c.args.self.now c.args.point.now c.args.n (old_axis c.args.self.now c.args.n) c.negated_if-turned.result c.requires.turn c.requires.point c.requires.axis
    refl fits c.negated_if-turned.ensures.value).near

pub negated_if-turned-requires : goal.negated_if-turned-requires
negated_if-turned-requires c =
    let turn = c.args.self.now in let point = c.args.point.now in let n = c.args.n in
    let old = at point (old_axis turn n) in
    let small : unsigned_abs old ≤ 3000000
    = component 3000000 point (old_axis turn n) c.requires.point (old_below turn n c.requires.turn.quarter c.requires.axis) in
    let most : unsigned_abs old ≤ 5000000 = omega (arith) in
    subst (λ z. unsigned_abs z ≤ 5000000) (sym (small_read old (omega arith))) most
