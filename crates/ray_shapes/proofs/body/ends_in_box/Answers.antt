-- Each of the last six planes is found to be the side that it should be.
use Rattle.std.proofs.Common.{◌<◌, ◌-◌, ℕ, ℤ, pos, negsuc, List, length, get_or, arith, subst, sym, ◌∙◌}
use Rattle.std.proofs.lemmas.Bool.{true≢false}
use Rattle.std.proofs.lemmas.List.{get_or_default}
use Rattle.ray_shapes.specs.declared.plane.Plane.{Plane}
use Rattle.ray_shapes.specs.Planes.{IsSide}
use Rattle.ray_shapes.proofs.body.ends_in_box.Goals.{then-is_side, else-is_side, then-is_side-2, else-is_side-2, then-is_side-3, else-is_side-3, then-is_side-4, else-is_side-4}
use Rattle.ray_shapes.proofs.body.ends_in_box.Goals as goal

-- whatever is read past the end
seen : (planes : List Plane) (n : ℕ) (e : Plane) (a b c : ℤ) → n < length planes → IsSide a b c (get_or planes n e) → (d : Plane) → IsSide a b c (get_or planes n d)
seen planes n e a b c lt is d = subst (IsSide a b c) (get_or_default planes n e d lt) is

pub returns-then-is_side-5 : goal.returns-then-is_side-5
returns-then-is_side-5 c = λ yes.
    let planes = c.args.planes.now in let end = length planes in let many = c.if-end-lt6.false in
    let lower_z = seen planes (end - 1) _ (pos 0) (pos 0) (negsuc 0) (omega (arith, many)) (c.is_side-then-is_side-5.ensures yes) in
    elim c.if-is_side-4.branch [
      | else-is_side-4 w ↦ absurd (true≢false (sym c.if-is_side-5.true ∙ w.value-is ∙ w.if-is_side-4.false))
      | then-is_side-4 w4 ↦ elim c.if-is_side-3.branch [
        | else-is_side-3 w ↦ absurd (true≢false (sym w4.if-is_side-4.true ∙ w.value-is ∙ w.if-is_side-3.false))
        | then-is_side-3 w3 ↦ elim c.if-is_side-2.branch [
          | else-is_side-2 w ↦ absurd (true≢false (sym w3.if-is_side-3.true ∙ w.value-is ∙ w.if-is_side-2.false))
          | then-is_side-2 w2 ↦ elim c.if-is_side.branch [
            | else-is_side w ↦ absurd (true≢false (sym w2.if-is_side-2.true ∙ w.value-is ∙ w.if-is_side.false))
            | then-is_side w1 ↦ record {
              many = many;
              upper_x = seen planes (end - 6) _ (pos 1) (pos 0) (pos 0) (omega (arith, many)) (c.is_side.ensures w1.if-is_side.true);
              lower_x = seen planes (end - 5) _ (negsuc 0) (pos 0) (pos 0) (omega (arith, many)) (w1.is_side-then-is_side.ensures (sym w1.value-is ∙ w2.if-is_side-2.true));
              upper_y = seen planes (end - 4) _ (pos 0) (pos 1) (pos 0) (omega (arith, many)) (w2.is_side-then-is_side-2.ensures (sym w2.value-is ∙ w3.if-is_side-3.true));
              lower_y = seen planes (end - 3) _ (pos 0) (negsuc 0) (pos 0) (omega (arith, many)) (w3.is_side-then-is_side-3.ensures (sym w3.value-is ∙ w4.if-is_side-4.true));
              upper_z = seen planes (end - 2) _ (pos 0) (pos 0) (pos 1) (omega (arith, many)) (w4.is_side-then-is_side-4.ensures (sym w4.value-is ∙ c.if-is_side-5.true));
              lower_z = lower_z;
            }
          ]
        ]
      ]
    ]
