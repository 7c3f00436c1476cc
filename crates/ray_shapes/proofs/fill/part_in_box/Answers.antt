use Rattle.std.proofs.Common.{◌≡◌, ◌+◌, ◌-◌, ℕ, pos, negsuc, length, arith, subst}
use Rattle.ray_shapes.specs.declared.half_line.IndexRange.{IndexRange}
use Rattle.ray_shapes.specs.BodyParts.{IsPartOf}
use Rattle.ray_shapes.proofs.BodyParts.{side_at}
use Rattle.ray_shapes.proofs.fill.part_in_box.Goals as goal

pub returns : goal.returns
returns c =
    let planes = c.args.planes.now in
    let end = length planes in
    let sides = c.requires.sides in
    let many = sides.many in
    let at = λ (n m : ℕ) (part : IndexRange) (same : n ≡ m) (is : IsPartOf planes c.args.line.now n part).
    subst (λ (k : ℕ). IsPartOf planes c.args.line.now k part) same is in
    let with_upper_x = c.part_with-part.ensures.exact planes (end - 6)
    (side_at planes (end - 6) _ (pos 1) (pos 0) (pos 0) c.side-upper_x.result c.side-upper_x.ensures (omega (arith, many)) sides.upper_x) c.requires.part in
    let with_lower_x = c.part_with-part-2.ensures.exact planes (end - 5)
    (side_at planes (end - 5) _ (negsuc 0) (pos 0) (pos 0) c.side-lower_x.result c.side-lower_x.ensures (omega (arith, many)) sides.lower_x) (at (end - 6 + 1) (end - 5) _ (omega (arith, many)) with_upper_x) in
    let with_upper_y = c.part_with-part-3.ensures.exact planes (end - 4)
    (side_at planes (end - 4) _ (pos 0) (pos 1) (pos 0) c.side-upper_y.result c.side-upper_y.ensures (omega (arith, many)) sides.upper_y) (at (end - 5 + 1) (end - 4) _ (omega (arith, many)) with_lower_x) in
    let with_lower_y = c.part_with-part-4.ensures.exact planes (end - 3)
    (side_at planes (end - 3) _ (pos 0) (negsuc 0) (pos 0) c.side-lower_y.result c.side-lower_y.ensures (omega (arith, many)) sides.lower_y) (at (end - 4 + 1) (end - 3) _ (omega (arith, many)) with_upper_y) in
    let with_upper_z = c.part_with-part-5.ensures.exact planes (end - 2)
    (side_at planes (end - 2) _ (pos 0) (pos 0) (pos 1) c.side-upper_z.result c.side-upper_z.ensures (omega (arith, many)) sides.upper_z) (at (end - 3 + 1) (end - 2) _ (omega (arith, many)) with_lower_y) in
    let with_lower_z = c.part_with.ensures.exact planes (end - 1)
    (side_at planes (end - 1) _ (pos 0) (pos 0) (negsuc 0) c.side-lower_z.result c.side-lower_z.ensures (omega (arith, many)) sides.lower_z) (at (end - 2 + 1) (end - 1) _ (omega (arith, many)) with_upper_z) in
    at (end - 1 + 1) end _ (omega (arith, many)) with_lower_z
