use Rattle.std.proofs.Common.{◌≡◌, ◌≤◌, ◌*◌, ◌≤ℤ◌, ◌*ℤ◌, ℕ, ℤ, pos, unsigned_abs, FitsSigned, arith, ap, subst, sym}
use Rattle.std.proofs.lemmas.Int.{to_z-of_z}
use mir.Syntax.{w128}
use Rattle.space.specs.Ranges.{vector_limit}
use Rattle.space.proofs.Facts.{product_fits}
use Rattle.sweep_boxes.proofs.Numbers.{scaled_some}
use Rattle.space.proofs.Words.{fits_of}
use Rattle.sweep_boxes.proofs.side.scaled.Goals as goal

fits_product : (scale : ℕ) (x square : ℤ) → x ≡ pos scale → scale ≤ 128 → unsigned_abs square ≤ 3 * (vector_limit * vector_limit)
    → FitsSigned w128 (x *ℤ square)
fits_product scale x square e h k = subst (λ (z : ℤ). FitsSigned w128 (z *ℤ square)) (sym e) (product_fits (pos scale) square 128 (3 * (vector_limit * vector_limit)) h k (omega arith))

pub overflow_mul-result : goal.overflow_mul-result
overflow_mul-result c =
    let f = fits_of c.from.result c.from.type_inv in let s = c.ranges.square in
    simp to_z-of_z (fits_product c.args.scale c.from.result c.args.square c.from.ensures c.requires.few c.requires.square)

pub returns : goal.returns
returns c =
    let f = fits_of c.from.result c.from.type_inv in let s = c.ranges.square in
    let fits = fits_product c.args.scale c.from.result c.args.square c.from.ensures c.requires.few c.requires.square in
    let is : c.from.result *ℤ c.args.square ≡ pos c.args.scale *ℤ c.args.square = ap (λ z. z *ℤ c.args.square) c.from.ensures in
    record {
      value = simp to_z-of_z is;
      some = simp to_z-of_z (subst (λ (z : ℤ). pos 1 ≤ℤ z) (sym is) (scaled_some c.args.scale c.args.square c.requires.scale c.requires.some));
    }
