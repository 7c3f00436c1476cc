use Rattle.std.proofs.Common.{◌≡◌, ◌≤◌, ◌*◌, ◌-◌, ◌+ℤ◌, ◌*ℤ◌, ℕ, ℤ, pos, unsigned_abs, FitsSigned, arith, subst, sym, ◌∙◌}
use Rattle.std.proofs.lemmas.Int.{ints, to_z-of_z}
use mir.Syntax.{w32, w128}
use borrow.Author.Differences.{abs_is}
use Rattle.space.specs.Vectors.{at}
use Rattle.sweep_boxes.specs.Limits.{place_limit}
use Rattle.sweep_boxes.proofs.Numbers.{place_is}
use Rattle.space.proofs.Words.{fits_of, two_read}
use Rattle.sweep_boxes.proofs.Words.{place_fits}
use Rattle.sweep_boxes.proofs.cut.place.Goals as goal

weights_small : (x y : ℤ) (time whole : ℕ) → time ≤ whole → whole ≤ 128 → unsigned_abs x ≤ (whole - time) * place_limit
    → unsigned_abs y ≤ time * place_limit
    → FitsSigned w128 (x +ℤ y) × (unsigned_abs (x +ℤ y) ≤ 128 * place_limit)
weights_small x y time whole h few k l = (omega (arith, ints, h, few, k, l, abs_is x, abs_is y), omega (arith, ints, h, few, k, l, abs_is x, abs_is y, abs_is (x +ℤ y)))

same_two : (x y a b : ℤ) → x ≡ a → y ≡ b → x +ℤ y ≡ a +ℤ b
same_two x y a b e f = cc (e, f)

pub overflow_add-result : goal.overflow_add-result
overflow_add-result c =
    let x = c.weighted in let y = c.weighted-2 in
    subst (FitsSigned w128) (sym (two_read x.result y.result x.type_inv y.type_inv)) (weights_small x.result y.result c.args.time c.args.whole c.requires.time c.requires.whole x.ensures.small y.ensures.small).0

pub returns : goal.returns
returns c =
    let x = c.weighted in let y = c.weighted-2 in
    let from : FitsSigned w32 (at c.args.from.now c.args.i) = place_fits (at c.args.from.now c.args.i) c.requires.from in
    let to : FitsSigned w32 (at c.args.to.now c.args.i) = place_fits (at c.args.to.now c.args.i) c.requires.to in
    let f = fits_of x.result x.type_inv in let g = fits_of y.result y.type_inv in
    let small = weights_small x.result y.result c.args.time c.args.whole c.requires.time c.requires.whole x.ensures.small y.ensures.small in let fits = small.0 in
    let one : x.result ≡ pos (c.args.whole - c.args.time) *ℤ at c.args.from.now c.args.i = simp to_z-of_z at x.ensures.value in
    let two : y.result ≡ pos c.args.time *ℤ at c.args.to.now c.args.i = simp to_z-of_z at y.ensures.value in
    let whole = place_is c.args.time c.args.whole (at c.args.from.now c.args.i) (at c.args.to.now c.args.i) c.requires.time in
    record { value = simp to_z-of_z (same_two x.result y.result _ _ one two ∙ whole); small = simp to_z-of_z small.1 }
