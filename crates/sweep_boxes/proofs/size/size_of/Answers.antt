use Rattle.std.proofs.Common.{◌≡◌, ◌≤ℤ◌, pos, get_or, FitsSigned, arith, rules, subst, sym, ◌∙◌}
use Rattle.std.proofs.lemmas.Int.{ints, to_z-of_z}
use Rattle.std.proofs.lemmas.List.{get_or_default}
use mir.Syntax.{w32}
use Rattle.bern_form.specs.Slab.{SlabSize}
use Rattle.sweep_boxes.specs.Intervals.{IsAsLarge}
use Rattle.sweep_boxes.proofs.Largest.{one_more}
use Rattle.space.proofs.Words.{fits32}
use Rattle.sweep_boxes.proofs.size.size_of.Goals as goal

pub loop-slab-preserved : goal.loop-slab-preserved
loop-slab-preserved c =
    let w = fits32 c.longer-widest.result c.longer-widest.type_inv in
    let h = fits32 c.longer-highest.result c.longer-highest.type_inv in
    let dia : FitsSigned w32 c.slab.inside.dia = search rules in
    let hi : FitsSigned w32 c.slab.inside.hi = search rules in
    let kept = c.loop-slab.invariant in
    let thick : pos 0 ≤ℤ c.slab.inside.dia = c.slab.invariant.thick in let width : c.slab.inside.dia ≤ℤ pos 200000 = c.slab.invariant.width in
    let tall : pos 0 ≤ℤ c.slab.inside.hi = omega (arith, ints, c.slab.invariant.above_tip, c.slab.invariant.ordered) in
    let height : c.slab.inside.hi ≤ℤ pos 300000 = c.slab.invariant.height in
    let second : c.slab.inside.dia ≤ℤ c.longer-widest.result = simp to_z-of_z at c.longer-widest.ensures.second in
    let third : c.slab.inside.hi ≤ℤ c.longer-highest.result = simp to_z-of_z at c.longer-highest.ensures.second in
    let here : IsAsLarge c.longer-widest.result c.longer-highest.result c.slab-item.result =
    subst (IsAsLarge c.longer-widest.result c.longer-highest.result) c.slab.view_is (record { thick = thick; width = second; tall = tall; height = third }) in
    let item : (d : SlabSize) → get_or c.args.slabs.now c.loop-slab.slab-index d ≡ c.slab-item.result = λ d.
    get_or_default c.args.slabs.now c.loop-slab.slab-index d c.slab-item.result c.loop-slab-test.true ∙ sym c.slab-item.is in
    let small : c.longer-widest.result ≤ℤ pos 200000 = (simp to_z-of_z at c.longer-widest.ensures.least) (pos 200000) kept.2 width in
    let low : c.longer-highest.result ≤ℤ pos 300000 = (simp to_z-of_z at c.longer-highest.ensures.least) (pos 300000) kept.4 height in
    simp to_z-of_z (
      one_more c.args.slabs.now c.loop-slab.slab-index _ _ c.longer-widest.result c.longer-highest.result kept.0 c.longer-widest.ensures.first c.longer-highest.ensures.first
          (λ d. subst (IsAsLarge c.longer-widest.result c.longer-highest.result) (sym (item d)) here),
      omega (arith, ints, thick, second),
      small,
      omega (arith, ints, tall, third),
      low,
    )
