use Rattle.std.proofs.Common.{◌≡◌, ◌≤◌, ◌<◌, ◌^◌, ◌*◌, [], ◌∷◌, List, ℤ, length, to_z, of_z, unsigned_abs, arith, rules, ◌∙◌}
use Rattle.std.proofs.lemmas.Int.{to_z-of_z}
use borrow.Author.Rules.{sfits_of}
use lib.Signed.{mag}
use mir.Syntax.{w64, w128}
use Rattle.space.specs.Vectors.{at}
use Rattle.space.proofs.Facts.{fits128}
use Rattle.space.specs.Ranges.{vector_limit}
use Rattle.space.proofs.Words.{small_in}
use Rattle.sweep_boxes.proofs.around.narrow.Goals as goal

-- a component is small enough for 64 bits
small_for : (z : ℤ) → unsigned_abs z ≤ vector_limit → unsigned_abs (to_z w128 (of_z w128 z)) ≤ 4 * 10 ^ 18
small_for z h = small_in z (4 * 10 ^ 18) (fits128 z vector_limit h (omega arith)) (omega (arith, h))

-- and there the same
same_for : (x z : ℤ) → mag x < 2 ^ 63 → unsigned_abs z ≤ vector_limit → x ≡ to_z w128 (of_z w128 z) → to_z w64 (of_z w64 x) ≡ z
same_for x z fits h is = to_z-of_z w64 x (sfits_of {w = w64} {z = x} fits) ∙ is ∙ to_z-of_z w128 z (fits128 z vector_limit h (omega arith))

three_of : (v : List ℤ) (x y z : ℤ) → length v ≡ 3 → x ≡ at v 0 → y ≡ at v 1 → z ≡ at v 2 → x ∷ y ∷ z ∷ [] ≡ v
three_of [] x y z l e f g = absurd (omega (arith, l))
three_of (a ∷ []) x y z l e f g = absurd (omega (arith, l))
three_of (a ∷ b ∷ []) x y z l e f g = absurd (omega (arith, l))
three_of (a ∷ b ∷ d ∷ []) x y z l e f g = cc (e, f, g)
three_of (a ∷ b ∷ d ∷ i ∷ v) x y z l e f g = absurd (omega (arith, l))

pub short-requires : goal.short-requires
short-requires c = small_for (at c.args.v.now 0) c.requires.0

pub short-requires-2 : goal.short-requires-2
short-requires-2 c = small_for (at c.args.v.now 1) c.requires.1

pub short-requires-3 : goal.short-requires-3
short-requires-3 c = small_for (at c.args.v.now 2) c.requires.2

pub returns : goal.returns
returns c =
    let v = c.args.v.now in let long : length v ≡ 3 = search rules in
    three_of v _ _ _ long (same_for c.short.result (at v 0) c.short.type_inv c.requires.0 c.short.ensures) (same_for c.short-2.result (at v 1) c.short-2.type_inv c.requires.1 c.short-2.ensures)
    (same_for c.short-3.result (at v 2) c.short-3.type_inv c.requires.2 c.short-3.ensures)
