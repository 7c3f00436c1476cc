-- Both ends and how far they are apart are read from their bits as they are.
use Rattle.std.proofs.Common.{◌≡◌, ◌≤◌, ℤ, ◌-ℤ◌, to_z, of_z, unsigned_abs, arith, ap, ap₂, subst, sym, ◌∙◌}
use Rattle.std.proofs.lemmas.Int.{fits_signed_from_abs, to_z-of_z}
use mir.Syntax.{w32, w128}
use Rattle.space.specs.Vectors.{at}
use Rattle.space.proofs.Naturals.{abs_sub}
use Rattle.space.proofs.vector.apart.Goals as goal

end_read : (x p : ℤ) → x ≡ to_z w32 (of_z w32 p) → unsigned_abs p ≤ 1000000 → to_z w128 (of_z w128 x) ≡ p
end_read x p e h =
    ap (λ z. to_z w128 (of_z w128 z)) (e ∙ to_z-of_z w32 p (fits_signed_from_abs w32 p (omega (arith, h))))
    ∙ to_z-of_z w128 p (fits_signed_from_abs w128 p (omega (arith, h)))

small : (p q : ℤ) → unsigned_abs p ≤ 1000000 → unsigned_abs q ≤ 1000000 → unsigned_abs (p -ℤ q) ≤ 2000000
small p q h k = let s = abs_sub p q in omega (arith, s, h, k)

read : (x y p q : ℤ) → x ≡ to_z w32 (of_z w32 p) → y ≡ to_z w32 (of_z w32 q) → unsigned_abs p ≤ 1000000 → unsigned_abs q ≤ 1000000
    → to_z w128 (of_z w128 (to_z w128 (of_z w128 x) -ℤ to_z w128 (of_z w128 y))) ≡ p -ℤ q
read x y p q e f h k =
    let few = small p q h k in
    ap (λ z. to_z w128 (of_z w128 z)) (ap₂ (λ a b. a -ℤ b) (end_read x p e h) (end_read y q f k))
    ∙ to_z-of_z w128 (p -ℤ q) (fits_signed_from_abs w128 (p -ℤ q) (omega (arith, few)))

pub returns-clause-value : goal.returns-clause-value
returns-clause-value c =
    read c.from.result c.from-2.result (at c.args.p.now c.args.i) (at c.args.q.now c.args.i) c.from.ensures c.from-2.ensures c.requires.p c.requires.q

pub returns-clause-small : goal.returns-clause-small
returns-clause-small c =
    subst (λ (z : ℤ). unsigned_abs z ≤ 2000000) (sym (returns-clause-value c))
    (small (at c.args.p.now c.args.i) (at c.args.q.now c.args.i) c.requires.p c.requires.q)
