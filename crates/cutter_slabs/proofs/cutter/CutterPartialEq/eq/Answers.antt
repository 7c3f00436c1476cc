-- The five numbers are compared one after the other.
use Rattle.std.proofs.Common.{rules, ◌≡◌, Bool, true, false, ◌&&◌, eqb, pos, refl, subst}
use Rattle.std.specs.Ordering.{int_eq}
use Rattle.cutter_slabs.proofs.cutter.CutterPartialEq.eq.Goals as goal

grouped : (x y z u w : Bool) → ((((x && y) && z) && u) && w) ≡ (x && (y && (z && (u && w))))
grouped true true true u w = refl
grouped true true false u w = refl
grouped true false z u w = refl
grouped false y z u w = refl

in_turn : (x y z u w a b d e f : Bool) → a ≡ x → b ≡ (a && y) → d ≡ (b && z) → e ≡ (d && u) → f ≡ (e && w) → f ≡ (x && (y && (z && (u && w))))
in_turn x y z u w a b d e f ea eb ed ee ef =
    subst (λ (k : Bool). f ≡ k) (grouped x y z u w)
    (subst (λ (k : Bool). f ≡ ((((k && y) && z) && u) && w)) ea (subst (λ (k : Bool). f ≡ (((k && z) && u) && w)) eb
    (subst (λ (k : Bool). f ≡ ((k && u) && w)) ed (subst (λ (k : Bool). f ≡ (k && w)) ee ef))))

pub returns : goal.returns
returns c =
    let one = c.args.self.now in let two = c.args.other.now in
    let d : c.eq.result ≡ int_eq (pos one.d) (pos two.d) = search rules in
    let r : c.and_eq.result ≡ (c.eq.result && int_eq (pos one.r) (pos two.r)) = search rules in
    let h : c.and_eq-2.result ≡ (c.and_eq.result && int_eq (pos one.h) (pos two.h)) = search rules in
    let flank : c.and_eq-3.result ≡ (c.and_eq-2.result && eqb one.flank two.flank) = search rules in
    let base : c.and_eq-4.result ≡ (c.and_eq-3.result && int_eq (pos one.base) (pos two.base)) = search rules in
    in_turn (int_eq (pos one.d) (pos two.d)) (int_eq (pos one.r) (pos two.r)) (int_eq (pos one.h) (pos two.h)) (eqb one.flank two.flank) (int_eq (pos one.base) (pos two.base))
    c.eq.result c.and_eq.result c.and_eq-2.result c.and_eq-3.result c.and_eq-4.result d r h flank base
