use Rattle.std.proofs.Common.{◌≡◌, Ok, pos, neg_ℤ, not, ap, sym, ◌∙◌, arith, rules, w64, FitsSigned}
use Rattle.std.proofs.lemmas.Grind.{common_steps}
use Rattle.std.proofs.lemmas.Int.{ints, to_z-of_z}
use Rattle.space.specs.Vectors.{at, is_zero}
use Rattle.setup_file.specs.Bodies.{plane}
use Rattle.setup_file.specs.Limits.{most_normal, most_right_side}
use Rattle.setup_file.specs.Reads.{◌>>=◌, only_if, ranged}
use Rattle.setup_file.proofs.Casts.{still_in}
use Rattle.setup_file.proofs.Planes.{plane_passes, plane_upto_c, plane_upto_d, with_d}
use Rattle.setup_file.proofs.plane.plane_by.Goals as goal

pub returns-in_err-d-clause-plane : goal.returns-in_err-d-clause-plane
returns-in_err-d-clause-plane c =
    let f0 : FitsSigned w64 (at c.args.numbers 0) = search rules in
    let f1 : FitsSigned w64 (at c.args.numbers 1) = search rules in
    let f2 : FitsSigned w64 (at c.args.numbers 2) = search rules in
    let f3 : FitsSigned w64 (at c.args.numbers 3) = search rules in
    let p : Ok c.in_ok-a.a ≡ ranged c.args.key (neg_ℤ (pos most_normal)) (pos most_normal) (at c.args.numbers 0) = simp to_z-of_z at c.in_ok-a.ensures.value in
    let q : Ok c.in_ok-b.b ≡ ranged c.args.key (neg_ℤ (pos most_normal)) (pos most_normal) (at c.args.numbers 1) = simp to_z-of_z at c.in_ok-b.ensures.value in
    let r : Ok c.in_ok-c.c ≡ ranged c.args.key (neg_ℤ (pos most_normal)) (pos most_normal) (at c.args.numbers 2) = simp to_z-of_z at c.in_ok-c.ensures.value in
    let upto_c = plane_upto_c c.args.key c.args.numbers c.in_ok-a.a c.in_ok-b.b c.in_ok-c.c p q r in
    let stops : c.from_residual-in_err-d.result ≡ (ranged c.args.key (neg_ℤ (pos most_right_side)) (pos most_right_side) (at c.args.numbers 3) >>= (λ d. with_d c.args.key c.args.numbers c.in_ok-a.a c.in_ok-b.b c.in_ok-c.c d))
    = first_of (search rules, grind (arith, common_steps), search (rules, to_z-of_z)) in
    stops ∙ sym upto_c

pub returns-in_err-only_if-clause-plane : goal.returns-in_err-only_if-clause-plane
returns-in_err-only_if-clause-plane c =
    let f0 : FitsSigned w64 (at c.args.numbers 0) = search rules in
    let f1 : FitsSigned w64 (at c.args.numbers 1) = search rules in
    let f2 : FitsSigned w64 (at c.args.numbers 2) = search rules in
    let f3 : FitsSigned w64 (at c.args.numbers 3) = search rules in
    let p : Ok c.in_ok-a.a ≡ ranged c.args.key (neg_ℤ (pos most_normal)) (pos most_normal) (at c.args.numbers 0) = simp to_z-of_z at c.in_ok-a.ensures.value in
    let q : Ok c.in_ok-b.b ≡ ranged c.args.key (neg_ℤ (pos most_normal)) (pos most_normal) (at c.args.numbers 1) = simp to_z-of_z at c.in_ok-b.ensures.value in
    let r : Ok c.in_ok-c.c ≡ ranged c.args.key (neg_ℤ (pos most_normal)) (pos most_normal) (at c.args.numbers 2) = simp to_z-of_z at c.in_ok-c.ensures.value in
    let upto_c = plane_upto_c c.args.key c.args.numbers c.in_ok-a.a c.in_ok-b.b c.in_ok-c.c p q r in
    let s : Ok c.in_ok-d.d ≡ ranged c.args.key (neg_ℤ (pos most_right_side)) (pos most_right_side) (at c.args.numbers 3) = simp to_z-of_z at c.in_ok-d.ensures.value in
    let upto_d = plane_upto_d c.args.key c.args.numbers c.in_ok-a.a c.in_ok-b.b c.in_ok-c.c c.in_ok-d.d upto_c s in
    let stops : c.from_residual-in_err-only_if.result ≡ (only_if (not c.is_zero.result) c.args.key (pos 0) >>= (λ _. Ok (plane c.in_ok-a.a c.in_ok-b.b c.in_ok-c.c c.in_ok-d.d)))
    = first_of (search rules, grind (arith, common_steps)) in
    stops ∙ ap (λ zero. only_if (not zero) c.args.key (pos 0) >>= (λ _. Ok (plane c.in_ok-a.a c.in_ok-b.b c.in_ok-c.c c.in_ok-d.d))) c.is_zero.ensures ∙ sym upto_d

pub returns-clause-plane : goal.returns-clause-plane
returns-clause-plane c =
    let f0 : FitsSigned w64 (at c.args.numbers 0) = search rules in
    let f1 : FitsSigned w64 (at c.args.numbers 1) = search rules in
    let f2 : FitsSigned w64 (at c.args.numbers 2) = search rules in
    let f3 : FitsSigned w64 (at c.args.numbers 3) = search rules in
    let p : Ok c.in_ok-a.a ≡ ranged c.args.key (neg_ℤ (pos most_normal)) (pos most_normal) (at c.args.numbers 0) = simp to_z-of_z at c.in_ok-a.ensures.value in
    let q : Ok c.in_ok-b.b ≡ ranged c.args.key (neg_ℤ (pos most_normal)) (pos most_normal) (at c.args.numbers 1) = simp to_z-of_z at c.in_ok-b.ensures.value in
    let r : Ok c.in_ok-c.c ≡ ranged c.args.key (neg_ℤ (pos most_normal)) (pos most_normal) (at c.args.numbers 2) = simp to_z-of_z at c.in_ok-c.ensures.value in
    let upto_c = plane_upto_c c.args.key c.args.numbers c.in_ok-a.a c.in_ok-b.b c.in_ok-c.c p q r in
    let s : Ok c.in_ok-d.d ≡ ranged c.args.key (neg_ℤ (pos most_right_side)) (pos most_right_side) (at c.args.numbers 3) = simp to_z-of_z at c.in_ok-d.ensures.value in
    let upto_d = plane_upto_d c.args.key c.args.numbers c.in_ok-a.a c.in_ok-b.b c.in_ok-c.c c.in_ok-d.d upto_c s in
    let t : Ok c.in_ok-only_if.field-0 ≡ only_if (not (is_zero c.args.numbers)) c.args.key (pos 0) = rw c.is_zero.ensures at c.in_ok-only_if.ensures.value in
    let passes = plane_passes c.args.key c.args.numbers c.in_ok-a.a c.in_ok-b.b c.in_ok-c.c c.in_ok-d.d c.in_ok-only_if.field-0 upto_d t in
    let fa : FitsSigned w64 c.in_ok-a.a = search rules in
    let fb : FitsSigned w64 c.in_ok-b.b = search rules in
    let fc : FitsSigned w64 c.in_ok-c.c = search rules in
    let fd : FitsSigned w64 c.in_ok-d.d = search rules in
    ap Ok (simp to_z-of_z at c.plane_with.ensures.plane) ∙ sym passes

pub plane_with-requires-clause-a : goal.plane_with-requires-clause-a
plane_with-requires-clause-a c = still_in (neg_ℤ (pos most_normal)) (pos most_normal) c.in_ok-a.a (omega (arith, ints)) (omega (arith, ints)) c.in_ok-a.ensures.range

pub plane_with-requires-clause-b : goal.plane_with-requires-clause-b
plane_with-requires-clause-b c = still_in (neg_ℤ (pos most_normal)) (pos most_normal) c.in_ok-b.b (omega (arith, ints)) (omega (arith, ints)) c.in_ok-b.ensures.range

pub plane_with-requires-clause-c : goal.plane_with-requires-clause-c
plane_with-requires-clause-c c = still_in (neg_ℤ (pos most_normal)) (pos most_normal) c.in_ok-c.c (omega (arith, ints)) (omega (arith, ints)) c.in_ok-c.ensures.range
