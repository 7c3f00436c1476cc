-- Each number of the plane fits, and so does that of the turned one.
use Rattle.std.proofs.Common.{◌≡◌, ℤ, w32, w64, to_z, of_z, ◌*ℤ◌, ◌+ℤ◌, FitsSigned, rules, List, [], ◌∷◌, ap, ap₂, ◌∙◌}
use Rattle.std.proofs.lemmas.Int.{to_z-of_z}
use Rattle.space.specs.Vectors.{at}
use Rattle.ray_shapes.specs.Turned.{normal_of, turned_coefficient}
use Rattle.ray_shapes.proofs.turned.turned_plane.Goals as goal

pub returns : goal.returns
returns c =
    let turn = c.args.turn.now in let plane = c.args.plane.now in
    let fa : FitsSigned w32 plane.a = search rules in let fb : FitsSigned w32 plane.b = search rules in
    let fc : FitsSigned w32 plane.c = search rules in let fd : FitsSigned w64 plane.d = search rules in
    let s0 : FitsSigned w32 (at turn.shift 0) = search rules in let s1 : FitsSigned w32 (at turn.shift 1) = search rules in
    let s2 : FitsSigned w32 (at turn.shift 2) = search rules in
    let ga : FitsSigned w32 c.turned_coefficient-a.result = search rules in let gb : FitsSigned w32 c.turned_coefficient-b.result = search rules in
    let gc : FitsSigned w32 c.turned_coefficient-c.result = search rules in
    let lx : FitsSigned w64 c.lift-along_x.result = search rules in let ly : FitsSigned w64 c.lift-along_y.result = search rules in
    let lz : FitsSigned w64 c.lift-along_z.result = search rules in let ld : FitsSigned w64 c.lifted.result = search rules in
    let normal : (to_z w32 (of_z w32 plane.a) ∷ to_z w32 (of_z w32 plane.b) ∷ to_z w32 (of_z w32 plane.c) ∷ []) ≡ normal_of plane =
    λ i. to_z-of_z w32 plane.a fa i ∷ to_z-of_z w32 plane.b fb i ∷ to_z-of_z w32 plane.c fc i ∷ [] in
    let a = to_z-of_z w32 c.turned_coefficient-a.result ga ∙ c.turned_coefficient-a.ensures.value ∙ ap (λ (v : List ℤ). turned_coefficient turn v 0) normal in
    let b = to_z-of_z w32 c.turned_coefficient-b.result gb ∙ c.turned_coefficient-b.ensures.value ∙ ap (λ (v : List ℤ). turned_coefficient turn v 1) normal in
    let e = to_z-of_z w32 c.turned_coefficient-c.result gc ∙ c.turned_coefficient-c.ensures.value ∙ ap (λ (v : List ℤ). turned_coefficient turn v 2) normal in
    let x = to_z-of_z w64 c.lift-along_x.result lx ∙ c.lift-along_x.ensures.value ∙ ap₂ (λ u v. u *ℤ v) a (to_z-of_z w32 (at turn.shift 0) s0) in
    let y = to_z-of_z w64 c.lift-along_y.result ly ∙ c.lift-along_y.ensures.value ∙ ap₂ (λ u v. u *ℤ v) b (to_z-of_z w32 (at turn.shift 1) s1) in
    let z = to_z-of_z w64 c.lift-along_z.result lz ∙ c.lift-along_z.ensures.value ∙ ap₂ (λ u v. u *ℤ v) e (to_z-of_z w32 (at turn.shift 2) s2) in
    let d = to_z-of_z w64 c.lifted.result ld ∙ c.lifted.ensures
    ∙ ap₂ (λ u v. u +ℤ v) (to_z-of_z w64 plane.d fd) (ap₂ (λ u v. u +ℤ v) (ap₂ (λ u v. u +ℤ v) x y) z) in
    λ i. record { a = a i; b = b i; c = e i; d = d i }
