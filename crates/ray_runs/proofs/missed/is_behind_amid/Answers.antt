use Rattle.std.proofs.Common.{◌≡◌, ◌*◌, ℤ, pos, ◌+ℤ◌, ◌<ℤ◌, to_z, of_z, ap₂, subst, ◌∙◌}
use Rattle.std.proofs.lemmas.Int.{to_z-of_z}
use mir.Syntax.{w64}
use Rattle.space.specs.Vectors.{dot}
use Rattle.space.proofs.Tests.{decides_lt}
use Rattle.space.proofs.Reread.{back_of, small_back}
use Rattle.moment_forms.specs.Sizes.{part_limit}
use Rattle.moment_forms.proofs.Fits.{height_fits}
use Rattle.ray_runs.proofs.missed.is_behind_amid.Goals as goal

pub total-requires : goal.total-requires
total-requires c = record {
  x = small_back w64 c.height.result (3 * part_limit) height_fits c.height.ensures.small;
  y = small_back w64 c.height-2.result (3 * part_limit) height_fits c.height-2.ensures.small;
}

pub returns : goal.returns
returns c = λ yes.
    let p = c.args.p.now in let q = c.args.q.now in let a = c.args.a.now in let d = c.args.c.now in let r = c.total.result in
    let first = back_of w64 c.height.result (3 * part_limit) height_fits c.height.ensures.small ∙ c.height.ensures.value in
    let last = back_of w64 c.height-2.result (3 * part_limit) height_fits c.height-2.ensures.small ∙ c.height-2.ensures.value in
    let sum : to_z w64 (of_z w64 r) ≡ dot p d +ℤ dot q a = to_z-of_z w64 r record { sfits = c.total.type_inv } ∙ c.total.ensures ∙ ap₂ (λ x y. x +ℤ y) first last in
    subst (λ (z : ℤ). z <ℤ pos 0) sum ((decides_lt (to_z w64 (of_z w64 r)) (pos 0)).0 yes)
