use Rattle.std.proofs.Common.{◌≡◌, pos, ◌*◌, ◌+ℤ◌, ◌*ℤ◌, FitsSigned, ◌∙◌}
use Rattle.std.proofs.lemmas.Int.{to_z-of_z}
use mir.Syntax.{w64}
use Rattle.space.proofs.Reread.{small_back}
use Rattle.moment_forms.specs.Sizes.{part_limit}
use Rattle.moment_forms.proofs.Fits.{height_fits}
use Rattle.ray_runs.proofs.StretchTests.{raised_same}
use Rattle.ray_runs.proofs.missed.raised.Goals as goal

pub twice-requires : goal.twice-requires
twice-requires c = record {
  x = small_back w64 c.height-first.result (3 * part_limit) height_fits c.height-first.ensures.small;
  y = small_back w64 c.height-both.result (3 * part_limit) height_fits c.height-both.ensures.small;
}

pub middle-requires : goal.middle-requires
middle-requires c = record {
  x = small_back w64 c.height-first.result (3 * part_limit) height_fits c.height-first.ensures.small;
  y = small_back w64 c.height-both.result (3 * part_limit) height_fits c.height-both.ensures.small;
  z = small_back w64 c.height-last.result (3 * part_limit) height_fits c.height-last.ensures.small;
}

pub twice-requires-2 : goal.twice-requires-2
twice-requires-2 c = record {
  x = small_back w64 c.height-both.result (3 * part_limit) height_fits c.height-both.ensures.small;
  y = small_back w64 c.height-last.result (3 * part_limit) height_fits c.height-last.ensures.small;
}

pub returns : goal.returns
returns c =
    let a = c.args.a.now in let d = c.args.c.now in
    let f = c.height-first.result in let b = c.height-both.result in let l = c.height-last.result in
    let hf : FitsSigned w64 f = record { sfits = c.height-first.type_inv } in let hb : FitsSigned w64 b = record { sfits = c.height-both.type_inv } in let hl : FitsSigned w64 l = record { sfits = c.height-last.type_inv } in
    let x = c.height-first.ensures.value in let y = c.height-both.ensures.value in let z = c.height-last.ensures.value in
    let second : c.twice.result ≡ pos 2 *ℤ f +ℤ pos 2 *ℤ b = simp to_z-of_z at c.twice.ensures in
    let third : c.middle.result ≡ (f +ℤ pos 4 *ℤ b) +ℤ l = simp to_z-of_z at c.middle.ensures in
    let fourth : c.twice-2.result ≡ pos 2 *ℤ b +ℤ pos 2 *ℤ l = simp to_z-of_z at c.twice-2.ensures in
    let h2 : FitsSigned w64 c.twice.result = record { sfits = c.twice.type_inv } in let h3 : FitsSigned w64 c.middle.result = record { sfits = c.middle.type_inv } in let h4 : FitsSigned w64 c.twice-2.result = record { sfits = c.twice-2.type_inv } in
    raised_same _ _ _ _ _ a d (to_z-of_z w64 f hf ∙ x) (to_z-of_z w64 c.twice.result h2 ∙ second ∙ (λ i. pos 2 *ℤ x i +ℤ pos 2 *ℤ y i)) (to_z-of_z w64 c.middle.result h3 ∙ third ∙ (λ i. (x i +ℤ pos 4 *ℤ y i) +ℤ z i))
    (to_z-of_z w64 c.twice-2.result h4 ∙ fourth ∙ (λ i. pos 2 *ℤ y i +ℤ pos 2 *ℤ z i)) (to_z-of_z w64 l hl ∙ z)
