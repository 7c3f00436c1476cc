use Rattle.std.proofs.Common.{◌≡◌, ◌*◌, ◌+ℤ◌, FitsSigned, sym, ◌∙◌}
use Rattle.std.proofs.lemmas.Int.{to_z-of_z}
use mir.Syntax.{w64}
use Rattle.space.proofs.Reread.{small_back}
use Rattle.moment_forms.specs.Sizes.{part_limit}
use Rattle.moment_forms.proofs.Middle.{middle_is, three_same}
use Rattle.moment_forms.proofs.Fits.{height_fits}
use Rattle.moment_forms.proofs.heights_between.heights.Goals as goal

pub total-middle-requires : goal.total-middle-requires
total-middle-requires c = record {
  x = small_back w64 c.height.result (3 * part_limit) height_fits c.height.ensures.small;
  y = small_back w64 c.height-2.result (3 * part_limit) height_fits c.height-2.ensures.small;
}

pub returns : goal.returns
returns c =
    let p = c.args.p.now in let q = c.args.q.now in let a = c.args.a.now in let d = c.args.c.now in
    let h0 : FitsSigned w64 c.height-first.result = record { sfits = c.height-first.type_inv } in let h1 : FitsSigned w64 c.total-middle.result = record { sfits = c.total-middle.type_inv } in let h2 : FitsSigned w64 c.height-last.result = record { sfits = c.height-last.type_inv } in
    let x : FitsSigned w64 c.height.result = record { sfits = c.height.type_inv } in let y : FitsSigned w64 c.height-2.result = record { sfits = c.height-2.type_inv } in
    let sum : c.total-middle.result ≡ c.height.result +ℤ c.height-2.result = simp to_z-of_z at c.total-middle.ensures in
    three_same _ _ _ _ _ _ (to_z-of_z w64 c.height-first.result h0 ∙ c.height-first.ensures.value)
    (to_z-of_z w64 c.total-middle.result h1 ∙ sum ∙ (λ i. c.height.ensures.value i +ℤ c.height-2.ensures.value i) ∙ sym (middle_is p q a d))
    (to_z-of_z w64 c.height-last.result h2 ∙ c.height-last.ensures.value)
