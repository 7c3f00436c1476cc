-- The halving of a form is what it should be, and no number in it is too great.
use Rattle.std.proofs.Common.{FitsSigned, rules, refl, subst, sym}
use Rattle.std.proofs.lemmas.Int.{to_z-of_z}
use mir.Syntax.{w128}
use Rattle.space.specs.Vectors.{at}
use Rattle.space.proofs.Facts.{back}
use Rattle.bern_form.specs.Sizes.{IsBounded2}
use Rattle.box_bisect.proofs.Halving.{last_small}
use Rattle.box_bisect.proofs.Coefficients.{end_small, middle_small}
use Rattle.box_bisect.proofs.halves.last_half.Goals as goal

pub returns-clause-half : goal.returns-clause-half
returns-clause-half c =
    let f0 : FitsSigned w128 c.half_sum.result = record { sfits = c.half_sum.type_inv } in
    let f1 : FitsSigned w128 c.quarter_sum.result = record { sfits = c.quarter_sum.type_inv } in
    simp to_z-of_z (simp (c.half_sum.ensures.value, c.quarter_sum.ensures.value, back w128 c.args.form.now.c (λ k inside. search rules)) refl)

pub returns-clause-small : goal.returns-clause-small
returns-clause-small c m h = subst (IsBounded2 m) (sym (returns-clause-half c)) (last_small c.args.form.now.c m h)

pub half_sum-requires : goal.half_sum-requires
half_sum-requires c =
    let form = c.args.form.now.c in let h = c.requires in record { a = end_small (at form 2) h.last; b = middle_small (at form 1) h.middle }

pub quarter_sum-requires : goal.quarter_sum-requires
quarter_sum-requires c =
    let form = c.args.form.now.c in let h = c.requires in
    record { a = end_small (at form 0) h.first; b = middle_small (at form 1) h.middle; c = end_small (at form 2) h.last }
