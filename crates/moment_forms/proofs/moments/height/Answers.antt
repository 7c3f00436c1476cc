use Rattle.std.proofs.Common.{◌∙◌, ◌*◌}
use mir.Syntax.{w64}
use Rattle.space.specs.Vectors.{at}
use Rattle.bern_form.specs.Sizes.{axis_limit, offset_limit}
use Rattle.space.proofs.Reread.{back_of, small_back}
use Rattle.moment_forms.specs.Sizes.{part_limit}
use Rattle.moment_forms.proofs.Fits.{axis_fits, height_fits, offset_fits, part_by, part_fits, three_same}
use Rattle.moment_forms.proofs.moments.height.Goals as goal

pub part-requires : goal.part-requires
part-requires c =
    let p = c.args.p.now in let a = c.args.a.now in
    record { p = small_back w64 (at p 0) offset_limit offset_fits c.requires.p.0; a = small_back w64 (at a 0) axis_limit axis_fits c.requires.a.0 }

pub part-requires-2 : goal.part-requires-2
part-requires-2 c =
    let p = c.args.p.now in let a = c.args.a.now in
    record { p = small_back w64 (at p 1) offset_limit offset_fits c.requires.p.1; a = small_back w64 (at a 1) axis_limit axis_fits c.requires.a.1 }

pub part-requires-3 : goal.part-requires-3
part-requires-3 c =
    let p = c.args.p.now in let a = c.args.a.now in
    record { p = small_back w64 (at p 2) offset_limit offset_fits c.requires.p.2; a = small_back w64 (at a 2) axis_limit axis_fits c.requires.a.2 }

pub add-requires : goal.add-requires
add-requires c = record {
  x = small_back w64 c.part.result part_limit part_fits c.part.ensures.small;
  y = small_back w64 c.part-2.result part_limit part_fits c.part-2.ensures.small;
  z = small_back w64 c.part-3.result part_limit part_fits c.part-3.ensures.small;
}

pub returns-clause-value : goal.returns-clause-value
returns-clause-value c =
    let p = c.args.p.now in let a = c.args.a.now in let hp = c.requires.p in let ha = c.requires.a in
    let x = c.part in let y = c.part-2 in let z = c.part-3 in
    back_of w64 c.add.result (3 * part_limit) height_fits c.add.ensures.small ∙ c.add.ensures.value
    ∙ three_same _ _ _ _ _ _ (part_by x.result (at p 0) (at a 0) x.ensures.small hp.0 ha.0 x.ensures.value)
    (part_by y.result (at p 1) (at a 1) y.ensures.small hp.1 ha.1 y.ensures.value) (part_by z.result (at p 2) (at a 2) z.ensures.small hp.2 ha.2 z.ensures.value)

pub returns-clause-small : goal.returns-clause-small
returns-clause-small c = small_back w64 c.add.result (3 * part_limit) height_fits c.add.ensures.small
