use Rattle.std.proofs.Common.{◌*◌}
use mir.Syntax.{w64}
use Rattle.space.specs.Vectors.{at}
use Rattle.bern_form.specs.Sizes.{axis_limit, offset_limit}
use Rattle.space.proofs.Reread.{small_back}
use Rattle.moment_forms.specs.Sizes.{part_limit}
use Rattle.moment_forms.proofs.Fits.{axis_fits, minor_by, offset_fits, parts_fit}
use Rattle.moment_forms.proofs.Middle.{three_same}
use Rattle.moment_forms.proofs.moments.moment.Goals as goal

pub minor-requires : goal.minor-requires
minor-requires c =
    let p = c.args.p.now in let a = c.args.a.now in record {
      p = small_back w64 (at p 1) offset_limit offset_fits c.requires.p.1;
      q = small_back w64 (at p 2) offset_limit offset_fits c.requires.p.2;
      a = small_back w64 (at a 1) axis_limit axis_fits c.requires.a.1;
      b = small_back w64 (at a 2) axis_limit axis_fits c.requires.a.2;
    }

pub minor-requires-2 : goal.minor-requires-2
minor-requires-2 c =
    let p = c.args.p.now in let a = c.args.a.now in record {
      p = small_back w64 (at p 2) offset_limit offset_fits c.requires.p.2;
      q = small_back w64 (at p 0) offset_limit offset_fits c.requires.p.0;
      a = small_back w64 (at a 2) axis_limit axis_fits c.requires.a.2;
      b = small_back w64 (at a 0) axis_limit axis_fits c.requires.a.0;
    }

pub minor-requires-3 : goal.minor-requires-3
minor-requires-3 c =
    let p = c.args.p.now in let a = c.args.a.now in record {
      p = small_back w64 (at p 0) offset_limit offset_fits c.requires.p.0;
      q = small_back w64 (at p 1) offset_limit offset_fits c.requires.p.1;
      a = small_back w64 (at a 0) axis_limit axis_fits c.requires.a.0;
      b = small_back w64 (at a 1) axis_limit axis_fits c.requires.a.1;
    }

pub returns-clause-value : goal.returns-clause-value
returns-clause-value c =
    let p = c.args.p.now in let a = c.args.a.now in let hp = c.requires.p in let ha = c.requires.a in
    let x = c.minor in let y = c.minor-2 in let z = c.minor-3 in
    three_same _ _ _ _ _ _ (minor_by x.result (at p 1) (at p 2) (at a 1) (at a 2) x.ensures.small hp.1 hp.2 ha.1 ha.2 x.ensures.value)
    (minor_by y.result (at p 2) (at p 0) (at a 2) (at a 0) y.ensures.small hp.2 hp.0 ha.2 ha.0 y.ensures.value)
    (minor_by z.result (at p 0) (at p 1) (at a 0) (at a 1) z.ensures.small hp.0 hp.1 ha.0 ha.1 z.ensures.value)

pub returns-clause-small : goal.returns-clause-small
returns-clause-small c =
    let n = 2 * part_limit in
    (small_back w64 c.minor.result n parts_fit c.minor.ensures.small, small_back w64 c.minor-2.result n parts_fit c.minor-2.ensures.small, small_back w64 c.minor-3.result n parts_fit c.minor-3.ensures.small)
