use Rattle.std.proofs.Common.{ℤ, of_z, to_z, arith, ap, sym, ◌∙◌}
use Rattle.std.proofs.lemmas.Int.{to_z-of_z}
use Rattle.std.specs.List.{list_all}
use mir.Syntax.{w32}
use Rattle.axis_cells.specs.Exclusion.{fits_in_reach}
use Rattle.axis_cells.proofs.SlabBySlab.{all_later, all_none, not_all, valid_more}
use Rattle.axis_cells.proofs.plain.all_fit_in_reach.Goals as goal

pub loop-slab-preserved : goal.loop-slab-preserved
loop-slab-preserved c =
    let s = c.slab-item in let reach = to_z w32 (of_z w32 c.args.reach) in let i = c.loop-slab.slab-index in record {
      test = all_later (fits_in_reach reach) c.args.slabs.now i s.result c.loop-slab-test.true s.is (sym c.fits_in_reach.ensures.test ∙ c.if-not-fits_in_reach.false)
          ∙ c.loop-slab.invariant.test;
      valid = valid_more c.args.slabs.now i s.result c.loop-slab.invariant.valid c.loop-slab-test.true s.is c.fits_in_reach.ensures.valid;
    }

pub returns-then-not-fits_in_reach-clause-test : goal.returns-then-not-fits_in_reach-clause-test
returns-then-not-fits_in_reach-clause-test c =
    let s = c.slab-item in let reach = to_z w32 (of_z w32 c.args.reach) in
    not_all (fits_in_reach reach) c.args.slabs.now c.loop-slab.slab-index s.result c.loop-slab-test.true s.is (sym c.fits_in_reach.ensures.test ∙ c.if-not-fits_in_reach.true)
    ∙ c.loop-slab.invariant.test ∙ ap (λ (r : ℤ). list_all (fits_in_reach r) c.args.slabs.now) (to_z-of_z w32 c.args.reach c.ranges.reach)

pub returns-clause-test : goal.returns-clause-test
returns-clause-test c =
    all_none (fits_in_reach (to_z w32 (of_z w32 c.args.reach))) c.args.slabs.now c.loop-slab.slab-index c.loop-slab-test.false
    ∙ c.loop-slab.invariant.test ∙ ap (λ (r : ℤ). list_all (fits_in_reach r) c.args.slabs.now) (to_z-of_z w32 c.args.reach c.ranges.reach)

pub returns-clause-valid : goal.returns-clause-valid
returns-clause-valid c = λ all k d l. c.loop-slab.invariant.valid k d (omega (arith, l, c.loop-slab-test.false))
