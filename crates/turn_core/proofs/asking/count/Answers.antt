use Rattle.std.proofs.Common.{◌+◌, ◌<◌, rules, length, arith, refl, sym, ap, ap₂, ◌∙◌, subst, length-append, Fits, w64}
use Rattle.std.proofs.lemmas.List.{length-map}
use Rattle.ray_grid.specs.Points.{lattice_of}
use Rattle.ray_grid.specs.Strips.{strips_of}
use Rattle.job_counts.specs.Counts.{most_count}
use Rattle.job_counts.specs.Totals.{TotalsWithin, plus_totals}
use Rattle.job_model.specs.Points.{left_moves, strip_points, totals_over}
use Rattle.strip_journal.specs.Strips.{StripOf}
use Rattle.turn_core.specs.World.{versions_of}
use Rattle.turn_core.proofs.Between.{none_raised, raised_one}
use Rattle.turn_core.proofs.Parts.{first_all, first_more, first_points, first_within, plus_within, totals_more}
use Rattle.turn_core.proofs.ReadBack.{counts_set, lattice_same, read_set, within_set}
use Rattle.turn_core.proofs.Replaced.{plan_at, plan_set, raised_moved, stopped_moved, strips_set}
use Rattle.turn_core.proofs.Versions.{raised_all, raised_more}
use Rattle.turn_core.proofs.asking.count.Goals as goal

pub returns-in_err-raise-clause-still : goal.returns-in_err-raise-clause-still
returns-in_err-raise-clause-still c = λ job all.
    let h = c.loop-k.invariant.plan in
    let many = h.many in
    let before = c.requires.strips.many in
    strips_set c.args.plan.now job c.loop-k.strips c.loop-k.k c.index-strips-k.result c.raise.new.strip h
    (omega (arith, c.loop-k-test.true))
    (stopped_moved _ _ _ c.in_err-raise.ensures.err) (omega (arith, c.in_err-raise.ensures.err.short, c.requires.version))
    (c.loop-k.invariant.still job all)

pub plus-totals-requires : goal.plus-totals-requires
plus-totals-requires c =
    let h = c.loop-k.invariant.plan in
    let many = h.many in
    let before = c.requires.strips.many in
    let strip : c.loop-k.k < length (strips_of c.args.plan.now.grid) = omega (arith, c.loop-k-test.true) in
    let lt : c.loop-k.k < length c.loop-k.strips = omega arith in
    let moved = raised_moved _ _ _ c.in_ok-raise.ensures.ok in
    let here = within_set c.args.plan.now c.loop-k.strips c.loop-k.k c.index-strips-k.result c.raise.new.strip
    c.index-strips-k-in-loop-k.result c.args.version h lt moved in
    let part = first_within c.args.plan.now.grid c.loop-k.k strip in
    let fits : Fits w64 c.lattice_len-points.result = search rules in
    let whole = c.lattice_len-points.ensures.len ∙ ap (λ g. length (lattice_of g)) c.grid.ensures in
    plus_within c.loop-k.totals c.counts_at.result (length (first_points c.args.plan.now.grid c.loop-k.k))
    (length (strip_points c.args.plan.now.grid c.loop-k.k)) most_count
    c.loop-k.invariant.within (subst (TotalsWithin (length (strip_points c.args.plan.now.grid c.loop-k.k)))
    (sym c.counts_at.ensures) here) (omega arith)

pub loop-k-preserved : goal.loop-k-preserved
loop-k-preserved c =
    let plan = c.args.plan.now in
    let strips = c.loop-k.strips in
    let k = c.loop-k.k in
    let h = c.loop-k.invariant.plan in
    let many = h.many in
    let before = c.requires.strips.many in
    let strip : k < length (strips_of plan.grid) = omega (arith, c.loop-k-test.true) in
    let lt : k < length strips = omega arith in
    let moved = raised_moved _ _ _ c.in_ok-raise.ensures.ok in
    record {
      plan = plan_set plan strips k c.index-strips-k.result c.raise.new.strip h lt moved;
      still = λ job all. strips_set plan job strips k c.index-strips-k.result c.raise.new.strip h lt moved
          (omega (arith, c.in_ok-raise.ensures.ok.done, c.requires.version)) (c.loop-k.invariant.still job all);
      versions = raised_more strips c.args.version k c.index-strips-k.result c.raise.new.strip (versions_of c.args.strips.now) lt
          (let long = length-map c.args.strips.now (λ (s : StripOf). s.done) in
          omega arith) c.loop-k.invariant.versions c.in_ok-raise.ensures.ok.done;
      between =
          let done = c.in_ok-raise.ensures.ok.done in
          raised_one strips c.args.version k c.index-strips-k.result c.raise.new.strip (versions_of c.args.strips.now) lt
          (omega (arith, done)) (omega (arith, done)) c.loop-k.invariant.between;
      totals = λ job all.
          c.plus-totals.ensures
          ∙ ap₂ plus_totals (c.loop-k.invariant.totals job all)
          (c.counts_at.ensures ∙ counts_set plan job strips k c.index-strips-k.result c.raise.new.strip
          c.index-strips-k-in-loop-k.result c.args.version h (c.loop-k.invariant.still job all) lt
          moved)
          ∙ sym (totals_more job plan.grid (left_moves job.plan c.args.version) k strip);
      within =
          let here = within_set plan strips k c.index-strips-k.result c.raise.new.strip c.index-strips-k-in-loop-k.result c.args.version
          h lt moved in
          let long = ap length (first_more plan.grid k strip) ∙ length-append (first_points plan.grid k) (strip_points plan.grid k) in
          subst (TotalsWithin (length (first_points plan.grid (k + 1)))) (sym c.plus-totals.ensures)
          (plus_within c.loop-k.totals c.counts_at.result (length (first_points plan.grid k)) (length (strip_points plan.grid k))
          (length (first_points plan.grid (k + 1)))
          c.loop-k.invariant.within (subst (TotalsWithin (length (strip_points plan.grid k))) (sym c.counts_at.ensures) here)
          (omega arith));
    }

pub returns-clause-strips : goal.returns-clause-strips
returns-clause-strips c = λ job all.
    let long = length-map c.args.strips.now (λ (s : StripOf). s.done) in
    record {
      strips_are = c.loop-k.invariant.still job all;
      versions_are = c.loop-k.invariant.versions
          ∙ raised_all c.args.version c.loop-k.k (versions_of c.args.strips.now) (omega (arith, c.loop-k-test.false));
    }

pub returns-clause-totals : goal.returns-clause-totals
returns-clause-totals c = λ job all.
    let many = c.requires.strips.many in
    c.loop-k.invariant.totals job all
    ∙ ap (λ points. totals_over job points (left_moves job.plan c.args.version))
    (first_all c.args.plan.now.grid c.loop-k.k (omega (arith, c.loop-k-test.false)))
    ∙ ap (λ points. totals_over job points (left_moves job.plan c.args.version))
    (lattice_same c.args.plan.now job c.args.strips.now c.requires.strips all)

pub returns-in_err-raise-clause-stopped : goal.returns-in_err-raise-clause-stopped
returns-in_err-raise-clause-stopped c =
    let many = c.loop-k.invariant.plan.many in
    let before = c.requires.strips.many in
    let stopped = c.in_err-raise.ensures.err in
    let later = stopped.later in
    let short = stopped.short in
    let between = raised_one c.loop-k.strips c.args.version c.loop-k.k c.index-strips-k.result c.raise.new.strip
    (versions_of c.args.strips.now) (omega (arith, c.loop-k-test.true, many, before)) later (omega (arith, short))
    c.loop-k.invariant.between in
    search (rules, between)

pub loop-k-init : goal.loop-k-init
loop-k-init c = record {
  plan = c.requires.strips;
  still = λ job all. all;
  versions = refl;
  between = none_raised c.args.version (versions_of c.args.strips.now);
  totals = λ job all. c.none-totals.ensures;
  within = subst (TotalsWithin 0) (sym c.none-totals.ensures) (record { removed = omega arith; possible = omega arith; of = omega arith });
}

pub raise-requires-clause-plan : goal.raise-requires-clause-plan
raise-requires-clause-plan c =
    let h = c.loop-k.invariant.plan in
    let many = h.many in
    let before = c.requires.strips.many in
    plan_at c.args.plan.now c.loop-k.strips c.loop-k.k c.index-strips-k.result h (omega (arith, c.loop-k-test.true))

pub raise-requires-clause-version : goal.raise-requires-clause-version
raise-requires-clause-version c = c.requires.version

pub returns-in_err-raise-clause-plan : goal.returns-in_err-raise-clause-plan
returns-in_err-raise-clause-plan c =
    let h = c.loop-k.invariant.plan in
    let many = h.many in
    let before = c.requires.strips.many in
    plan_set c.args.plan.now c.loop-k.strips c.loop-k.k c.index-strips-k.result c.raise.new.strip h (omega (arith, c.loop-k-test.true))
    (stopped_moved _ _ _ c.in_err-raise.ensures.err)

pub counts_at-requires : goal.counts_at-requires
counts_at-requires c =
    let many = c.loop-k.invariant.plan.many in
    let before = c.requires.strips.many in
    let same = ap (λ (s : StripOf). s.done) (read_set c.loop-k.strips c.loop-k.k c.raise.new.strip
    c.index-strips-k-in-loop-k.result (omega (arith, c.loop-k-test.true, many, before))) in
    omega (arith, same, c.in_ok-raise.ensures.ok.done)

pub returns-clause-plan : goal.returns-clause-plan
returns-clause-plan c = c.loop-k.invariant.plan

pub returns-clause-still : goal.returns-clause-still
returns-clause-still c = c.loop-k.invariant.still
