use Rattle.std.proofs.Common.{get_or, slice_get, set, max, rules, arith, sym, ap, ◌∙◌, subst}
use Rattle.std.proofs.lemmas.Option.{slice_get_within}
use Rattle.ray_grid.specs.Grids.{GridSize}
use Rattle.ray_grid.specs.Strips.{strip_at}
use Rattle.ray_grid.proofs.Rows.{only_place}
use Rattle.ray_grid.specs.Points.{point_in}
use Rattle.job_model.specs.Points.{left_moves, state_after}
use Rattle.job_model.specs.Tasks.{Job}
use Rattle.strip_journal.specs.Strips.{StripOf}
use Rattle.turn_core.specs.World.{AreBetween, versions_of}
use Rattle.turn_core.proofs.Between.{stopped_one}
use Rattle.turn_core.proofs.ReadBack.{job_set, point_set, rays_set, read_set}
use Rattle.turn_core.proofs.Replaced.{number_in, plan_at, plan_set, raised_moved, stopped_moved, strips_set}
use Rattle.turn_core.proofs.Versions.{version_at, versions_set}
use Rattle.turn_core.proofs.asking.probe.Goals as goal

pub returns-in_err-raise-clause-plan : goal.returns-in_err-raise-clause-plan
returns-in_err-raise-clause-plan c =
    let lt = number_in c.args.plan.now c.grid.result.now c.args.strips.now c.place-strip.result.0 c.requires.strips c.grid.ensures
    c.place-strip.ensures.strip in
    plan_set c.args.plan.now c.args.strips.now c.place-strip.result.0 c.index-strips-strip.result c.raise.new.strip c.requires.strips lt
    (stopped_moved _ _ _ c.in_err-raise.ensures.err)

pub returns-in_err-raise-clause-still : goal.returns-in_err-raise-clause-still
returns-in_err-raise-clause-still c = λ job all.
    let lt = number_in c.args.plan.now c.grid.result.now c.args.strips.now c.place-strip.result.0 c.requires.strips c.grid.ensures
    c.place-strip.ensures.strip in
    strips_set c.args.plan.now job c.args.strips.now c.place-strip.result.0 c.index-strips-strip.result c.raise.new.strip
    c.requires.strips lt (stopped_moved _ _ _ c.in_err-raise.ensures.err)
    (omega (arith, c.in_err-raise.ensures.err.short, c.requires.version)) all

pub state_at-requires-clause-ray : goal.state_at-requires-clause-ray
state_at-requires-clause-ray c =
    let k = c.place-strip.result.0 in
    let n = c.place-strip.result.1 in
    let lt = number_in c.args.plan.now c.grid.result.now c.args.strips.now k c.requires.strips c.grid.ensures c.place-strip.ensures.strip in
    let rays = rays_set c.args.plan.now c.args.strips.now k c.index-strips-strip.result c.raise.new.strip c.index-strips-strip-2.result
    c.requires.strips lt (raised_moved _ _ _ c.in_ok-raise.ensures.ok) in
    let at = ap (λ (g : GridSize). slice_get (strip_at g k) n) (sym c.grid.ensures) ∙ c.place-strip.ensures.there in
    slice_get_within _ n c.args.ray.now (ap (λ rays. slice_get rays n) rays ∙ at)

pub state_at-requires-clause-point : goal.state_at-requires-clause-point
state_at-requires-clause-point c =
    let k = c.place-strip.result.0 in
    let n = c.place-strip.result.1 in
    let lt = number_in c.args.plan.now c.grid.result.now c.args.strips.now k c.requires.strips c.grid.ensures c.place-strip.ensures.strip in
    let at = ap (λ (g : GridSize). slice_get (strip_at g k) n) (sym c.grid.ensures) ∙ c.place-strip.ensures.there in
    point_set c.args.plan.now c.args.strips.now k c.index-strips-strip.result c.raise.new.strip c.index-strips-strip-2.result n c.args.l
    c.args.ray.now c.requires.strips lt
    (raised_moved _ _ _ c.in_ok-raise.ensures.ok) at c.requires.point

pub returns-clause-plan : goal.returns-clause-plan
returns-clause-plan c =
    let lt = number_in c.args.plan.now c.grid.result.now c.args.strips.now c.place-strip.result.0 c.requires.strips c.grid.ensures
    c.place-strip.ensures.strip in
    plan_set c.args.plan.now c.args.strips.now c.place-strip.result.0 c.index-strips-strip.result c.raise.new.strip c.requires.strips lt
    (raised_moved _ _ _ c.in_ok-raise.ensures.ok)

pub returns-clause-still : goal.returns-clause-still
returns-clause-still c = λ job all.
    let lt = number_in c.args.plan.now c.grid.result.now c.args.strips.now c.place-strip.result.0 c.requires.strips c.grid.ensures
    c.place-strip.ensures.strip in
    strips_set c.args.plan.now job c.args.strips.now c.place-strip.result.0 c.index-strips-strip.result c.raise.new.strip
    c.requires.strips lt (raised_moved _ _ _ c.in_ok-raise.ensures.ok)
    (omega (arith, c.in_ok-raise.ensures.ok.done, c.requires.version)) all

pub returns-clause-strips : goal.returns-clause-strips
returns-clause-strips c = λ job all.
    let strips = c.args.strips.now in
    let k = c.place-strip.result.0 in
    let lt = number_in c.args.plan.now c.grid.result.now strips k c.requires.strips c.grid.ensures c.place-strip.ensures.strip in
    let at = ap (λ (g : GridSize). slice_get (strip_at g k) c.place-strip.result.1) (sym c.grid.ensures) ∙ c.place-strip.ensures.there in
    let number = (only_place c.args.plan.now.grid c.args.ray.now k c.place-strip.result.1 at).0 in
    record {
      strips_are = strips_set c.args.plan.now job strips k c.index-strips-strip.result c.raise.new.strip c.requires.strips lt
          (raised_moved _ _ _ c.in_ok-raise.ensures.ok)
          (omega (arith, c.in_ok-raise.ensures.ok.done, c.requires.version)) all;
      versions_are = versions_set strips k c.raise.new.strip
          ∙ ap (set (versions_of strips) k)
          (c.in_ok-raise.ensures.ok.done ∙ ap (λ n. max n c.args.version) (version_at strips k c.index-strips-strip.result lt))
          ∙ ap (λ n. set (versions_of strips) n (max (get_or (versions_of strips) n 0) c.args.version)) number;
    }

pub returns-clause-state : goal.returns-clause-state
returns-clause-state c = λ job all.
    let strips = c.args.strips.now in
    let k = c.place-strip.result.0 in
    let n = c.place-strip.result.1 in
    let lt = number_in c.args.plan.now c.grid.result.now strips k c.requires.strips c.grid.ensures c.place-strip.ensures.strip in
    let moved = raised_moved _ _ _ c.in_ok-raise.ensures.ok in
    let at = ap (λ (g : GridSize). slice_get (strip_at g k) n) (sym c.grid.ensures) ∙ c.place-strip.ensures.there in
    let rays = rays_set c.args.plan.now strips k c.index-strips-strip.result c.raise.new.strip c.index-strips-strip-2.result
    c.requires.strips lt moved in
    c.state_at.ensures c.args.ray.now (ap (λ rays. slice_get rays n) rays ∙ at)
    ∙ ap (λ (j : Job). state_after j (left_moves j.plan c.args.version) (point_in j.plan.grid c.args.ray.now c.args.l))
    (job_set job strips k c.index-strips-strip.result c.raise.new.strip c.index-strips-strip-2.result all lt moved)

pub returns-in_err-raise-clause-stopped : goal.returns-in_err-raise-clause-stopped
returns-in_err-raise-clause-stopped c =
    let strips = c.args.strips.now in
    let vs = versions_of strips in
    let k = c.place-strip.result.0 in
    let lt = number_in c.args.plan.now c.grid.result.now strips k c.requires.strips c.grid.ensures c.place-strip.ensures.strip in
    let at = ap (λ (g : GridSize). slice_get (strip_at g k) c.place-strip.result.1) (sym c.grid.ensures) ∙ c.place-strip.ensures.there in
    let number = (only_place c.args.plan.now.grid c.args.ray.now k c.place-strip.result.1 at).0 in
    let one = stopped_one strips k c.index-strips-strip.result c.raise.new.strip c.args.version (max (get_or vs k 0) c.args.version) lt
    c.in_err-raise.ensures.err (omega arith) in
    let between = subst (λ n. AreBetween vs (set vs n (max (get_or vs n 0) c.args.version)) (versions_of (set strips k c.raise.new.strip)))
    number one in
    search (rules, between)

pub raise-requires-clause-plan : goal.raise-requires-clause-plan
raise-requires-clause-plan c =
    let lt = number_in c.args.plan.now c.grid.result.now c.args.strips.now c.place-strip.result.0 c.requires.strips c.grid.ensures
    c.place-strip.ensures.strip in
    plan_at c.args.plan.now c.args.strips.now c.place-strip.result.0 c.index-strips-strip.result c.requires.strips lt

pub state_at-requires-clause-version : goal.state_at-requires-clause-version
state_at-requires-clause-version c =
    let k = c.place-strip.result.0 in
    let lt = number_in c.args.plan.now c.grid.result.now c.args.strips.now k c.requires.strips c.grid.ensures c.place-strip.ensures.strip in
    let same = ap (λ (s : StripOf). s.done) (read_set c.args.strips.now k c.raise.new.strip c.index-strips-strip-2.result lt) in
    omega (arith, same, c.in_ok-raise.ensures.ok.done)
