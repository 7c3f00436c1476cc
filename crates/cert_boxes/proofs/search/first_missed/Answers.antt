use Rattle.std.proofs.Common.{ℕ, ◌<◌, Option, None, Some, length, arith, subst}
use Rattle.std.specs.List.{flat_map}
use Rattle.ray_grid.specs.Points.{points_on}
use Rattle.ray_grid.specs.Strips.{strip_at, strips_of}
use Rattle.ray_grid.specs.declared.ray.Ray.{Ray}
use Rattle.cert_boxes.specs.Search.{IsFirstPlace}
use Rattle.cert_boxes.specs.Tasks.{cert_task}
use Rattle.cert_boxes.proofs.StripLemmas.{first_of_alike, rows_alike_too, strip_found, strip_none, strips_none}
use Rattle.cert_boxes.proofs.search.first_missed.Goals as goal

pub loop-strip-preserved : goal.loop-strip-preserved
loop-strip-preserved g c =
    let task = cert_task c.args.sweep.now c.args.stacks.now.cutter c.args.part.now.grid c.args.part.now.solid.value c.args.fixture.now.solid.value in
    let s = c.loop-strip.strip in let alike = c.loop-strip.invariant.alike in
    let low : s < length (strips_of task.grid) = omega (arith, c.loop-strip-test.true, c.strips-strip-end.ensures) in
    let points = flat_map (points_on task.grid) (strip_at task.grid s) in
    record {
      none =
          strip_none task c.args.rows.now s low c.loop-strip.invariant.none
          (first_of_alike task c.loop-strip.rows c.args.rows.now points None alike
          (subst (λ (o : Option (Ray × ℕ)). IsFirstPlace task c.loop-strip.rows points o) c.in-None.is c.in_ok-found.ensures.first));
      alike = rows_alike_too c.first_in.new.rows c.loop-strip.rows c.args.rows.now c.in_ok-found.ensures.alike alike;
    }

pub returns-in-Some : goal.returns-in-Some
returns-in-Some g c =
    let task = cert_task c.args.sweep.now c.args.stacks.now.cutter c.args.part.now.grid c.args.part.now.solid.value c.args.fixture.now.solid.value in
    let s = c.loop-strip.strip in let alike = c.loop-strip.invariant.alike in
    let low : s < length (strips_of task.grid) = omega (arith, c.loop-strip-test.true, c.strips-strip-end.ensures) in
    let points = flat_map (points_on task.grid) (strip_at task.grid s) in
    strip_found task c.args.rows.now s c.in-Some.place low c.loop-strip.invariant.none
    (first_of_alike task c.loop-strip.rows c.args.rows.now points (Some c.in-Some.place) alike
    (subst (λ (o : Option (Ray × ℕ)). IsFirstPlace task c.loop-strip.rows points o) c.in-Some.is c.in_ok-found.ensures.first))

pub returns : goal.returns
returns g c =
    let task = cert_task c.args.sweep.now c.args.stacks.now.cutter c.args.part.now.grid c.args.part.now.solid.value c.args.fixture.now.solid.value in
    strips_none task c.args.rows.now c.loop-strip.strip (omega (arith, c.loop-strip-test.false, c.strips-strip-end.ensures)) c.loop-strip.invariant.none
