use Rattle.std.proofs.Common.{ℕ, Option, None, Some, [], get_or, arith, subst}
use Rattle.ray_grid.specs.Strips.{ray_number, strip_at}
use Rattle.cert_boxes.specs.Search.{IsFirstOn}
use Rattle.cert_boxes.specs.Tasks.{cert_task}
use Rattle.cert_boxes.proofs.StripLemmas.{first_alike, ray_found, ray_none, rays_none, rows_alike_too}
use Rattle.cert_boxes.proofs.search.first_in.Goals as goal

pub loop-n-preserved : goal.loop-n-preserved
loop-n-preserved g c =
    let task = cert_task c.args.sweep.now c.args.stacks.now.cutter c.args.part.now.grid c.args.part.now.solid.value c.args.fixture.now.solid.value in
    let ray = c.strip_ray-ray.result in let number = ray_number task.grid ray in let alike = c.loop-n.invariant.alike in
    record {
      none =
          ray_none task c.args.rows.now (strip_at c.args.part.now.grid c.args.strip) c.loop-n.n ray c.strip_ray-ray.ensures.there c.loop-n.invariant.none
          (first_alike task (get_or c.loop-n.rows number []) (get_or c.args.rows.now number []) ray None (alike number)
          (subst (λ (o : Option ℕ). IsFirstOn task (get_or c.loop-n.rows number []) ray o) c.in-None.is c.in_ok-found.ensures.first));
      alike = rows_alike_too c.first_on.new.rows c.loop-n.rows c.args.rows.now c.in_ok-found.ensures.alike alike;
    }

pub returns-in-Some : goal.returns-in-Some
returns-in-Some g c =
    let task = cert_task c.args.sweep.now c.args.stacks.now.cutter c.args.part.now.grid c.args.part.now.solid.value c.args.fixture.now.solid.value in
    let ray = c.strip_ray-ray.result in let number = ray_number task.grid ray in let alike = c.loop-n.invariant.alike in
    record {
      first =
          ray_found task c.args.rows.now (strip_at c.args.part.now.grid c.args.strip) c.loop-n.n ray c.in-Some.l c.strip_ray-ray.ensures.there c.loop-n.invariant.none
          (first_alike task (get_or c.loop-n.rows number []) (get_or c.args.rows.now number []) ray (Some c.in-Some.l) (alike number)
          (subst (λ (o : Option ℕ). IsFirstOn task (get_or c.loop-n.rows number []) ray o) c.in-Some.is c.in_ok-found.ensures.first));
      alike = rows_alike_too c.first_on.new.rows c.loop-n.rows c.args.rows.now c.in_ok-found.ensures.alike alike;
    }

pub returns : goal.returns
returns g c =
    let task = cert_task c.args.sweep.now c.args.stacks.now.cutter c.args.part.now.grid c.args.part.now.solid.value c.args.fixture.now.solid.value in
    record {
      first =
          rays_none task c.args.rows.now (strip_at c.args.part.now.grid c.args.strip) c.loop-n.n (omega (arith, c.loop-n-test.false, c.strip_len-n-end.ensures)) c.loop-n.invariant.none;
      alike = c.loop-n.invariant.alike;
    }
