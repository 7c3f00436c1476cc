use Rattle.std.proofs.Common.{◌≡◌, ℕ, ◌<◌, [], get_or, refl, subst, sym, ◌∙◌}
use Rattle.vf_spans.specs.Members.{has}
use Rattle.ray_grid.specs.Strips.{ray_number}
use Rattle.cert_boxes.specs.Rows.{covers_throughout}
use Rattle.cert_boxes.specs.Tasks.{cert_task}
use Rattle.cert_boxes.proofs.SearchLemmas.{first_left, none_wanted, wanted_left}
use Rattle.cert_boxes.proofs.search.first_on.Goals as goal

pub returns-then-is_empty : goal.returns-then-is_empty
returns-then-is_empty g c =
    let task = cert_task c.args.sweep.now c.args.stacks.now.cutter c.args.part.now.grid c.args.part.now.solid.value c.args.fixture.now.solid.value in
    record {
      first =
          none_wanted task (get_or c.args.rows.now (ray_number task.grid c.args.ray.now) []) c.args.ray.now
          (λ l low. sym (c.in_ok-wanted.ensures.exact l low) ∙ c.is_empty.ensures.0 c.if-is_empty.true l);
      alike = λ number test. refl;
    }

pub returns : goal.returns
returns g c =
    let task = cert_task c.args.sweep.now c.args.stacks.now.cutter c.args.part.now.grid c.args.part.now.solid.value c.args.fixture.now.solid.value in
    let row = get_or c.args.rows.now (ray_number task.grid c.args.ray.now) [] in
    let covered = c.in_ok-covered.covered in
    let exact : (l : ℕ) → l < c.bound.result → has covered l ≡ covers_throughout row l =
    subst (λ n. (l : ℕ) → l < c.bound.result → has covered l ≡ covers_throughout (get_or c.args.rows.now n []) l) c.ray_number-number.ensures.number c.in_ok-covered.ensures.exact in
    record {
      first =
          first_left task row c.args.ray.now c.in_ok-left.left c.first_of.result (c.in_ok-left.ensures.bound ∙ c.in_ok-wanted.ensures.bound)
          (wanted_left task row c.args.ray.now c.in_ok-wanted.wanted covered c.in_ok-left.left c.in_ok-wanted.ensures.bound c.in_ok-wanted.ensures.exact
          (subst (λ n. (l : ℕ) → l < n → has covered l ≡ covers_throughout row l) c.bound.ensures exact) c.in_ok-left.ensures.minus)
          c.first_of.ensures;
      alike = c.in_ok-covered.ensures.alike;
    }
