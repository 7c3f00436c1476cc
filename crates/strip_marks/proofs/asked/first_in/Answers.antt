use Rattle.std.proofs.Common.{ap, arith}
use Rattle.ray_words.specs.Rays.{KeptSets}
use Rattle.strip_marks.specs.RowMarks.{IsOpenRay}
use Rattle.strip_marks.proofs.Told.{some_told}
use Rattle.strip_marks.proofs.UnaskedRays.{open_first, open_passed}
use Rattle.strip_marks.proofs.asked.first_in.Goals as goal

pub loop-n-preserved : goal.loop-n-preserved
loop-n-preserved c =
    let a = c.args in
    let at = c.loop-n.at in
    let before = c.loop-n.invariant in
    let found = some_told (IsOpenRay a.near.now a.rays.now a.window at a.end) c.next_open.result (c.in-Some.n, c.in-Some.left) c.next_open.ensures.some c.in-Some.is in
    record {
      from = omega (arith, before.from, found.from);
      to = omega (arith, found.below);
      ahead = open_passed a.near.now a.rays.now a.window a.from at a.end c.in-Some.n c.in-Some.left c.ray.result.now.sets
          (ap (λ (k : KeptSets). k.sets) c.ray.ensures) before.ahead found c.in_default-first_word.ensures.none;
    }

pub returns-in-Some-first_word-clause-some : goal.returns-in-Some-first_word-clause-some
returns-in-Some-first_word-clause-some c =
    let a = c.args in
    let at = c.loop-n.at in
    let before = c.loop-n.invariant in
    let found = some_told (IsOpenRay a.near.now a.rays.now a.window at a.end) c.next_open.result (c.in-Some.n, c.in-Some.left) c.next_open.ensures.some c.in-Some.is in
    open_first a.near.now a.rays.now a.window a.from at a.end c.in-Some.n c.in-Some.left c.ray.result.now.sets c.in-Some-first_word.first
    (ap (λ (k : KeptSets). k.sets) c.ray.ensures) before.from before.ahead found c.in-Some-first_word.ensures.some
