use Rattle.std.proofs.Common.{◌≡◌, ℕ, ◌+◌, ◌-◌, ◌*◌, ◌<◌, ◌≤◌, List, [], length, arith, refl, sym, subst}
use Rattle.job_counts.specs.declared.counts.Counts.{Counts}
use Rattle.job_counts.specs.Counts.{AreWithin, most_count, no_counts}
use Rattle.job_model.specs.Tasks.{JobMove, PlanOf}
use Rattle.strip_plan.specs.Plans.{HasNumber}
use Rattle.ray_grid.specs.Strips.{strip_at}
use Rattle.ray_words.specs.Rays.{KeptSets}
use Rattle.ray_words.specs.Rows.{kept_at}
use Rattle.strip_marks.specs.declared.change.WordChange.{WordChange}
use Rattle.strip_marks.specs.Marks.{possible_there, sure_there}
use Rattle.wanted_marks.specs.Strips.{ray_at}
use Rattle.strip_marks.specs.RayMarks.{Adds, IsRayMarked}
use Rattle.strip_marks.specs.RowMarks.{AreRaysMarked}
use Rattle.strip_marks.proofs.AlongRays.{along_of, along_on, along_points}
use Rattle.strip_marks.proofs.Counting.{within_more}
use Rattle.strip_marks.proofs.IdleRays.{first_found, none_found}
use Rattle.strip_marks.proofs.MoreRays.{no_rays_to, same_self, same_set, sets_at}
use Rattle.strip_marks.proofs.NearRays.{near_node, near_nodes, near_of}
use Rattle.strip_marks.proofs.NextRays.{IsNextRay, are_rays_still, fewer_left, next_more, nothing_more}
use Rattle.strip_marks.proofs.OneRay.{marked_by, rays_step, within_next}
use Rattle.strip_marks.proofs.OnStrips.{marker_is, marker_of, node_within, some_move}
use Rattle.strip_marks.proofs.ReadyRays.{ready_at}
use Rattle.strip_marks.proofs.Told.{none_told, some_told}
use Rattle.strip_marks.proofs.strip.mark_rays.Goals as goal

-- no changes and no counts are none
nothing_yet : (plan : PlanOf) (move : JobMove) (strip lo hi : ℕ) (rays : List KeptSets) (changes : List WordChange) (counts : Counts) → changes ≡ [] → counts ≡ no_counts
    → AreRaysMarked plan move strip rays rays lo hi [] no_counts → AreRaysMarked plan move strip rays rays lo hi changes counts
nothing_yet plan move strip lo hi rays changes counts e z h =
    subst (λ (x : List WordChange). AreRaysMarked plan move strip rays rays lo hi x counts) (sym e)
    (subst (λ (x : Counts). AreRaysMarked plan move strip rays rays lo hi [] x) (sym z) h)

none_within : AreWithin 0 no_counts
none_within = record {
  removed = omega arith;
  possible = omega arith;
  part_sure = omega arith;
  part_possible = omega arith;
  fix_sure = omega arith;
  fix_possible = omega arith;
  rapid_sure = omega arith;
  rapid_possible = omega arith;
}

pub first_in-next-requires-clause-nodes : goal.first_in-next-requires-clause-nodes
first_in-next-requires-clause-nodes c =
    let a = c.args in
    let near = near_of a.plan.now a.number a.strip c.new-near.result c.cylinder.result.now c.grid-grid.result.now c.strip_ray-row.result
    c.new-near.ensures c.grid-grid.ensures c.strip_ray-row.ensures.there c.strip_ray-row.ensures.ray c.cylinder.ensures in
    omega (arith, c.requires.within, c.requires.rays.many, near_nodes a.plan.now a.number a.strip c.new-near.result near)

pub first_in-next-requires-in-Some-clause-nodes : goal.first_in-next-requires-in-Some-clause-nodes
first_in-next-requires-in-Some-clause-nodes c =
    let a = c.args in
    let near = near_of a.plan.now a.number a.strip c.new-near.result c.cylinder.result.now c.grid-grid.result.now c.strip_ray-row.result
    c.new-near.ensures c.grid-grid.ensures c.strip_ray-row.ensures.there c.strip_ray-row.ensures.ray c.cylinder.ensures in
    omega (arith, c.requires.within, c.requires.rays.many, near_nodes a.plan.now a.number a.strip c.new-near.result near)

pub first_in-next-requires-clause-on : goal.first_in-next-requires-clause-on
first_in-next-requires-clause-on c =
    let a = c.args in
    let near = near_of a.plan.now a.number a.strip c.new-near.result c.cylinder.result.now c.grid-grid.result.now c.strip_ray-row.result
    c.new-near.ensures c.grid-grid.ensures c.strip_ray-row.ensures.there c.strip_ray-row.ensures.ray c.cylinder.ensures in
    let window = c.strip_along-along.result in
    along_points a.plan.now a.number a.strip c.new-near.result window near
    (along_of a.plan.now a.number c.new-near.result _ window c.new-near.ensures c.strip_along-along.ensures)

pub first_in-next-requires-in-Some-clause-on : goal.first_in-next-requires-in-Some-clause-on
first_in-next-requires-in-Some-clause-on c =
    let a = c.args in
    let near = near_of a.plan.now a.number a.strip c.new-near.result c.cylinder.result.now c.grid-grid.result.now c.strip_ray-row.result
    c.new-near.ensures c.grid-grid.ensures c.strip_ray-row.ensures.there c.strip_ray-row.ensures.ray c.cylinder.ensures in
    let window = c.strip_along-along.result in
    along_points a.plan.now a.number a.strip c.new-near.result window near
    (along_of a.plan.now a.number c.new-near.result _ window c.new-near.ensures c.strip_along-along.ensures)

pub overflow_add-n : goal.overflow_add-n
overflow_add-n c =
    let a = c.args in
    let k = c.loop-next in
    let n = c.in-Some.n in
    let next = some_told (IsNextRay a.plan.now a.number a.strip c.new-near.result c.strip_along-along.result a.rays.now k.rays k.marked a.window.0 a.window.1) k.next
    (n, c.in-Some.first) k.invariant.some c.in-Some.is in
    omega (arith, next.below)

pub first_in-next-requires-in-Some-clause-some : goal.first_in-next-requires-in-Some-clause-some
first_in-next-requires-in-Some-clause-some c =
    let a = c.args in
    let k = c.loop-next in
    let n = c.in-Some.n in
    let next = some_told (IsNextRay a.plan.now a.number a.strip c.new-near.result c.strip_along-along.result a.rays.now k.rays k.marked a.window.0 a.window.1) k.next
    (n, c.in-Some.first) k.invariant.some c.in-Some.is in
    omega (arith, next.below)

pub first_in-next-requires-in-Some-clause-within : goal.first_in-next-requires-in-Some-clause-within
first_in-next-requires-in-Some-clause-within c =
    let a = c.args in
    let k = c.loop-next in
    let n = c.in-Some.n in
    let next = some_told (IsNextRay a.plan.now a.number a.strip c.new-near.result c.strip_along-along.result a.rays.now k.rays k.marked a.window.0 a.window.1) k.next
    (n, c.in-Some.first) k.invariant.some c.in-Some.is in
    let rays = c.mark_asked.new.rays in
    let e = c.in_ok-mark_asked.ensures in
    let same = same_set a.rays.now k.rays rays n (kept_at rays n) k.invariant.same (omega (arith, next.below, c.requires.within)) e.same
    e.others in
    omega (arith, c.requires.within, same.many)

pub returns-then-is_none-clause-marked : goal.returns-then-is_none-clause-marked
returns-then-is_none-clause-marked c = λ move has.
    let a = c.args in
    let near = near_of a.plan.now a.number a.strip c.new-near.result c.cylinder.result.now c.grid-grid.result.now c.strip_ray-row.result
    c.new-near.ensures c.grid-grid.ensures c.strip_ray-row.ensures.there c.strip_ray-row.ensures.ray c.cylinder.ensures in
    let along = along_of a.plan.now a.number c.new-near.result _ c.strip_along-along.result c.new-near.ensures c.strip_along-along.ensures in
    nothing_yet a.plan.now move a.strip a.window.0 a.window.1 a.rays.now a.room.items c.none.result c.requires.room c.none.ensures
    (none_told ((m : JobMove) → HasNumber a.plan.now a.number m
    → AreRaysMarked a.plan.now m a.strip a.rays.now a.rays.now a.window.0 a.window.1 [] no_counts)
    c.first_in-next.result
    (none_found a.plan.now a.number a.strip a.window.0 a.window.1 c.new-near.result a.rays.now c.strip_along-along.result c.first_in-next.result
    c.requires.plan c.requires.strip c.requires.rays near c.requires.within along c.first_in-next.ensures.none)
    c.if-is_none.ensures move has)

pub loop-next-init : goal.loop-next-init
loop-next-init c =
    let a = c.args in
    let lo = a.window.0 in
    let near = near_of a.plan.now a.number a.strip c.new-near.result c.cylinder.result.now c.grid-grid.result.now c.strip_ray-row.result
    c.new-near.ensures c.grid-grid.ensures c.strip_ray-row.ensures.there c.strip_ray-row.ensures.ray c.cylinder.ensures in
    let along = along_of a.plan.now a.number c.new-near.result _ c.strip_along-along.result c.new-near.ensures c.strip_along-along.ensures in
    let begun = λ (move : JobMove) (has : HasNumber a.plan.now a.number move).
    no_rays_to a.plan.now move a.strip lo lo a.rays.now a.rays.now a.room.items c.none.result refl c.requires.room c.none.ensures in
    record {
      same = same_self a.rays.now;
      none = nothing_more a.plan.now a.number a.strip a.rays.now a.rays.now (record { changes = a.room; counts = c.none.result }) lo lo a.window.1
          c.first_in-next.result (same_self a.rays.now) (omega arith) (omega arith) c.requires.within begun
          (none_found a.plan.now a.number a.strip lo a.window.1 c.new-near.result a.rays.now c.strip_along-along.result c.first_in-next.result
          c.requires.plan c.requires.strip c.requires.rays near c.requires.within along c.first_in-next.ensures.none);
      some = next_more a.plan.now a.number a.strip c.new-near.result c.strip_along-along.result a.rays.now a.rays.now (record { changes = a.room; counts = c.none.result })
          lo lo a.window.1 c.first_in-next.result (same_self a.rays.now) (omega arith) c.requires.within
          (within_more 0 ((lo - lo) * 4294967295) c.none.result (omega arith)
          (subst (λ (n : Counts). AreWithin 0 n) (sym c.none.ensures) none_within)) begun
          (first_found a.plan.now a.number a.strip lo a.window.1 c.new-near.result a.rays.now c.strip_along-along.result c.first_in-next.result
          c.requires.plan c.requires.strip c.requires.rays near c.requires.within along c.first_in-next.ensures.some);
    }

pub mark_asked-requires : goal.mark_asked-requires
mark_asked-requires c =
    let a = c.args in
    let k = c.loop-next in
    let n = c.in-Some.n in
    let next = some_told (IsNextRay a.plan.now a.number a.strip c.new-near.result c.strip_along-along.result a.rays.now k.rays k.marked a.window.0 a.window.1) k.next
    (n, c.in-Some.first) k.invariant.some c.in-Some.is in
    let lt : n < length a.rays.now = omega (arith, next.below, c.requires.within) in
    let on_strip : n < length (strip_at a.plan.now.grid a.strip) = omega (arith, lt, c.requires.rays.many) in
    let marker = marker_of a.plan.now a.number a.strip c.on_strip-marker.result c.marker-mover.result c.grid-grid.result.now
    c.strip_ray-row.result c.on_strip-marker.ensures c.grid-grid.ensures c.strip_ray-row.ensures.there c.strip_ray-row.ensures.ray
    c.marker-mover.ensures.marker in
    let near = near_of a.plan.now a.number a.strip c.new-near.result c.cylinder.result.now c.grid-grid.result.now c.strip_ray-row.result
    c.new-near.ensures c.grid-grid.ensures c.strip_ray-row.ensures.there c.strip_ray-row.ensures.ray c.cylinder.ensures in
    let ready = ready_at a.plan.now a.number a.strip n c.on_strip-marker.result c.new-near.result (kept_at k.rays n) c.strip_along-along.result
    c.requires.plan c.requires.number c.requires.strip on_strip marker near
    (sets_at a.plan.now.grid a.strip a.rays.now k.rays n c.requires.rays k.invariant.same lt)
    (along_on a.plan.now a.number a.strip n c.new-near.result c.strip_along-along.result near on_strip
    (along_of a.plan.now a.number c.new-near.result _ c.strip_along-along.result c.new-near.ensures c.strip_along-along.ensures)) in
    record {
      some = omega (arith, lt, k.invariant.same.many);
      ray = ready.sets;
      window = ready.window;
      node = node_within a.plan.now a.number a.strip n c.on_strip-marker.result marker on_strip;
      n = near_node a.plan.now a.number a.strip n c.new-near.result near on_strip;
      near = ready.near;
      first = next.asked;
      room = within_more ((n - a.window.0) * 4294967295) (most_count - 8589934592) k.marked.counts (omega arith) next.within;
    }

pub returns-in_err-mark_asked-clause-same : goal.returns-in_err-mark_asked-clause-same
returns-in_err-mark_asked-clause-same c =
    let a = c.args in
    let k = c.loop-next in
    let n = c.in-Some.n in
    let next = some_told (IsNextRay a.plan.now a.number a.strip c.new-near.result c.strip_along-along.result a.rays.now k.rays k.marked a.window.0 a.window.1) k.next
    (n, c.in-Some.first) k.invariant.some c.in-Some.is in
    let e = c.in_err-mark_asked.ensures in
    same_set a.rays.now k.rays c.mark_asked.new.rays n (kept_at c.mark_asked.new.rays n) k.invariant.same
    (omega (arith, next.below, c.requires.within)) e.same e.others

pub loop-next-smaller : goal.loop-next-smaller
loop-next-smaller c =
    let a = c.args in
    let k = c.loop-next in
    let n = c.in-Some.n in
    let window = c.strip_along-along.result in
    let near = near_of a.plan.now a.number a.strip c.new-near.result c.cylinder.result.now c.grid-grid.result.now c.strip_ray-row.result
    c.new-near.ensures c.grid-grid.ensures c.strip_ray-row.ensures.there c.strip_ray-row.ensures.ray c.cylinder.ensures in
    let along = along_of a.plan.now a.number c.new-near.result _ window c.new-near.ensures c.strip_along-along.ensures in
    let next = some_told (IsNextRay a.plan.now a.number a.strip c.new-near.result window a.rays.now k.rays k.marked a.window.0 a.window.1) k.next
    (n, c.in-Some.first) k.invariant.some c.in-Some.is in
    let rays = c.mark_asked.new.rays in
    let e = c.in_ok-mark_asked.ensures in
    let same = same_set a.rays.now k.rays rays n (kept_at rays n) k.invariant.same (omega (arith, next.below, c.requires.within)) e.same
    e.others in
    fewer_left a.plan.now a.number a.strip c.new-near.result window rays n a.window.1 c.in-Some.first k.next c.first_in-next-in-Some.result
    c.in-Some.is next.below
    (first_found a.plan.now a.number a.strip (n + 1) a.window.1 c.new-near.result rays window c.first_in-next-in-Some.result c.requires.plan
    c.requires.strip (are_rays_still a.plan.now.grid a.strip a.rays.now rays c.requires.rays same) near
    (omega (arith, c.requires.within, same.many)) along c.first_in-next-in-Some.ensures.some)

pub loop-next-preserved : goal.loop-next-preserved
loop-next-preserved c =
    let a = c.args in
    let k = c.loop-next in
    let n = c.in-Some.n in
    let lo = a.window.0 in
    let hi = a.window.1 in
    let rays = c.mark_asked.new.rays in
    let ray = kept_at rays n in
    let e = c.in_ok-mark_asked.ensures in
    let after = c.mark_asked.new.marked in
    let span = (n - lo) * 4294967295 in
    let next = some_told (IsNextRay a.plan.now a.number a.strip c.new-near.result c.strip_along-along.result a.rays.now k.rays k.marked lo hi) k.next
    (n, c.in-Some.first) k.invariant.some c.in-Some.is in
    let lt : n < length a.rays.now = omega (arith, next.below, c.requires.within) in
    let same = same_set a.rays.now k.rays rays n ray k.invariant.same lt e.same e.others in
    let marker = marker_of a.plan.now a.number a.strip c.on_strip-marker.result c.marker-mover.result c.grid-grid.result.now
    c.strip_ray-row.result c.on_strip-marker.ensures c.grid-grid.ensures c.strip_ray-row.ensures.there c.strip_ray-row.ensures.ray
    c.marker-mover.ensures.marker in
    let adds : (move : JobMove) → HasNumber a.plan.now a.number move → Adds k.marked after (λ added found.
    IsRayMarked ray (sure_there a.plan.now move a.strip n) (possible_there a.plan.now move a.strip n) move.rapid n added found) =
    λ move has. marked_by a.plan.now move a.strip n (ray_at c.on_strip-marker.result n) c.is_rapid-rapid.result ray k.marked after
    (marker_is a.plan.now a.number a.strip n move c.on_strip-marker.result marker has (omega (arith, lt, c.requires.rays.many)))
    (c.is_rapid-rapid.ensures move has) e.marked in
    let near = near_of a.plan.now a.number a.strip c.new-near.result c.cylinder.result.now c.grid-grid.result.now c.strip_ray-row.result
    c.new-near.ensures c.grid-grid.ensures c.strip_ray-row.ensures.there c.strip_ray-row.ensures.ray c.cylinder.ensures in
    let window = c.strip_along-along.result in
    let along = along_of a.plan.now a.number c.new-near.result _ window c.new-near.ensures c.strip_along-along.ensures in
    let still = are_rays_still a.plan.now.grid a.strip a.rays.now rays c.requires.rays same in
    let end : hi ≤ length rays = omega (arith, c.requires.within, same.many) in
    let some = some_move a.plan.now a.number c.requires.number in
    let within = within_more (span + 4294967295) ((n + 1 - lo) * 4294967295) after.counts (omega (arith, next.from))
    (within_next a.plan.now some.0 a.strip n span ray k.marked after next.within (adds some.0 some.1)) in
    let done : (move : JobMove) → HasNumber a.plan.now a.number move
    → AreRaysMarked a.plan.now move a.strip a.rays.now rays lo (n + 1) after.changes.items after.counts =
    λ move has. rays_step a.plan.now move a.strip lo n a.rays.now k.rays rays ray k.marked after c.requires.rays k.invariant.same e.same
    e.others next.from lt (next.ahead move has) (adds move has) in
    record {
      same = same;
      none = nothing_more a.plan.now a.number a.strip a.rays.now rays after lo (n + 1) hi c.first_in-next-in-Some.result same
          (omega (arith, next.from)) (omega (arith, next.below)) c.requires.within done
          (none_found a.plan.now a.number a.strip (n + 1) hi c.new-near.result rays window c.first_in-next-in-Some.result c.requires.plan
          c.requires.strip still near end along c.first_in-next-in-Some.ensures.none);
      some = next_more a.plan.now a.number a.strip c.new-near.result c.strip_along-along.result a.rays.now rays after lo (n + 1) hi
          c.first_in-next-in-Some.result same (omega (arith, next.from)) c.requires.within within done
          (first_found a.plan.now a.number a.strip (n + 1) hi c.new-near.result rays window c.first_in-next-in-Some.result c.requires.plan
          c.requires.strip still near end along c.first_in-next-in-Some.ensures.some);
    }
