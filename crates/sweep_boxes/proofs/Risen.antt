-- A place of slabs that begin above the tip is as high as they begin, less the height slack.
use Rattle.std.proofs.Common.{◌≡◌, true, ℕ, ◌+◌, ◌*◌, List, ℤ, pos, ◌*ℤ◌, ◌-ℤ◌, ◌<ℤ◌, ◌≤ℤ◌, unsigned_abs, arith, sym, ◌∙◌}
use Rattle.std.proofs.lemmas.Int.{ints}
use Rattle.space.specs.Sweeps.{SweepOf, axis_at, offset_at}
use Rattle.space.specs.Vectors.{dot}
use Rattle.bern_form.specs.Between.{is_unexcluded_between}
use Rattle.bern_form.specs.Slab.{SlabSize}
use Rattle.sweep_boxes.specs.declared.sweep_interval.SweepInterval.{SweepInterval}
use Rattle.sweep_boxes.specs.BandTerms.{IsRiseAbove}
use Rattle.sweep_boxes.specs.Held.{IsHeightSlack}
use Rattle.sweep_boxes.specs.Intervals.{AreFrom, IsNearer, middle_offset}
use Rattle.sweep_boxes.specs.Made.{IsSweepInterval}
use Rattle.sweep_boxes.proofs.Kept.{some_left}
use Rattle.sweep_boxes.proofs.Shortest.{at_least}
use Rattle.sweep_boxes.proofs.Stepped.{rise_is, risen_with, roomy}
use Rattle.sweep_boxes.proofs.Sweeps.{axes_step, axes_sum, offsets_step, offsets_sum}

above_none : (height_slack rise : ℤ) (n : ℕ) → height_slack ≡ pos n → (pos 2 *ℤ height_slack) <ℤ rise → pos 0 <ℤ rise
above_none height_slack rise n e h = omega (arith, ints, e, h)

less_lift : (height_slack rise u : ℤ) (n r : ℕ) → height_slack ≡ pos n → rise ≡ pos r → (pos r -ℤ pos n) ≤ℤ u → (rise -ℤ height_slack) ≤ℤ u
less_lift height_slack rise u n r e f h = omega (arith, ints, e, f, h)

pub risen_on : (interval : SweepInterval) (m : SweepOf) (k S : ℕ) (slabs : List SlabSize) (p : List ℤ) (lowest height_slack rise : ℤ) (far : List ℤ) → IsSweepInterval interval m k S → AreFrom lowest slabs
    → is_unexcluded_between slabs m p k (k + 1) S ≡ true → IsNearer (middle_offset m p k S) far → IsHeightSlack height_slack interval far → IsRiseAbove rise lowest interval → (pos 2 *ℤ height_slack) <ℤ rise
    → (rise -ℤ height_slack) ≤ℤ dot (middle_offset m p k S) interval.axis
risen_on interval m k S slabs p lowest height_slack rise far of begin left near l raised room =
    let one = some_left slabs m p k (k + 1) S left in
    let P = offset_at m p (pos k) (pos S) in let Q = offset_at m p (pos (k + 1)) (pos S) in let A = axis_at m (pos k) (pos S) in let C = axis_at m (pos (k + 1)) (pos S) in
    let v = middle_offset m p k S in
    let ev = offsets_sum m p k S in let ex = axes_sum m k S ∙ sym of.axis in let ed = offsets_step m p k S ∙ sym of.offset_change in let ee = axes_step m k S ∙ sym of.axis_change in
    let by = raised (above_none height_slack rise (l.v + l.b) l.total_is room) in
    let g = by.shortest in
    let r = 2 * S * unsigned_abs lowest * unsigned_abs g in
    let reached : rise ≡ pos r = rise_is interval.scale S lowest g rise of.scale by.some by.is_shortest.some by.rise_is in
    less_lift height_slack rise (dot v interval.axis) (l.v + l.b) r l.total_is reached
    (risen_with P Q A C v interval.axis interval.offset_change interval.axis_change S one.slab r l.v l.b ev ex ed ee
    (at_least S one.slab.lo lowest g A C interval.axis interval.axis_change ex ee by.is_shortest by.some (begin one.slab one.among)) one.left
    (roomy height_slack rise (l.v + l.b) r l.total_is reached room) (l.change v near) l.bend)
