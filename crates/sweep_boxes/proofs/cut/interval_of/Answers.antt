use Rattle.std.proofs.Common.{◌≡◌, ◌≤◌, ◌<◌, ◌+◌, ◌*◌, ℕ, ℤ, List, unsigned_abs, arith}
use Rattle.space.specs.Ranges.{IsWithin, axis_unit}
use Rattle.space.specs.Vectors.{at}
use Rattle.sweep_boxes.specs.Limits.{place_limit}
use Rattle.space.proofs.Words.{kept_at_most, kept_some}
use Rattle.sweep_boxes.proofs.Words.{tip_within}
use Rattle.sweep_boxes.proofs.cut.interval_of.Goals as goal

-- ends are no further than places, and axes that are taken times the scale than a side
places_within : (v : List ℤ) → IsWithin 1000000 v → IsWithin place_limit v
places_within v h = (place (at v 0) h.0, place (at v 1) h.1, place (at v 2) h.2) where
  place : (z : ℤ) → unsigned_abs z ≤ 1000000 → unsigned_abs z ≤ place_limit
  place z h = omega (arith, h)

axes_within : (v : List ℤ) → IsWithin axis_unit v → IsWithin 1000000 v
axes_within v h = (axis (at v 0) h.0, axis (at v 1) h.1, axis (at v 2) h.2) where
  axis : (z : ℤ) → unsigned_abs z ≤ axis_unit → unsigned_abs z ≤ 1000000
  axis z h = omega (arith, h)

-- the times of a part are within the whole
parts_few : (parts : ℕ) → parts ≤ 64 → (parts ≤ 128) × (2 * parts ≤ 128)
parts_few parts h = (omega (arith, h), omega (arith, h))

time_in : (cell parts all : ℕ) → cell < all → parts ≡ all
    → (cell ≤ parts) × (cell + 1 ≤ parts) × (2 * cell + 1 ≤ 2 * parts) × (1 ≤ 2 * parts)
time_in cell parts all h e = (omega (arith, h, e), omega (arith, h, e), omega (arith, h, e), omega (arith, h, e))

pub parts_of-parts-requires : goal.parts_of-parts-requires
parts_of-parts-requires c = c.requires.level

pub places-first-requires : goal.places-first-requires
places-first-requires c =
    let parts = c.parts_of-parts in let sweep = c.sweep in
    record {
      whole = (parts_few parts.result parts.ensures.few).0;
      time = (time_in c.args.cell parts.result _ c.requires.cell parts.ensures.parts).0;
      from = places_within sweep.inside.axis_from (axes_within sweep.inside.axis_from sweep.invariant.axis_from);
      to = places_within sweep.inside.axis_to (axes_within sweep.inside.axis_to sweep.invariant.axis_to);
    }

pub places-last-requires : goal.places-last-requires
places-last-requires c =
    let parts = c.parts_of-parts in let sweep = c.sweep in
    record {
      whole = (parts_few parts.result parts.ensures.few).0;
      time = (time_in c.args.cell parts.result _ c.requires.cell parts.ensures.parts).1;
      from = places_within sweep.inside.axis_from (axes_within sweep.inside.axis_from sweep.invariant.axis_from);
      to = places_within sweep.inside.axis_to (axes_within sweep.inside.axis_to sweep.invariant.axis_to);
    }

pub places-requires : goal.places-requires
places-requires c =
    let parts = c.parts_of-parts in let sweep = c.sweep in
    record {
      whole = (parts_few parts.result parts.ensures.few).1;
      time = (time_in c.args.cell parts.result _ c.requires.cell parts.ensures.parts).2;
      from = places_within sweep.inside.from sweep.invariant.from;
      to = places_within sweep.inside.to sweep.invariant.to;
    }

pub places-requires-2 : goal.places-requires-2
places-requires-2 c =
    let parts = c.parts_of-parts in let sweep = c.sweep in
    record {
      whole = (parts_few parts.result parts.ensures.few).1;
      time = (time_in c.args.cell parts.result _ c.requires.cell parts.ensures.parts).2;
      from = places_within sweep.inside.axis_from (axes_within sweep.inside.axis_from sweep.invariant.axis_from);
      to = places_within sweep.inside.axis_to (axes_within sweep.inside.axis_to sweep.invariant.axis_to);
    }

pub difference-requires : goal.difference-requires
difference-requires c = record { p = c.sweep.invariant.from; q = c.sweep.invariant.to }

pub difference-requires-2 : goal.difference-requires-2
difference-requires-2 c = record { p = axes_within c.sweep.inside.axis_to c.sweep.invariant.axis_to; q = axes_within c.sweep.inside.axis_from c.sweep.invariant.axis_from }

pub longer-requires : goal.longer-requires
longer-requires c = record { first = tip_within c.places-first.result c.places-first.ensures.small; last = tip_within c.places-last.result c.places-last.ensures.small }

pub invariant_of-result : goal.invariant_of-result
invariant_of-result c =
    let parts = c.parts_of-parts in let longest = c.longer in
    record {
      scaled = ((time_in c.args.cell parts.result _ c.requires.cell parts.ensures.parts).3, (parts_few parts.result parts.ensures.few).1);
      tip_within = c.places.ensures.small;
      axis_within = tip_within c.places-2.result c.places-2.ensures.small;
      offset_change_within = c.difference.ensures.small;
      axis_change_within = c.difference-2.ensures.small;
      long = (kept_some longest.result longest.type_inv longest.ensures.some, kept_at_most longest.result _ longest.type_inv longest.ensures.small);
    }
