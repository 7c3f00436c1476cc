use Rattle.std.proofs.Common.{◌≡◌, drop, ℕ, ◌<◌, slice_index_or}
use Rattle.std.specs.List.{list_all}
use Rattle.bern_form.specs.Slab.{IsSlab, SlabSize}
use Rattle.axis_cells.specs.Exclusion.{fits_in_reach}
use Rattle.axis_cells.proofs.plain.all_fit_in_reach.Given as goal

abbrev pub invariant-loop-slab : goal.invariant-loop-slab
invariant-loop-slab l = record {
  test : list_all (fits_in_reach l.reach) (drop l.slab-index l.slabs) ≡ list_all (fits_in_reach l.reach) l.slabs;
  valid : (k : ℕ) (d : SlabSize) → k < l.slab-index → IsSlab (slice_index_or l.slabs k d);
}
