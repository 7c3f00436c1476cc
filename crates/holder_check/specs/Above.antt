-- The holder above a cutter, by its two numbers. Lengths are micrometres.
use Rattle.std.specs.Prelude.{ℕ, ◌+◌, ◌≤◌}
use Rattle.bern_form.specs.Slab.{SlabSize}
use Rattle.cutter_slabs.specs.Cutter.{CutterSize}
use Rattle.cutter_slabs.specs.Stacks.{slab_of}

-- its diameter, and its length along the axis
pub record HolderSize : Type 0 where
  pub diameter : ℕ
  pub length : ℕ

-- a valid holder: 1 <= diameter <= 200,000 and 1 <= length <= 299,999
pub record IsHolder (holder : HolderSize) : Type 0 where
  pub wide : 1 ≤ holder.diameter
  pub width : holder.diameter ≤ 200000
  pub long : 1 ≤ holder.length
  pub most : holder.length ≤ 299999

-- it fits above a cutter: its upper end is at most 300,000 above the tip
abbrev pub HolderFits : HolderSize → CutterSize → Type 0
HolderFits holder cutter = cutter.h + holder.length ≤ 300000

-- its slab: it begins at the cutter's upper end and is as long and as wide as the holder
abbrev pub slab_above : HolderSize → CutterSize → SlabSize
slab_above holder cutter = slab_of cutter.h (cutter.h + holder.length) holder.diameter

-- the same as a cutter of its own: a plain cylinder whose base is the cutter's upper end
abbrev pub holder_cutter : HolderSize → CutterSize → CutterSize
holder_cutter holder cutter = record { d = holder.diameter; r = 0; h = cutter.h + holder.length; flank = 0; base = cutter.h }
