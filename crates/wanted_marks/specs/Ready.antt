-- What is known of a move of a cutter that is ready for marks.
use Rattle.std.specs.Prelude.{◌≡◌, ◌^◌, ◌≤◌, ℤ, List, true, All}
use Rattle.space.specs.Sweeps.{IsSweep}
use Rattle.bern_form.specs.Forms.{IsSmall}
use Rattle.bern_form.specs.Sizes.{scale_limit}
use Rattle.cutter_slabs.specs.Rising.{IsRising}
use Rattle.cutter_slabs.specs.Stacks.{inner_stack, outer_stack}
use Rattle.wanted_marks.specs.declared.ready_move.ReadyMove.{ReadyMove}
use Rattle.wanted_marks.specs.GridForms.{AreGridForms}
use Rattle.wanted_marks.specs.Limits.{AreLimits}
use Rattle.wanted_marks.specs.Rays.{MoveOf, is_possible_in, is_sure_in}
use Rattle.wanted_marks.specs.Widths.{IsAxisForms}

-- The depth is one that points are marked at, the motion is valid, a point that is sure is possible too, the slabs rise, and what is kept
-- of the move is right: the scale, the axis at both ends with n, the limits, and the forms of the points of a grid.
pub record IsReadyMove (ready : ReadyMove) (v : MoveOf) : Type 0 where
  pub shallow : v.depth ≤ 10
  pub valid : IsSweep v.sweep
  pub both : (p : List ℤ) → is_sure_in v p ≡ true → is_possible_in v p ≡ true
  pub rising : IsRising (inner_stack v.cutter v.slabs)
  pub outer_rising : IsRising (outer_stack v.cutter v.slabs)
  pub scale_is : ready.scale ≡ 2 ^ v.depth
  pub few : ready.scale ≤ scale_limit
  pub axis_forms : IsAxisForms ready.axis_forms.first ready.axis_forms.last ready.axis_forms.n.c v.sweep ready.scale
  pub limits_are : AreLimits ready.limits v
  pub limits_small : All IsSmall ready.limits
  pub forms : AreGridForms ready.forms v.sweep ready.forms.grid ready.scale
