-- The ranges of what a record gives. Lengths are micrometres, components of an axis 1/100,000.
use Rattle.std.specs.Prelude.{◌≡◌, ◌≢◌, ℤ, pos, ◌≤◌, ◌≤ℤ◌, ◌*ℤ◌, unsigned_abs, true, false, List, [], ◌∷◌, IfSome, MatchOption}
use Rattle.space.specs.Flanks.{is_flank, top_of}
use Rattle.space.specs.Ranges.{IsBetween, IsPoint, IsWithin, axis_unit}
use Rattle.space.specs.Vectors.{is_zero}
use Rattle.cl_records.specs.Kinds.{longest_distance, tallest, widest}
use Rattle.cl_records.specs.declared.cutter.CutterText.{CutterText}
use Rattle.cl_records.specs.declared.kind.Kind.{Kind}
use Rattle.cl_records.specs.declared.kind.Kind.TheVariants.{Length, Scaled}
use Rattle.cl_records.specs.declared.statement.Position.{Position}
use Rattle.cl_records.specs.declared.statement.Record.{Record}
use Rattle.cl_records.specs.declared.statement.Record.TheVariants.{Goto, From, Delta, Cutter}

-- a value between the bounds of its kind
abbrev pub IsKind : Kind → ℤ → Type 0
IsKind (Length least most) value = IsBetween least most value
IsKind (Scaled least most) value = IsBetween least most value

-- values in order, each between the bounds of the kind in its place
abbrev pub AreKinds : List Kind → List ℤ → Type 0
AreKinds kinds [] = Unit {0}
AreKinds [] (value ∷ values) = ⊥
AreKinds (kind ∷ kinds) (value ∷ values) = IsKind kind value × AreKinds kinds values

-- a tool axis: components within 100,000, not all of them 0
pub record IsToolAxis (axis : List ℤ) : Type 0 where
  pub within : IsWithin axis_unit axis
  pub some : is_zero axis ≡ false

-- a tip within a metre of the origin, and an axis where one is given
pub record IsPosition (position : Position) : Type 0 where
  pub tip : IsPoint position.tip
  pub axis : IfSome position.axis IsToolAxis

-- a conical cutter: no corner radius, and a height with which the top diameter is within the greatest
pub record IsCone (cutter : CutterText) : Type 0 where
  pub sharp : cutter.r ≡ pos 0
  pub top : MatchOption cutter.h ⊥ (λ h. top_of (unsigned_abs cutter.d) (unsigned_abs h) cutter.flank ≤ widest)

-- a cutter that was read: a diameter from 1 to 200,000, a corner radius of at most half of it, a height from 1 to 300,000 where
-- one is given, and a flank angle of the table, which is above 0 only for a cone
pub record IsCutterText (cutter : CutterText) : Type 0 where
  pub width : IsBetween (pos 1) (pos widest) cutter.d
  pub radius : pos 0 ≤ℤ cutter.r
  pub corner : (pos 2 *ℤ cutter.r) ≤ℤ cutter.d
  pub height : IfSome cutter.h (IsBetween (pos 1) (pos tallest))
  pub flank : is_flank cutter.flank ≡ true
  pub cone : cutter.flank ≢ 0 → IsCone cutter

-- what a record gives lies within its ranges
abbrev pub IsRecord : Record → Type 0
IsRecord (Goto tip axis) = IsPosition (record { tip = tip; axis = axis })
IsRecord (From tip axis) = IsPosition (record { tip = tip; axis = axis })
IsRecord (Delta by) = IsWithin longest_distance by
IsRecord (Cutter cutter) = IsCutterText cutter
IsRecord _ = Unit {0}
