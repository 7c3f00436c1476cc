-- What holds of the tool's state between two records.
use Rattle.std.specs.Prelude.{IfSome, All}
use Rattle.space.specs.Ranges.{IsPoint}
use Rattle.cl_records.specs.Ranges.{IsCutterText, IsToolAxis}
use Rattle.cl_moves.specs.Moves.{IsMove}
use Rattle.cl_moves.specs.declared.fold.Fold.{Fold}

-- a position within a metre of the origin where one is known, a tool axis, a cutter that was read where there is one,
-- and moves that are all valid sweeps
pub record IsFold (fold : Fold) : Type 0 where
  pub position : IfSome fold.position IsPoint
  pub axis : IsToolAxis fold.axis
  pub cutter : IfSome fold.cutter IsCutterText
  pub moves : All IsMove fold.moves
