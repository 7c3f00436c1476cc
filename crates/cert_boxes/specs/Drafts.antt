-- A certificate's cells as they are added, box by box.
use Rattle.std.specs.Prelude.{◌≡◌, ℕ, ◌+◌, ◌-◌, ◌^◌, ◌≤◌, ◌<◌, Bool, true, false, List, [], ◌∷◌, ◌++◌, Option, Some, None}
use Rattle.ray_grid.specs.Grids.{GridSize}
use Rattle.ray_grid.specs.Lattice.{IsRay, points_of}
use Rattle.cert_lines.specs.Spelling.{line_of_cell}
use Rattle.cert_lines.specs.declared.cell.CertCell.{CertCell}
use Rattle.cert_boxes.specs.declared.draft.Draft.{Draft}

-- no cells yet: two lines stand before them
abbrev pub empty_draft : Draft
empty_draft = record { cells = []; number = 3; last = None }

-- one more cell, with the number of its line
abbrev pub with_box : Draft → CertCell → Draft
with_box draft box =
    let line = line_of_cell draft.number draft.last box.ray in
    record { cells = draft.cells ++ record box { line = line } ∷ []; number = line + 1; last = Some box.ray }

-- these cells more, in order
abbrev pub with_boxes : Draft → List CertCell → Draft
with_boxes draft [] = draft
with_boxes draft (box ∷ boxes) = with_boxes (with_box draft box) boxes

-- the cells were added, where there are some; else it is said that there are none
abbrev pub AddsCells : Option (List CertCell) → Draft → Draft → Bool → Type 0
AddsCells None old new whole = whole ≡ false
AddsCells (Some boxes) old new whole = (whole ≡ true) × (new ≡ with_boxes old boxes)

-- a box of a ray of the grid, no deeper than the depth; it may have no index
pub record IsBoxOn (grid : GridSize) (depth : ℕ) (box : CertCell) : Type 0 where
  pub ray : IsRay grid box.ray
  pub level : box.q ≤ depth
  pub part : box.k < 2 ^ box.q
  pub order : box.a ≤ box.b
  pub within : box.b ≤ points_of grid box.ray.family

-- how often a box can be halved at most
abbrev pub halvings_left : ℕ → CertCell → ℕ
halvings_left depth box = (box.b - box.a) + (depth - box.q)
