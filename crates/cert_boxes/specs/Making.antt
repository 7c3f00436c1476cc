-- The certificate that is due of a move: ray by ray, the boxes of a tree on which every outer slab is excluded.
use Rattle.std.specs.Prelude.{ℕ, zero, suc, ◌+◌, ◌-◌, ◌*◌, ◌/◌, Bool, nat_lt, if◌then◌else◌}
use Rattle.std.specs.Prelude.{List, [], ◌∷◌, ◌++◌, Option, Some, None, reverse}
use Rattle.std.specs.List.{find, range_with_len}
use Rattle.ray_grid.specs.Lattice.{points_of}
use Rattle.ray_grid.specs.Points.{point_in, rays_of}
use Rattle.ray_grid.specs.declared.ray.Ray.{Ray}
use Rattle.cert_lines.specs.Spelling.{line_of_cell}
use Rattle.cert_lines.specs.declared.cell.CertCell.{CertCell}
use Rattle.cert_lines.specs.declared.cert.Cert.{Cert}
use Rattle.cert_boxes.specs.Covering.{wants_cover}
use Rattle.cert_boxes.specs.Holding.{box_holds}
use Rattle.cert_boxes.specs.Tasks.{CertTask}

-- the box from its first to its last index that is wanted; none where no index of it is
abbrev pub first_to_last : CertCell → Option ℕ → Option ℕ → Option CertCell
first_to_last box (Some first) (Some last) = Some (record box { a = first; b = last + 1 })
first_to_last box _ _ = None

abbrev pub cut_down : (ℕ → Bool) → CertCell → Option CertCell
cut_down wanted box =
    let indices = range_with_len box.a (box.b - box.a) in
    first_to_last box (find wanted indices) (find wanted (reverse indices))

-- the halves of a box: along the ray, or in time where it has one index; none where that is so at the depth
abbrev pub half_way : CertCell → ℕ
half_way box = box.a + (box.b - box.a) / 2

abbrev pub halves_of : ℕ → CertCell → Option (CertCell × CertCell)
halves_of depth box =
    if nat_lt (box.a + 1) box.b then Some (record box { b = half_way box }, record box { a = half_way box })
    else (if nat_lt box.q depth then Some (record box { q = box.q + 1; k = 2 * box.k }, record box { q = box.q + 1; k = 2 * box.k + 1 })
    else None)

-- the cells of both, where both have them
abbrev pub both_cells : Option (List CertCell) → Option (List CertCell) → Option (List CertCell)
both_cells (Some first) (Some last) = Some (first ++ last)
both_cells _ _ = None

abbrev pub cells_of_halves : (CertCell → Option (List CertCell)) → Option (CertCell × CertCell) → Option (List CertCell)
cells_of_halves cells_of None = None
cells_of_halves cells_of (Some halves) = both_cells (cells_of halves.0) (cells_of halves.1)

-- a box that is cut down is one cell where it holds, and else it has the cells of its halves
abbrev pub cells_of_cut : (CertCell → Bool) → ℕ → (CertCell → Option (List CertCell)) → Option CertCell → Option (List CertCell)
cells_of_cut holds depth cells_of None = Some []
cells_of_cut holds depth cells_of (Some box) = if holds box then Some (box ∷ []) else cells_of_halves cells_of (halves_of depth box)

-- The cells of a box; there are none where one wanted index at the depth does not hold. `halvings` is above the number of times that the
-- box can be halved.
unfoldable pub cells_of_box : (ℕ → Bool) → (CertCell → Bool) → ℕ → ℕ → CertCell → Option (List CertCell)
cells_of_box wanted holds depth zero box = None
cells_of_box wanted holds depth (suc halvings) box =
    cells_of_cut holds depth (cells_of_box wanted holds depth halvings) (cut_down wanted box)

-- the index is that of a point of the ray that has to be covered
abbrev pub wants_index : CertTask → Ray → ℕ → Bool
wants_index task ray l = wants_cover task (point_in task.grid ray l)

-- the whole ray over the whole time, before its line has a number; and its cells
abbrev pub whole_box : Ray → ℕ → CertCell
whole_box ray points = record { line = 0; ray = ray; q = 0; k = 0; a = 0; b = points }

abbrev pub cells_of_ray : CertTask → ℕ → ℕ → Ray → Option (List CertCell)
cells_of_ray task slabs depth ray =
    let points = points_of task.grid ray.family in
    cells_of_box (wants_index task ray) (box_holds task slabs) depth (points + depth + 1) (whole_box ray points)

-- of rays in order, where each has them
abbrev pub cells_of_rays : CertTask → ℕ → ℕ → List Ray → Option (List CertCell)
cells_of_rays task slabs depth [] = Some []
cells_of_rays task slabs depth (ray ∷ rays) = both_cells (cells_of_ray task slabs depth ray) (cells_of_rays task slabs depth rays)

-- each cell with the number of its line, where the next line has this number and the cell before was of this ray
abbrev pub numbered : ℕ → Option Ray → List CertCell → List CertCell
numbered number last [] = []
numbered number last (cell ∷ cells) =
    let line = line_of_cell number last cell.ray in
    record cell { line = line } ∷ numbered (line + 1) (Some cell.ray) cells

abbrev pub cert_with : ℕ → Option (List CertCell) → Option Cert
cert_with slabs None = None
cert_with slabs (Some cells) = Some (record { slabs = slabs; cells = numbered 3 None cells })

-- the certificate that is due for so many slabs and a depth
abbrev pub cert_due : CertTask → ℕ → ℕ → Option Cert
cert_due task slabs depth = cert_with slabs (cells_of_rays task slabs depth (rays_of task.grid))
