-- Which numbers make a certificate over a grid.
use Rattle.std.specs.Prelude.{ℕ, ◌^◌, ◌&&◌, nat_le, nat_lt, Bool, IsTrue}
use Rattle.std.specs.List.{list_all}
use Rattle.ray_grid.specs.Grids.{GridSize}
use Rattle.ray_grid.specs.Lattice.{is_ray_on, points_of}
use Rattle.cert_lines.specs.declared.cell.CertCell.{CertCell}
use Rattle.cert_lines.specs.declared.cert.Cert.{Cert}
use Rattle.cert_lines.specs.Limits.{deepest_level, most_cert_slabs}

-- from 1 to 256 slabs
abbrev pub are_slabs : ℕ → Bool
are_slabs n = nat_le 1 n && nat_le n most_cert_slabs

-- the level is at most 10 and has the part k, and the points from a on and below b are some of those of the ray
abbrev pub is_span_on : GridSize → CertCell → Bool
is_span_on grid cell =
    nat_le cell.q deepest_level && (nat_lt cell.k (2 ^ cell.q)
    && (nat_lt cell.a cell.b && nat_le cell.b (points_of grid cell.ray.family)))

-- and the ray is one of the grid
abbrev pub is_cell_on : GridSize → CertCell → Bool
is_cell_on grid cell = is_ray_on grid cell.ray && is_span_on grid cell

-- a certificate whose numbers are in range
pub record IsInRange (grid : GridSize) (cert : Cert) : Type 0 where
  pub slabs : IsTrue (are_slabs cert.slabs)
  pub cells : IsTrue (list_all (is_cell_on grid) cert.cells)
