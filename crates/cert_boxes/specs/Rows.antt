-- The cells of one ray, without the ray: the indices from a on and below b, and the finest cells from `from` on and below `to`.
use Rattle.std.specs.Prelude.{◌≡◌, ℕ, ◌+◌, ◌*◌, Bool, ◌&&◌, nat_eq, nat_le, nat_lt, List, [], slice_index_or}
use Rattle.std.specs.List.{list_all, list_any, range_with_len}
use Rattle.ray_grid.specs.Grids.{GridSize}
use Rattle.ray_grid.specs.Strips.{ray_number}
use Rattle.cert_lines.specs.declared.cell.CertCell.{CertCell}
use Rattle.cert_boxes.specs.declared.span.CellSpan.{CellSpan}
use Rattle.cert_boxes.specs.Covering.{finest_cells, finest_in}

-- what a line says of its ray
abbrev pub span_of : CertCell → CellSpan
span_of cell = record {
  from = cell.k * finest_in cell.q;
  to = cell.k * finest_in cell.q + finest_in cell.q;
  a = cell.a;
  b = cell.b;
}

-- the span has the index, and the finest cell too
abbrev pub has_index : ℕ → CellSpan → Bool
has_index l span = nat_le span.a l && nat_lt l span.b

abbrev pub has_both : ℕ → ℕ → CellSpan → Bool
has_both l e span = has_index l span && (nat_le span.from e && nat_lt e span.to)

-- at each of n finest cells from one on some span has the index
abbrev pub covers_from : List CellSpan → ℕ → ℕ → ℕ → Bool
covers_from spans l from many = list_all (λ e. list_any (has_both l e) spans) (range_with_len from many)

-- and at all finest cells
unfoldable pub covers_throughout : List CellSpan → ℕ → Bool
covers_throughout spans l = covers_from spans l 0 finest_cells

-- a row for each number of a ray, as far as there are lines: what some span of the row passes, some line of the ray passes
abbrev pub AreRows : GridSize → List CertCell → List (List CellSpan) → Type 0
AreRows grid cells rows =
    (number : ℕ) (test : CellSpan → Bool)
    → list_any test (slice_index_or rows number [])
    ≡ list_any (λ cell. nat_eq (ray_number grid cell.ray) number && test (span_of cell)) cells

-- the span has all of the finest cells from one on and below another
abbrev pub is_throughout : ℕ → ℕ → CellSpan → Bool
is_throughout from to span = nat_le span.from from && nat_le to span.to

-- what some span of one list passes, some span of the other passes: they have the same spans, in any order and any number of times
abbrev pub AreAlike : List CellSpan → List CellSpan → Type 0
AreAlike spans others = (test : CellSpan → Bool) → list_any test spans ≡ list_any test others

-- the rows of each number are
abbrev pub AreRowsAlike : List (List CellSpan) → List (List CellSpan) → Type 0
AreRowsAlike rows others = (number : ℕ) → AreAlike (slice_index_or rows number []) (slice_index_or others number [])
