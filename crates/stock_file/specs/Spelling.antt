-- The text of a saved stock.
use Rattle.std.specs.Prelude.{ℕ, ℤ, pos, Bool, List, [], ◌∷◌, ◌++◌, codes, map, slice_index}
use Rattle.space.specs.Vectors.{at}
use Rattle.vf_spans.specs.Members.{ranges_of}
use Rattle.vf_text.specs.Pages.{line, numbers}
use Rattle.ray_grid.specs.Grids.{GridSize}
use Rattle.ray_grid.specs.Points.{rays_of}
use Rattle.ray_grid.specs.declared.ray.Ray.{Ray}
use Rattle.cert_lines.specs.Spelling.{end_line, family_letter}
use Rattle.stock_file.specs.Saved.{Saved}

-- the lines `stock 1` and `grid X Y Z PITCH STEP CX CY CZ`, each with its line end
abbrev pub stock_line : List ℕ
stock_line = line (codes "stock 1")

-- counts, each with a space before it
abbrev pub counts_spelt : List ℕ → List ℕ
counts_spelt counts = numbers (map (λ n. pos n) counts)

-- the numbers of a grid in the order of the text
abbrev pub grid_numbers : GridSize → List ℤ
grid_numbers grid =
    at grid.origin 0 ∷ at grid.origin 1 ∷ at grid.origin 2 ∷ grid.pitch ∷ grid.step
    ∷ pos (slice_index grid.counts 0) ∷ pos (slice_index grid.counts 1) ∷ pos (slice_index grid.counts 2) ∷ []

abbrev pub grid_line : GridSize → List ℕ
grid_line grid = line (codes "grid" ++ numbers (grid_numbers grid))

-- the bounds of ranges in order: of each the lower one, which is included, and the upper one, which is excluded
abbrev pub range_bounds : List (ℕ × ℕ) → List ℕ
range_bounds [] = []
range_bounds (range ∷ ranges) = range.0 ∷ range.1 ∷ range_bounds ranges

-- the line `ray F I J` with bounds, which a ray without ranges has not
abbrev pub ranges_line : Ray → List (ℕ × ℕ) → List ℕ
ranges_line ray [] = []
ranges_line ray (range ∷ ranges) =
    line (codes "ray " ++ (family_letter ray.family ++ counts_spelt (ray.i ∷ ray.j ∷ range_bounds (range ∷ ranges))))

-- the lines of rays with their sets, in order
abbrev pub rays_text : List Ray → List (List Bool) → List ℕ
rays_text [] sets = []
rays_text (ray ∷ rays) [] = []
rays_text (ray ∷ rays) (set ∷ sets) = ranges_line ray (ranges_of set) ++ rays_text rays sets

-- the whole text
abbrev pub saved_of : Saved → List ℕ
saved_of stock = stock_line ++ (grid_line stock.grid ++ (rays_text (rays_of stock.grid) stock.sets ++ end_line))
