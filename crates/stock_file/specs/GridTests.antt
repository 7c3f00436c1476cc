-- The second line of a saved stock, and whether its numbers make a grid. Lengths are micrometres.
use Rattle.std.specs.Prelude.{ℕ, ◌-◌, ◌*◌, ◌/◌, ◌%◌, ◌==◌, nat_le, ℤ, pos, ◌+ℤ◌, int_le, unsigned_abs, ◌&&◌, Bool, List, [], ◌∷◌, codes, Option, Some, None, option_and_then, slice_index, if◌then◌else◌}
use Rattle.std.specs.Str.{bytes_eq}
use Rattle.space.specs.Ranges.{is_coordinate, metre}
use Rattle.space.specs.Vectors.{at}
use Rattle.ray_grid.specs.Grids.{GridSize}
use Rattle.ray_grid.specs.Ranges.{most_nodes, most_per_node}
use Rattle.stock_file.specs.Numbers.{plain_number, signed_number}
use Rattle.cert_lines.specs.Words.{line_in, spaced_words}

-- the origin that three words name, and the words after it
abbrev pub origin_of : Option ℤ → Option ℤ → Option ℤ → List (List ℕ) → Option (List ℤ × List (List ℕ))
origin_of (Some x) (Some y) (Some z) words = Some (x ∷ y ∷ z ∷ [], words)
origin_of _ _ _ words = None

abbrev pub origin_in : List (List ℕ) → Option (List ℤ × List (List ℕ))
origin_in (x ∷ y ∷ z ∷ words) = origin_of (signed_number x) (signed_number y) (signed_number z) words
origin_in _ = None

-- the counts that three words name, which are the last
abbrev pub counts_of : Option ℕ → Option ℕ → Option ℕ → Option (List ℕ)
counts_of (Some x) (Some y) (Some z) = Some (x ∷ y ∷ z ∷ [])
counts_of _ _ _ = None

abbrev pub counts_in : List (List ℕ) → Option (List ℕ)
counts_in (x ∷ y ∷ z ∷ []) = counts_of (plain_number x) (plain_number y) (plain_number z)
counts_in _ = None

-- the grid with this origin that the words after it name: pitch, step and counts
abbrev pub grid_of_sizes : List ℤ → Option ℕ → Option ℕ → Option (List ℕ) → Option GridSize
grid_of_sizes origin (Some pitch) (Some step) (Some counts) =
    Some (record { origin = origin; pitch = pos pitch; step = pos step; counts = counts })
grid_of_sizes origin _ _ _ = None

abbrev pub sizes_in : List ℤ → List (List ℕ) → Option GridSize
sizes_in origin (pitch ∷ step ∷ words) = grid_of_sizes origin (plain_number pitch) (plain_number step) (counts_in words)
sizes_in origin _ = None

-- `X Y Z PITCH STEP CX CY CZ` after `grid`
abbrev pub grid_in : List (List ℕ) → Option GridSize
grid_in words = option_and_then (λ cut. sizes_in cut.0 cut.1) (origin_in words)

abbrev pub grid_in_line : List (List ℕ) → Option GridSize
grid_in_line [] = None
grid_in_line (verb ∷ words) = if bytes_eq verb (codes "grid") then grid_in words else None

-- the numbers of a piece of a text, where it is such a line with its line end
abbrev pub grid_named : List ℕ → Option GridSize
grid_named piece = option_and_then (λ line. grid_in_line (spaced_words line)) (line_in piece)

-- an axis that a grid may have
abbrev pub is_axis_of_grid : ℤ → ℤ → ℤ → ℕ → Bool
is_axis_of_grid pitch step origin nodes =
    is_coordinate origin && (nat_le 1 nodes && (nat_le nodes most_nodes
    && int_le (origin +ℤ pos ((nodes * (unsigned_abs pitch / unsigned_abs step) - 1) * unsigned_abs step)) (pos metre)))

-- a pitch and a step that a grid may have
abbrev pub is_pitch : ℤ → ℤ → Bool
is_pitch pitch step =
    int_le (pos 1) pitch && (int_le pitch (pos metre) && (int_le (pos 1) step && (int_le step pitch
    && (unsigned_abs pitch % unsigned_abs step == 0 && nat_le (unsigned_abs pitch / unsigned_abs step) most_per_node))))

-- the numbers are those of a grid
abbrev pub is_grid : GridSize → Bool
is_grid grid =
    is_pitch grid.pitch grid.step && (is_axis_of_grid grid.pitch grid.step (at grid.origin 0) (slice_index grid.counts 0)
    && (is_axis_of_grid grid.pitch grid.step (at grid.origin 1) (slice_index grid.counts 1)
    && is_axis_of_grid grid.pitch grid.step (at grid.origin 2) (slice_index grid.counts 2)))
