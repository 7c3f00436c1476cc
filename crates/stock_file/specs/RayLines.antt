-- A ray line of a saved stock: its ray, and the bounds of its ranges.
use Rattle.std.specs.Prelude.{ℕ, ◌+◌, nat_le, nat_lt, ◌&&◌, Bool, true, false, List, [], ◌∷◌, codes, Option, Some, None, option_and_then, Result, Ok, Err, if◌then◌else◌}
use Rattle.std.specs.Str.{bytes_eq}
use Rattle.vf_spans.specs.Edges.{flags_of}
use Rattle.ray_grid.specs.Grids.{GridSize}
use Rattle.ray_grid.specs.Lattice.{is_ray_on, points_of}
use Rattle.ray_grid.specs.Strips.{ray_number}
use Rattle.ray_grid.specs.declared.ray.Family.{Family}
use Rattle.ray_grid.specs.declared.ray.Ray.{Ray}
use Rattle.cert_lines.specs.Lines.{named_family}
use Rattle.cert_lines.specs.Words.{line_in, spaced_words}
use Rattle.stock_file.specs.Numbers.{plain_number}
use Rattle.stock_file.specs.declared.fault.StockWhy.{StockWhy}
use Rattle.stock_file.specs.declared.fault.StockWhy.TheVariants.{StockSyntax, StockOrder}
use Rattle.stock_file.specs.declared.ray_set.RaySet.{RaySet}

-- the numbers that all the words are
abbrev pub bounds_with : Option ℕ → Option (List ℕ) → Option (List ℕ)
bounds_with (Some bound) (Some bounds) = Some (bound ∷ bounds)
bounds_with _ _ = None

abbrev pub bounds_in : List (List ℕ) → Option (List ℕ)
bounds_in [] = Some []
bounds_in (word ∷ words) = bounds_with (plain_number word) (bounds_in words)

-- `F I J` after `ray`, and the words after them
abbrev pub ray_with : Option Family → Option ℕ → Option ℕ → List (List ℕ) → Option (Ray × List (List ℕ))
ray_with (Some family) (Some i) (Some j) words = Some (record { family = family; i = i; j = j }, words)
ray_with _ _ _ words = None

abbrev pub ray_after_verb : List (List ℕ) → Option (Ray × List (List ℕ))
ray_after_verb (f ∷ i ∷ j ∷ words) = ray_with (named_family f) (plain_number i) (plain_number j) words
ray_after_verb _ = None

abbrev pub ray_in_line : List (List ℕ) → Option (Ray × List (List ℕ))
ray_in_line [] = None
ray_in_line (verb ∷ words) = if bytes_eq verb (codes "ray") then ray_after_verb words else None

-- the ray that a piece of a text names, and the words after it, where the piece begins like a ray line and ends with LF
abbrev pub ray_named : List ℕ → Option (Ray × List (List ℕ))
ray_named piece = option_and_then (λ line. ray_in_line (spaced_words line)) (line_in piece)

-- the bounds come in pairs, the lower one first: none is above the points, each upper one is above its lower one, and each lower
-- one is at least this, which is one more than the upper one before it
abbrev pub are_ranges_from : ℕ → ℕ → List ℕ → Bool
are_ranges_from points least [] = true
are_ranges_from points least (lo ∷ []) = false
are_ranges_from points least (lo ∷ hi ∷ bounds) =
    nat_le least lo && (nat_lt lo hi && (nat_le hi points && are_ranges_from points (hi + 1) bounds))

-- at least one range
abbrev pub are_ranges : ℕ → List ℕ → Bool
are_ranges points [] = false
are_ranges points (bound ∷ bounds) = are_ranges_from points 0 (bound ∷ bounds)

-- the ray is one of the grid, and its number is at least this, which is one more than that of the ray before it
abbrev pub is_ray_due : GridSize → ℕ → Ray → Bool
is_ray_due grid next ray = is_ray_on grid ray && nat_le next (ray_number grid ray)

-- the set that bounds give to a ray that may come or not, or what is wrong: the form is judged before the numbers
abbrev pub set_judged : Bool → ℕ → Option (List ℕ) → Result (List Bool) StockWhy
set_judged is_due points None = Err StockSyntax
set_judged is_due points (Some bounds) = if is_due && are_ranges points bounds then Ok (flags_of points bounds) else Err StockOrder

abbrev pub set_for : Ray → Result (List Bool) StockWhy → Result RaySet StockWhy
set_for ray (Ok set) = Ok (record { ray = ray; set = set })
set_for ray (Err why) = Err why

abbrev pub ray_judged : GridSize → ℕ → Option (Ray × List (List ℕ)) → Result RaySet StockWhy
ray_judged grid next None = Err StockSyntax
ray_judged grid next (Some named) =
    set_for named.0 (set_judged (is_ray_due grid next named.0) (points_of grid named.0.family) (bounds_in named.1))

-- the set that a line gives to its ray, or its fault
abbrev pub ray_set_in : GridSize → ℕ → List ℕ → Result RaySet StockWhy
ray_set_in grid next piece = ray_judged grid next (ray_named piece)
