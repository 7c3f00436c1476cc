-- The text of a certificate.
use Rattle.std.specs.Prelude.{◌≡◌, ℕ, ◌+◌, ◌==◌, ◌&&◌, Bool, true, false, List, [], ◌∷◌, ◌++◌, codes, decimal, Option, Some, None, if◌then◌else◌}
use Rattle.vf_text.specs.Blanks.{blank_space}
use Rattle.vf_text.specs.Pages.{line}
use Rattle.ray_grid.specs.declared.ray.Family.{Family}
use Rattle.ray_grid.specs.declared.ray.Family.TheVariants.{X, Y, Z}
use Rattle.ray_grid.specs.declared.ray.Ray.{Ray}
use Rattle.cert_lines.specs.declared.cell.CertCell.{CertCell}
use Rattle.cert_lines.specs.declared.cert.Cert.{Cert}

-- words with one space between them
abbrev pub joined : List (List ℕ) → List ℕ
joined [] = []
joined (word ∷ []) = word
joined (word ∷ next ∷ words) = word ++ blank_space ∷ joined (next ∷ words)

-- the letter of a family
abbrev pub family_letter : Family → List ℕ
family_letter X = codes "X"
family_letter Y = codes "Y"
family_letter Z = codes "Z"

-- the lines `cert 1`, `slabs N`, `ray F I J`, `cell Q K A B` and `end`, each with its line end
abbrev pub opening_line : List ℕ
opening_line = line (joined (codes "cert" ∷ codes "1" ∷ []))

abbrev pub slabs_line : ℕ → List ℕ
slabs_line slabs = line (joined (codes "slabs" ∷ decimal slabs ∷ []))

abbrev pub ray_line : Ray → List ℕ
ray_line ray = line (joined (codes "ray" ∷ family_letter ray.family ∷ decimal ray.i ∷ decimal ray.j ∷ []))

abbrev pub cell_line : CertCell → List ℕ
cell_line cell = line (joined (codes "cell" ∷ decimal cell.q ∷ decimal cell.k ∷ decimal cell.a ∷ decimal cell.b ∷ []))

abbrev pub end_line : List ℕ
end_line = line (joined (codes "end" ∷ []))

abbrev is_x : Family → Bool
is_x X = true
is_x _ = false

abbrev is_y : Family → Bool
is_y Y = true
is_y _ = false

abbrev is_z : Family → Bool
is_z Z = true
is_z _ = false

-- two rays of one family through the same nodes
abbrev pub is_same_family : Family → Family → Bool
is_same_family X other = is_x other
is_same_family Y other = is_y other
is_same_family Z other = is_z other

abbrev pub is_same_ray : Ray → Ray → Bool
is_same_ray ray other = is_same_family ray.family other.family && (ray.i == other.i && ray.j == other.j)

-- the ray is that of the cell before
abbrev pub is_last : Option Ray → Ray → Bool
is_last None ray = false
is_last (Some last) ray = is_same_ray last ray

-- the ray line before a cell, unless its ray is the last one's
abbrev pub ray_before : Option Ray → Ray → List ℕ
ray_before last ray = if is_last last ray then [] else ray_line ray

-- the lines of cells, after one of this ray
abbrev pub cells_text : Option Ray → List CertCell → List ℕ
cells_text last [] = []
cells_text last (cell ∷ cells) = ray_before last cell.ray ++ (cell_line cell ++ cells_text (Some cell.ray) cells)

-- the whole text
abbrev pub text_of_cert : Cert → List ℕ
text_of_cert cert = opening_line ++ (slabs_line cert.slabs ++ (cells_text None cert.cells ++ end_line))

-- the number of a cell's line, where the next line has this number
abbrev pub line_of_cell : ℕ → Option Ray → Ray → ℕ
line_of_cell number last ray = if is_last last ray then number else number + 1

-- each cell has the number of its line in the text
abbrev pub AreAtTheirLines : ℕ → Option Ray → List CertCell → Type 0
AreAtTheirLines number last [] = Unit {0}
AreAtTheirLines number last (cell ∷ cells) =
    (cell.line ≡ line_of_cell number last cell.ray) × AreAtTheirLines (cell.line + 1) (Some cell.ray) cells
