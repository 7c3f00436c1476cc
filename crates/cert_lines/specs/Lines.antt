-- The forms of a certificate's lines, by their words.
use Rattle.std.specs.Prelude.{ℕ, List, [], ◌∷◌, codes, Option, Some, None, option_and_then, if◌then◌else◌}
use Rattle.std.specs.Option.{option_map}
use Rattle.std.specs.Str.{bytes_eq}
use Rattle.vf_text.specs.Digits.{count_digits, number_spelt}
use Rattle.ray_grid.specs.declared.ray.Family.{Family}
use Rattle.ray_grid.specs.declared.ray.Family.TheVariants.{X, Y, Z}
use Rattle.cert_lines.specs.declared.line.Form.{Form}
use Rattle.cert_lines.specs.declared.line.Form.TheVariants.{Opening, Slabs, OfRay, OfCell, End}
use Rattle.cert_lines.specs.Words.{line_in, spaced_words}

-- a word of one to nine digits is a number
abbrev pub spelt_number : List ℕ → Option ℕ
spelt_number word = number_spelt count_digits word

-- the family that a letter names
abbrev pub named_family : List ℕ → Option Family
named_family word =
    if bytes_eq word (codes "X") then Some X
    else (if bytes_eq word (codes "Y") then Some Y
    else (if bytes_eq word (codes "Z") then Some Z else None))

-- `1` after `cert`
abbrev pub opening_in : List (List ℕ) → Option Form
opening_in (edition ∷ []) = if bytes_eq edition (codes "1") then Some Opening else None
opening_in _ = None

-- `N` after `slabs`
abbrev pub slabs_in : List (List ℕ) → Option Form
slabs_in (n ∷ []) = option_map (λ slabs. Slabs slabs) (spelt_number n)
slabs_in _ = None

-- the ray that a family and two numbers name
abbrev pub ray_form : Option Family → Option ℕ → Option ℕ → Option Form
ray_form (Some family) (Some i) (Some j) = Some (OfRay (record { family = family; i = i; j = j }))
ray_form _ _ _ = None

-- `F I J` after `ray`
abbrev pub ray_in : List (List ℕ) → Option Form
ray_in (f ∷ i ∷ j ∷ []) = ray_form (named_family f) (spelt_number i) (spelt_number j)
ray_in _ = None

-- the part of the time and the points that four numbers name
abbrev pub cell_of : Option ℕ → Option ℕ → Option ℕ → Option ℕ → Option Form
cell_of (Some q) (Some k) (Some a) (Some b) = Some (OfCell (record { q = q; k = k; a = a; b = b }))
cell_of _ _ _ _ = None

-- `Q K A B` after `cell`
abbrev pub cell_in : List (List ℕ) → Option Form
cell_in (q ∷ k ∷ a ∷ b ∷ []) = cell_of (spelt_number q) (spelt_number k) (spelt_number a) (spelt_number b)
cell_in _ = None

-- nothing after `end`
abbrev pub end_in : List (List ℕ) → Option Form
end_in [] = Some End
end_in _ = None

-- what a line's words say, where they are one of the lines `cert 1`, `slabs N`, `ray F I J`, `cell Q K A B` and `end`
abbrev pub form_in : List (List ℕ) → Option Form
form_in [] = None
form_in (verb ∷ words) =
    if bytes_eq verb (codes "cell") then cell_in words
    else (if bytes_eq verb (codes "ray") then ray_in words
    else (if bytes_eq verb (codes "cert") then opening_in words
    else (if bytes_eq verb (codes "slabs") then slabs_in words
    else (if bytes_eq verb (codes "end") then end_in words else None))))

-- what a piece of a text says, where it is such a line with its line end
abbrev pub form_of : List ℕ → Option Form
form_of piece = option_and_then (λ line. form_in (spaced_words line)) (line_in piece)
