-- The rays of a grid one by one, and what is written of each.
use Rattle.std.proofs.Common.{◌≡◌, ℕ, ◌+◌, ◌<◌, ◌≤◌, ◌*◌, ℤ, pos, Bool, List, [], ◌∷◌, ◌++◌, length, map, get_or, slice_get, slice_index, take, drop, Some, codes, decimal, arith, refl, sym, ap, ap₂, ◌∙◌, append_assoc}
use Rattle.std.specs.Fmt.{signed_decimal}
use Rattle.std.proofs.lemmas.List.{drop_more, take_all}
use Rattle.std.proofs.lemmas.Option.{get_or_from_slice_get, slice_get_within}
use Rattle.space.specs.Vectors.{at}
use Rattle.vf_io.specs.Pieces.{line_feed}
use Rattle.vf_text.specs.Blanks.{blank_space}
use Rattle.vf_text.specs.Pages.{line, numbers}
use Rattle.vf_spans.specs.Members.{ranges_of}
use Rattle.ray_grid.specs.Grids.{GridSize}
use Rattle.ray_grid.specs.Points.{rays_of}
use Rattle.ray_grid.specs.Ranges.{IsGrid}
use Rattle.ray_grid.specs.declared.ray.Family.TheVariants.{Z}
use Rattle.ray_grid.specs.declared.ray.Ray.{Ray}
use Rattle.ray_grid.proofs.Numbered.{length-rays}
use Rattle.stock_file.specs.Rays.{IsRayAt, first_of_family, ray_after}
use Rattle.stock_file.specs.Saved.{no_flags, no_sets}
use Rattle.stock_file.specs.Spelling.{counts_spelt, grid_line, range_bounds, ranges_line, rays_text}
use Rattle.stock_file.proofs.GridLemmas.{three_is}
use Rattle.stock_file.proofs.RayOrder.{after_is, first_is, ray_at}

-- the ray that a walk has come to: it has this number, as long as there is one with it
abbrev pub IsAtRay : GridSize → ℕ → Ray → Type 0
IsAtRay g n ray = n < length (rays_of g) → IsRayAt g n ray

pub walk_starts : (g : GridSize) → IsGrid g → IsAtRay g 0 (first_of_family Z)
walk_starts g is low = first_is g is

pub walk_goes_on : (g : GridSize) (n : ℕ) (ray : Ray) → IsGrid g → IsRayAt g n ray → IsAtRay g (n + 1) (ray_after g ray)
walk_goes_on g n ray is here low = after_is g n ray is here low

-- the number of rays by the counts of the three axes
pub rays_counted : (g : GridSize) (counts : List ℕ) → counts ≡ g.counts
    → slice_index counts 0 * slice_index counts 1 + slice_index counts 1 * slice_index counts 2 + slice_index counts 0 * slice_index counts 2 ≡ length (rays_of g)
rays_counted g counts same =
    ap (λ (ns : List ℕ). slice_index ns 0 * slice_index ns 1 + slice_index ns 1 * slice_index ns 2 + slice_index ns 0 * slice_index ns 2) same ∙ sym (length-rays g)

-- when each ray has its set without points, these are all sets
pub all_sets : (g : GridSize) (n : ℕ) (sets : List (List Bool)) → length (rays_of g) ≤ n → sets ≡ map (no_flags g) (take n (rays_of g)) → sets ≡ no_sets g
all_sets g n sets all made = made ∙ ap (map (no_flags g)) (take_all n (rays_of g) all)

-- the line of one ray, and the lines of those after it
pub next_line : (g : GridSize) (n : ℕ) (ray : Ray) (sets : List (List Bool)) (set : List Bool) → IsRayAt g n ray → n < length (rays_of g) → length sets ≡ length (rays_of g) → get_or sets n [] ≡ set
    → rays_text (drop n (rays_of g)) (drop n sets) ≡ ranges_line ray (ranges_of set) ++ rays_text (drop (n + 1) (rays_of g)) (drop (n + 1) sets)
next_line g n ray sets set here low many is =
    ap₂ rays_text (drop_more (rays_of g) n ray low) (drop_more sets n [] (omega arith))
    ∙ ap₂ (λ (r : Ray) (s : List Bool). ranges_line r (ranges_of s) ++ rays_text (drop (n + 1) (rays_of g)) (drop (n + 1) sets)) (ray_at g n ray ray here) is

-- a page with that line needs the lines after it
pub set_written : (g : GridSize) (n : ℕ) (ray : Ray) (sets : List (List Bool)) (set : List Bool) (page new whole : List ℕ) → IsRayAt g n ray → n < length (rays_of g)
    → length sets ≡ length (rays_of g) → get_or sets n [] ≡ set → new ≡ page ++ ranges_line ray (ranges_of set)
    → page ++ rays_text (drop n (rays_of g)) (drop n sets) ≡ whole → new ++ rays_text (drop (n + 1) (rays_of g)) (drop (n + 1) sets) ≡ whole
set_written g n ray sets set page new whole here low many is written before =
    let rest = rays_text (drop (n + 1) (rays_of g)) (drop (n + 1) sets) in
    ap (λ (text : List ℕ). text ++ rest) written
    ∙ append_assoc page (ranges_line ray (ranges_of set)) rest
    ∙ ap (λ (text : List ℕ). page ++ text) (sym (next_line g n ray sets set here low many is))
    ∙ before

-- a page with one range more needs the ranges after it
pub range_written : (set : List Bool) (n : ℕ) (range : ℕ × ℕ) (page first second whole : List ℕ) → slice_get (ranges_of set) n ≡ Some range
    → first ≡ page ++ blank_space ∷ decimal range.0 → second ≡ first ++ blank_space ∷ decimal range.1
    → page ++ counts_spelt (range_bounds (drop n (ranges_of set))) ≡ whole → second ++ counts_spelt (range_bounds (drop (n + 1) (ranges_of set))) ≡ whole
range_written set n range page first second whole is one two before =
    let rest = counts_spelt (range_bounds (drop (n + 1) (ranges_of set))) in
    let low : n < length (ranges_of set) = slice_get_within (ranges_of set) n range is in
    let left : drop n (ranges_of set) ≡ range ∷ drop (n + 1) (ranges_of set) =
    drop_more (ranges_of set) n range low ∙ ap (λ (r : ℕ × ℕ). r ∷ drop (n + 1) (ranges_of set)) (get_or_from_slice_get (ranges_of set) n range range is) in
    ap (λ (text : List ℕ). text ++ rest) (two ∙ ap (λ (text : List ℕ). text ++ blank_space ∷ decimal range.1) one)
    ∙ append_assoc (page ++ blank_space ∷ decimal range.0) (blank_space ∷ decimal range.1) rest
    ∙ append_assoc page (blank_space ∷ decimal range.0) ((blank_space ∷ decimal range.1) ++ rest)
    ∙ ap (λ (ranges : List (ℕ × ℕ)). page ++ counts_spelt (range_bounds ranges)) (sym left)
    ∙ before

-- the numbers of the grid line, one after the other
numbers-append : (xs ys : List ℤ) → numbers (xs ++ ys) ≡ numbers xs ++ numbers ys
numbers-append [] ys = refl
numbers-append (x ∷ xs) ys =
    ap (λ (rest : List ℕ). (blank_space ∷ signed_decimal x) ++ rest) (numbers-append xs ys) ∙ sym (append_assoc (blank_space ∷ signed_decimal x) (numbers xs) (numbers ys))

in_line : (page verb origin steps counts end : List ℕ) → ((((page ++ verb) ++ origin) ++ steps) ++ counts) ++ end ≡ page ++ ((verb ++ (origin ++ (steps ++ counts))) ++ end)
in_line page verb origin steps counts end = simp append_assoc

numbers_written : (x y z pitch step : ℤ) (a b c : ℕ) (page : List ℕ)
    → ((((page ++ codes "grid") ++ numbers (x ∷ y ∷ z ∷ [])) ++ numbers (pitch ∷ step ∷ [])) ++ counts_spelt (a ∷ b ∷ c ∷ [])) ++ line_feed ∷ []
    ≡ page ++ line (codes "grid" ++ numbers (x ∷ y ∷ z ∷ pitch ∷ step ∷ pos a ∷ pos b ∷ pos c ∷ []))
numbers_written x y z pitch step a b c page =
    in_line page (codes "grid") (numbers (x ∷ y ∷ z ∷ [])) (numbers (pitch ∷ step ∷ [])) (counts_spelt (a ∷ b ∷ c ∷ [])) (line_feed ∷ [])
    ∙ ap (λ (all : List ℕ). page ++ line (codes "grid" ++ all))
    (sym (numbers-append (x ∷ y ∷ z ∷ []) (pitch ∷ step ∷ pos a ∷ pos b ∷ pos c ∷ [])
    ∙ ap (λ (rest : List ℕ). numbers (x ∷ y ∷ z ∷ []) ++ rest) (numbers-append (pitch ∷ step ∷ []) (pos a ∷ pos b ∷ pos c ∷ []))))

pub grid_written : (g : GridSize) (page verb origin steps counts : List ℕ) → length g.origin ≡ 3 → length g.counts ≡ 3 → verb ≡ page ++ codes "grid" → origin ≡ verb ++ numbers g.origin
    → steps ≡ origin ++ numbers (g.pitch ∷ g.step ∷ []) → counts ≡ steps ++ counts_spelt g.counts → counts ++ line_feed ∷ [] ≡ page ++ grid_line g
grid_written g page verb origin steps counts three_origin three_counts e0 e1 e2 e3 =
    ap (λ (text : List ℕ). text ++ line_feed ∷ [])
    (e3 ∙ ap (λ (text : List ℕ). text ++ counts_spelt g.counts)
    (e2 ∙ ap (λ (text : List ℕ). text ++ numbers (g.pitch ∷ g.step ∷ [])) (e1 ∙ ap (λ (text : List ℕ). text ++ numbers g.origin) e0)))
    ∙ ap₂ (λ (xs : List ℤ) (ns : List ℕ). ((((page ++ codes "grid") ++ numbers xs) ++ numbers (g.pitch ∷ g.step ∷ [])) ++ counts_spelt ns) ++ line_feed ∷ [])
    (three_is g.origin (pos 0) three_origin) (three_is g.counts 0 three_counts)
    ∙ numbers_written (at g.origin 0) (at g.origin 1) (at g.origin 2) g.pitch g.step (slice_index g.counts 0) (slice_index g.counts 1) (slice_index g.counts 2) page
