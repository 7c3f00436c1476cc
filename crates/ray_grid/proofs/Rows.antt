-- Where each strip and each ray is in the list of strips.
use Rattle.std.proofs.Common.{◌≡◌, ℕ, ◌+◌, ◌-◌, ◌<◌, ◌≤◌, [], ◌++◌, length, get_or, slice_get, Some, None, arith, refl, sym, ap, ◌∙◌, subst, length-append}
use Rattle.std.proofs.lemmas.List.{get_or_append_left, get_or-append_right, get_or_past}
use Rattle.std.proofs.lemmas.List.FromFn.{length-map-range_with_len, get_or-map-range_with_len}
use Rattle.std.proofs.lemmas.Option.{slice_get-get_or, slice_get_past}
use native.Mathlib.Decide.{dec_le}
use mathlib.Core.Logic.{dite}
use Rattle.ray_grid.specs.Grids.{GridSize}
use Rattle.ray_grid.specs.declared.ray.Ray.{Ray}
use Rattle.ray_grid.specs.declared.ray.Family.{Family}
use Rattle.ray_grid.specs.declared.ray.Family.TheVariants.{X, Y, Z}
use Rattle.ray_grid.specs.Families.{first_axis, second_axis}
use Rattle.ray_grid.specs.Lattice.{nodes_of}
use Rattle.ray_grid.specs.Strips.{strip_of, strips_along, strips_of, strip_at, strip_number}

length-along : (g : GridSize) (f : Family) → length (strips_along g f) ≡ nodes_of g (first_axis f)
length-along g f = length-map-range_with_len (strip_of g f) 0 (nodes_of g (first_axis f))

pub length-strips : (g : GridSize) → length (strips_of g) ≡ nodes_of g 0 + nodes_of g 1 + nodes_of g 0
length-strips g =
    let a = length-append (strips_along g Z ++ strips_along g X) (strips_along g Y) in
    let b = length-append (strips_along g Z) (strips_along g X) in
    let z = length-along g Z in let x = length-along g X in let y = length-along g Y in
    omega arith

get_or-along : (g : GridSize) (f : Family) (i : ℕ) → i < nodes_of g (first_axis f) → get_or (strips_along g f) i [] ≡ strip_of g f i
get_or-along g f i lt = get_or-map-range_with_len (strip_of g f) 0 (nodes_of g (first_axis f)) i i [] lt (omega arith)

pub row_z : (g : GridSize) (s : ℕ) → s < nodes_of g 0 → strip_at g s ≡ strip_of g Z s
row_z g s lt =
    let b = length-append (strips_along g Z) (strips_along g X) in
    let z = length-along g Z in
    get_or_append_left (strips_along g Z ++ strips_along g X) (strips_along g Y) [] s (omega arith)
    ∙ get_or_append_left (strips_along g Z) (strips_along g X) [] s (omega arith) ∙ get_or-along g Z s lt

pub row_x : (g : GridSize) (s : ℕ) → nodes_of g 0 ≤ s → s < nodes_of g 0 + nodes_of g 1 → strip_at g s ≡ strip_of g X (s - nodes_of g 0)
row_x g s le lt =
    let b = length-append (strips_along g Z) (strips_along g X) in
    let z = length-along g Z in let x = length-along g X in
    get_or_append_left (strips_along g Z ++ strips_along g X) (strips_along g Y) [] s (omega arith)
    ∙ get_or-append_right (strips_along g Z) (strips_along g X) (nodes_of g 0) s [] z le ∙ get_or-along g X (s - nodes_of g 0) (omega arith)

pub row_y : (g : GridSize) (s : ℕ) → nodes_of g 0 + nodes_of g 1 ≤ s → s < length (strips_of g) → strip_at g s ≡ strip_of g Y (s - nodes_of g 0 - nodes_of g 1)
row_y g s le lt =
    let all = length-strips g in
    let b = length-append (strips_along g Z) (strips_along g X) in
    let z = length-along g Z in let x = length-along g X in
    get_or-append_right (strips_along g Z ++ strips_along g X) (strips_along g Y) (nodes_of g 0 + nodes_of g 1) s [] (omega arith) le
    ∙ ap (λ k. get_or (strips_along g Y) k []) (let q : s - (nodes_of g 0 + nodes_of g 1) ≡ s - nodes_of g 0 - nodes_of g 1 = omega arith in q)
    ∙ get_or-along g Y (s - nodes_of g 0 - nodes_of g 1) (omega arith)

pub length-strip : (g : GridSize) (f : Family) (i : ℕ) → length (strip_of g f i) ≡ nodes_of g (second_axis f)
length-strip g f i = length-map-range_with_len (λ j. record { family = f; i = i; j = j }) 0 (nodes_of g (second_axis f))

pub ray_in : (g : GridSize) (f : Family) (i j : ℕ) → j < nodes_of g (second_axis f) → slice_get (strip_of g f i) j ≡ Some record { family = f; i = i; j = j }
ray_in g f i j lt =
    let ray : ℕ → Ray = λ n. record { family = f; i = i; j = n } in
    let size = length-strip g f i in
    slice_get-get_or (strip_of g f i) j (ray 0) (omega arith) ∙ ap Some (get_or-map-range_with_len ray 0 (nodes_of g (second_axis f)) j j (ray 0) lt (omega arith))

pub ray_past : (g : GridSize) (f : Family) (i j : ℕ) → nodes_of g (second_axis f) ≤ j → slice_get (strip_of g f i) j ≡ None
ray_past g f i j le = let size = length-strip g f i in slice_get_past (strip_of g f i) j (omega arith)

-- the strip of a family's number
pub number_in : (g : GridSize) (f : Family) (i : ℕ) → i < nodes_of g (first_axis f) → strip_number g f i < length (strips_of g)
number_in g X i lt = let all = length-strips g in omega arith
number_in g Y i lt = let all = length-strips g in omega arith
number_in g Z i lt = let all = length-strips g in omega arith

pub strip_there : (g : GridSize) (f : Family) (i : ℕ) → i < nodes_of g (first_axis f) → strip_at g (strip_number g f i) ≡ strip_of g f i
strip_there g X i lt = row_x g (nodes_of g 0 + i) (omega arith) (omega arith) ∙ ap (strip_of g X) (let q : nodes_of g 0 + i - nodes_of g 0 ≡ i = omega arith in q)
strip_there g Y i lt =
    let all = length-strips g in
    row_y g (nodes_of g 0 + nodes_of g 1 + i) (omega arith) (omega arith) ∙ ap (strip_of g Y) (let q : nodes_of g 0 + nodes_of g 1 + i - nodes_of g 0 - nodes_of g 1 ≡ i = omega arith in q)
strip_there g Z i lt = row_z g i lt

-- a ray that is in a strip of a family is there at its own numbers
own_place : (g : GridSize) (f : Family) (i n : ℕ) (ray : Ray) → slice_get (strip_of g f i) n ≡ Some ray → (strip_number g f i ≡ strip_number g ray.family ray.i) × (n ≡ ray.j)
own_place g f i n ray is =
    dite (dec_le (nodes_of g (second_axis f)) n)
    (λ le. absurd (let none = ray_past g f i n le in cc))
    (λ no.
    let here = ray_in g f i n (omega arith) in
    let same : record { family = f; i = i; j = n } ≡ ray = cc in
    subst (λ (r : Ray). (strip_number g f i ≡ strip_number g r.family r.i) × (n ≡ r.j)) same (refl, refl))

pub only_place : (g : GridSize) (ray : Ray) (s n : ℕ) → slice_get (strip_at g s) n ≡ Some ray → (s ≡ strip_number g ray.family ray.i) × (n ≡ ray.j)
only_place g ray s n is =
    dite (dec_le (nodes_of g 0) s)
    (λ le.
    dite (dec_le (nodes_of g 0 + nodes_of g 1) s)
    (λ far.
    dite (dec_le (length (strips_of g)) s)
    (λ past. absurd (let none : strip_at g s ≡ [] = get_or_past (strips_of g) s [] past in let empty : slice_get (strip_at g s) n ≡ None = ap (λ z. slice_get z n) none in cc))
    (λ no.
    let q = own_place g Y (s - nodes_of g 0 - nodes_of g 1) n ray (ap (λ z. slice_get z n) (sym (row_y g s far (omega arith))) ∙ is) in
    ((let r : s ≡ nodes_of g 0 + nodes_of g 1 + (s - nodes_of g 0 - nodes_of g 1) = omega arith in r) ∙ q.0, q.1)))
    (λ no.
    let q = own_place g X (s - nodes_of g 0) n ray (ap (λ z. slice_get z n) (sym (row_x g s le (omega arith))) ∙ is) in
    ((let r : s ≡ nodes_of g 0 + (s - nodes_of g 0) = omega arith in r) ∙ q.0, q.1)))
    (λ no. own_place g Z s n ray (ap (λ z. slice_get z n) (sym (row_z g s (omega arith))) ∙ is))
