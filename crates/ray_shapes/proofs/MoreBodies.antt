-- What one body more adds to the indices of a line whose points lie in some body.
use Rattle.std.proofs.Common.{◌≡◌, ◌↔◌, ℕ, ◌+◌, ◌<◌, ◌≤◌, ℤ, List, [], ◌∷◌, ◌++◌, length, take, get_or, Bool, true, false, ◌&&◌, ◌||◌, leb, ltb, IsTrue, refl, sym, ap, ◌∙◌}
use Rattle.std.proofs.lemmas.Bool.{and_parts, and_from, ltb-true, lt-ltb, leb-true, le-leb}
use Rattle.std.proofs.lemmas.List.Folds.{list_any_more, list_any-append}
use Rattle.ray_shapes.specs.declared.half_line.IndexRange.{IndexRange}
use Rattle.ray_shapes.specs.declared.plane.Plane.{Plane}
use Rattle.ray_shapes.specs.Parts.{is_in, covers_some}
use Rattle.ray_shapes.specs.Planes.{in_body, in_bodies}
use Rattle.ray_shapes.proofs.Covering.{or_false}

alike : (a b : Bool) → (a ≡ true → b ≡ true) → (b ≡ true → a ≡ true) → a ≡ b
alike true b there back = sym (there refl)
alike false true there back = back refl
alike false false there back = refl

spread : (t a b : Bool) → (t && (a || b)) ≡ ((t && a) || (t && b))
spread true a b = refl
spread false a b = refl

-- the part of a line that lies in a body covers just the indices of the points in it
part_test : (part : IndexRange) (m i : ℕ) (inside : Bool) → ((part.lo ≤ i) × (i < part.hi)) ↔ ((i < m) × IsTrue inside) → is_in i part ≡ (ltb i m && inside)
part_test part m i inside exact =
    alike (is_in i part) (ltb i m && inside)
    (λ t. let q = and_parts (leb part.lo i) (ltb i part.hi) t in let r = exact.0 (leb-true part.lo i q.0, ltb-true i part.hi q.1) in and_from (ltb i m) inside (lt-ltb i m r.0) r.1)
    (λ t. let q = and_parts (ltb i m) inside t in let r = exact.1 (ltb-true i m q.0, q.1) in and_from (leb part.lo i) (ltb i part.hi) (le-leb part.lo i r.0) (lt-ltb i part.hi r.1))

-- what has the indices of the bodies so far, and then the part of a line in one more, has those of the bodies with that one
pub body_more : (bodies : List (List Plane)) (k m i : ℕ) (body : List Plane) (part : IndexRange) (point : List ℤ) (held next : Bool) → k < length bodies → body ≡ get_or bodies k body
    → ((part.lo ≤ i) × (i < part.hi)) ↔ ((i < m) × IsTrue (in_body body point))
    → held ≡ (ltb i m && in_bodies (take k bodies) point) → next ≡ (held || is_in i part) → next ≡ (ltb i m && in_bodies (take (k + 1) bodies) point)
body_more bodies k m i body part point held next lt is exact before added =
    let before_it = in_bodies (take k bodies) point in
    let more : in_bodies (take (k + 1) bodies) point ≡ (before_it || in_body body point) =
    list_any_more (λ b. in_body b point) bodies k body lt ∙ ap (λ (b : List Plane). before_it || in_body b point) (sym is) in
    added ∙ ap (λ b. b || is_in i part) before ∙ ap (λ b. (ltb i m && before_it) || b) (part_test part m i (in_body body point) exact)
    ∙ sym (spread (ltb i m) before_it (in_body body point)) ∙ ap (λ b. ltb i m && b) (sym more)

-- one part more at the end of a list
pub part_pushed : (parts : List IndexRange) (part : IndexRange) (i : ℕ) → covers_some (parts ++ part ∷ []) i ≡ (covers_some parts i || is_in i part)
part_pushed parts part i = list_any-append (is_in i) parts (part ∷ []) ∙ ap (λ b. covers_some parts i || b) (sym (or_false (is_in i part)))
