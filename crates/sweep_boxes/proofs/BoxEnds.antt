-- A box that is found along each axis, whose ends are words.
use Rattle.std.proofs.Common.{[], ◌∷◌, ◌≤ℤ◌, List, ℤ, to_z, of_z, FitsSigned}
use Rattle.std.proofs.lemmas.Int.{to_z-of_z}
use mir.Syntax.{w32}
use Rattle.space.specs.Ranges.{IsWithin}
use Rattle.space.specs.Vectors.{at}
use Rattle.sweep_boxes.specs.Intervals.{IsAmong}
use Rattle.sweep_boxes.specs.Limits.{place_limit}
use Rattle.sweep_boxes.proofs.Boxed.{inner_range}
use Rattle.sweep_boxes.proofs.Words.{kept_place, place_fits}

-- the words of three places
abbrev pub words : List ℤ → List ℤ
words v = to_z w32 (of_z w32 (at v 0)) ∷ to_z w32 (of_z w32 (at v 1)) ∷ to_z w32 (of_z w32 (at v 2)) ∷ []

pub words_within : (v : List ℤ) → IsWithin place_limit v → IsWithin place_limit (words v)
words_within v small = (kept_place (at v 0) small.0, kept_place (at v 1) small.1, kept_place (at v 2) small.2)

places_fit : (v : List ℤ) → IsWithin place_limit v → FitsSigned w32 (at v 0) × FitsSigned w32 (at v 1) × FitsSigned w32 (at v 2)
places_fit v small = (place_fits (at v 0) small.0, place_fits (at v 1) small.1, place_fits (at v 2) small.2)

-- what is between the places is between their words
pub among_words : (low high p : List ℤ) → IsWithin place_limit low → IsWithin place_limit high
    → IsAmong low high p → IsAmong (words low) (words high) p
among_words low high p l h inside =
    let (x0, y0, z0) = places_fit low l in let (x1, y1, z1) = places_fit high h in
    simp to_z-of_z (record { x = inside.x; y = inside.y; z = inside.z })

-- a box whose ends lie within those of another one lies in it
pub inner_words : (low high from to p : List ℤ) → IsWithin place_limit low → IsWithin place_limit high
    → (at from 0 ≤ℤ at low 0) × (at from 1 ≤ℤ at low 1) × (at from 2 ≤ℤ at low 2)
    → (at high 0 ≤ℤ at to 0) × (at high 1 ≤ℤ at to 1) × (at high 2 ≤ℤ at to 2)
    → IsAmong (words low) (words high) p → IsAmong from to p
inner_words low high from to p l h after before inside =
    let (x0, y0, z0) = places_fit low l in let (x1, y1, z1) = places_fit high h in
    let here = simp to_z-of_z at inside in
    record {
      x = inner_range _ _ _ _ _ after.0 before.0 here.x;
      y = inner_range _ _ _ _ _ after.1 before.1 here.y;
      z = inner_range _ _ _ _ _ after.2 before.2 here.z;
    }
