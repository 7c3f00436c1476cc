-- A whole text written in pieces.
use Rattle.std.specs.Prelude.{◌≡◌, ℕ, List, [], ◌∷◌, ◌++◌, Option, flat_map, take}
use Rattle.std.specs.Io.KnownBytes.{Appends}
use Rattle.vf_io.specs.Bytes.{AddsPieces}

-- These pieces, each put as one, come after what was written.
pub record HasPut (written_old written_new : Option (List ℕ)) (pieces_old pieces_new : Option (List (List ℕ)))
    (pieces : List (List ℕ)) : Type 0 where
  pub written : Appends written_old written_new (flat_map (λ piece. piece) pieces)
  pub put : AddsPieces pieces_old pieces_new pieces

-- Of the pieces in order some were written whole, then a front of the next one, and no further one was put.
pub record StopsInPiece (written_old written_new : Option (List ℕ)) (pieces_old pieces_new : Option (List (List ℕ)))
    (pieces : List (List ℕ)) : Type 0 where
  pub whole : List (List ℕ)
  pub failed : List ℕ
  pub left : List (List ℕ)
  pub length : ℕ
  pub order : pieces ≡ whole ++ failed ∷ left
  pub written : Appends written_old written_new (flat_map (λ piece. piece) whole ++ take length failed)
  pub put : AddsPieces pieces_old pieces_new (whole ++ failed ∷ [])
