-- What is known of bytes that were taken or written, where they are shown.
use Rattle.std.specs.Prelude.{◌≡◌, ℕ, List, ◌++◌, take, Option, IfSome, Some}
use Rattle.std.specs.Io.KnownBytes.{Appends}

-- known bytes grow by a front of these
abbrev pub AppendsFront : Option (List ℕ) → Option (List ℕ) → List ℕ → Type 0
AppendsFront old new bytes = (n : ℕ) × Appends old new (take n bytes)

-- known pieces grow by these
abbrev pub AddsPieces : Option (List (List ℕ)) → Option (List (List ℕ)) → List (List ℕ) → Type 0
AddsPieces old new pieces = IfSome old (λ told. new ≡ Some (told ++ pieces))
