-- Where the first line of a text ends.
use Rattle.std.proofs.Common.{◌≡◌, ℕ, suc, ◌+◌, ◌<◌, ◌≤◌, ◌==◌, List, [], ◌∷◌, Bool, true, false, not, length, take, drop, one-add, add-one, arith, refl}
use Rattle.std.proofs.Math.Seq.{drop-length, take-length}
use Rattle.std.specs.List.{prefix_len}
use Rattle.vf_io.specs.Pieces.{lead, line_feed, pieces_of}

-- how many bytes come before the first line's end
abbrev ahead_of_end : List ℕ → ℕ
ahead_of_end text = prefix_len (λ b. not (b == line_feed)) text

ahead_of_end-here : (b : ℕ) (bytes : List ℕ) → (b == line_feed) ≡ true → ahead_of_end (b ∷ bytes) ≡ 0
ahead_of_end-here b bytes here = rw here refl

ahead_of_end-later : (b : ℕ) (bytes : List ℕ) → (b == line_feed) ≡ false → ahead_of_end (b ∷ bytes) ≡ 1 + ahead_of_end bytes
ahead_of_end-later b bytes later = rw later refl

pieces_of-here : (b : ℕ) (bytes : List ℕ) → (b == line_feed) ≡ true → pieces_of (b ∷ bytes) ≡ (b ∷ []) ∷ pieces_of bytes
pieces_of-here b bytes here = rw here refl

pieces_of-later : (b : ℕ) (bytes : List ℕ) → (b == line_feed) ≡ false → pieces_of (b ∷ bytes) ≡ lead b (pieces_of bytes)
pieces_of-later b bytes later = rw later refl

-- a text whose first line has an end is cut after it
abbrev IsCutBehind : List ℕ → Type 0
IsCutBehind text = ahead_of_end text < length text → pieces_of text ≡ take (ahead_of_end text + 1) text ∷ pieces_of (drop (ahead_of_end text + 1) text)

cut_behind : (b : ℕ) (bytes : List ℕ) (here : Bool) → (b == line_feed) ≡ here → IsCutBehind bytes → IsCutBehind (b ∷ bytes)
cut_behind b bytes true here behind lt = rw (ahead_of_end-here b bytes here, pieces_of-here b bytes here) refl
cut_behind b bytes false later behind lt =
    let shorter : ahead_of_end bytes < length bytes = omega (arith, ahead_of_end-later b bytes later, lt) in
    rw (ahead_of_end-later b bytes later, pieces_of-later b bytes later, one-add, behind shorter, add-one (ahead_of_end bytes), add-one (suc (ahead_of_end bytes))) refl

pub pieces_of-cut : (text : List ℕ) → IsCutBehind text
pieces_of-cut [] lt = absurd (omega (arith, lt))
pieces_of-cut (b ∷ bytes) lt = cut_behind b bytes (b == line_feed) refl (pieces_of-cut bytes) lt

-- a text whose first line has none is one line
abbrev IsOneLine : List ℕ → Type 0
IsOneLine text = 0 < length text → length text ≤ ahead_of_end text → pieces_of text ≡ text ∷ []

one_line : (b : ℕ) (bytes : List ℕ) (here : Bool) → (b == line_feed) ≡ here → IsOneLine bytes → IsOneLine (b ∷ bytes)
one_line b bytes true here later some none = absurd (omega (arith, ahead_of_end-here b bytes here, none))
one_line b [] false other later some none = rw other refl
one_line b (c ∷ bytes) false other later some none =
    let longer : length (c ∷ bytes) ≤ ahead_of_end (c ∷ bytes) = omega (arith, ahead_of_end-later b (c ∷ bytes) other, none) in
    rw (pieces_of-later b (c ∷ bytes) other, later (omega arith) longer) refl

pub pieces_of-one : (text : List ℕ) → IsOneLine text
pieces_of-one [] some none = absurd (omega (arith, some))
pieces_of-one (b ∷ bytes) some none = one_line b bytes (b == line_feed) refl (pieces_of-one bytes) some none

pub pieces_of-all : (text : List ℕ) → 0 < length text → length text ≤ ahead_of_end text → pieces_of text ≡ take (length text) text ∷ pieces_of (drop (length text) text)
pieces_of-all text some none = rw (take-length text, drop-length text) (pieces_of-one text some none)
