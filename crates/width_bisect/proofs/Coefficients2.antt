-- The coefficients of a form of degree 2, passed as machine words to what halves it, and what comes of them.
use Rattle.std.proofs.Common.{◌≡◌, ◌*◌, ◌≤◌, ℤ, FitsSigned, to_z, of_z, unsigned_abs, arith, ◌∙◌}
use Rattle.std.proofs.lemmas.Int.{to_z-of_z}
use mir.Syntax.{w64}
use Rattle.space.proofs.Reread.{back_of, small_back}
use Rattle.width_bisect.specs.Halved.{middle2, second2}
use Rattle.width_bisect.specs.Sizes.{height_limit}

abbrev word : ℤ → ℤ
word x = to_z w64 (of_z w64 x)

-- the bound of a coefficient at either end, and of the one in the middle
abbrev IsEnd : ℤ → Type 0
IsEnd x = unsigned_abs x ≤ height_limit

abbrev IsMiddle : ℤ → Type 0
IsMiddle x = unsigned_abs x ≤ 2 * height_limit

pub end_kept : (x : ℤ) → IsEnd x → word x ≡ x
end_kept x = back_of w64 x height_limit (omega arith)

middle_kept : (x : ℤ) → IsMiddle x → word x ≡ x
middle_kept x = back_of w64 x (2 * height_limit) (omega arith)

pub end_passed : (x : ℤ) → IsEnd x → IsEnd (word x)
end_passed x = small_back w64 x height_limit (omega arith)

pub middle_passed : (x : ℤ) → IsMiddle x → IsMiddle (word x)
middle_passed x = small_back w64 x (2 * height_limit) (omega arith)

-- the second coefficient of a half, and the value in the middle of the interval, which both halves have
pub second2_gives : (r a b : ℤ) → FitsSigned w64 r → r ≡ second2 (word a) (word b) → IsEnd a → IsMiddle b → word r ≡ second2 a b
second2_gives r a b fits is ha hb = to_z-of_z w64 r fits ∙ is ∙ (λ i. second2 (end_kept a ha i) (middle_kept b hb i))

pub middle2_gives : (r a b c : ℤ) → FitsSigned w64 r → r ≡ middle2 (word a) (word b) (word c) → IsEnd a → IsMiddle b → IsEnd c
    → word r ≡ middle2 a b c
middle2_gives r a b c fits is ha hb hc = to_z-of_z w64 r fits ∙ is ∙ (λ i. middle2 (end_kept a ha i) (middle_kept b hb i) (end_kept c hc i))
