-- The coefficients of a form of degree 4, passed as machine words to what halves it, and what comes of them.
use Rattle.std.proofs.Common.{◌≡◌, ◌*◌, ◌≤◌, ℤ, FitsSigned, to_z, of_z, unsigned_abs, ◌∙◌}
use Rattle.std.proofs.lemmas.Int.{to_z-of_z}
use mir.Syntax.{w128}
use Rattle.space.proofs.Reread.{back_of, small_back}
use Rattle.width_bisect.specs.Halved.{fourth4, middle4, second4, third4}
use Rattle.width_bisect.specs.Sizes.{width_limit}
use Rattle.width_bisect.proofs.Shifting.{most_fit, width_fits, widths_fit}

abbrev word : ℤ → ℤ
word x = to_z w128 (of_z w128 x)

-- the bound of a coefficient at either end, of one next to those, and of the one in the middle
abbrev IsEnd : ℤ → Type 0
IsEnd x = unsigned_abs x ≤ width_limit

abbrev IsInner : ℤ → Type 0
IsInner x = unsigned_abs x ≤ 4 * width_limit

abbrev IsMiddle : ℤ → Type 0
IsMiddle x = unsigned_abs x ≤ 6 * width_limit

pub end_kept : (x : ℤ) → IsEnd x → word x ≡ x
end_kept x = back_of w128 x width_limit width_fits

inner_kept : (x : ℤ) → IsInner x → word x ≡ x
inner_kept x = back_of w128 x (4 * width_limit) widths_fit

middle_kept : (x : ℤ) → IsMiddle x → word x ≡ x
middle_kept x = back_of w128 x (6 * width_limit) most_fit

end_passed : (x : ℤ) → IsEnd x → IsEnd (word x)
end_passed x = small_back w128 x width_limit width_fits

inner_passed : (x : ℤ) → IsInner x → IsInner (word x)
inner_passed x = small_back w128 x (4 * width_limit) widths_fit

middle_passed : (x : ℤ) → IsMiddle x → IsMiddle (word x)
middle_passed x = small_back w128 x (6 * width_limit) most_fit

-- the second coefficient of a half
pub second4_takes : (a b : ℤ) → IsEnd a → IsInner b → record { a : IsEnd (word a); b : IsInner (word b) }
second4_takes a b ha hb = record { a = end_passed a ha; b = inner_passed b hb }

pub second4_gives : (r a b : ℤ) → FitsSigned w128 r → r ≡ second4 (word a) (word b) → IsEnd a → IsInner b → word r ≡ second4 a b
second4_gives r a b fits is ha hb = to_z-of_z w128 r fits ∙ is ∙ (λ i. second4 (end_kept a ha i) (inner_kept b hb i))

-- the third
pub third4_takes : (a b c : ℤ) → IsEnd a → IsInner b → IsMiddle c
    → record { a : IsEnd (word a); b : IsInner (word b); c : IsMiddle (word c) }
third4_takes a b c ha hb hc = record { a = end_passed a ha; b = inner_passed b hb; c = middle_passed c hc }

pub third4_gives : (r a b c : ℤ) → FitsSigned w128 r → r ≡ third4 (word a) (word b) (word c) → IsEnd a → IsInner b → IsMiddle c
    → word r ≡ third4 a b c
third4_gives r a b c fits is ha hb hc =
    to_z-of_z w128 r fits ∙ is ∙ (λ i. third4 (end_kept a ha i) (inner_kept b hb i) (middle_kept c hc i))

-- the fourth
pub fourth4_takes : (a b c d : ℤ) → IsEnd a → IsInner b → IsMiddle c → IsInner d
    → record { a : IsEnd (word a); b : IsInner (word b); c : IsMiddle (word c); d : IsInner (word d) }
fourth4_takes a b c d ha hb hc hd = record { a = end_passed a ha; b = inner_passed b hb; c = middle_passed c hc; d = inner_passed d hd }

pub fourth4_gives : (r a b c d : ℤ) → FitsSigned w128 r → r ≡ fourth4 (word a) (word b) (word c) (word d)
    → IsEnd a → IsInner b → IsMiddle c → IsInner d → word r ≡ fourth4 a b c d
fourth4_gives r a b c d fits is ha hb hc hd =
    to_z-of_z w128 r fits ∙ is ∙ (λ i. fourth4 (end_kept a ha i) (inner_kept b hb i) (middle_kept c hc i) (inner_kept d hd i))

-- and the value in the middle of the interval, which both halves have
pub middle4_takes : (a b c d e : ℤ) → IsEnd a → IsInner b → IsMiddle c → IsInner d → IsEnd e
    → record { a : IsEnd (word a); b : IsInner (word b); c : IsMiddle (word c); d : IsInner (word d); e : IsEnd (word e) }
middle4_takes a b c d e ha hb hc hd he =
    record { a = end_passed a ha; b = inner_passed b hb; c = middle_passed c hc; d = inner_passed d hd; e = end_passed e he }

pub middle4_gives : (r a b c d e : ℤ) → FitsSigned w128 r → r ≡ middle4 (word a) (word b) (word c) (word d) (word e)
    → IsEnd a → IsInner b → IsMiddle c → IsInner d → IsEnd e → word r ≡ middle4 a b c d e
middle4_gives r a b c d e fits is ha hb hc hd he =
    to_z-of_z w128 r fits ∙ is
    ∙ (λ i. middle4 (end_kept a ha i) (inner_kept b hb i) (middle_kept c hc i) (inner_kept d hd i) (end_kept e he i))
