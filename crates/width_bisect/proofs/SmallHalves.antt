-- The forms of a half of a stretch are no larger than its own.
use Rattle.std.proofs.Common.{◌≡◌, ℕ, ◌*◌, List, ℤ, subst, sym}
use Rattle.bern_form.specs.Sizes.{IsBounded2, axis_limit}
use Rattle.width_bisect.specs.declared.stretch.Stretch.{Stretch}
use Rattle.width_bisect.specs.Sizes.{IsWeighted4, height_limit, width_limit}

abbrev axis_square : ℕ
axis_square = 3 * (axis_limit * axis_limit)

-- for what halves a form of degree 2, and one of degree 4
pub half_small : (half2 half4 : List ℤ → List ℤ) → ((c : List ℤ) (m : ℕ) → IsBounded2 m c → IsBounded2 m (half2 c))
    → ((c : List ℤ) (m : ℕ) → IsWeighted4 m c → IsWeighted4 m (half4 c)) → (s : Stretch) (u n width : List ℤ)
    → u ≡ half2 s.u → n ≡ half2 s.n → width ≡ half4 s.width
    → record { u_small : IsBounded2 height_limit u; n_small : IsBounded2 axis_square n; width_small : IsWeighted4 width_limit width }
half_small half2 half4 small2 small4 s u n width eu en ew = record {
  u_small = subst (IsBounded2 height_limit) (sym eu) (small2 s.u height_limit s.u_small);
  n_small = subst (IsBounded2 axis_square) (sym en) (small2 s.n axis_square s.n_small);
  width_small = subst (IsWeighted4 width_limit) (sym ew) (small4 s.width width_limit s.width_small);
}
