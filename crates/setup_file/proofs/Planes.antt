-- A plane's numbers, judged one after the other.
use Rattle.std.proofs.Common.{◌≡◌, ℤ, pos, neg_ℤ, not, List, Result, Ok, sym, ap, ◌∙◌}
use Rattle.space.specs.Vectors.{at, is_zero}
use Rattle.ray_shapes.specs.declared.plane.Plane.{Plane}
use Rattle.setup_keys.specs.declared.fault.SetupFault.{SetupFault}
use Rattle.setup_keys.specs.declared.key.KeyName.{KeyName}
use Rattle.setup_file.specs.Bodies.{plane, plane_by}
use Rattle.setup_file.specs.Limits.{most_normal, most_right_side}
use Rattle.setup_file.specs.Reads.{◌>>=◌, only_if, ranged}

-- what is judged after each of the numbers
abbrev pub with_d : KeyName → List ℤ → ℤ → ℤ → ℤ → ℤ → Result Plane SetupFault
with_d key numbers a b c d = only_if (not (is_zero numbers)) key (pos 0) >>= (λ _. Ok (plane a b c d))

abbrev pub with_c : KeyName → List ℤ → ℤ → ℤ → ℤ → Result Plane SetupFault
with_c key numbers a b c = ranged key (neg_ℤ (pos most_right_side)) (pos most_right_side) (at numbers 3) >>= (λ d. with_d key numbers a b c d)

abbrev with_b : KeyName → List ℤ → ℤ → ℤ → Result Plane SetupFault
with_b key numbers a b = ranged key (neg_ℤ (pos most_normal)) (pos most_normal) (at numbers 2) >>= (λ c. with_c key numbers a b c)

abbrev with_a : KeyName → List ℤ → ℤ → Result Plane SetupFault
with_a key numbers a = ranged key (neg_ℤ (pos most_normal)) (pos most_normal) (at numbers 1) >>= (λ b. with_b key numbers a b)

-- the first three pass
pub plane_upto_c : (key : KeyName) (numbers : List ℤ) (a b c : ℤ) → Ok a ≡ ranged key (neg_ℤ (pos most_normal)) (pos most_normal) (at numbers 0)
    → Ok b ≡ ranged key (neg_ℤ (pos most_normal)) (pos most_normal) (at numbers 1) → Ok c ≡ ranged key (neg_ℤ (pos most_normal)) (pos most_normal) (at numbers 2)
    → plane_by key numbers ≡ with_c key numbers a b c
unfolding plane_by
plane_upto_c key numbers a b c p q r =
    ap (λ x. x >>= (λ y. with_a key numbers y)) (sym p) ∙ ap (λ x. x >>= (λ y. with_b key numbers a y)) (sym q)
    ∙ ap (λ x. x >>= (λ y. with_c key numbers a b y)) (sym r)

-- the fourth passes too
pub plane_upto_d : (key : KeyName) (numbers : List ℤ) (a b c d : ℤ) → plane_by key numbers ≡ with_c key numbers a b c
    → Ok d ≡ ranged key (neg_ℤ (pos most_right_side)) (pos most_right_side) (at numbers 3) → plane_by key numbers ≡ with_d key numbers a b c d
plane_upto_d key numbers a b c d upto s = upto ∙ ap (λ x. x >>= (λ y. with_d key numbers a b c y)) (sym s)

-- there is a normal
pub plane_passes : (key : KeyName) (numbers : List ℤ) (a b c d z : ℤ) → plane_by key numbers ≡ with_d key numbers a b c d
    → Ok z ≡ only_if (not (is_zero numbers)) key (pos 0) → plane_by key numbers ≡ Ok (plane a b c d)
plane_passes key numbers a b c d z upto t = upto ∙ ap (λ x. x >>= (λ _. Ok (plane a b c d))) (sym t)
