-- The cone rule, where both square roots are whole numbers: a straight line.
use Rattle.std.proofs.Common.{◌≡◌, ℕ, ◌+◌, ◌*◌, ◌^◌, ◌-◌, ◌≤◌, pos, arith, ⊎_elim}
use Rattle.std.proofs.Math.Nat.{mul-le-mul}
use Rattle.std.proofs.lemmas.Bool.{cases_lt}
use Rattle.bern_form.proofs.Roots.{root_le}
use Rattle.cutter_slabs.specs.Cone.{ConeRule}
use Rattle.cutter_slabs.proofs.Cones.{ConeBy, cone_down, cone_up}

-- x^2 <= (y + z)^2 where x^2 - y^2 - z^2 is at most 2 y z
root_sum : (x y z m : ℕ) → y * y + z * z + m ≡ x * x → m * m ≤ (2 * y * z) * (2 * y * z) → x ≤ y + z
root_sum x y z m e h = let k = root_le m (2 * y * z) h in root_le x (y + z) (omega arith)

below_sum : (x y z : ℕ) → x * x ≤ y * y + z * z → x ≤ y + z
below_sum x y z h = root_le x (y + z) (omega arith)

-- and back
square_sum : (x y z m : ℕ) → x ≤ y + z → y * y + z * z + m ≡ x * x → m * m ≤ (2 * y * z) * (2 * y * z)
square_sum x y z m h e =
    let a = mul-le-mul h h in
    let k : m ≤ 2 * y * z = omega arith in
    mul-le-mul k k

line_of : (K T D u i s : ℕ) → ConeBy K T D u (i * i) (s * s) → 2 * K * s ≤ K * D * i + 2 * T * u
line_of K T D u i s rule =
    ⊎_elim (λ l. below_sum (2 * K * s) (K * D * i) (2 * T * u) (omega arith))
    (λ g.
    let m = 4 * (K * K) * (s * s) - (K * K * (D * D) * (i * i) + 4 * (T * T) * (u * u)) in
    let h = rule m (omega arith) in
    root_sum (2 * K * s) (K * D * i) (2 * T * u) m (omega arith) (omega arith))
    (cases_lt (4 * (K * K) * (s * s)) (K * K * (D * D) * (i * i) + 4 * (T * T) * (u * u)))

of_line : (K T D u i s : ℕ) → 2 * K * s ≤ K * D * i + 2 * T * u → ConeBy K T D u (i * i) (s * s)
of_line K T D u i s h = λ m e. let k = square_sum (2 * K * s) (K * D * i) (2 * T * u) m h (omega arith) in omega arith

pub straight_line : (t d u i s : ℕ) → ConeRule t d (pos u) (pos (i * i)) (pos (s * s)) → 2 * 10 ^ 6 * s ≤ 10 ^ 6 * d * i + 2 * t * u
straight_line t d u i s rule = let l = line_of 1000000 t d u i s (cone_down t d u (i * i) (s * s) rule) in omega arith

pub line_straight : (t d u i s : ℕ) → 2 * 10 ^ 6 * s ≤ 10 ^ 6 * d * i + 2 * t * u → ConeRule t d (pos u) (pos (i * i)) (pos (s * s))
line_straight t d u i s h = cone_up t d u (i * i) (s * s) (of_line 1000000 t d u i s (omega arith))
