-- What is left of a slab on a part of a move is near the middle: neither behind the tip, nor above the slab, nor beside it, each by
-- what may change on the part.
use Rattle.std.proofs.Common.{◌≡◌, true, not, ℕ, ◌+◌, ◌*◌, ◌≤◌, List, ℤ, pos, negsuc, ◌+ℤ◌, ◌*ℤ◌, ◌-ℤ◌, ◌≤ℤ◌, ◌<ℤ◌, ◌⊎◌, inl, inr, unsigned_abs, arith, sym, subst, ⊎_elim}
use Rattle.std.specs.List.{Contains}
use Rattle.std.proofs.lemmas.Int.{ints}
use Rattle.std.proofs.lemmas.Bool.{cases_lt}
use Rattle.std.proofs.lemmas.Bool.Decides.{Decides-not}
use Rattle.std.proofs.Math.Nat.{mul-le-mul}
use Rattle.space.specs.Sweeps.{SweepOf, axis_at, offset_at}
use Rattle.space.specs.Vectors.{cross, difference, dot, sum}
use Rattle.bern_form.specs.Between.{is_excluded_between, is_unexcluded_between}
use Rattle.bern_form.specs.Cells.{dot_on_cell, scaled_square}
use Rattle.bern_form.specs.Slab.{SlabSize}
use Rattle.bern_form.proofs.Decided.{decides_among}
use Rattle.bern_form.proofs.Finer.{ExcludedBetween, ExcludedWith, decides_with}
use Rattle.sweep_boxes.specs.Intervals.{height_change, moment_change}
use Rattle.sweep_boxes.proofs.Intervals.{IsUnder, above_slab, behind_tip, beside}

-- one of the slabs that isn't excluded
pub record SomeLeft (slabs : List SlabSize) (m : SweepOf) (p : List ℤ) (j k S : ℕ) : Type 0 where
  pub slab : SlabSize
  pub among : Contains slabs slab
  pub left : ¬ ExcludedBetween slab m p j k S

pub some_left : (slabs : List SlabSize) (m : SweepOf) (p : List ℤ) (j k S : ℕ) → is_unexcluded_between slabs m p j k S ≡ true → SomeLeft slabs m p j k S
some_left slabs m p j k S h =
    let decides = λ (s : SlabSize). decides_with s S (dot_on_cell (offset_at m p (pos j) (pos S)) (offset_at m p (pos k) (pos S)) (axis_at m (pos j) (pos S)) (axis_at m (pos k) (pos S))) (dot_on_cell (axis_at m (pos j) (pos S)) (axis_at m (pos k) (pos S)) (axis_at m (pos j) (pos S)) (axis_at m (pos k) (pos S))) (dot_on_cell (offset_at m p (pos j) (pos S)) (offset_at m p (pos k) (pos S)) (offset_at m p (pos j) (pos S)) (offset_at m p (pos k) (pos S))) in
    let found = (decides_among (λ t. not (is_excluded_between t m p j k S)) (λ t. ¬ ExcludedBetween t m p j k S) slabs (λ t. Decides-not (is_excluded_between t m p j k S) (decides t))).0 h in
    record { slab = found.0; among = found.1; left = found.2 }

-- the numbers that a place is held by
pub record Limits (p q a c : List ℤ) (S : ℕ) (s : SlabSize) (r h m n v b : ℕ) : Type 0 where
  pub wide : IsUnder (scaled_square S s.dia) a c r
  pub tall : IsUnder (pos 4 *ℤ scaled_square S s.hi) a c h
  pub change : dot (moment_change (sum p q) (sum a c) (difference q p) (difference c a)) (moment_change (sum p q) (sum a c) (difference q p) (difference c a)) ≤ℤ pos (m * m)
  pub bend : dot (cross (difference q p) (difference c a)) (cross (difference q p) (difference c a)) ≤ℤ pos (n * n)
  pub slope : unsigned_abs (height_change (sum p q) (sum a c) (difference q p) (difference c a)) ≤ v
  pub bow : unsigned_abs (dot (difference q p) (difference c a)) ≤ b

pub over_or : (z : ℤ) (n : ℕ) → (z ≤ℤ pos n) ⊎ (pos n <ℤ z)
over_or (pos k) n = ⊎_elim (λ less. inr (omega (arith, ints))) (λ most. inl (omega (arith, ints))) (cases_lt n k)
over_or (negsuc k) n = inl (omega (arith, ints))

pub under_or : (z : ℤ) (n : ℕ) → ((pos 0 -ℤ pos n) ≤ℤ z) ⊎ ((z +ℤ pos n) <ℤ pos 0)
under_or (pos k) n = inl (omega (arith, ints))
under_or (negsuc k) n = ⊎_elim (λ less. inl (omega (arith, ints))) (λ most. inr (omega (arith, ints))) (cases_lt k n)

pub held_by : (p q a c : List ℤ) (S : ℕ) (s : SlabSize) (r h m n v b : ℕ) → Limits p q a c S s r h m n v b
    → ¬ ExcludedWith s S (dot_on_cell p q a c) (dot_on_cell a c a c) (dot_on_cell p q p q)
    → ((pos 0 -ℤ pos (v + b)) ≤ℤ dot (sum p q) (sum a c)) × (dot (sum p q) (sum a c) ≤ℤ pos (h + (v + b)))
    × (dot (cross (sum p q) (sum a c)) (cross (sum p q) (sum a c)) ≤ℤ pos ((r + (m + n)) * (r + (m + n))))
held_by p q a c S s r h m n v b l left =
    let u = dot (sum p q) (sum a c) in (
      ⊎_elim (λ in_front. in_front) (λ behind. absurd (left (inl (behind_tip p q a c v b record { change = slope_is p q a c v l.slope; bend = l.bow; behind = behind })))) (under_or u (v + b)),
      ⊎_elim (λ below. below) (λ over. absurd (left (inr (inr (inl (above_slab p q a c (scaled_square S s.hi) h v b l.tall record { change = slope_is p q a c v l.slope; bend = l.bow; over = over })))))) (over_or u (h + (v + b))),
      ⊎_elim (λ near. near) (λ far. absurd (left (inr (inr (inr (beside p q a c (scaled_square S s.dia) r m n l.wide l.change l.bend far)))))) (over_or (dot (cross (sum p q) (sum a c)) (cross (sum p q) (sum a c))) ((r + (m + n)) * (r + (m + n)))),
    ) where
      slope_is : (p q a c : List ℤ) (v : ℕ) → unsigned_abs (height_change (sum p q) (sum a c) (difference q p) (difference c a)) ≤ v → unsigned_abs (dot (difference q p) (sum a c) +ℤ dot (sum p q) (difference c a)) ≤ v
      slope_is p q a c v h = h

-- from the numbers of an interval
pub under_of : (scale S : ℕ) (dia widest longest n r : ℤ) → scale ≡ 2 * S → pos 0 ≤ℤ dia → dia ≤ℤ widest → pos 0 ≤ℤ n → n ≤ℤ longest
    → (((pos scale *ℤ widest) *ℤ (pos scale *ℤ widest)) *ℤ longest) ≤ℤ r → (pos 4 *ℤ (scaled_square S dia *ℤ n)) ≤ℤ r
under_of scale S (pos d) (pos w) (pos l) (pos n) r e a b c f g =
    let width : d ≤ w = omega (arith, ints, b) in let long : n ≤ l = omega (arith, ints, f) in
    let side : scale * d ≤ scale * w = mul-le-mul (omega arith) width in
    let one : scale * d * (scale * d) ≤ scale * w * (scale * w) = mul-le-mul side side in
    let two : scale * d * (scale * d) * n ≤ scale * w * (scale * w) * l = mul-le-mul one long in
    four_is scale S d n r e (le_trans two (pos_le scale w l r g)) where
      four_is : (scale S d n : ℕ) (r : ℤ) → scale ≡ 2 * S → pos (scale * d * (scale * d) * n) ≤ℤ r → (pos 4 *ℤ (scaled_square S (pos d) *ℤ pos n)) ≤ℤ r
      four_is scale S d n r e h = subst (λ (z : ℤ). z ≤ℤ r) (same scale S d n e) h where
        same : (scale S d n : ℕ) → scale ≡ 2 * S → pos (scale * d * (scale * d) * n) ≡ pos 4 *ℤ (scaled_square S (pos d) *ℤ pos n)
        same scale S d n e = subst (λ (t : ℕ). pos (t * d * (t * d) * n) ≡ pos 4 *ℤ (scaled_square S (pos d) *ℤ pos n)) (sym e) (omega (arith, ints))

      pos_le : (scale w l : ℕ) (r : ℤ) → (((pos scale *ℤ pos w) *ℤ (pos scale *ℤ pos w)) *ℤ pos l) ≤ℤ r → pos (scale * w * (scale * w) * l) ≤ℤ r
      pos_le scale w l r h = omega (arith, ints, h)

      le_trans : {a b : ℕ} {r : ℤ} → a ≤ b → pos b ≤ℤ r → pos a ≤ℤ r
      le_trans h k = omega (arith, ints, h, k)
under_of scale S (negsuc d) w l n r e a b c f g = absurd (omega (arith, ints, a))
under_of scale S (pos d) (negsuc w) l n r e a b c f g = absurd (omega (arith, ints, b))
under_of scale S (pos d) (pos w) (negsuc l) (pos n) r e a b c f g = absurd (omega (arith, ints, f))
under_of scale S (pos d) (pos w) l (negsuc n) r e a b c f g = absurd (omega (arith, ints, c))

-- the same for the vectors that the ends' sums and differences are
pub record LimitsOf (v x d e a c : List ℤ) (S : ℕ) (s : SlabSize) (r h m n l b : ℕ) : Type 0 where
  pub wide : IsUnder (scaled_square S s.dia) a c r
  pub tall : IsUnder (pos 4 *ℤ scaled_square S s.hi) a c h
  pub change : dot (moment_change v x d e) (moment_change v x d e) ≤ℤ pos (m * m)
  pub bend : dot (cross d e) (cross d e) ≤ℤ pos (n * n)
  pub slope : unsigned_abs (height_change v x d e) ≤ l
  pub bow : unsigned_abs (dot d e) ≤ b

abbrev pub IsNear : List ℤ → List ℤ → ℕ → ℕ → ℕ → Type 0
IsNear v x height_slack top grow =
    ((pos 0 -ℤ pos height_slack) ≤ℤ dot v x) × (dot v x ≤ℤ pos top) × (dot (cross v x) (cross v x) ≤ℤ pos (grow * grow))

pub held_with : (p q a c v x d e : List ℤ) (S : ℕ) (s : SlabSize) (r h m n l b : ℕ) → sum p q ≡ v → sum a c ≡ x → difference q p ≡ d → difference c a ≡ e
    → LimitsOf v x d e a c S s r h m n l b → ¬ ExcludedWith s S (dot_on_cell p q a c) (dot_on_cell a c a c) (dot_on_cell p q p q)
    → IsNear v x (l + b) (h + (l + b)) (r + (m + n))
held_with p q a c v x d e S s r h m n l b ev ex ed ee z left =
    subst (λ (y : List ℤ). IsNear y x (l + b) (h + (l + b)) (r + (m + n))) ev
    (subst (λ (y : List ℤ). IsNear (sum p q) y (l + b) (h + (l + b)) (r + (m + n))) ex
    (held_by p q a c S s r h m n l b (limits p q a c v x d e S s r h m n l b ev ex ed ee z) left)) where
      limits : (p q a c v x d e : List ℤ) (S : ℕ) (s : SlabSize) (r h m n l b : ℕ) → sum p q ≡ v → sum a c ≡ x → difference q p ≡ d → difference c a ≡ e
          → LimitsOf v x d e a c S s r h m n l b → Limits p q a c S s r h m n l b
      limits p q a c v x d e S s r h m n l b ev ex ed ee z =
          let P = sum p q in let A = sum a c in let D = difference q p in record {
            wide = z.wide;
            tall = z.tall;
            change =
                subst (λ (y : List ℤ). dot (moment_change P A D y) (moment_change P A D y) ≤ℤ pos (m * m)) (sym ee)
                (subst (λ (y : List ℤ). dot (moment_change P A y e) (moment_change P A y e) ≤ℤ pos (m * m)) (sym ed)
                (subst (λ (y : List ℤ). dot (moment_change P y d e) (moment_change P y d e) ≤ℤ pos (m * m)) (sym ex)
                (subst (λ (y : List ℤ). dot (moment_change y x d e) (moment_change y x d e) ≤ℤ pos (m * m)) (sym ev) z.change)));
            bend =
                subst (λ (y : List ℤ). dot (cross D y) (cross D y) ≤ℤ pos (n * n)) (sym ee)
                (subst (λ (y : List ℤ). dot (cross y e) (cross y e) ≤ℤ pos (n * n)) (sym ed) z.bend);
            slope =
                subst (λ (y : List ℤ). unsigned_abs (height_change P A D y) ≤ l) (sym ee)
                (subst (λ (y : List ℤ). unsigned_abs (height_change P A y e) ≤ l) (sym ed)
                (subst (λ (y : List ℤ). unsigned_abs (height_change P y d e) ≤ l) (sym ex)
                (subst (λ (y : List ℤ). unsigned_abs (height_change y x d e) ≤ l) (sym ev) z.slope)));
            bow =
                subst (λ (y : List ℤ). unsigned_abs (dot D y) ≤ b) (sym ee)
                (subst (λ (y : List ℤ). unsigned_abs (dot y e) ≤ b) (sym ed) z.bow);
          }
