-- What is excluded between two samples is excluded on each half, so on each cell between them, and held at none of their samples.
use Rattle.std.proofs.Common.{◌≡◌, false, not, ℕ, zero, suc, ◌+◌, ◌-◌, ◌*◌, ◌^◌, ◌≤◌, ◌<◌, List, ℤ, ◌⊎◌, inl, inr, arith, subst, ⊎_elim}
use Rattle.std.specs.Bool.{Decides}
use Rattle.std.specs.List.{Contains}
use Rattle.std.proofs.lemmas.Bool.{cases_Bool, cases_lt}
use Rattle.std.proofs.lemmas.Bool.Decides.{Decides-not, Decides-or, not_from_Decides}
use Rattle.std.proofs.Math.Nat.{mul-le-mul, two-pow-succ}
use Rattle.std.proofs.Math.Pow.{pow_mono}
use Rattle.space.specs.Sweeps.{SweepOf}
use Rattle.bern_form.specs.Slab.{SlabSize}
use Rattle.bern_form.specs.Cells.{IsInCell, scaled_square}
use Rattle.bern_form.specs.Marks.{is_unexcluded_on, some_holds}
use Rattle.bern_form.specs.Between.{d_between, height_less, is_excluded_between, is_excluded_with, is_unexcluded_between, n_between, u_between, width_less}
use Rattle.bern_form.proofs.Relations.{AllNegative, AllPositive, LeftOn, SomeHolds}
use Rattle.bern_form.proofs.Decided.{decides_among, decides_left_on, decides_negative, decides_positive, decides_some_holds, says_no}
use Rattle.bern_form.proofs.Exclusion.{excluded_not_held}
use Rattle.bern_form.proofs.Halves.{d_of_first, d_of_last, n_of_first, n_of_last, u_of_first, u_of_last, whole_of_first, whole_of_last}
use Rattle.bern_form.proofs.HalfSigns.{first_negative, first_negative4, first_positive4, height_first, height_last, last_negative, last_negative4, last_positive4, three, width_first, width_last}

-- the cell rule by the coefficients of u, n and d, and between two samples
abbrev pub ExcludedWith : SlabSize → ℕ → List ℤ → List ℤ → List ℤ → Type 0
ExcludedWith s S u n d =
    AllNegative u
    ⊎ (AllNegative (height_less (scaled_square S s.lo) u n)
    ⊎ (AllPositive (height_less (scaled_square S s.hi) u n) ⊎ AllPositive (width_less (scaled_square S s.dia) u n d)))

abbrev pub ExcludedBetween : SlabSize → SweepOf → List ℤ → ℕ → ℕ → ℕ → Type 0
ExcludedBetween s m p j k S = ExcludedWith s S (u_between m p j k S) (n_between m j k S) (d_between m p j k S)

pub decides_with : (s : SlabSize) (S : ℕ) (u n d : List ℤ) → Decides (is_excluded_with s S u n d) (ExcludedWith s S u n d)
decides_with s S u n d =
    Decides-or _ _ (decides_negative u)
    (Decides-or _ _ (decides_negative (height_less (scaled_square S s.lo) u n))
    (Decides-or _ _ (decides_positive (height_less (scaled_square S s.hi) u n)) (decides_positive (width_less (scaled_square S s.dia) u n d))))

first_with : (s : SlabSize) (S : ℕ) (u n d : List ℤ) → ExcludedWith s S (whole_of_first u) (whole_of_first n) (whole_of_first d) → ExcludedWith s S (three u) n d
first_with s S u n d x =
    let lo = scaled_square S s.lo in let hi = scaled_square S s.hi in let dia = scaled_square S s.dia in
    let U = whole_of_first u in let N = whole_of_first n in let D = whole_of_first d in
    ⊎_elim (λ c. inl (first_negative u c))
    (λ y. ⊎_elim (λ c. inr (inl (first_negative4 (height_less lo U N) (height_less lo u n) (omega arith) (height_first lo u n) c)))
    (λ z. ⊎_elim (λ c. inr (inr (inl (first_positive4 (height_less hi U N) (height_less hi u n) (omega arith) (height_first hi u n) c))))
    (λ c. inr (inr (inr (first_positive4 (width_less dia U N D) (width_less dia u n d) (omega arith) (width_first dia u n d) c)))) z) y) x

last_with : (s : SlabSize) (S : ℕ) (u n d : List ℤ) → ExcludedWith s S (whole_of_last u) (whole_of_last n) (whole_of_last d) → ExcludedWith s S (three u) n d
last_with s S u n d x =
    let lo = scaled_square S s.lo in let hi = scaled_square S s.hi in let dia = scaled_square S s.dia in
    let U = whole_of_last u in let N = whole_of_last n in let D = whole_of_last d in
    ⊎_elim (λ c. inl (last_negative u c))
    (λ y. ⊎_elim (λ c. inr (inl (last_negative4 (height_less lo U N) (height_less lo u n) (omega arith) (height_last lo u n) c)))
    (λ z. ⊎_elim (λ c. inr (inr (inl (last_positive4 (height_less hi U N) (height_less hi u n) (omega arith) (height_last hi u n) c))))
    (λ c. inr (inr (inr (last_positive4 (width_less dia U N D) (width_less dia u n d) (omega arith) (width_last dia u n d) c)))) z) y) x

-- what is excluded between the samples j and k is excluded between j and the sample i in the middle, and between i and k
pub first_excluded : (s : SlabSize) (m : SweepOf) (p : List ℤ) (j i k S : ℕ) → j + k ≡ 2 * i → ExcludedBetween s m p j k S → ExcludedBetween s m p j i S
first_excluded s m p j i k S h x =
    let u = u_between m p j i S in let n = n_between m j i S in let d = d_between m p j i S in
    first_with s S u n d
    (subst (λ l. ExcludedWith s S (whole_of_first u) (whole_of_first n) l) (d_of_first m p j i k S h)
    (subst (λ l. ExcludedWith s S (whole_of_first u) l (d_between m p j k S)) (n_of_first m j i k S h)
    (subst (λ l. ExcludedWith s S l (n_between m j k S) (d_between m p j k S)) (u_of_first m p j i k S h) x)))

pub last_excluded : (s : SlabSize) (m : SweepOf) (p : List ℤ) (j i k S : ℕ) → j + k ≡ 2 * i → ExcludedBetween s m p j k S → ExcludedBetween s m p i k S
last_excluded s m p j i k S h x =
    let u = u_between m p i k S in let n = n_between m i k S in let d = d_between m p i k S in
    last_with s S u n d
    (subst (λ l. ExcludedWith s S (whole_of_last u) (whole_of_last n) l) (d_of_last m p j i k S h)
    (subst (λ l. ExcludedWith s S (whole_of_last u) l (d_between m p j k S)) (n_of_last m j i k S h)
    (subst (λ l. ExcludedWith s S l (n_between m j k S) (d_between m p j k S)) (u_of_last m p j i k S h) x)))

-- each of the slabs is excluded between the samples j and k
pub record AllOut (slabs : List SlabSize) (m : SweepOf) (p : List ℤ) (j k S : ℕ) : Type 0 where
  pub each : (s : SlabSize) → Contains slabs s → ExcludedBetween s m p j k S

pub all_out : (slabs : List SlabSize) (m : SweepOf) (p : List ℤ) (j k S : ℕ) → is_unexcluded_between slabs m p j k S ≡ false → AllOut slabs m p j k S
all_out slabs m p j k S none =
    let decides = λ (s : SlabSize). decides_with s S (u_between m p j k S) (n_between m j k S) (d_between m p j k S) in
    record {
      each = λ s among.
          ⊎_elim (λ yes. (decides s).0 yes)
          (λ no. absurd (not_from_Decides (is_unexcluded_between slabs m p j k S)
          (decides_among (λ t. not (is_excluded_between t m p j k S)) (λ t. ¬ ExcludedBetween t m p j k S) slabs (λ t. Decides-not (is_excluded_between t m p j k S) (decides t)))
          none (s, among, not_from_Decides (is_excluded_between s m p j k S) (decides s) no)))
          (cases_Bool (is_excluded_between s m p j k S));
    }

out_first : (slabs : List SlabSize) (m : SweepOf) (p : List ℤ) (j i k S : ℕ) → j + k ≡ 2 * i → AllOut slabs m p j k S → AllOut slabs m p j i S
out_first slabs m p j i k S h out = record { each = λ s among. first_excluded s m p j i k S h (out.each s among) }

out_last : (slabs : List SlabSize) (m : SweepOf) (p : List ℤ) (j i k S : ℕ) → j + k ≡ 2 * i → AllOut slabs m p j k S → AllOut slabs m p i k S
out_last slabs m p j i k S h out = record { each = λ s among. last_excluded s m p j i k S h (out.each s among) }

-- on each cell between them
out_on_cell : (slabs : List SlabSize) (m : SweepOf) (p : List ℤ) (S n j c : ℕ) → AllOut slabs m p j (j + 2 ^ n) S → j ≤ c → c < j + 2 ^ n → AllOut slabs m p c (c + 1) S
out_on_cell slabs m p S zero j c out after before = let e : j ≡ c = omega arith in subst (λ k. AllOut slabs m p k (k + 1) S) e out
out_on_cell slabs m p S (suc n) j c out after before =
    let i = j + 2 ^ n in let k = j + 2 ^ suc n in
    let double = two-pow-succ n in
    let h : j + k ≡ 2 * i = omega arith in
    let e : k ≡ i + 2 ^ n = omega arith in
    ⊎_elim
    (λ early. out_on_cell slabs m p S n j c (out_first slabs m p j i k S h out) after early)
    (λ late. out_on_cell slabs m p S n i c (subst (λ z. AllOut slabs m p i z S) e (out_last slabs m p j i k S h out)) late (omega arith))
    (cases_lt c i)

pub left_on_none : (slabs : List SlabSize) (m : SweepOf) (p : List ℤ) (S n j c : ℕ) → AllOut slabs m p j (j + 2 ^ n) S → j ≤ c → c < j + 2 ^ n → is_unexcluded_on slabs m p c S ≡ false
left_on_none slabs m p S n j c out after before =
    let here = out_on_cell slabs m p S n j c out after before in
    says_no (LeftOn slabs m p c S) (is_unexcluded_on slabs m p c S) (decides_left_on slabs m p c S) (λ left. left.left (here.each left.slab left.among))

-- and held at none of their samples
cell_at : (j e i : ℕ) → 0 < e → j ≤ i → i ≤ j + e → (c : ℕ) × (j ≤ c) × (c < j + e) × (c ≤ i) × (i ≤ c + 1)
cell_at j e i some after before =
    ⊎_elim (λ early. (i, after, early, omega arith, omega arith)) (λ late. (i - 1, omega arith, omega arith, omega arith, omega arith)) (cases_lt i (j + e))

some_cells : (n : ℕ) → 0 < 2 ^ n
some_cells n = let some : 2 ^ 0 ≤ 2 ^ n = pow_mono {i = 0} {j = n} (omega arith) in some

pub held_at_none : (slabs : List SlabSize) (m : SweepOf) (p : List ℤ) (S n j i : ℕ) → 0 < S → AllOut slabs m p j (j + 2 ^ n) S → j ≤ i → i ≤ j + 2 ^ n → some_holds slabs m p i S ≡ false
held_at_none slabs m p S n j i some out after before =
    let found = cell_at j (2 ^ n) i (some_cells n) after before in
    let c = found.0 in
    let here = out_on_cell slabs m p S n j c out found.1 found.2 in
    let inside : IsInCell c S i S = record { denominator = some; after = mul-le-mul found.3 (omega arith); before = mul-le-mul found.4 (omega arith) } in
    says_no (SomeHolds slabs m p i S) (some_holds slabs m p i S) (decides_some_holds slabs m p i S) (λ held.
    excluded_not_held held.slab m p c S i S inside (here.each held.slab held.among) held.holds)
