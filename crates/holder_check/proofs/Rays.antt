-- What is so of a ray's points by the holder's window and its marks.
use Rattle.std.proofs.Common.{◌≡◌, ℕ, ◌≤◌, ◌<◌, List, length, ℤ, Bool, true, false, IsTrue, Result, Ok, Err, IfOk, arith, sym, ⊎_elim, ◌∙◌}
use Rattle.std.proofs.lemmas.Bool.{cases_Bool, cases_lt}
use Rattle.std.proofs.lemmas.List.{get_or_past}
use Rattle.space.specs.Reach.{is_in_reach}
use Rattle.space.specs.Sweeps.{IsSweep, SweepOf}
use Rattle.bern_form.specs.Slab.{IsSlab, SlabSize}
use Rattle.vf_spans.specs.Members.{has}
use Rattle.ray_grid.specs.Selects.{Selects}
use Rattle.holder_check.specs.Holder.{HolderMeets, holder_reach, is_holder_possible, is_holder_sure}
use Rattle.holder_check.proofs.Slabs.{far_is_out, out_is_not_met, sure_is_met, sure_is_possible}

-- the indices from a on and below b are those of the first n points of a line that are in reach of a segment
abbrev pub IsWindowBy : ℤ → List ℤ → List ℤ → (ℕ → List ℤ) → ℕ → ℕ → ℕ → Type 0
IsWindowBy reach from to point n a b = Selects a b (λ l. (l < n) × IsTrue (is_in_reach reach from to (point l)))

-- those that are in a holder's reach
abbrev pub IsWindow : SlabSize → SweepOf → (ℕ → List ℤ) → ℕ → ℕ → ℕ → Type 0
IsWindow s m point n a b = IsWindowBy (holder_reach s) m.from m.to point n a b

out_of_window : (s : SlabSize) (m : SweepOf) (point : ℕ → List ℤ) (n a b i : ℕ) → IsWindow s m point n a b → ¬ ((a ≤ i) × (i < b)) → i < n
    → is_in_reach (holder_reach s) m.from m.to (point i) ≡ false
out_of_window s m point n a b i window out l =
    ⊎_elim (λ near. absurd (out ((window i).1 (l, near)))) (λ far. far) (cases_Bool (is_in_reach (holder_reach s) m.from m.to (point i)))

-- before the window, and after it, no point is possible or sure
pub out_before : (s : SlabSize) (m : SweepOf) (point : ℕ → List ℤ) (S n a b : ℕ) → IsWindow s m point n a b → a ≤ b → b ≤ n
    → (i : ℕ) → i < a → is_holder_possible s m (point i) S ≡ false
out_before s m point S n a b window order within i l =
    far_is_out s m (point i) S (out_of_window s m point n a b i window (λ inside. let f = inside.0 in omega (arith, f, l)) (omega (arith, l, order, within)))

pub out_after : (s : SlabSize) (m : SweepOf) (point : ℕ → List ℤ) (S n a b : ℕ) → IsWindow s m point n a b
    → (i : ℕ) → b ≤ i → i < n → is_holder_possible s m (point i) S ≡ false
out_after s m point S n a b window i l lt =
    far_is_out s m (point i) S (out_of_window s m point n a b i window (λ inside. let f = inside.1 in omega (arith, f, l)) lt)

no_both : (b : Bool) → b ≡ true → b ≡ false → ⊥
no_both b e f = cc

-- an index that the set has is below its bound
below_bound : (set : List Bool) (n l : ℕ) → length set ≡ n → has set l ≡ true → l < n
below_bound set n l size held =
    ⊎_elim (λ early. early) (λ late. absurd (no_both (has set l) held (get_or_past set l false (omega (arith, size, late))))) (cases_lt l n)

-- what is so of the marks of a ray by its two tests
pub sure_flags_met : (s : SlabSize) (m : SweepOf) (point : ℕ → List ℤ) (S n : ℕ) (sure : List Bool) → 0 < S → length sure ≡ n
    → ((l : ℕ) → l < n → has sure l ≡ is_holder_sure s m (point l) S) → (l : ℕ) → IsTrue (has sure l) → HolderMeets s m (point l)
sure_flags_met s m point S n sure some size are l held =
    sure_is_met s m (point l) S some (sym (are l (below_bound sure n l size held)) ∙ held)

pub sure_flags_possible : (s : SlabSize) (m : SweepOf) (point : ℕ → List ℤ) (S n : ℕ) (sure possible : List Bool) → IsSlab s → IsSweep m → 0 < S → length sure ≡ n
    → ((l : ℕ) → l < n → has sure l ≡ is_holder_sure s m (point l) S) → ((l : ℕ) → l < n → has possible l ≡ is_holder_possible s m (point l) S)
    → (l : ℕ) → IsTrue (has sure l) → IsTrue (has possible l)
sure_flags_possible s m point S n sure possible valid sweep some size are may l held =
    let lt = below_bound sure n l size held in
    may l lt ∙ sure_is_possible s m (point l) S valid sweep some (sym (are l lt) ∙ held)

pub clear_flags_not_met : (s : SlabSize) (m : SweepOf) (point : ℕ → List ℤ) (S n : ℕ) (possible : List Bool) → IsSlab s → IsSweep m → 0 < S
    → ((l : ℕ) → l < n → has possible l ≡ is_holder_possible s m (point l) S) → (l : ℕ) → l < n → has possible l ≡ false → ¬ HolderMeets s m (point l)
clear_flags_not_met s m point S n possible valid sweep some may l lt out =
    out_is_not_met s m (point l) S valid sweep some (sym (may l lt) ∙ out)

-- of what is made, where there is memory for it
pub ok_as : {T E : Type 0} (r : Result T E) (P Q : T → Type 0) → ((x : T) → P x → Q x) → IfOk r P → IfOk r Q
ok_as (Ok x) P Q then h = then x h
ok_as (Err e) P Q then h = tt

pub ok_as_of_two : {T E : Type 0} (r : Result T E) (P Q R : T → Type 0) → ((x : T) → P x → Q x → R x) → IfOk r P → IfOk r Q → IfOk r R
ok_as_of_two (Ok x) P Q R then h k = then x h k
ok_as_of_two (Err e) P Q R then h k = tt

pub ok_as_of_three : {T E : Type 0} (r : Result T E) (P Q R U : T → Type 0) → ((x : T) → P x → Q x → R x → U x) → IfOk r P → IfOk r Q → IfOk r R → IfOk r U
ok_as_of_three (Ok x) P Q R U then h k j = then x h k j
ok_as_of_three (Err e) P Q R U then h k j = tt
