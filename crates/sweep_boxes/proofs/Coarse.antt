-- A slab that is left on a cell is left on the part of the move that the cell lies in.
use Rattle.std.proofs.Common.{◌≡◌, true, false, ℕ, ◌+◌, ◌-◌, ◌*◌, ◌/◌, ◌^◌, ◌≤◌, ◌<◌, List, ℤ, pos, Result, Ok, Err, ⊎_elim, arith, subst, sym, ap, ◌∙◌}
use Rattle.std.proofs.lemmas.Bool.{cases_Bool}
use Rattle.std.proofs.lemmas.Bool.{and_parts, cases_lt}
use Rattle.std.proofs.lemmas.Nat.{div-add-mod', pow-add}
use Rattle.std.proofs.Math.Nat.{div-mul-le_self, mod-lt, mul-le-mul}
use Rattle.std.proofs.Math.Pow.{pow_mono}
use Rattle.space.specs.Sweeps.{SweepOf}
use Rattle.bern_form.specs.Between.{is_unexcluded_between}
use Rattle.std.specs.Result.{OnOk}
use Rattle.space.specs.Reach.{is_in_reach}
use Rattle.bern_form.specs.Marks.{is_unexcluded_on, is_unexcluded_on_cell}
use Rattle.bern_form.proofs.Decided.{decides_below}
use Rattle.cutter_slabs.specs.Cutter.{CutterSize}
use Rattle.cutter_slabs.specs.Stacks.{outer_stack, reach_of}
use Rattle.cutter_marks.specs.MarkBy.{is_possible_by}
use Rattle.bern_form.specs.Slab.{SlabSize}
use Rattle.bern_form.proofs.Finer.{AllOut, all_out, left_on_none}
use Rattle.sweep_boxes.proofs.Scales.{out_grown}

pub record LeftPart (slabs : List SlabSize) (m : SweepOf) (p : List ℤ) (level : ℕ) : Type 0 where
  pub part : ℕ
  pub within : part < 2 ^ level
  pub left : is_unexcluded_between slabs m p part (part + 1) (2 ^ level) ≡ true

some : (n : ℕ) → 0 < 2 ^ n
some n = let least : 2 ^ 0 ≤ 2 ^ n = pow_mono {i = 0} {j = n} (omega arith) in least

step : (a t : ℕ) → (a + 1) * t ≡ a * t + t
step a t = omega arith

kept_or_not : (slabs : List SlabSize) (m : SweepOf) (p : List ℤ) (level k c n : ℕ) → n * 2 ^ k ≤ c → c < (n + 1) * 2 ^ k → is_unexcluded_on slabs m p c (2 ^ level * 2 ^ k) ≡ true
    → is_unexcluded_between slabs m p n (n + 1) (2 ^ level) ≡ false → ⊥
kept_or_not slabs m p level k c n after before left none =
    let t = 2 ^ k in
    let out = out_grown slabs m p n (n + 1) (2 ^ level) t (some k) (all_out slabs m p n (n + 1) (2 ^ level) none) in
    let whole : AllOut slabs m p (n * t) (n * t + t) (2 ^ level * t) = subst (λ (z : ℕ). AllOut slabs m p (n * t) z (2 ^ level * t)) (step n t) out in
    let no = left_on_none slabs m p (2 ^ level * t) k (n * t) c whole after (omega (arith, before, step n t)) in cc

last_of : (c t : ℕ) → 0 < t → c < (c / t + 1) * t
last_of c t h = omega (arith, div-add-mod' c t, mod-lt c h)

within_level : (c n t whole parts : ℕ) → n * t ≤ c → c < whole → whole ≡ parts * t → n < parts
within_level c n t whole parts after before e =
    ⊎_elim (λ less. less) (λ most. absurd (too_far c n t whole parts after before e most)) (cases_lt n parts) where
      too_far : (c n t whole parts : ℕ) → n * t ≤ c → c < whole → whole ≡ parts * t → parts ≤ n → ⊥
      too_far c n t whole parts after before e most = let more : parts * t ≤ n * t = mul-le-mul most (same t) in omega (arith, after, before, e, more) where
        same : (t : ℕ) → t ≤ t
        same t = omega arith

pub left_part : (slabs : List SlabSize) (m : SweepOf) (p : List ℤ) (level depth c : ℕ) → level ≤ depth → c < 2 ^ depth → is_unexcluded_on slabs m p c (2 ^ depth) ≡ true → LeftPart slabs m p level
left_part slabs m p level depth c deep within left =
    let k = depth - level in let t = 2 ^ k in let n = c / t in
    let e : level + k ≡ depth = omega (arith, deep) in
    let whole : 2 ^ depth ≡ 2 ^ level * t = ap (λ (z : ℕ). 2 ^ z) (sym e) ∙ pow-add 2 level k in
    let after : n * t ≤ c = div-mul-le_self c t in
    let here : is_unexcluded_on slabs m p c (2 ^ level * t) ≡ true = subst (λ (z : ℕ). is_unexcluded_on slabs m p c z ≡ true) whole left in
    record {
      part = n;
      within = within_level c n t (2 ^ depth) (2 ^ level) after within whole;
      left = ⊎_elim (λ yes. yes) (λ no. absurd (kept_or_not slabs m p level k c n after (last_of c t (some k)) here no)) (cases_Bool (is_unexcluded_between slabs m p n (n + 1) (2 ^ level)));
    }

-- what is possible is in reach, and left on a cell
pub possible_parts : (c : CutterSize) (n : ℕ) (m : SweepOf) (p : List ℤ) (S : ℕ) → is_possible_by c n m p S ≡ true
    → (is_in_reach (pos (reach_of c)) m.from m.to p ≡ true) × ((k : ℕ) × (k < S) × (is_unexcluded_on (outer_stack c n) m p k S ≡ true))
unfolding is_possible_by
possible_parts c n m p S h =
    let both = and_parts (is_in_reach (pos (reach_of c)) m.from m.to p) (is_unexcluded_on_cell (outer_stack c n) m p S) h in
    (both.0, (decides_below (λ k. is_unexcluded_on (outer_stack c n) m p k S) (λ k. is_unexcluded_on (outer_stack c n) m p k S ≡ true) S (λ k. (λ e. e, λ e. e))).0 both.1)

pub on_ok : {T E : Type 0} (r : Result T E) (A B : Type 0) → (A → B) → OnOk r A → OnOk r B
on_ok (Ok u) A B f a = f a
on_ok (Err e) A B f a = a
