-- The marks and the steps of a whole ray, from those of its indices in reach.
use Rattle.std.proofs.Common.{◌≡◌, Bool, true, false, ℕ, ◌+◌, ◌-◌, ◌*◌, ◌^◌, ◌≤◌, ◌<◌, ◌⊎◌, inl, inr, List, length, replicate, ℤ, pos, IsTrue, nat_lt, if◌then◌else◌, arith, refl, subst, sym, ap, ⊎_elim, ◌∙◌}
use Rattle.std.proofs.lemmas.Bool.{cases_Bool, cases_lt}
use Rattle.std.proofs.lemmas.Bool.Decides.{nat_tests}
use Rattle.std.proofs.lemmas.List.{ext_get_or, get_or-replicate, get_or_past, length-replicate}
use Rattle.std.proofs.lemmas.List.FromFn.{get_or-map-range_with_len, length-map-range_with_len}
use Rattle.space.specs.Reach.{is_in_reach}
use Rattle.space.specs.Sweeps.{SweepOf}
use Rattle.bern_form.specs.Marks.{held_at_sample, is_possible_with}
use Rattle.bern_form.specs.Slab.{SlabSize}
use Rattle.vf_spans.specs.Members.{has}
use Rattle.ray_grid.specs.Selects.{Selects}
use Rattle.axis_cells.specs.declared.mark.Mark.{Mark}
use Rattle.axis_cells.specs.declared.mark.Mark.TheVariants.{Clear, Possible, Removed}
use Rattle.axis_cells.specs.Marked.{mark_from}
use Rattle.cutter_slabs.specs.Cutter.{CutterSize}
use Rattle.cutter_slabs.specs.Stacks.{inner_stack, outer_stack, reach_of}
use Rattle.cutter_marks.specs.MarkBy.{is_possible_by, is_sure_by}
use Rattle.box_bisect.specs.Between.{is_removed_mark}
use Rattle.box_bisect.specs.RayBoxes.{is_undecided, over_children, undecided_along, weight}
use Rattle.box_bisect.specs.RayMarks.{AreInReach, AreRaised, flags_along, greater_mark, is_possible_mark, mark_at}
use Rattle.box_bisect.proofs.Marking.{far_mark, mark_is}
use Rattle.box_bisect.proofs.RayCounting.{cost_undecided}

-- two pairs of ends that select the same, and something
pub same_ends : (P : ℕ → Type 0) (a b c d : ℕ) → Selects a b P → Selects c d P → c < d → (a ≡ c) × (b ≡ d)
same_ends P a b c d s t some =
    let first = (s c).1 ((t c).0 (omega arith, some)) in
    let last = (s (d - 1)).1 ((t (d - 1)).0 (omega arith, omega arith)) in
    let first' = (t a).1 ((s a).0 (omega arith, omega (arith, first.0, first.1))) in
    let last' = (t (b - 1)).1 ((s (b - 1)).0 (omega (arith, first.0, first.1), omega (arith, first.1))) in
    (omega (arith, first.0, first'.0), omega (arith, last.1, last'.1, first.1, some))

-- the marks of the first n points
pub record AreMarks (inner outer : List SlabSize) (reach : ℤ) (m : SweepOf) (point : ℕ → List ℤ) (S n : ℕ) (marks : List Mark) : Type 0 where
  pub each : (l : ℕ) → l < n → mark_at marks l ≡ mark_from inner outer reach m (point l) S

outside_of : (P : ℕ → Type 0) (a b l : ℕ) → Selects a b P → ¬ P l → (l < a) ⊎ (b ≤ l)
outside_of P a b l s none = ⊎_elim (λ low. inl low) (λ after. ⊎_elim (λ before. absurd (none ((s l).0 (after, before)))) (λ high. inr high) (cases_lt l b)) (cases_lt l a)

no_both : (b : Bool) → b ≡ false → b ≡ true → ⊥
no_both b e f = cc

pub marks_of : (inner outer : List SlabSize) (reach : ℤ) (m : SweepOf) (point : ℕ → List ℤ) (S n a b : ℕ) (old new : List Mark) → AreInReach reach m point n a b
    → ((p : List ℤ) → held_at_sample inner m p S ≡ true → is_possible_with outer reach m p S ≡ true) → ((l : ℕ) → mark_at old l ≡ Clear)
    → AreRaised inner outer m point S 0 S a b old new → AreMarks inner outer reach m point S n new
marks_of inner outer reach m point S n a b old new near both clear raised = record {
  each = λ l lt.
      let p = point l in
      ⊎_elim
      (λ reached.
      let here = (near l).1 (lt, reached) in
      let r = raised.inside l here.0 here.1 in
      r.raised ∙ ap (λ x. greater_mark x r.found) (clear l) ∙ mark_is r.found inner outer reach m p S reached r.between)
      (λ far.
      raised.outside l (outside_of (λ l. (l < n) × IsTrue (is_in_reach reach m.from m.to (point l))) a b l near (λ h. no_both (is_in_reach reach m.from m.to p) far h.1))
      ∙ clear l ∙ far_mark inner outer reach m p S far (both p))
      (cases_Bool (is_in_reach reach m.from m.to p));
}

-- where there is no box nothing is raised
pub raised_nowhere : (inner outer : List SlabSize) (m : SweepOf) (point : ℕ → List ℤ) (S j k a b : ℕ) (marks : List Mark) → a ≡ b → AreRaised inner outer m point S j k a b marks marks
raised_nowhere inner outer m point S j k a b marks e = record { inside = λ l after before. absurd (omega (arith, e, after, before)); outside = λ l apart. refl }

-- the flags of marks
removed_flag : (h q : Bool) → is_removed_mark (if h then Removed else (if q then Possible else Clear)) ≡ h
removed_flag true q = refl
removed_flag false true = refl
removed_flag false false = refl

possible_flag : (h q : Bool) → (h ≡ true → q ≡ true) → is_possible_mark (if h then Removed else (if q then Possible else Clear)) ≡ q
possible_flag true q both = sym (both refl)
possible_flag false true both = refl
possible_flag false false both = refl

flags_same : (test : List ℤ → Bool) (point : ℕ → List ℤ) (n : ℕ) (set : List Bool) → length set ≡ n → ((l : ℕ) → l < n → has set l ≡ test (point l)) → set ≡ flags_along test point n
flags_same test point n set size each =
    ext_get_or false set (flags_along test point n) (size ∙ sym (length-map-range_with_len (λ l. test (point l)) 0 n))
    (λ l lt. each l (omega (arith, lt, size)) ∙ sym (get_or-map-range_with_len (λ l. test (point l)) 0 n l l false (omega (arith, lt, size)) (omega arith)))

pub sure_flags : (c : CutterSize) (k : ℕ) (m : SweepOf) (point : ℕ → List ℤ) (S n : ℕ) (marks : List Mark) (set : List Bool) → length set ≡ n → ((l : ℕ) → has set l ≡ is_removed_mark (mark_at marks l))
    → AreMarks (inner_stack c k) (outer_stack c k) (pos (reach_of c)) m point S n marks → set ≡ flags_along (λ p. is_sure_by c k m p S) point n
unfolding is_sure_by
sure_flags c k m point S n marks set size flags are =
    flags_same (λ p. held_at_sample (inner_stack c k) m p S) point n set size
    (λ l lt. flags l ∙ ap is_removed_mark (are.each l lt) ∙ removed_flag (held_at_sample (inner_stack c k) m (point l) S) (is_possible_with (outer_stack c k) (pos (reach_of c)) m (point l) S))

pub possible_flags : (c : CutterSize) (k : ℕ) (m : SweepOf) (point : ℕ → List ℤ) (S n : ℕ) (marks : List Mark) (set : List Bool) → length set ≡ n → ((l : ℕ) → has set l ≡ is_possible_mark (mark_at marks l))
    → ((p : List ℤ) → held_at_sample (inner_stack c k) m p S ≡ true → is_possible_with (outer_stack c k) (pos (reach_of c)) m p S ≡ true)
    → AreMarks (inner_stack c k) (outer_stack c k) (pos (reach_of c)) m point S n marks → set ≡ flags_along (λ p. is_possible_by c k m p S) point n
unfolding is_possible_by
possible_flags c k m point S n marks set size flags both are =
    flags_same (λ p. is_possible_with (outer_stack c k) (pos (reach_of c)) m p S) point n set size
    (λ l lt. flags l ∙ ap is_possible_mark (are.each l lt) ∙ possible_flag (held_at_sample (inner_stack c k) m (point l) S) (is_possible_with (outer_stack c k) (pos (reach_of c)) m (point l) S) (both (point l)))

-- the steps, by the boxes of the indices in reach
chosen : (b : Bool) (x y : ℕ) → b ≡ true → (if b then x else y) ≡ x
chosen b x y h = cc

below : (a b : ℕ) → a < b → nat_lt a b ≡ true
below a b h = grind (arith, nat_tests)

pub cost_of_ray : (slabs : List SlabSize) (m : SweepOf) (point : ℕ → List ℤ) (depth a b x y z l : ℕ) → a < b → is_undecided slabs m point (2 ^ depth) depth 0 a b ≡ true → y ≤ x + l
    → z ≤ y + l * (4 * (1 + over_children (weight (is_undecided slabs m point (2 ^ depth)) ((depth + (b - a)) - 1)) depth 0 a b)) → z ≤ x + l * (1 + 4 * undecided_along slabs m point depth a b)
cost_of_ray slabs m point depth a b x y z l some undecided h g =
    let t = is_undecided slabs m point (2 ^ depth) in
    subst (λ k. z ≤ x + l * (1 + 4 * k)) (sym (chosen (nat_lt a b) (weight t (depth + (b - a)) depth 0 a b) 0 (below a b some)))
    (cost_undecided t (depth + (b - a)) depth 0 a b x y z l (omega (arith, some)) undecided h g)

-- the marks raised at equal stacks and an equal scale
pub raised_as : (inner outer inner' outer' : List SlabSize) (m : SweepOf) (point : ℕ → List ℤ) (S S' k a b : ℕ) (old new : List Mark) → inner ≡ inner' → outer ≡ outer' → S ≡ S' → k ≡ S'
    → AreRaised inner outer m point S 0 k a b old new → AreRaised inner' outer' m point S' 0 S' a b old new
raised_as inner outer inner' outer' m point S S' k a b old new ei eo eS ek raised =
    subst (λ i. AreRaised inner' outer' m point S' 0 i a b old new) ek
    (subst (λ i. AreRaised inner' outer' m point i 0 k a b old new) eS (subst (λ l. AreRaised inner' l m point S 0 k a b old new) eo (subst (λ l. AreRaised l outer m point S 0 k a b old new) ei raised)))

-- marks that are all Clear
pub clear_all : (n : ℕ) (marks : List Mark) → marks ≡ replicate n Clear → (l : ℕ) → mark_at marks l ≡ Clear
clear_all n marks e l =
    ⊎_elim (λ early. ap (λ x. mark_at x l) e ∙ get_or-replicate n l Clear Clear early)
    (λ late. get_or_past marks l Clear (let size = ap length e in let all = length-replicate n Clear in omega (arith, size, all, late)))
    (cases_lt l n)

-- the steps of a ray whose root is undecided
pub ray_cost : (outer outer' : List SlabSize) (reach : ℤ) (m : SweepOf) (point : ℕ → List ℤ) (n scale depth a b low high x y z : ℕ) → AreInReach reach m point n a b → AreInReach reach m point n low high → a ≤ b → ¬ (a ≡ b)
    → outer ≡ outer' → scale ≡ 2 ^ depth → is_undecided outer m point scale depth 0 a b ≡ true → y ≤ x + length outer
    → ((halvings : ℕ) → depth + (b - a) ≤ halvings + 1 → z ≤ y + length outer * (4 * (1 + over_children (weight (is_undecided outer m point scale) halvings) depth 0 a b)))
    → z ≤ x + length outer' * (1 + 4 * undecided_along outer' m point depth low high)
ray_cost outer outer' reach m point n scale depth a b low high x y z near reached order apart eo es undecided h g =
    let some : a < b = omega (arith, order, apart) in
    let same = same_ends (λ l. (l < n) × IsTrue (is_in_reach reach m.from m.to (point l))) low high a b reached near some in
    let cost = cost_of_ray outer m point depth a b x y z (length outer) some (subst (λ i. is_undecided outer m point i depth 0 a b ≡ true) es undecided) h
    (subst (λ i. z ≤ y + length outer * (4 * (1 + over_children (weight (is_undecided outer m point i) ((depth + (b - a)) - 1)) depth 0 a b))) es (g ((depth + (b - a)) - 1) (omega (arith, some)))) in
    subst (λ l. z ≤ x + length l * (1 + 4 * undecided_along l m point depth low high)) eo
    (subst (λ i. z ≤ x + length outer * (1 + 4 * undecided_along outer m point depth i high)) (sym same.0) (subst (λ i. z ≤ x + length outer * (1 + 4 * undecided_along outer m point depth a i)) (sym same.1) cost))

-- what is done before a box is halved stays within any cost
pub no_cost : (steps slabs w : ℕ) → steps ≤ steps + slabs * (1 + 4 * w)
no_cost steps slabs w = omega arith

pub first_cost : (outer stack : List SlabSize) (before after w : ℕ) → outer ≡ stack → after ≤ before + length outer → after ≤ before + length stack * (1 + 4 * w)
first_cost outer stack before after w same cost =
    let less : length outer ≤ length outer * (1 + 4 * w) = omega arith in
    subst (λ (l : List SlabSize). after ≤ before + length l * (1 + 4 * w)) same (omega (arith, less, cost))
