-- A holder that is clear keeps off, and what a holder is sure to meet is struck.
use Rattle.std.proofs.Common.{◌≡◌, true, false, not, cond, count_by, [], ◌∷◌, sym, ◌∙◌, subst, ℕ, ◌+◌, ◌^◌, ◌<◌, Bool, ◌&&◌, ◌||◌, List, arith, refl, ⊎_elim}
use Rattle.std.specs.List.{All}
use Rattle.std.proofs.lemmas.List.Folds.{list_any_at}
use Rattle.std.proofs.lemmas.List.Sums.{sum_by-cons}
use Rattle.std.proofs.lemmas.Bool.{cases_Bool}
use Rattle.std.proofs.lemmas.Int.{ints}
use Rattle.bern_form.specs.Slab.{IsSlab}
use Rattle.cutter_slabs.specs.Cutter.{CutterSize}
use Rattle.ray_grid.specs.Points.{IsPointOf, LatticePoint, lattice_of}
use Rattle.holder_check.specs.Above.{HolderFits, HolderSize, IsHolder, slab_above}
use Rattle.job_counts.specs.declared.holder.HolderCounts.{HolderCounts}
use Rattle.job_counts.specs.Holder.{is_holder_clear}
use Rattle.holder_check.specs.Contacts.{may_strike_fixture, may_strike_part, may_strike_stock, strikes_fixture, strikes_part, strikes_stock}
use Rattle.holder_check.proofs.Slabs as slabs
use Rattle.job_model.specs.Holders.{HolderStrikes, holder_found, holder_found_over, holder_seen, is_struck, may_be_struck}
use Rattle.job_model.specs.HolderLaws.{ClearHolderIsZero, ClearHolderKeepsOff, SureHolderIsPossible, SureHolderStrikes}
use Rattle.job_model.specs.Points.{is_fixture, is_part, is_possible, is_stock, is_sure, some_possible, some_sure}
use Rattle.job_model.specs.Tasks.{IsJobMove, JobMove, PlanOf}
use Rattle.job_model.proofs.Lists.{of_all, some_of, unnamed}
use Rattle.job_model.proofs.Safe.{in_either, all_zero, listed, met_before, some_cells, sure_is_possible}

-- the slab of a holder that fits
pub slab_fits : (holder : HolderSize) (cutter : CutterSize) → IsHolder holder → HolderFits holder cutter → IsSlab (slab_above holder cutter)
slab_fits holder cutter valid fits =
    let width = valid.width in record {
      above_tip = omega (arith, ints);
      ordered = omega (arith, ints);
      height = omega (arith, ints, fits);
      thick = omega (arith, ints);
      width = omega (arith, ints, width);
    }

-- where the holder may not meet a point it doesn't strike it
not_struck : (plan : PlanOf) (holder : HolderSize) (move : JobMove) (point : LatticePoint) → IsJobMove move → IsHolder holder → HolderFits holder move.cutter
    → may_be_struck plan holder move point ≡ false → ¬ HolderStrikes holder move point
not_struck plan holder move point valid is fits out =
    slabs.out_is_not_met (slab_above holder move.cutter) move.sweep point.position (2 ^ plan.depth) (slab_fits holder move.cutter is fits) valid.sweep (some_cells plan.depth) out

pub sure_holder_strikes : SureHolderStrikes
sure_holder_strikes plan holder move point sure =
    slabs.sure_is_met (slab_above holder move.cutter) move.sweep point.position (2 ^ plan.depth) (some_cells plan.depth) sure

uncut_out : (stock possible sure : Bool) → stock ≡ true → sure ≡ false → (stock && (possible && not sure)) ≡ false → possible ≡ false
uncut_out true true true s u h = cc
uncut_out true true false s u h = cc
uncut_out true false sure s u h = refl
uncut_out false possible sure s u h = cc

pub clear_holder_keeps_off : ClearHolderKeepsOff
clear_holder_keeps_off job holder before move some ahead valid is fits clear =
    let counts = holder_found job holder before move in
    let none = all_zero counts.part_possible counts.fix_possible counts.stock_possible clear in
    let see = holder_seen job holder before move in let points = lattice_of job.plan.grid in
    let uncut : (point : LatticePoint) → IsPointOf job.plan.grid point → is_stock job point ≡ true
    → some_sure job.plan before point ≡ false → ¬ HolderStrikes holder move point = λ point of stock gone.
    not_struck job.plan holder move point valid is fits
    (uncut_out (is_stock job point) (may_be_struck job.plan holder move point) (some_sure job.plan before point) stock gone
    (unnamed (λ p. may_strike_stock (see p)) points point none.2 (listed job.plan.grid point of))) in
    record {
      solids = λ point of inside.
          let here = listed job.plan.grid point of in
          not_struck job.plan holder move point valid is fits
          (in_either (is_part job point) (is_fixture job point) (may_be_struck job.plan holder move point) inside
          (unnamed (λ p. may_strike_part (see p)) points point none.0 here) (unnamed (λ p. may_strike_fixture (see p)) points point none.1 here));
      uncut = uncut;
      stock = λ point of stock strikes. met_before job.plan before point some ahead (λ gone. uncut point of stock gone strikes);
    }

-- where a test passes nowhere, one that is stricter doesn't either
none_stricter : {P : Type 0} (p q : P → Bool) (points : List P) → ((x : P) → p x ≡ true → q x ≡ true) → count_by q points ≡ 0 → count_by p points ≡ 0
none_stricter p q [] less none = refl
none_stricter p q (x ∷ xs) less none =
    let counted = sym (sum_by-cons (λ y. cond (q y) 1 0) x xs) ∙ none in
    let out = first (q x) (count_by q xs) counted in
    sum_by-cons (λ y. cond (p y) 1 0) x xs
    ∙ both (p x) (count_by p xs) (⊎_elim (λ yes'. absurd (clash (q x) (less x yes') out)) (λ no'. no') (cases_Bool (p x)))
    (none_stricter p q xs less (rest (q x) (count_by q xs) counted))
  where
    first : (a : Bool) (n : ℕ) → cond a 1 0 + n ≡ 0 → a ≡ false
    first true n h = absurd (omega (arith, h))
    first false n h = refl

    rest : (a : Bool) (n : ℕ) → cond a 1 0 + n ≡ 0 → n ≡ 0
    rest true n h = absurd (omega (arith, h))
    rest false n h = omega (arith, h)

    clash : (a : Bool) → a ≡ true → a ≡ false → ⊥
    clash a e f = cc

    both : (a : Bool) (n : ℕ) → a ≡ false → n ≡ 0 → cond a 1 0 + n ≡ 0
    both true n e f = cc
    both false n e f = omega (arith, f)

within : (body sure may : Bool) → (sure ≡ true → may ≡ true) → (body && sure) ≡ true → (body && may) ≡ true
within true sure may both h = both h
within false sure may both h = cc

within_stock : (stock sure may gone before now : Bool) → (sure ≡ true → may ≡ true) → (gone ≡ true → before ≡ true)
    → (stock && (sure && not (before || now))) ≡ true → (stock && (may && not gone)) ≡ true
within_stock true true true true true now both kept h = cc
within_stock true true true true false now both kept h = let e = kept refl in cc
within_stock true true true false before now both kept h = refl
within_stock true true false gone before now both kept h = let e = both refl in cc
within_stock true false may gone before now both kept h = cc
within_stock false sure may gone before now both kept h = cc

-- where some of the moves is sure of a point some is possible there
some_possible_too : (plan : PlanOf) (moves : List JobMove) (point : LatticePoint) → 0 < plan.slabs → All IsJobMove moves → some_sure plan moves point ≡ true
    → some_possible plan moves point ≡ true
some_possible_too plan moves point some valid sure =
    let found = some_of (λ move. is_sure plan move point) moves sure in
    list_any_at (λ move. is_possible plan move point) moves found.1.0 found.0 found.1.1
    (subst (λ m. is_possible plan m point ≡ true) (sym found.1.2) (sure_is_possible plan found.0 point some (of_all IsJobMove moves found.0 valid found.1) found.2))

pub sure_holder_is_possible : SureHolderIsPossible
sure_holder_is_possible job holder points before move some ahead valid is fits =
    let see = holder_seen job holder before move in
    let may : (p : LatticePoint) → is_struck job.plan holder move p ≡ true → may_be_struck job.plan holder move p ≡ true = λ p sure.
    slabs.sure_is_possible (slab_above holder move.cutter) move.sweep p.position (2 ^ job.plan.depth) (slab_fits holder move.cutter is fits) valid.sweep
    (some_cells job.plan.depth) sure in
    record {
      part = none_stricter (λ p. strikes_part (see p)) (λ p. may_strike_part (see p)) points
          (λ p. within (is_part job p) (is_struck job.plan holder move p) (may_be_struck job.plan holder move p) (may p));
      fixture = none_stricter (λ p. strikes_fixture (see p)) (λ p. may_strike_fixture (see p)) points
          (λ p. within (is_fixture job p) (is_struck job.plan holder move p) (may_be_struck job.plan holder move p) (may p));
      stock = none_stricter (λ p. strikes_stock (see p)) (λ p. may_strike_stock (see p)) points
          (λ p. within_stock (is_stock job p) (is_struck job.plan holder move p) (may_be_struck job.plan holder move p) (some_sure job.plan before p)
          (some_possible job.plan before p) (is_possible job.plan move p) (may p) (some_possible_too job.plan before p some ahead));
    }

pub clear_holder_is_zero : ClearHolderIsZero
clear_holder_is_zero job holder points before move some ahead valid is fits =
    let counts = holder_found_over job holder points before move in
    let sure = sure_holder_is_possible job holder points before move some ahead valid is fits in (
      λ clear.
          let none = all_zero counts.part_possible counts.fix_possible counts.stock_possible clear in
          λ i. record {
            part_sure = sure.part none.0 i;
            part_possible = none.0 i;
            fix_sure = sure.fixture none.1 i;
            fix_possible = none.1 i;
            stock_sure = sure.stock none.2 i;
            stock_possible = none.2 i;
          },
      λ zero'. subst (λ (c : HolderCounts). is_holder_clear c ≡ true) (sym zero') refl,
    )
