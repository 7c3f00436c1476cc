-- What is behind the tip on the whole move, or beside all outer slabs, is neither sure nor possible.
use Rattle.std.proofs.Common.{◌≡◌, true, false, ℕ, zero, suc, ◌+◌, ◌^◌, ◌<◌, List, ℤ, pos, ◌-ℤ◌, ◌<ℤ◌, ◌≤ℤ◌, inl, inr, arith, subst, Bool}
use Rattle.std.proofs.lemmas.Bool.{and_right}
use Rattle.std.proofs.lemmas.Int.{ints}
use Rattle.std.proofs.lemmas.List.Elements.{All-contains}
use Rattle.space.specs.Reach.{is_in_reach}
use Rattle.space.specs.Vectors.{at}
use Rattle.bern_form.specs.Between.{n_between, u_between}
use Rattle.bern_form.specs.Forms.{all_negative, all_positive, difference4}
use Rattle.bern_form.specs.Marks.{is_unexcluded_on, is_unexcluded_on_cell}
use Rattle.bern_form.proofs.Decided.{decides_negative, decides_positive, none_below}
use Rattle.bern_form.proofs.Finer.{AllOut, left_on_none}
use Rattle.bern_form.proofs.Relations.{AllPositive}
use Rattle.cutter_slabs.specs.Stacks.{outer_stack, reach_of}
use Rattle.cutter_marks.specs.MarkBy.{is_possible_by}
use Rattle.axis_cells.specs.Exclusion.{squared}
use Rattle.wanted_marks.specs.Limits.{AreLimits, IsWithinLimits}
use Rattle.wanted_marks.specs.Rays.{IsClearOf, MoveOf, is_possible_in, is_sure_in}
use Rattle.wanted_marks.specs.Widths.{whole_width}
use Rattle.wanted_marks.proofs.Exceeding.{all_over}

under : (a b : ℤ) → pos 0 <ℤ (a -ℤ b) → b <ℤ a
under a b h = omega (arith, ints)

under_limit : (c r : List ℤ) (k : ℕ) → k < 5 → AllPositive (difference4 c r) → at r k <ℤ at c k
under_limit c r zero l p = under (at c 0) (at r 0) (p 0 (pos 0) (omega arith))
under_limit c r (suc zero) l p = under (at c 1) (at r 1) (p 1 (pos 0) (omega arith))
under_limit c r (suc (suc zero)) l p = under (at c 2) (at r 2) (p 2 (pos 0) (omega arith))
under_limit c r (suc (suc (suc zero))) l p = under (at c 3) (at r 3) (p 3 (pos 0) (omega arith))
under_limit c r (suc (suc (suc (suc zero)))) l p = under (at c 4) (at r 4) (p 4 (pos 0) (omega arith))
under_limit c r (suc (suc (suc (suc (suc k))))) l p = absurd (omega arith)

below_both : (a b c : ℤ) → a ≤ℤ b → b <ℤ c → a <ℤ c
below_both a b c h k = omega (arith, ints)

pub over_less : (c r s : List ℤ) → AllPositive (difference4 c r) → ((k : ℕ) → k < 5 → at s k ≤ℤ at r k) → AllPositive (difference4 c s)
over_less c r s p h = all_over c s (λ k l. below_both (at s k) (at r k) (at c k) (h k l) (under_limit c r k l p))

-- each outer slab is excluded on the whole move, behind the tip
all_behind : (v : MoveOf) (p : List ℤ) → all_negative (u_between v.sweep p 0 (2 ^ v.depth) (2 ^ v.depth)) ≡ true
    → AllOut (outer_stack v.cutter v.slabs) v.sweep p 0 (2 ^ v.depth) (2 ^ v.depth)
all_behind v p behind =
    let below = (decides_negative (u_between v.sweep p 0 (2 ^ v.depth) (2 ^ v.depth))).0 behind in record { each = λ s among. inl below }

-- and beside
all_beside : (v : MoveOf) (limits p : List ℤ) → AreLimits limits v → all_positive (difference4 (whole_width v.sweep p (2 ^ v.depth)) limits) ≡ true
    → AllOut (outer_stack v.cutter v.slabs) v.sweep p 0 (2 ^ v.depth) (2 ^ v.depth)
all_beside v limits p are beyond =
    let S = 2 ^ v.depth in let n = n_between v.sweep 0 S S in let W = whole_width v.sweep p S in
    let over = (decides_positive (difference4 W limits)).0 beyond in record {
      each = λ s among. inr (inr (inr (over_less W limits (squared (pos S) s.dia n) over (All-contains (IsWithinLimits limits n S) (outer_stack v.cutter v.slabs) s are among).at_most)));
    }

not_possible : (v : MoveOf) (p : List ℤ) → AllOut (outer_stack v.cutter v.slabs) v.sweep p 0 (2 ^ v.depth) (2 ^ v.depth)
    → is_possible_by v.cutter v.slabs v.sweep p (2 ^ v.depth) ≡ false
unfolding is_possible_by
not_possible v p all =
    let S = 2 ^ v.depth in let outer = outer_stack v.cutter v.slabs in
    let e : S ≡ 0 + S = omega arith in
    let out = subst (λ k. AllOut outer v.sweep p 0 k S) e all in
    and_right (is_in_reach (pos (reach_of v.cutter)) v.sweep.from v.sweep.to p) (is_unexcluded_on_cell outer v.sweep p S)
    (none_below (λ k. is_unexcluded_on outer v.sweep p k S) S (λ k l. left_on_none outer v.sweep p S v.depth 0 k out (omega arith) (omega (arith, l))))

not_sure : (h q : Bool) → (h ≡ true → q ≡ true) → q ≡ false → h ≡ false
not_sure true q both e = let f = both (λ i. true) in cc
not_sure false q both e = λ i. false

pub is_clear : (v : MoveOf) (p : List ℤ) → (is_sure_in v p ≡ true → is_possible_in v p ≡ true)
    → AllOut (outer_stack v.cutter v.slabs) v.sweep p 0 (2 ^ v.depth) (2 ^ v.depth) → IsClearOf v p
is_clear v p both all =
    let out = not_possible v p all in record {
      not_sure = not_sure (is_sure_in v p) (is_possible_in v p) both out;
      not_possible = out;
    }

pub behind_is_clear : (v : MoveOf) (p : List ℤ) → (is_sure_in v p ≡ true → is_possible_in v p ≡ true)
    → all_negative (u_between v.sweep p 0 (2 ^ v.depth) (2 ^ v.depth)) ≡ true → IsClearOf v p
behind_is_clear v p both behind = is_clear v p both (all_behind v p behind)

pub beside_is_clear : (v : MoveOf) (limits p : List ℤ) → AreLimits limits v → (is_sure_in v p ≡ true → is_possible_in v p ≡ true)
    → all_positive (difference4 (whole_width v.sweep p (2 ^ v.depth)) limits) ≡ true → IsClearOf v p
beside_is_clear v limits p are both beyond = is_clear v p both (all_beside v limits p are beyond)
