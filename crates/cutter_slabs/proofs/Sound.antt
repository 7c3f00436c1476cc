-- What the stacks say of the cutter at the rational times of a move.
use Rattle.std.proofs.Common.{◌≡◌, ℕ, ◌+◌, ◌-◌, ◌*◌, ◌≤◌, ◌<◌, ◌==◌, List, ℤ, pos, arith, refl, subst, sym, ap, ◌∙◌, ◌⊎◌, inl, inr, ⊎_elim, length, length-append}
use Rattle.std.proofs.lemmas.Bool.{cases_lt, cond-true, cond-false, eq-eqb, ne_eqb}
use Rattle.std.proofs.lemmas.List.Elements.{All-contains}
use Rattle.space.specs.Flanks.{least_widening, lower_tangent, most_widening, upper_tangent}
use Rattle.space.specs.Sweeps.{IsSweep, IsTime, SweepOf, axis_at, offset_at}
use Rattle.space.proofs.ReachLemmas.{InReach}
use Rattle.bern_form.proofs.Exclusion.{cell_of, excluded_not_held}
use Rattle.bern_form.proofs.Reach.{held_within}
use Rattle.bern_form.proofs.Relations.{Covers, HeldAtSample, HoldsAt, IsPossible, SomeHolds}
use Rattle.bern_form.specs.Roots.{ceil_root, floor_root}
use Rattle.cutter_slabs.specs.Cutter.{CutterSize, IsCutter, flat_of, top_diameter}
use Rattle.cutter_slabs.specs.Inside.{IsInside}
use Rattle.cutter_slabs.specs.Meets.{InLowerAt, InUpperAt, MeetsLower, MeetsUpper}
use Rattle.cutter_slabs.specs.Stacks.{bound_of, inner_stack, level_of, outer_stack, reach_of, slab_of}
use Rattle.cutter_slabs.proofs.Cones.{InCone, cone_more}
use Rattle.cutter_slabs.proofs.Conical.{cone_found, cone_inner, cone_inside, cone_outer, cone_slab_holds}
use Rattle.cutter_slabs.proofs.Places.{Place, covers_up, found_holds, from_naturals, place_of, to_naturals}
use Rattle.cutter_slabs.proofs.Round.{InRound, IsAbove, above_tip_base, full, round_above, round_found, round_inner, round_inside, round_outer}
use Rattle.cutter_slabs.proofs.Slabs.{as_many_slabs}
use Rattle.cutter_slabs.proofs.Whole.{above_down, leaning_down, leaning_up, round_down, round_up}
use Rattle.cutter_slabs.proofs.Widening.{tangents, upright_top}

-- a flank is upright or it leans, and which stacks there are then
flank_cases : (n : ℕ) → (n ≡ 0) ⊎ (0 < n)
flank_cases n = ⊎_elim (λ l. inr l) (λ g. inl (omega arith)) (cases_lt 0 n)

inner_upright : (c : CutterSize) (n : ℕ) → c.flank ≡ 0 → inner_stack c n ≡ round_inner c n
inner_upright c n e = cond-true (c.flank == 0) (round_inner c n) (cone_inner c n) (eq-eqb c.flank 0 e)

inner_leaning : (c : CutterSize) (n : ℕ) → 0 < c.flank → inner_stack c n ≡ cone_inner c n
inner_leaning c n l = cond-false (c.flank == 0) (round_inner c n) (cone_inner c n) (ne_eqb c.flank 0 (λ e. absurd (omega arith)))

outer_upright : (c : CutterSize) (n : ℕ) → c.flank ≡ 0 → outer_stack c n ≡ round_outer c n
outer_upright c n e = cond-true (c.flank == 0) (round_outer c n) (cone_outer c n) (eq-eqb c.flank 0 e)

outer_leaning : (c : CutterSize) (n : ℕ) → 0 < c.flank → outer_stack c n ≡ cone_outer c n
outer_leaning c n l = cond-false (c.flank == 0) (round_outer c n) (cone_outer c n) (ne_eqb c.flank 0 (λ e. absurd (omega arith)))

-- a point that the upper cutter holds at a time is in some outer slab then
pub inside_held : (c : CutterSize) (n : ℕ) (m : SweepOf) (p : List ℤ) (a b : ℕ) → IsCutter c → 0 < n → InUpperAt c m p a b → SomeHolds (outer_stack c n) m p a b
inside_held c n m p a b valid some inside =
    let P = offset_at m p (pos a) (pos b) in let A = axis_at m (pos a) (pos b) in
    let x = place_of P A inside.forward in
    ⊎_elim
    (λ round. subst (λ l. SomeHolds l m p a b) (sym (outer_upright c n round.upright))
    (found_holds (round_outer c n) m p a b x (round_found c b n x.u x.n x.w valid some (above_down c b P A x inside.above) (round_down c b P A x valid inside.height round))))
    (λ cone. subst (λ l. SomeHolds l m p a b) (sym (outer_leaning c n cone.leaning))
    (found_holds (cone_outer c n) m p a b x (cone_found c b n x.u x.n x.w valid some (leaning_down c (upper_tangent c.flank) b P A x inside.height cone))))
    inside.shape

held_round : (c : CutterSize) (n : ℕ) (m : SweepOf) (p : List ℤ) (a b : ℕ) → IsCutter c → 0 < n → c.flank ≡ 0 → SomeHolds (round_inner c n) m p a b → InLowerAt c m p a b
held_round c n m p a b valid some upright held =
    let P = offset_at m p (pos a) (pos b) in let A = axis_at m (pos a) (pos b) in
    let forward = held.holds.forward in
    let x = place_of P A forward in
    let covers = to_naturals (λ u n w. Covers held.slab (pos b) u n w) P A x held.holds in
    round_up c (lower_tangent c.flank) b P A x valid upright forward
    (All-contains (λ s. Covers s (pos b) (pos x.u) (pos x.n) (pos x.w) → IsAbove c b x.u x.n) (round_inner c n) held.slab (round_above c b n x.u x.n x.w valid some) held.among covers)
    (All-contains (λ s. Covers s (pos b) (pos x.u) (pos x.n) (pos x.w) → InRound c b x.u x.n x.w) (round_inner c n) held.slab (round_inside c b n x.u x.n x.w valid some) held.among covers)

-- a cutter that leans begins at the tip
leaning_tip : (c : CutterSize) → IsCutter c → 0 < c.flank → c.base ≡ 0
leaning_tip c valid leaning = ⊎_elim (λ tip. tip) (λ flat. let upright = flat.1 in absurd (omega (arith, upright))) valid.plain

held_cone : (c : CutterSize) (n : ℕ) (m : SweepOf) (p : List ℤ) (a b : ℕ) → IsCutter c → 0 < n → 0 < c.flank → SomeHolds (cone_inner c n) m p a b → InLowerAt c m p a b
held_cone c n m p a b valid some leaning held =
    let P = offset_at m p (pos a) (pos b) in let A = axis_at m (pos a) (pos b) in
    let forward = held.holds.forward in
    let t = lower_tangent c.flank in
    let x = place_of P A forward in
    let covers = to_naturals (λ u n w. Covers held.slab (pos b) u n w) P A x held.holds in
    leaning_up c t b P A x leaning forward (above_tip_base c b x.u x.n (leaning_tip c valid leaning))
    (All-contains (λ s. Covers s (pos b) (pos x.u) (pos x.n) (pos x.w) → InCone t (b * c.d) (b * c.h) x.u x.n x.w) (cone_inner c n) held.slab (cone_inside c b n x.u x.n x.w some) held.among covers)

-- a point that some inner slab holds at a time is in the lower cutter then
pub held_inside : (c : CutterSize) (n : ℕ) (m : SweepOf) (p : List ℤ) (a b : ℕ) → IsCutter c → 0 < n → SomeHolds (inner_stack c n) m p a b → InLowerAt c m p a b
held_inside c n m p a b valid some held =
    ⊎_elim
    (λ upright. held_round c n m p a b valid some upright (subst (λ l. SomeHolds l m p a b) (inner_upright c n upright) held))
    (λ leaning. held_cone c n m p a b valid some leaning (subst (λ l. SomeHolds l m p a b) (inner_leaning c n leaning) held))
    (flank_cases c.flank)

-- the lower cutter lies in the upper one
pub lower_upper : (c : CutterSize) (b : ℕ) (p a : List ℤ) → IsInside c (lower_tangent c.flank) b p a → IsInside c (upper_tangent c.flank) b p a
lower_upper c b p a inside =
    ⊎_elim
    (λ round. record { forward = inside.forward; above = inside.above; height = inside.height; shape = inl round })
    (λ cone.
    let x = place_of p a inside.forward in
    let low = leaning_down c (lower_tangent c.flank) b p a x inside.height cone in
    leaning_up c (upper_tangent c.flank) b p a x cone.leaning inside.forward (above_down c b p a x inside.above)
    record { height = low.height; cone = cone_more 1000000 (lower_tangent c.flank) (upper_tangent c.flank) (b * c.d) x.u x.n x.w (tangents c.flank) low.cone })
    inside.shape

-- the upper cutter lies in one slab from 0 to h with the diameter at the top
whole_slab : (c : CutterSize) (b : ℕ) (p a : List ℤ) (x : Place p a) → IsCutter c → IsInside c (upper_tangent c.flank) b p a
    → Covers (slab_of 0 c.h (top_diameter c)) (pos b) (pos x.u) (pos x.n) (pos x.w)
whole_slab c b p a x valid inside =
    ⊎_elim
    (λ round.
    let i = round_down c b p a x valid inside.height round in
    let top : top_diameter c ≡ c.d = ap (λ k. c.d + 2 * most_widening k c.h) round.upright ∙ upright_top c.d c.h in
    let side = subst (λ k. 4 * x.w ≤ (k * k) * x.n) (sym (full c b valid)) i.side in
    covers_up b 0 c.h (top_diameter c) x.u x.n x.w
    record { above = omega arith; below = i.height; near = subst (λ k. 4 * x.w ≤ ((b * k) * (b * k)) * x.n) (sym top) side })
    (λ cone.
    let i = leaning_down c (upper_tangent c.flank) b p a x inside.height cone in
    covers_up b 0 c.h (top_diameter c) x.u x.n x.w (cone_slab_holds c b 0 c.h x.u x.n x.w i (omega arith) i.height))
    inside.shape

inside_whole : (c : CutterSize) (m : SweepOf) (p : List ℤ) (a b : ℕ) → IsCutter c → InUpperAt c m p a b → HoldsAt (slab_of 0 c.h (top_diameter c)) m p a b
inside_whole c m p a b valid inside =
    let P = offset_at m p (pos a) (pos b) in let A = axis_at m (pos a) (pos b) in
    let x = place_of P A inside.forward in
    from_naturals (λ u n w. Covers (slab_of 0 c.h (top_diameter c)) (pos b) u n w) P A x (whole_slab c b P A x valid inside)

-- what the upper cutter holds at a time is in reach
pub inside_in_reach : (c : CutterSize) (m : SweepOf) (p : List ℤ) (a b : ℕ) → IsCutter c → IsSweep m → IsTime a b → InUpperAt c m p a b → InReach (pos (reach_of c)) m.from m.to p
inside_in_reach c m p a b valid sweep time inside =
    held_within (slab_of 0 c.h (top_diameter c)) c.h (top_diameter c) m p a b refl refl sweep time (inside_whole c m p a b valid inside)

-- a point that some inner slab holds at a time is in some outer slab then
pub held_outer : (c : CutterSize) (n : ℕ) (m : SweepOf) (p : List ℤ) (a b : ℕ) → IsCutter c → 0 < n → SomeHolds (inner_stack c n) m p a b → SomeHolds (outer_stack c n) m p a b
held_outer c n m p a b valid some held =
    inside_held c n m p a b valid some (lower_upper c b (offset_at m p (pos a) (pos b)) (axis_at m (pos a) (pos b)) (held_inside c n m p a b valid some held))

-- a point that some inner slab holds at a sample is met
pub sample_met : (c : CutterSize) (n : ℕ) (m : SweepOf) (p : List ℤ) (S : ℕ) → IsCutter c → 0 < n → 0 < S → HeldAtSample (inner_stack c n) m p S → MeetsLower c m p
sample_met c n m p S valid some cells held =
    record { numerator = held.sample; denominator = S; time = (cells, held.within); inside = held_inside c n m p held.sample S valid some held.held }

-- a point that the upper cutter meets is possible
pub met_possible : (c : CutterSize) (n : ℕ) (m : SweepOf) (p : List ℤ) (S : ℕ) → IsCutter c → 0 < n → 0 < S → IsSweep m → MeetsUpper c m p
    → IsPossible (outer_stack c n) (pos (reach_of c)) m p S
met_possible c n m p S valid some cells sweep met =
    let a = met.numerator in let b = met.denominator in
    let outer = inside_held c n m p a b valid some met.inside in
    let cell = cell_of a b S met.time cells in record {
      in_reach = inside_in_reach c m p a b valid sweep met.time met.inside;
      left = record {
        cell = cell.0;
        within = cell.1;
        left = record { slab = outer.slab; among = outer.among; left = λ out. excluded_not_held outer.slab m p cell.0 S a b cell.2 out outer.holds };
      };
    }

-- a move that meets a point with the lower cutter meets it with the upper one
pub met_upper : (c : CutterSize) (m : SweepOf) (p : List ℤ) → MeetsLower c m p → MeetsUpper c m p
met_upper c m p met =
    let a = met.numerator in let b = met.denominator in record {
      numerator = a;
      denominator = b;
      time = met.time;
      inside = lower_upper c b (offset_at m p (pos a) (pos b)) (axis_at m (pos a) (pos b)) met.inside;
    }

-- both stacks have equally many slabs
round_as_many : (c : CutterSize) (n : ℕ) → length (round_outer c n) ≡ length (round_inner c n)
round_as_many c n =
    let below = as_many_slabs (λ lo hi. flat_of c + 2 * ceil_root (2 * c.r * hi - hi * hi)) (λ lo hi. flat_of c + 2 * floor_root (2 * c.r * lo - lo * lo)) (bound_of c.r n) n in
    simp length-append (omega arith)

pub as_many : (c : CutterSize) (n : ℕ) → length (outer_stack c n) ≡ length (inner_stack c n)
as_many c n =
    ⊎_elim
    (λ upright. ap length (outer_upright c n upright) ∙ round_as_many c n ∙ ap length (sym (inner_upright c n upright)))
    (λ leaning. ap length (outer_leaning c n leaning)
    ∙ as_many_slabs (λ lo hi. c.d + 2 * most_widening c.flank hi) (λ lo hi. c.d + 2 * least_widening c.flank lo) (level_of c.h n) n
    ∙ ap length (sym (inner_leaning c n leaning)))
    (flank_cases c.flank)
