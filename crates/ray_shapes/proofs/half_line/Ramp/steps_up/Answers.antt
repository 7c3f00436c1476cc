use Rattle.std.proofs.Common.{◌↔◌, ◌*◌, ◌≤◌, ℕ, ℤ, pos, ◌+ℤ◌, ◌-ℤ◌, ◌*ℤ◌, ◌≤ℤ◌, unsigned_abs, arith, rules, ◌∙◌, subst, sym, w64, FitsSigned}
use Rattle.std.proofs.lemmas.Int.{to_z-of_z}
use Rattle.ray_shapes.proofs.Rising.{rises, small_sum, small_way}
use Rattle.ray_shapes.proofs.half_line.Ramp.steps_up.Goals as goal

pub returns-clause-inside : goal.returns-clause-inside
returns-clause-inside c =
    let side = c.args.self.now in
    let value = side.start +ℤ (side.slope *ℤ pos c.args.lo) in
    let value_fits : FitsSigned w64 c.value_at.result = search rules in
    let fit : (n : ℕ) → (n ≤ c.whole_steps.result) ↔ ((value +ℤ pos (n * unsigned_abs side.slope)) ≤ℤ side.limit) =
    λ n. subst (λ (z : ℤ). (n ≤ c.whole_steps.result) ↔ ((z +ℤ pos (n * unsigned_abs side.slope)) ≤ℤ side.limit)) c.value_at.ensures (simp to_z-of_z at (c.whole_steps.ensures n)) in
    let r = rises side.start side.slope side.limit c.args.lo c.args.last c.whole_steps.result c.requires.order c.requires.first c.requires.beyond in
    r.inside fit

pub returns-clause-exact : goal.returns-clause-exact
returns-clause-exact c =
    let side = c.args.self.now in
    let value = side.start +ℤ (side.slope *ℤ pos c.args.lo) in
    let value_fits : FitsSigned w64 c.value_at.result = search rules in
    let fit : (n : ℕ) → (n ≤ c.whole_steps.result) ↔ ((value +ℤ pos (n * unsigned_abs side.slope)) ≤ℤ side.limit) =
    λ n. subst (λ (z : ℤ). (n ≤ c.whole_steps.result) ↔ ((z +ℤ pos (n * unsigned_abs side.slope)) ≤ℤ side.limit)) c.value_at.ensures (simp to_z-of_z at (c.whole_steps.ensures n)) in
    let r = rises side.start side.slope side.limit c.args.lo c.args.last c.whole_steps.result c.requires.order c.requires.first c.requires.beyond in
    r.exact fit

pub overflow_cast-result : goal.overflow_cast-result
overflow_cast-result c =
    let side = c.args.self.now in
    let value = side.start +ℤ (side.slope *ℤ pos c.args.lo) in
    let value_fits : FitsSigned w64 c.value_at.result = search rules in
    let fit : (n : ℕ) → (n ≤ c.whole_steps.result) ↔ ((value +ℤ pos (n * unsigned_abs side.slope)) ≤ℤ side.limit) =
    λ n. subst (λ (z : ℤ). (n ≤ c.whole_steps.result) ↔ ((z +ℤ pos (n * unsigned_abs side.slope)) ≤ℤ side.limit)) c.value_at.ensures (simp to_z-of_z at (c.whole_steps.ensures n)) in
    let r = rises side.start side.slope side.limit c.args.lo c.args.last c.whole_steps.result c.requires.order c.requires.first c.requires.beyond in
    let inside = r.inside fit in
    omega arith

pub whole_steps-requires : goal.whole_steps-requires
whole_steps-requires c =
    let side = c.args.self.now in
    let value = side.start +ℤ (side.slope *ℤ pos c.args.lo) in let other = side.start +ℤ (side.slope *ℤ pos c.args.last) in
    let read = to_z-of_z w64 c.value_at.result (search rules) ∙ c.value_at.ensures in
    let way = small_way value other side.limit (small_sum side.start (side.slope *ℤ pos c.args.lo) c.requires.start c.requires.first_rise)
    (small_sum side.start (side.slope *ℤ pos c.args.last) c.requires.start c.requires.last_rise) c.requires.first c.requires.beyond in
    record {
      below = subst (λ (z : ℤ). z ≤ℤ side.limit) (sym read) c.requires.first;
      small = subst (λ (z : ℤ). FitsSigned w64 (side.limit -ℤ z)) (sym read) way;
      slope = (rises side.start side.slope side.limit c.args.lo c.args.last 0 c.requires.order c.requires.first c.requires.beyond).steep;
    }
