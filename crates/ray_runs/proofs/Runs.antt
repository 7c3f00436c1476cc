-- The points of a line between two that one slab holds at a sample are held there, and so they are sure.
use Rattle.std.proofs.Common.{◌≡◌, true, ℕ, ◌+◌, ◌-◌, ◌*◌, ◌<◌, ◌≤◌, List, ℤ, pos, arith, ap, subst, ⊎_elim}
use Rattle.std.specs.List.{Contains}
use Rattle.std.proofs.lemmas.Bool.{cases_lt}
use Rattle.space.specs.Sweeps.{SweepOf, axis_at, offset_at}
use Rattle.space.specs.Vectors.{at, dot, spread}
use Rattle.bern_form.specs.Marks.{held_at_sample, some_holds}
use Rattle.bern_form.specs.Slab.{SlabSize, holds_at}
use Rattle.bern_form.proofs.Decided.{decides_covers, decides_some_holds, found_below}
use Rattle.bern_form.proofs.Relations.{HoldsAt}
use Rattle.cutter_slabs.specs.Stacks.{StacksOf, inner_stack}
use Rattle.cutter_marks.specs.MarkBy.{is_sure_by}
use Rattle.ray_boxes.proofs.Lines.{IsLine}
use Rattle.ray_boxes.proofs.Mixed.{IsAlong, d_mixed, u_mixed}
use Rattle.ray_runs.specs.Between.{AreSure}
use Rattle.ray_runs.proofs.Convex.{covers_between}

held_along : (s : SlabSize) (m : SweepOf) (p q r : List ℤ) (w v k S : ℕ) → IsAlong p q r w v → HoldsAt s m p k S → HoldsAt s m q k S → HoldsAt s m r k S
held_along s m p q r w v k S along hp hq =
    let A = axis_at m (pos k) (pos S) in let place = along.place in
    covers_between s (pos S) w v (offset_at m p (pos k) (pos S)) (offset_at m q (pos k) (pos S)) (offset_at m r (pos k) (pos S)) A (omega (arith, place))
    (ap (λ x. at x 0) (d_mixed m p q r w v k k S along)) (ap (λ x. at x 0) (u_mixed m p q r w v k k S along)) hp hq

weights : (a v w : ℕ) → (w + v) * (a + v) ≡ w * a + v * (a + (v + w))
weights a v w = omega arith

is_held : (s : SlabSize) (m : SweepOf) (p : List ℤ) (k S : ℕ) → holds_at s m p k S ≡ true → HoldsAt s m p k S
is_held s m p k S h =
    let P = offset_at m p (pos k) (pos S) in let A = axis_at m (pos k) (pos S) in
    (decides_covers s (pos S) (dot P A) (dot A A) (spread P A)).0 h

held_apart : (s : SlabSize) (m : SweepOf) (point : ℕ → List ℤ) (a v w k S : ℕ) → IsLine point → 0 < v + w
    → HoldsAt s m (point a) k S → HoldsAt s m (point (a + (v + w))) k S → HoldsAt s m (point (a + v)) k S
held_apart s m point a v w k S line some ha hb =
    held_along s m (point a) (point (a + (v + w))) (point (a + v)) w v k S (line.each a (a + v) (a + (v + w)) w v some (weights a v w)) ha hb

held_between : (s : SlabSize) (m : SweepOf) (point : ℕ → List ℤ) (a b l k S : ℕ) → IsLine point → a ≤ l → l ≤ b
    → HoldsAt s m (point a) k S → HoldsAt s m (point b) k S → HoldsAt s m (point l) k S
held_between s m point a b l k S line after before ha hb =
    let v = l - a in let w = b - l in
    ⊎_elim
    (λ apart.
    let eb : b ≡ a + (v + w) = omega arith in let el : a + v ≡ l = omega arith in
    subst (λ i. HoldsAt s m (point i) k S) el (held_apart s m point a v w k S line (omega arith) ha (subst (λ i. HoldsAt s m (point i) k S) eb hb)))
    (λ alone. let e : a ≡ l = omega arith in subst (λ i. HoldsAt s m (point i) k S) e ha)
    (cases_lt 0 (v + w))

-- held by an inner slab at a sample, so sure
pub are_sure : (stacks : StacksOf) (inner : List SlabSize) (m : SweepOf) (point : ℕ → List ℤ) (s : SlabSize) (k S S' a b : ℕ) → IsLine point → inner ≡ inner_stack stacks.cutter stacks.slabs
    → Contains inner s → k ≤ S → S ≡ S' → holds_at s m (point a) k S ≡ true → holds_at s m (point b) k S ≡ true → AreSure stacks m point S' a b
unfolding is_sure_by
are_sure stacks inner m point s k S S' a b line ei among within es ha hb l after before =
    let held = held_between s m point a b l k S line after before (is_held s m (point a) k S ha) (is_held s m (point b) k S hb) in
    let some = (decides_some_holds inner m (point l) k S).1 (record { slab = s; among = among; holds = held }) in
    let sample : held_at_sample inner m (point l) S ≡ true = found_below (λ i. some_holds inner m (point l) i S) (S + 1) k (omega (arith, within)) some in
    subst (λ i. held_at_sample (inner_stack stacks.cutter stacks.slabs) m (point l) i ≡ true) es (subst (λ i. held_at_sample i m (point l) S ≡ true) ei sample)
