-- The halves of a box in time and along its ray are boxes, and so is the whole that a ray begins with.
use Rattle.std.proofs.Common.{◌≡◌, ℕ, ◌+◌, ◌-◌, ◌^◌, ◌≤◌, arith}
use Rattle.box_bisect.specs.RayBoxes.{IsBox, middle}
use Rattle.box_bisect.proofs.Searching.{halved}

pub early_box : (levels k first from to S points : ℕ) → levels ≡ k + 1 → IsBox levels first from to S points → IsBox k first from to S points
early_box levels k first from to S points e box =
    let end = (halved levels k first e).end in let cells = box.cells in let few = box.few in
    record { few = omega (arith, few, e); cells = omega (arith, cells, end); some = box.some; within = box.within }

pub late_box : (levels k first half from to S points : ℕ) → levels ≡ k + 1 → half ≡ 2 ^ k → IsBox levels first from to S points → IsBox k (first + half) from to S points
late_box levels k first half from to S points e h box =
    let end = (halved levels k first e).end in let cells = box.cells in let few = box.few in
    record { few = omega (arith, few, e); cells = omega (arith, cells, end, h); some = box.some; within = box.within }

pub lower_box : (levels first from to S points : ℕ) → 2 ≤ to - from → IsBox levels first from to S points → IsBox levels first from (middle from to) S points
lower_box levels first from to S points long box =
    let within = box.within in record { few = box.few; cells = box.cells; some = omega (arith, long); within = omega (arith, long, within) }

pub upper_box : (levels first from to S points : ℕ) → 2 ≤ to - from → IsBox levels first from to S points → IsBox levels first (middle from to) to S points
upper_box levels first from to S points long box = record { few = box.few; cells = box.cells; some = omega (arith, long); within = box.within }

pub whole_box : (depth from to S points : ℕ) → depth ≤ 10 → S ≡ 2 ^ depth → from ≤ to → (from ≡ to → ⊥) → to ≤ points → IsBox depth 0 from to S points
whole_box depth from to S points few all order some within = record { few = few; cells = omega (arith, all); some = omega (arith, order, some); within = within }
