-- A stretch outside of which a point is clear, as the part on which it is marked.
use Rattle.std.proofs.Common.{◌≡◌, Bool, true, false, ◌&&◌, ℕ, ◌+◌, ◌^◌, ◌<◌, ◌≤◌, Option, None, Some, List, ℤ, arith, refl, sym, ⊎_elim}
use Rattle.std.specs.Option.{MatchOption}
use Rattle.std.proofs.lemmas.Bool.{cases_lt}
use Rattle.ray_grid.specs.Lattice.{point_of}
use Rattle.vf_spans.specs.Words.{has_bit}
use Rattle.vf_spans.proofs.HighestBit.{at_most}
use Rattle.cutter_slabs.specs.Stacks.{outer_stack}
use Rattle.ray_runs.specs.Between.{AreClear}
use Rattle.ray_runs.specs.Open.{IsOpenOnly}
use Rattle.ray_runs.specs.declared.clear.OpenStretch.{OpenStretch}
use Rattle.width_bisect.specs.Forms.{AreWidthForms}
use Rattle.width_bisect.specs.Parts.{IsOpenPart}
use Rattle.wanted_marks.specs.Opens.{AreOpenAt, IsOpenAt}
use Rattle.wanted_marks.specs.Progress.{AreAmong}
use Rattle.wanted_marks.specs.Rays.{IsClearOf, MoveOf, RayOf}

pub part_of : (s : OpenStretch) (v : MoveOf) (p u n width : List ℤ) → IsOpenAt s v p → AreWidthForms u n width v.sweep p s.first (s.first + 2 ^ s.levels) (2 ^ v.depth)
    → IsOpenPart (outer_stack v.cutter v.slabs) u n width v.sweep p (2 ^ v.depth) s.levels
part_of s v p u n width there forms = record { first = s.first; within = there.within; forms = forms; early = there.early; late = there.late }

-- for each of the points from one index to another
pub open_for_each : (found : Option OpenStretch) (v : MoveOf) (point : ℕ → List ℤ) (from to : ℕ)
    → MatchOption found (AreClear record { cutter = v.cutter; slabs = v.slabs } v.sweep point (2 ^ v.depth) from to)
    (λ s. IsOpenOnly s record { cutter = v.cutter; slabs = v.slabs } v.sweep point (2 ^ v.depth) from to)
    → MatchOption found ((l : ℕ) → from ≤ l → l ≤ to → IsClearOf v (point l)) (λ s. (l : ℕ) → from ≤ l → l ≤ to → IsOpenAt s v (point l))
open_for_each None v point from to is = λ l after before. let clear = is l after before in record { not_sure = clear.0; not_possible = clear.1 }
open_for_each (Some s) v point from to is = λ l after before. record { few = is.few; within = is.within; early = is.early l after before; late = is.late l after before }

-- of the points of some bits
at_least : (word low b : ℕ) → ((k : ℕ) → k < low → has_bit word k ≡ false) → has_bit word b ≡ true → low ≤ b
at_least word low b none is_set = ⊎_elim (λ (before : b < low). let e = none b before in absurd (cc)) (λ (from : low ≤ b). from) (cases_lt b low)

pub bits_open : (found : Option OpenStretch) (r : RayOf) (first bits low high : ℕ) → low < 64 → has_bit bits low ≡ true → ((k : ℕ) → k < low → has_bit bits k ≡ false) → ((k : ℕ) → high < k → has_bit bits k ≡ false)
    → MatchOption found ((l : ℕ) → first + low ≤ l → l ≤ first + high → IsClearOf r.sweep (point_of r.grid r.ray l))
    (λ s. (l : ℕ) → first + low ≤ l → l ≤ first + high → IsOpenAt s r.sweep (point_of r.grid r.ray l))
    → MatchOption found ((b : ℕ) → b < 64 → has_bit bits b ≡ true → IsClearOf r.sweep (point_of r.grid r.ray (first + b))) (λ s. AreOpenAt s r first bits)
bits_open None r first bits low high small some lowest highest is = λ b below set.
    let from = at_least bits low b lowest set in let to = at_most bits high b highest set in is (first + b) (omega (arith, from)) (omega (arith, to))
bits_open (Some s) r first bits low high small some lowest highest is =
    let each = λ (b : ℕ) (below : b < 64) (set : has_bit bits b ≡ true).
    let from = at_least bits low b lowest set in let to = at_most bits high b highest set in is (first + b) (omega (arith, from)) (omega (arith, to)) in
    let one = each low small some in record { few = one.few; within = one.within; each = each }

-- of fewer bits
pub fewer_open : (s : OpenStretch) (r : RayOf) (first bits fewer : ℕ) → AreAmong fewer bits → AreOpenAt s r first bits → AreOpenAt s r first fewer
fewer_open s r first bits fewer among all = record { few = all.few; within = all.within; each = λ b below set. all.each b below (among b below set) }

-- a test that no wanted bit meets
pub none_told : (w t : Bool) → (w ≡ true → t ≡ false) → false ≡ (w && t)
none_told true t h = sym (h refl)
none_told false t h = refl
