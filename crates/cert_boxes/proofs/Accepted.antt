-- What an accepted certificate means: the upper cutter meets no point of the part or of the fixtures.
use Rattle.std.proofs.Common.{◌≡◌, ℕ, ◌+◌, ◌-◌, ◌*◌, ◌^◌, ◌<◌, ◌≤◌, Bool, true, false, not, ◌&&◌, leb, ltb, List, Option, Some, None, ℤ, pos, arith, refl, ap, sym, subst, ⊎_elim, ◌∙◌}
use Rattle.std.specs.List.{list_any}
use Rattle.std.proofs.lemmas.Bool.{and_parts, cases_lt, leb-true, ltb-true, not-false}
use Rattle.space.specs.Reach.{is_in_reach}
use Rattle.space.specs.Sweeps.{IsSweep, IsTime, SweepOf}
use Rattle.bern_form.specs.Between.{is_unexcluded_between}
use Rattle.bern_form.specs.Cells.{IsInCell}
use Rattle.bern_form.specs.Marks.{some_holds}
use Rattle.bern_form.specs.Slab.{SlabSize}
use Rattle.bern_form.proofs.Decided.{decides_some_holds, says_no}
use Rattle.bern_form.proofs.Exclusion.{excluded_not_held}
use Rattle.bern_form.proofs.Finer.{all_out}
use Rattle.bern_form.proofs.Relations.{SomeHolds}
use Rattle.cutter_slabs.specs.Cutter.{CutterSize}
use Rattle.cutter_slabs.specs.Meets.{InUpperAt}
use Rattle.cutter_slabs.specs.Stacks.{outer_stack, reach_of}
use Rattle.ray_grid.specs.Grids.{GridSize}
use Rattle.ray_grid.specs.Lattice.{point_of}
use Rattle.ray_grid.specs.Points.{LatticePoint, lattice_of}
use Rattle.ray_grid.specs.declared.ray.Ray.{Ray}
use Rattle.ray_grid.proofs.Counted.{only_points}
use Rattle.ray_boxes.specs.Boxes.{is_excluded_in_box}
use Rattle.ray_boxes.proofs.Excluded.{none_left}
use Rattle.ray_boxes.proofs.Lines.{IsLine, ray_line}
use Rattle.cert_lines.specs.Certificates.{IsInRange}
use Rattle.cert_lines.specs.declared.cell.CertCell.{CertCell}
use Rattle.cert_lines.specs.declared.cert.Cert.{Cert}
use Rattle.cert_boxes.specs.declared.verdict.Verdict.TheVariants.{Accepted}
use Rattle.cert_boxes.specs.Covering.{is_covered}
use Rattle.cert_boxes.specs.Holding.{are_slabs_excluded, box_holds, is_slab_excluded}
use Rattle.cert_boxes.specs.Tasks.{CertTask, is_guarded, cert_task}
use Rattle.cert_boxes.specs.Untouched.{AcceptedIsUntouched, IsUntouched}
use Rattle.cert_boxes.specs.Verdicts.{first_line, first_point, is_uncovered, verdict_of, verdict_on}
use Rattle.cert_boxes.proofs.Found.{none_found}
use Rattle.cert_boxes.proofs.Listed.{none_fails}
use Rattle.cert_boxes.proofs.RowLemmas.{same_ray}
use Rattle.cert_boxes.proofs.Times.{named_at}

-- the weights of an index between two
weights : (a v w : ℕ) → (w + v) * (a + v) ≡ w * a + v * (a + (v + w))
weights a v w = omega arith

-- a box whose slabs are all excluded, for the points from a to c: none is left for a point between them
box_apart : (slabs : List SlabSize) (m : SweepOf) (point : ℕ → List ℤ) (S j k a v w c : ℕ) → IsLine point → 0 < v + w → c ≡ a + (v + w)
    → list_any (λ s. not (is_excluded_in_box m (point a) (point c) j k S s)) slabs ≡ false → is_unexcluded_between slabs m (point (a + v)) j k S ≡ false
box_apart slabs m point S j k a v w c line some e h =
    none_left slabs m (point a) (point c) (point (a + v)) w v j k S
    (line.each a (a + v) c w v some (weights a v w ∙ ap (λ n. w * a + v * n) (sym e))) h

box_alone : (slabs : List SlabSize) (m : SweepOf) (point : ℕ → List ℤ) (S j k a c : ℕ) → IsLine point → c ≡ a
    → list_any (λ s. not (is_excluded_in_box m (point a) (point c) j k S s)) slabs ≡ false → is_unexcluded_between slabs m (point a) j k S ≡ false
box_alone slabs m point S j k a c line e h =
    none_left slabs m (point a) (point c) (point a) 1 0 j k S (line.each a a c 1 0 (omega arith) (omega arith)) h

pub box_at : (slabs : List SlabSize) (m : SweepOf) (point : ℕ → List ℤ) (S j k a b l : ℕ) → IsLine point → a ≤ l → l < b
    → list_any (λ s. not (is_excluded_in_box m (point a) (point (b - 1)) j k S s)) slabs ≡ false → is_unexcluded_between slabs m (point l) j k S ≡ false
box_at slabs m point S j k a b l line after before h =
    let v = l - a in let w = (b - 1) - l in
    let el : a + v ≡ l = omega arith in
    ⊎_elim
    (λ apart. subst (λ i. is_unexcluded_between slabs m (point i) j k S ≡ false) el (box_apart slabs m point S j k a v w (b - 1) line apart (omega arith) h))
    (λ alone.
    let same : a ≡ l = omega arith in
    subst (λ i. is_unexcluded_between slabs m (point i) j k S ≡ false) same (box_alone slabs m point S j k a (b - 1) line (omega arith) h))
    (cases_lt 0 (v + w))

-- slabs that are all excluded between two neighbouring samples hold the point at no time between
pub held_by_none : (slabs : List SlabSize) (m : SweepOf) (p : List ℤ) (k S a b : ℕ) → is_unexcluded_between slabs m p k (k + 1) S ≡ false → IsInCell k S a b → some_holds slabs m p a b ≡ false
held_by_none slabs m p k S a b none time =
    let out = all_out slabs m p k (k + 1) S none in
    says_no (SomeHolds slabs m p a b) (some_holds slabs m p a b) (decides_some_holds slabs m p a b)
    (λ held. excluded_not_held held.slab m p k S a b time (out.each held.slab held.among) held.holds)

-- a line whose box holds, at one of its points and a time of its cell
line_holds : (slabs : List SlabSize) (m : SweepOf) (grid : GridSize) (cell : CertCell) (l a b : ℕ) → are_slabs_excluded m grid slabs cell ≡ true → cell.a ≤ l → l < cell.b
    → IsInCell cell.k (2 ^ cell.q) a b → some_holds slabs m (point_of grid cell.ray l) a b ≡ false
line_holds slabs m grid cell l a b holds after before time =
    held_by_none slabs m (point_of grid cell.ray l) cell.k (2 ^ cell.q) a b
    (box_at slabs m (point_of grid cell.ray) (2 ^ cell.q) cell.k (cell.k + 1) cell.a cell.b l (ray_line grid cell.ray) after before
    (none_fails (is_slab_excluded m grid cell) slabs holds))
    time

-- an accepted certificate has no line that stands and no point that is not covered
no_line : (line : Option CertCell) (point : Option LatticePoint) → verdict_on line point ≡ Accepted → line ≡ None
no_line None point h = refl
no_line (Some cell) point h = cc

no_point : (line : Option CertCell) (point : Option LatticePoint) → verdict_on line point ≡ Accepted → point ≡ None
no_point None None h = refl
no_point None (Some p) h = cc
no_point (Some cell) point h = cc

-- a point that has to be covered is
is_met : (near guarded covered : Bool) → near ≡ true → guarded ≡ true → ((near && guarded) && not covered) ≡ false → covered ≡ true
is_met true true true h k l = refl
is_met true true false h k l = cc
is_met true false covered h k l = cc
is_met false guarded covered h k l = cc

pub untouched : (task : CertTask) (cert : Cert) → IsSweep task.sweep → IsInRange task.grid cert
    → ((m : SweepOf) (p : List ℤ) (a b : ℕ) → InUpperAt task.cutter m p a b → some_holds (outer_stack task.cutter cert.slabs) m p a b ≡ true)
    → ((m : SweepOf) (p : List ℤ) (a b : ℕ) → IsSweep m → IsTime a b → InUpperAt task.cutter m p a b → is_in_reach (pos (reach_of task.cutter)) m.from m.to p ≡ true)
    → verdict_of task cert ≡ Accepted → IsUntouched task
untouched task cert sweep range encloses reach accepted point listed guarded met =
    let a = met.numerator in let b = met.denominator in
    let lines = no_line (first_line task cert) (first_point task cert) accepted in
    let points = no_point (first_line task cert) (first_point task cert) accepted in
    let missed = none_found (is_uncovered task cert.cells) (lattice_of task.grid) points point listed in
    let near = reach task.sweep point.position a b sweep met.time met.inside in
    let covered = is_met (is_in_reach (pos (reach_of task.cutter)) task.sweep.from task.sweep.to point.position) (is_guarded task point) (is_covered cert.cells point) near guarded missed in
    let named = named_at task.grid cert.cells point range.cells covered a b met.time in
    let cell = named.cell in
    let holds : box_holds task cert.slabs cell ≡ true = not-false (box_holds task cert.slabs cell) (none_found (λ c. not (box_holds task cert.slabs c)) cert.cells lines cell named.listed) in
    let ends = and_parts (leb cell.a point.l) (ltb point.l cell.b) named.among in
    let of = only_points task.grid point listed in
    let place : point_of task.grid cell.ray point.l ≡ point.position = ap (λ (r : Ray). point_of task.grid r point.l) (same_ray cell.ray point.ray named.same) ∙ sym of.position in
    let none : some_holds (outer_stack task.cutter cert.slabs) task.sweep point.position a b ≡ false =
    subst (λ (p : List ℤ). some_holds (outer_stack task.cutter cert.slabs) task.sweep p a b ≡ false) place
    (line_holds (outer_stack task.cutter cert.slabs) task.sweep task.grid cell point.l a b holds (leb-true cell.a point.l ends.0) (ltb-true point.l cell.b ends.1) named.during) in
    let some : some_holds (outer_stack task.cutter cert.slabs) task.sweep point.position a b ≡ true = encloses task.sweep point.position a b met.inside in
    cc

pub accepted_is_untouched : (sweep : SweepOf) (cutter : CutterSize) (slabs : ℕ) → IsSweep sweep
    → ((m : SweepOf) (p : List ℤ) (a b : ℕ) → InUpperAt cutter m p a b → some_holds (outer_stack cutter slabs) m p a b ≡ true)
    → ((m : SweepOf) (p : List ℤ) (a b : ℕ) → IsSweep m → IsTime a b → InUpperAt cutter m p a b → is_in_reach (pos (reach_of cutter)) m.from m.to p ≡ true)
    → AcceptedIsUntouched sweep cutter slabs
accepted_is_untouched sweep cutter slabs valid encloses reach = λ grid part fixture cert same range accepted.
    untouched (cert_task sweep cutter grid part fixture) cert valid range
    (λ m p a b inside. subst (λ n. some_holds (outer_stack cutter n) m p a b ≡ true) (sym same) (encloses m p a b inside)) reach accepted
