-- What is found of a job is the sum over its windows: all of it depends only on a point's position.
use Rattle.std.proofs.Common.{◌≡◌, ℕ, zero, suc, ◌+◌, ◌==◌, Bool, true, false, cond, ◌&&◌, ◌↔◌, IsTrue, List, [], ◌∷◌, map, ℤ, arith, refl, sym, ap, ◌∙◌, subst}
use Rattle.std.specs.List.{All, count_by, sum_by}
use Rattle.std.proofs.lemmas.Bool.{and_parts, eqb-true, true≢false}
use Rattle.std.proofs.lemmas.List.Elements.{All-cons, All-head, All-nil, All-tail}
use Rattle.std.proofs.lemmas.List.Sums.{sum_by-cons}
use Rattle.dexel_rays.specs.Findings.{Seen, is_fixture_possible, is_fixture_sure, is_new_possible, is_part_possible, is_part_sure, is_rapid_possible, is_rapid_sure, is_removed}
use Rattle.ray_grid.specs.Grids.{GridSize}
use Rattle.ray_grid.specs.Points.{LatticePoint, lattice_of}
use Rattle.ray_grid.specs.Turns.{back}
use Rattle.ray_grid.specs.declared.ray.Family.TheVariants.{Z}
use Rattle.ray_shapes.specs.declared.solid.Solid.{Solid}
use Rattle.ray_shapes.specs.declared.solid.Solid.TheVariants.{Bodies, Listed, Turned}
use Rattle.ray_shapes.specs.Planes.{in_bodies}
use Rattle.ray_shapes.specs.Sets.{in_solid}
use Rattle.job_counts.specs.Counts.{is_safe, plus}
use Rattle.job_counts.specs.Totals.{plus_totals}
use Rattle.job_counts.specs.declared.counts.Counts.{Counts}
use Rattle.job_counts.specs.declared.totals.Totals.{Totals}
use Rattle.job_model.specs.Findings.{seen}
use Rattle.job_model.specs.Points.{some_possible, some_sure, totals_after}
use Rattle.job_model.specs.Sums.{sum_counts, sum_totals}
use Rattle.job_model.specs.Tasks.{Job, JobMove}
use Rattle.laws.specs.Windows.{AreOfPlaces, IsCut, found_in, in_window, is_of_places, points_where, window_jobs, windows_of}
use Rattle.laws.proofs.WindowSums.{windows_sum}

pub counts_sum : (grid : GridSize) (axis : ℕ) (counts : List ℕ) (test : List ℤ → Bool) → IsCut grid axis counts
    → points_where test grid ≡ sum_by (points_where test) (windows_of grid axis counts)
counts_sum grid axis counts test cut = windows_sum (λ x. cond (test x) 1 0) grid axis counts cut

map_map : {A B C : Type 0} (g : B → C) (f : A → B) (xs : List A) → map g (map f xs) ≡ map (λ x. g (f x)) xs
map_map g f [] = refl
map_map g f (x ∷ xs) = ap (λ l. g (f x) ∷ l) (map_map g f xs)

-- totals and counts that have the same numbers
same_totals : (x y : Totals) → x.removed ≡ y.removed → x.possible ≡ y.possible → x.of ≡ y.of → x ≡ y
same_totals x y a b c = λ i. record { removed = a i; possible = b i; of = c i }

same_counts : (x y : Counts) → x.removed ≡ y.removed → x.possible ≡ y.possible → x.part_sure ≡ y.part_sure → x.part_possible ≡ y.part_possible
    → x.fix_sure ≡ y.fix_sure → x.fix_possible ≡ y.fix_possible → x.rapid_sure ≡ y.rapid_sure → x.rapid_possible ≡ y.rapid_possible → x ≡ y
same_counts x y a b c d e f g h = λ i. record {
  removed = a i;
  possible = b i;
  part_sure = c i;
  part_possible = d i;
  fix_sure = e i;
  fix_possible = f i;
  rapid_sure = g i;
  rapid_possible = h i;
}

-- the totals, or counts, of windows one number after another
abbrev totals_of : (GridSize → Totals) → List GridSize → Totals
totals_of f windows = record {
  removed = sum_by (λ w. (f w).removed) windows;
  possible = sum_by (λ w. (f w).possible) windows;
  of = sum_by (λ w. (f w).of) windows;
}

totals_apart : (f : GridSize → Totals) (windows : List GridSize) → sum_totals (map f windows) ≡ totals_of f windows
totals_apart f [] = refl
totals_apart f (w ∷ windows) =
    ap (plus_totals (f w)) (totals_apart f windows)
    ∙ same_totals (plus_totals (f w) (totals_of f windows)) (totals_of f (w ∷ windows))
    (sym (sum_by-cons (λ v. (f v).removed) w windows)) (sym (sum_by-cons (λ v. (f v).possible) w windows)) (sym (sum_by-cons (λ v. (f v).of) w windows))

abbrev counts_of : (GridSize → Counts) → List GridSize → Counts
counts_of f windows = record {
  removed = sum_by (λ w. (f w).removed) windows;
  possible = sum_by (λ w. (f w).possible) windows;
  part_sure = sum_by (λ w. (f w).part_sure) windows;
  part_possible = sum_by (λ w. (f w).part_possible) windows;
  fix_sure = sum_by (λ w. (f w).fix_sure) windows;
  fix_possible = sum_by (λ w. (f w).fix_possible) windows;
  rapid_sure = sum_by (λ w. (f w).rapid_sure) windows;
  rapid_possible = sum_by (λ w. (f w).rapid_possible) windows;
}

counts_apart : (f : GridSize → Counts) (windows : List GridSize) → sum_counts (map f windows) ≡ counts_of f windows
counts_apart f [] = refl
counts_apart f (w ∷ windows) =
    ap (plus (f w)) (counts_apart f windows)
    ∙ same_counts (plus (f w) (counts_of f windows)) (counts_of f (w ∷ windows))
    (sym (sum_by-cons (λ v. (f v).removed) w windows))
    (sym (sum_by-cons (λ v. (f v).possible) w windows))
    (sym (sum_by-cons (λ v. (f v).part_sure) w windows))
    (sym (sum_by-cons (λ v. (f v).part_possible) w windows))
    (sym (sum_by-cons (λ v. (f v).fix_sure) w windows))
    (sym (sum_by-cons (λ v. (f v).fix_possible) w windows))
    (sym (sum_by-cons (λ v. (f v).rapid_sure) w windows))
    (sym (sum_by-cons (λ v. (f v).rapid_possible) w windows))

-- a point of a place, whatever its ray
abbrev at_place : List ℤ → LatticePoint
at_place x = record { ray = record { family = Z; i = 0; j = 0 }; l = 0; position = x }

-- whether a place is in a solid that is given by places
abbrev at_places : Solid → List ℤ → Bool
at_places (Bodies bodies) x = in_bodies bodies x
at_places (Listed sets) x = false
at_places (Turned part) x = in_bodies part.bodies (back part.turn x)

abbrev Inside : Type 0
Inside = GridSize → LatticePoint → Bool

abbrev by_place : Solid → Inside
by_place solid grid point = at_places solid point.position

placed : (solid : Solid) → is_of_places solid ≡ true → by_place solid ≡ in_solid solid
placed (Bodies bodies) of = refl
placed (Listed sets) of = absurd (true≢false (sym of))
placed (Turned part) of = refl

pub totals_sum : (job : Job) (axis : ℕ) (counts : List ℕ) (moves : List JobMove) → AreOfPlaces job → IsCut job.plan.grid axis counts
    → totals_after job moves ≡ sum_totals (map (λ part. totals_after part moves) (window_jobs job axis counts))
totals_sum job axis counts moves of cut =
    let grid = job.plan.grid in
    let windows = windows_of grid axis counts in
    let f : GridSize → Totals = λ window. totals_after (in_window job window) moves in
    let stock : List ℤ → Bool = at_places job.stock in
    let counted : (Bool → LatticePoint → Bool) → Inside → GridSize → ℕ = λ test inside g. count_by (λ p. test (inside g p) p) (lattice_of g) in
    let sums : (test : Bool → LatticePoint → Bool) → counted test (by_place job.stock) grid ≡ sum_by (counted test (by_place job.stock)) windows
    → counted test (in_solid job.stock) grid ≡ sum_by (counted test (in_solid job.stock)) windows =
    λ test. subst (λ (inside : Inside). counted test inside grid ≡ sum_by (counted test inside) windows) (placed job.stock of.stock) in
    same_totals (totals_after job moves) (totals_of f windows)
    (sums (λ b p. b && some_sure job.plan moves p) (counts_sum grid axis counts (λ x. stock x && some_sure job.plan moves (at_place x)) cut))
    (sums (λ b p. b && some_possible job.plan moves p) (counts_sum grid axis counts (λ x. stock x && some_possible job.plan moves (at_place x)) cut))
    (sums (λ b p. b) (counts_sum grid axis counts stock cut))
    ∙ sym (totals_apart f windows) ∙ sym (ap sum_totals (map_map (λ part. totals_after part moves) (in_window job) windows))

-- what is known of a point, with the three solids by tests of their own
abbrev seen_by : Job → List JobMove → JobMove → Inside → Inside → Inside → GridSize → LatticePoint → Seen
seen_by job earlier move s p f grid point =
    record (seen job earlier move point) { stock = s grid point; part = p grid point; fixture = f grid point }

pub findings_sum : (job : Job) (axis : ℕ) (counts : List ℕ) (earlier : List JobMove) (move : JobMove) → AreOfPlaces job → IsCut job.plan.grid axis counts
    → found_in earlier move job ≡ sum_counts (map (found_in earlier move) (window_jobs job axis counts))
findings_sum job axis counts earlier move of cut =
    let grid = job.plan.grid in
    let windows = windows_of grid axis counts in
    let f : GridSize → Counts = λ window. found_in earlier move (in_window job window) in
    let see : List ℤ → Seen = λ x. seen_by job earlier move (by_place job.stock) (by_place job.part) (by_place job.fixture) grid (at_place x) in
    let counted : (Seen → Bool) → Inside → Inside → Inside → GridSize → ℕ =
    λ test s p t g. count_by (λ q. test (seen_by job earlier move s p t g q)) (lattice_of g) in
    let sums : (test : Seen → Bool)
    → counted test (in_solid job.stock) (in_solid job.part) (in_solid job.fixture) grid
    ≡ sum_by (counted test (in_solid job.stock) (in_solid job.part) (in_solid job.fixture)) windows =
    λ test.
    subst (λ (s : Inside). counted test s (in_solid job.part) (in_solid job.fixture) grid ≡ sum_by (counted test s (in_solid job.part) (in_solid job.fixture)) windows)
    (placed job.stock of.stock)
    (subst (λ (p : Inside). counted test (by_place job.stock) p (in_solid job.fixture) grid ≡ sum_by (counted test (by_place job.stock) p (in_solid job.fixture)) windows)
    (placed job.part of.part)
    (subst (λ (t : Inside). counted test (by_place job.stock) (by_place job.part) t grid ≡ sum_by (counted test (by_place job.stock) (by_place job.part) t) windows)
    (placed job.fixture of.fixture)
    (counts_sum grid axis counts (λ x. test (see x)) cut))) in
    same_counts (found_in earlier move job) (counts_of f windows)
    (sums is_removed) (sums is_new_possible) (sums is_part_sure) (sums is_part_possible)
    (sums is_fixture_sure) (sums is_fixture_possible) (sums is_rapid_sure) (sums is_rapid_possible)
    ∙ sym (counts_apart f windows) ∙ sym (ap sum_counts (map_map (found_in earlier move) (in_window job) windows))

-- a move is safe by its counts where three of them are 0
zeros : (a b c : ℕ) → IsTrue (a == 0 && (b == 0 && c == 0)) → (a ≡ 0) × (b ≡ 0) × (c ≡ 0)
zeros a b c h =
    let first = and_parts (a == 0) (b == 0 && c == 0) h in
    let rest = and_parts (b == 0) (c == 0) first.1 in
    (eqb-true a 0 first.0, eqb-true b 0 rest.0, eqb-true c 0 rest.1)

are_zeros : (a b c : ℕ) → a ≡ 0 → b ≡ 0 → c ≡ 0 → IsTrue (a == 0 && (b == 0 && c == 0))
are_zeros zero zero zero e f g = refl
are_zeros zero zero (suc c) e f g = absurd (omega (arith, g))
are_zeros zero (suc b) c e f g = absurd (omega (arith, f))
are_zeros (suc a) b c e f g = absurd (omega (arith, e))

safe_both : (a b : Counts) → IsTrue (is_safe (plus a b)) → IsTrue (is_safe a) × IsTrue (is_safe b)
safe_both a b h =
    let z = zeros (a.part_possible + b.part_possible) (a.fix_possible + b.fix_possible) (a.rapid_possible + b.rapid_possible) h in
    let p = z.0 in let f = z.1 in let r = z.2 in (
      are_zeros a.part_possible a.fix_possible a.rapid_possible (omega (arith, p)) (omega (arith, f)) (omega (arith, r)),
      are_zeros b.part_possible b.fix_possible b.rapid_possible (omega (arith, p)) (omega (arith, f)) (omega (arith, r)),
    )

both_safe : (a b : Counts) → IsTrue (is_safe a) → IsTrue (is_safe b) → IsTrue (is_safe (plus a b))
both_safe a b h k =
    let x = zeros a.part_possible a.fix_possible a.rapid_possible h in
    let y = zeros b.part_possible b.fix_possible b.rapid_possible k in
    let p = x.0 in let f = x.1 in let r = x.2 in
    let p' = y.0 in let f' = y.1 in let r' = y.2 in
    are_zeros (a.part_possible + b.part_possible) (a.fix_possible + b.fix_possible) (a.rapid_possible + b.rapid_possible) (omega (arith, p, p')) (omega (arith, f, f')) (omega (arith, r, r'))

safe_all : (f : Job → Counts) (parts : List Job) → IsTrue (is_safe (sum_counts (map f parts))) ↔ All (λ part. IsTrue (is_safe (f part))) parts
safe_all f [] = (λ h. All-nil (λ part. IsTrue (is_safe (f part))), λ h. refl)
safe_all f (part ∷ parts) =
    let P : Job → Type 0 = λ x. IsTrue (is_safe (f x)) in (
      λ h. let both = safe_both (f part) (sum_counts (map f parts)) h in All-cons P part parts both.0 ((safe_all f parts).0 both.1),
      λ all. both_safe (f part) (sum_counts (map f parts)) (All-head P part parts all) ((safe_all f parts).1 (All-tail P part parts all)),
    )

pub safe_in_each : (job : Job) (axis : ℕ) (counts : List ℕ) (earlier : List JobMove) (move : JobMove) → AreOfPlaces job → IsCut job.plan.grid axis counts
    → IsTrue (is_safe (found_in earlier move job)) ↔ All (λ part. IsTrue (is_safe (found_in earlier move part))) (window_jobs job axis counts)
safe_in_each job axis counts earlier move of cut =
    let parts = window_jobs job axis counts in
    let each = safe_all (found_in earlier move) parts in
    let e = findings_sum job axis counts earlier move of cut in
    (λ h. each.0 (subst (λ x. IsTrue (is_safe x)) e h), λ all. subst (λ x. IsTrue (is_safe x)) (sym e) (each.1 all))
