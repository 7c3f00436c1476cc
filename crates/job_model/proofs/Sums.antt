-- Counts over the lattice are sums of counts over its strips, their rays and their indices.
use Rattle.std.proofs.Common.{◌≡◌, ◌+◌, Bool, cond, List, [], ◌∷◌, ◌++◌, map, count_by, refl, sym, ap, ap₂, ◌∙◌}
use Rattle.std.specs.List.{flat_map, range_with_len}
use Rattle.std.proofs.lemmas.List.{append_assoc}
use Rattle.std.proofs.lemmas.List.Sums.{sum_by-append, sum_by-cons}
use Rattle.ray_grid.specs.Grids.{GridSize}
use Rattle.ray_grid.specs.declared.ray.Ray.{Ray}
use Rattle.ray_grid.specs.Lattice.{point_of, points_of}
use Rattle.ray_grid.specs.Points.{LatticePoint, lattice_of, points_on}
use Rattle.ray_grid.specs.Strips.{strips_of}
use Rattle.job_counts.specs.declared.counts.Counts.{Counts}
use Rattle.job_counts.specs.Counts.{plus}
use Rattle.dexel_rays.specs.Findings.{Seen, findings, is_fixture_possible, is_fixture_sure, is_new_possible, is_part_possible, is_part_sure, is_rapid_possible, is_rapid_sure, is_removed}
use Rattle.job_model.specs.Sums.{sum_counts}

pub count_append : {X : Type 0} (p : X → Bool) (xs ys : List X) → count_by p (xs ++ ys) ≡ count_by p xs + count_by p ys
count_append p xs ys = sum_by-append (λ x. cond (p x) 1 0) xs ys

pub count_map : {X Y : Type 0} (p : Y → Bool) (f : X → Y) (xs : List X) → count_by p (map f xs) ≡ count_by (λ x. p (f x)) xs
count_map p f [] = refl
count_map p f (x ∷ xs) =
    sum_by-cons (λ y. cond (p y) 1 0) (f x) (map f xs) ∙ ap (λ n. cond (p (f x)) 1 0 + n) (count_map p f xs) ∙ sym (sum_by-cons (λ y. cond (p (f y)) 1 0) x xs)

-- the eight counts at once
findings_append : {P : Type 0} (see : P → Seen) (xs ys : List P) → findings see (xs ++ ys) ≡ plus (findings see xs) (findings see ys)
findings_append see xs ys = λ i. record {
  removed = count_append (λ p. is_removed (see p)) xs ys i;
  possible = count_append (λ p. is_new_possible (see p)) xs ys i;
  part_sure = count_append (λ p. is_part_sure (see p)) xs ys i;
  part_possible = count_append (λ p. is_part_possible (see p)) xs ys i;
  fix_sure = count_append (λ p. is_fixture_sure (see p)) xs ys i;
  fix_possible = count_append (λ p. is_fixture_possible (see p)) xs ys i;
  rapid_sure = count_append (λ p. is_rapid_sure (see p)) xs ys i;
  rapid_possible = count_append (λ p. is_rapid_possible (see p)) xs ys i;
}

findings_map : {P X : Type 0} (see : P → Seen) (f : X → P) (xs : List X) → findings see (map f xs) ≡ findings (λ x. see (f x)) xs
findings_map see f xs = λ i. record {
  removed = count_map (λ p. is_removed (see p)) f xs i;
  possible = count_map (λ p. is_new_possible (see p)) f xs i;
  part_sure = count_map (λ p. is_part_sure (see p)) f xs i;
  part_possible = count_map (λ p. is_part_possible (see p)) f xs i;
  fix_sure = count_map (λ p. is_fixture_sure (see p)) f xs i;
  fix_possible = count_map (λ p. is_fixture_possible (see p)) f xs i;
  rapid_sure = count_map (λ p. is_rapid_sure (see p)) f xs i;
  rapid_possible = count_map (λ p. is_rapid_possible (see p)) f xs i;
}

pub flat_append : {X A : Type 0} (f : X → List A) (xs ys : List X) → flat_map f (xs ++ ys) ≡ flat_map f xs ++ flat_map f ys
flat_append f [] ys = refl
flat_append f (x ∷ xs) ys = ap (λ l. f x ++ l) (flat_append f xs ys) ∙ sym (append_assoc (f x) (flat_map f xs) (flat_map f ys))

-- what the points of a ray find, index by index
abbrev pub ray_findings : GridSize → (LatticePoint → Seen) → Ray → Counts
ray_findings grid see ray =
    findings (λ l. see record { ray = ray; l = l; position = point_of grid ray l }) (range_with_len 0 (points_of grid ray.family))

abbrev pub strip_findings : GridSize → (LatticePoint → Seen) → List Ray → Counts
strip_findings grid see strip = sum_counts (map (ray_findings grid see) strip)

pub of_strip : (grid : GridSize) (see : LatticePoint → Seen) (strip : List Ray) → findings see (flat_map (points_on grid) strip) ≡ strip_findings grid see strip
of_strip grid see [] = refl
of_strip grid see (ray ∷ strip) =
    findings_append see (points_on grid ray) (flat_map (points_on grid) strip)
    ∙ ap₂ plus (findings_map see (λ l. record { ray = ray; l = l; position = point_of grid ray l }) (range_with_len 0 (points_of grid ray.family))) (of_strip grid see strip)

of_strips : (grid : GridSize) (see : LatticePoint → Seen) (strips : List (List Ray))
    → findings see (flat_map (points_on grid) (flat_map (λ strip. strip) strips)) ≡ sum_counts (map (strip_findings grid see) strips)
of_strips grid see [] = refl
of_strips grid see (strip ∷ strips) =
    ap (findings see) (flat_append (points_on grid) strip (flat_map (λ s. s) strips))
    ∙ findings_append see (flat_map (points_on grid) strip) (flat_map (points_on grid) (flat_map (λ s. s) strips))
    ∙ ap₂ plus (of_strip grid see strip) (of_strips grid see strips)

-- what is found over the lattice is the sum over its strips of the sums over their rays
pub findings_by_strips : (grid : GridSize) (see : LatticePoint → Seen) → findings see (lattice_of grid) ≡ sum_counts (map (strip_findings grid see) (strips_of grid))
findings_by_strips grid see = of_strips grid see (strips_of grid)
