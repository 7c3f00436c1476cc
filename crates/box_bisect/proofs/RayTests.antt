-- The tests of a box by what is kept of it are those of its points and its time.
use Rattle.std.proofs.Common.{◌≡◌, Bool, true, false, not, ℕ, List, ℤ, pos, if◌then◌else◌}
use Rattle.std.specs.List.{list_any}
use Rattle.space.specs.Sweeps.{SweepOf}
use Rattle.bern_form.specs.Between.{d_between, n_between, u_between}
use Rattle.bern_form.specs.Forms.{lifted, product22}
use Rattle.bern_form.specs.Grids.{columns21, rows_negative}
use Rattle.bern_form.specs.Slab.{SlabSize}
use Rattle.axis_cells.specs.declared.mark.Mark.TheVariants.{Possible, Removed}
use Rattle.ray_boxes.specs.Boxes.{height_column, is_excluded_across, is_excluded_in_box, is_unexcluded_by_grids, product_between, width_column}

-- some slab is left by the coefficients of u and d at both points, of n, and of the product of both offsets
abbrev pub is_unexcluded_across : List SlabSize → ℕ → List ℤ → List ℤ → List ℤ → List ℤ → List ℤ → List ℤ → Bool
is_unexcluded_across slabs S u v n d e g = list_any (λ s. not (is_excluded_across S u v n d e g s)) slabs

pub undecided_by_grids : (slabs : List SlabSize) (S : ℕ) (u v n d e g : List ℤ) {kept : ℕ} {behind : Bool} {raised h0 h1 h2 w0 w1 w2 : List ℤ} → kept ≡ S → behind ≡ rows_negative (columns21 u v) → raised ≡ lifted n
    → h0 ≡ product22 u u → h1 ≡ height_column (pos 2) u v → h2 ≡ product22 v v → w0 ≡ width_column (pos 4) d n u u → w1 ≡ width_column (pos 8) e n u v → w2 ≡ width_column (pos 4) g n v v
    → is_unexcluded_by_grids kept behind raised h0 h1 h2 w0 w1 w2 slabs ≡ is_unexcluded_across slabs S u v n d e g
undecided_by_grids slabs S u v n d e g eS eb er e0 e1 e2 f0 f1 f2 = λ i. is_unexcluded_by_grids (eS i) (eb i) (er i) (e0 i) (e1 i) (e2 i) (f0 i) (f1 i) (f2 i) slabs

pub undecided_by_forms : (slabs : List SlabSize) (m : SweepOf) (p q : List ℤ) (j k S : ℕ) {u v n d e g : List ℤ} → u ≡ u_between m p j k S → v ≡ u_between m q j k S → n ≡ n_between m j k S
    → d ≡ d_between m p j k S → e ≡ product_between m p q j k S → g ≡ d_between m q j k S → is_unexcluded_across slabs S u v n d e g ≡ list_any (λ s. not (is_excluded_in_box m p q j k S s)) slabs
undecided_by_forms slabs m p q j k S eu ev en ed ee eg = λ i. is_unexcluded_across slabs S (eu i) (ev i) (en i) (ed i) (ee i) (eg i)

-- the mark by two samples
pub held_late : (late early : Bool) → late ≡ true → Removed ≡ (if late then Removed else (if early then Removed else Possible))
held_late late early h = cc

pub held_early : (late early : Bool) → late ≡ false → early ≡ true → Removed ≡ (if late then Removed else (if early then Removed else Possible))
held_early late early h k = cc

pub held_neither : (late early : Bool) → late ≡ false → early ≡ false → Possible ≡ (if late then Removed else (if early then Removed else Possible))
held_neither late early h k = cc
