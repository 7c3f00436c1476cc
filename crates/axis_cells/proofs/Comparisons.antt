-- What a sample and a cell keep is the point's own at that time and on that cell.
use Rattle.std.proofs.Common.{◌≡◌, Bool, true, false, ◌&&◌, ℕ, List, ℤ, pos, ◌*ℤ◌, int_le, ap, refl, ◌∙◌}
use Rattle.space.specs.Sweeps.{SweepOf, axis_at, offset_at}
use Rattle.space.specs.Vectors.{dot, spread}
use Rattle.bern_form.specs.Forms.{all_negative, difference4, product22, scaled4}
use Rattle.bern_form.specs.Slab.{SlabSize, covers}
use Rattle.bern_form.specs.Cells.{is_excluded, dot_on_cell, d_list, start_axis, start_offset, end_axis, end_offset, n_list, u_list, w_list}
use Rattle.bern_form.specs.Marks.{is_unexcluded_on, some_holds}
use Rattle.axis_cells.specs.Exclusion.{IsCellOf, covered_by_some, excluded_by, leaves_some}

-- of four tests the outer two say yes
pub inner_two : (a b c d : Bool) → a ≡ true → d ≡ true → (b && c) ≡ (a && (b && (c && d)))
inner_two true true true true p q = refl
inner_two true true false true p q = refl
inner_two true false c true p q = refl
inner_two true b c false p q = cc
inner_two false b c d p q = cc

-- the four comparisons at a sample are the slab's test
pub covers_by : (s : SlabSize) (scale u n w low high wide : ℤ) → low ≡ ((scale *ℤ s.lo) *ℤ (scale *ℤ s.lo)) *ℤ n → high ≡ ((scale *ℤ s.hi) *ℤ (scale *ℤ s.hi)) *ℤ n
    → wide ≡ ((scale *ℤ s.dia) *ℤ (scale *ℤ s.dia)) *ℤ n
    → (int_le (pos 0) u && (int_le low (u *ℤ u) && (int_le (u *ℤ u) high && int_le (pos 4 *ℤ w) wide))) ≡ covers s scale u n w
covers_by s scale u n w low high wide l h d =
    ap (λ z. int_le (pos 0) u && (int_le z (u *ℤ u) && (int_le (u *ℤ u) high && int_le (pos 4 *ℤ w) wide))) l
    ∙ ap (λ z. int_le (pos 0) u && (int_le (((scale *ℤ s.lo) *ℤ (scale *ℤ s.lo)) *ℤ n) (u *ℤ u) && (int_le (u *ℤ u) z && int_le (pos 4 *ℤ w) wide))) h
    ∙ ap (λ z. int_le (pos 0) u && (int_le (((scale *ℤ s.lo) *ℤ (scale *ℤ s.lo)) *ℤ n) (u *ℤ u) && (int_le (u *ℤ u) (((scale *ℤ s.hi) *ℤ (scale *ℤ s.hi)) *ℤ n) && int_le (pos 4 *ℤ w) z))) d

-- a test of a cell's forms gives the same answer by what the cell keeps
cell_same : (F : ℤ → Bool → List ℤ → List ℤ → List ℤ → Bool) (scale : ℤ) (behind : Bool) (n height width : List ℤ) (m : SweepOf) (p : List ℤ) (k S : ℕ)
    → IsCellOf scale behind n height width m p k S
    → F scale behind n height width ≡ F (pos S) (all_negative (u_list m p k S)) (n_list m k S) (product22 (u_list m p k S) (u_list m p k S)) (w_list m p k S)
cell_same F scale behind n height width m p k S cell =
    let u = u_list m p k S in
    ap (λ z. F z behind n height width) cell.scale_is ∙ ap (λ b. F (pos S) b n height width) cell.behind_is ∙ ap (λ l. F (pos S) (all_negative u) l height width) cell.n_is
    ∙ ap (λ l. F (pos S) (all_negative u) (n_list m k S) l width) cell.height_is ∙ ap (λ l. F (pos S) (all_negative u) (n_list m k S) (product22 u u) l) cell.width_is

pub excluded_at : (scale : ℤ) (behind : Bool) (n height width : List ℤ) (m : SweepOf) (p : List ℤ) (k S : ℕ) (s : SlabSize)
    → IsCellOf scale behind n height width m p k S → excluded_by scale behind n height width s ≡ is_excluded s m p k S
excluded_at scale behind n height width m p k S s cell = cell_same (λ z b n h w. excluded_by z b n h w s) scale behind n height width m p k S cell

pub left_at : (scale : ℤ) (behind : Bool) (n height width : List ℤ) (m : SweepOf) (p : List ℤ) (k S : ℕ) (slabs : List SlabSize)
    → IsCellOf scale behind n height width m p k S → leaves_some scale behind n height width slabs ≡ is_unexcluded_on slabs m p k S
left_at scale behind n height width m p k S slabs cell = cell_same (λ z b n h w. leaves_some z b n h w slabs) scale behind n height width m p k S cell

-- what a sample keeps of a point is this, at the time k / S
pub record IsSampleOf (scale u n w : ℤ) (P A : List ℤ) (m : SweepOf) (p : List ℤ) (k S : ℕ) : Type 0 where
  pub offset_is : P ≡ offset_at m p (pos k) (pos S)
  pub axis_is : A ≡ axis_at m (pos k) (pos S)
  pub scale_is : scale ≡ pos S
  pub u_is : u ≡ dot P A
  pub n_is : n ≡ dot A A
  pub w_is : w ≡ spread P A

pub held_at : (scale u n w : ℤ) (P A : List ℤ) (m : SweepOf) (p : List ℤ) (k S : ℕ) (slabs : List SlabSize) → IsSampleOf scale u n w P A m p k S
    → covered_by_some scale u n w slabs ≡ some_holds slabs m p k S
held_at scale u n w P A m p k S slabs e =
    ap (λ z. covered_by_some z u n w slabs) e.scale_is ∙ ap (λ z. covered_by_some (pos S) z n w slabs) e.u_is ∙ ap (λ z. covered_by_some (pos S) (dot P A) z w slabs) e.n_is
    ∙ ap (λ z. covered_by_some (pos S) (dot P A) (dot A A) z slabs) e.w_is ∙ ap (λ q. covered_by_some (pos S) (dot q A) (dot A A) (spread q A) slabs) e.offset_is
    ∙ ap (λ a. covered_by_some (pos S) (dot (offset_at m p (pos k) (pos S)) a) (dot a a) (spread (offset_at m p (pos k) (pos S)) a) slabs) e.axis_is

-- the cell between two poses is the cell between their times
pub cell_of_poses : (scale : ℤ) (behind : Bool) (n height width : List ℤ) (m : SweepOf) (p : List ℤ) (k S : ℕ) (P Q A C : List ℤ)
    → P ≡ start_offset m p k S → Q ≡ end_offset m p k S → A ≡ start_axis m k S → C ≡ end_axis m k S
    → scale ≡ pos S → behind ≡ all_negative (dot_on_cell P Q A C) → n ≡ dot_on_cell A C A C → height ≡ product22 (dot_on_cell P Q A C) (dot_on_cell P Q A C)
    → width ≡ scaled4 (pos 4) (difference4 (product22 (dot_on_cell P Q P Q) (dot_on_cell A C A C)) (product22 (dot_on_cell P Q A C) (dot_on_cell P Q A C)))
    → IsCellOf scale behind n height width m p k S
cell_of_poses scale behind n height width m p k S P Q A C eP eQ eA eC es eb en eh ew =
    let n' : dot_on_cell A C A C ≡ n_list m k S = ap (λ a. dot_on_cell a C a C) eA ∙ ap (λ c. dot_on_cell (start_axis m k S) c (start_axis m k S) c) eC in
    let u' : dot_on_cell P Q A C ≡ u_list m p k S =
    ap (λ p. dot_on_cell p Q A C) eP ∙ ap (λ q. dot_on_cell (start_offset m p k S) q A C) eQ ∙ ap (λ a. dot_on_cell (start_offset m p k S) (end_offset m p k S) a C) eA
    ∙ ap (λ c. dot_on_cell (start_offset m p k S) (end_offset m p k S) (start_axis m k S) c) eC in
    let d' : dot_on_cell P Q P Q ≡ d_list m p k S = ap (λ p. dot_on_cell p Q p Q) eP ∙ ap (λ q. dot_on_cell (start_offset m p k S) q (start_offset m p k S) q) eQ in
    record {
      scale_is = es;
      behind_is = eb ∙ ap all_negative u';
      n_is = en ∙ n';
      height_is = eh ∙ ap (λ u. product22 u u) u';
      width_is = ew ∙ ap (λ d. scaled4 (pos 4) (difference4 (product22 d (dot_on_cell A C A C)) (product22 (dot_on_cell P Q A C) (dot_on_cell P Q A C)))) d'
          ∙ ap (λ n. scaled4 (pos 4) (difference4 (product22 (d_list m p k S) n) (product22 (dot_on_cell P Q A C) (dot_on_cell P Q A C)))) n'
          ∙ ap (λ u. scaled4 (pos 4) (difference4 (product22 (d_list m p k S) (n_list m k S)) (product22 u u))) u';
    }
