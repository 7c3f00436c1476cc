-- Which places are below the band of a step.
use Rattle.std.proofs.Common.{◌≡◌, true, ℕ, ◌+◌, ◌*◌, ◌≤◌, ◌<◌, List, [], ◌∷◌, ℤ, pos, negsuc, ◌+ℤ◌, ◌*ℤ◌, ◌-ℤ◌, ◌≤ℤ◌, ◌<ℤ◌, inr, ⊎_elim, unsigned_abs, arith, refl, sym, subst, ap, ◌∙◌}
use Rattle.std.proofs.lemmas.Int.{ints}
use Rattle.space.specs.Sweeps.{SweepOf, axis_at, offset_at}
use Rattle.space.specs.Vectors.{cross, difference, dot, sum}
use Rattle.space.proofs.Naturals.{dot_natural, square_not_negative}
use Rattle.space.proofs.Solver.{var, mul, ring}
use Rattle.bern_form.specs.Between.{is_unexcluded_between}
use Rattle.bern_form.specs.Cells.{dot_on_cell, scaled_square}
use Rattle.bern_form.specs.Slab.{SlabSize}
use Rattle.bern_form.proofs.Finer.{ExcludedWith}
use Rattle.sweep_boxes.specs.declared.band.Band.{Band}
use Rattle.sweep_boxes.specs.declared.band_terms.BandTerms.{BandTerms}
use Rattle.sweep_boxes.specs.declared.sweep_interval.SweepInterval.{SweepInterval}
use Rattle.sweep_boxes.specs.BandTerms.{AreBandTermsOf, IsHalfWidth, IsShortest, IsSideSlack, IsStepAt}
use Rattle.sweep_boxes.specs.Bands.{IsOnBand}
use Rattle.sweep_boxes.specs.Held.{IsGrown, IsHeightSlack, IsSpread}
use Rattle.sweep_boxes.specs.Intervals.{IsNearer, height_change, middle_offset, moment_change, offset_from}
use Rattle.sweep_boxes.specs.Limits.{place_limit}
use Rattle.sweep_boxes.specs.Made.{IsSweepInterval}
use Rattle.sweep_boxes.proofs.AlongSide.{along_with, spread_by}
use Rattle.sweep_boxes.proofs.Boxed.{offset_is}
use Rattle.sweep_boxes.proofs.Intervals.{IsUnder, beside}
use Rattle.sweep_boxes.proofs.Kept.{over_or, some_left, under_of}
use Rattle.sweep_boxes.proofs.Numbers.{product_mono, sizes_of}
use Rattle.sweep_boxes.proofs.Rising.{IsAtLeast, risen_by}
use Rattle.sweep_boxes.proofs.Shortest.{at_least}
use Rattle.sweep_boxes.proofs.Sweeps.{axes_step, axes_sum, offsets_step, offsets_sum}
use Rattle.sweep_boxes.proofs.Triangle.{square_of_abs}

-- for the vectors that the ends' sums and differences are: a place of a slab is as high as the slab begins, less the height slack
pub risen_with : (p q a c v x d e : List ℤ) (S : ℕ) (slab : SlabSize) (r l b : ℕ) → sum p q ≡ v → sum a c ≡ x → difference q p ≡ d → difference c a ≡ e
    → IsAtLeast (scaled_square S slab.lo) a c r → ¬ ExcludedWith slab S (dot_on_cell p q a c) (dot_on_cell a c a c) (dot_on_cell p q p q) → 2 * (l + b) < r
    → unsigned_abs (height_change v x d e) ≤ l → unsigned_abs (dot d e) ≤ b → (pos r -ℤ pos (l + b)) ≤ℤ dot v x
risen_with p q a c v x d e S slab r l b ev ex ed ee least left room =
    let risen : List ℤ → List ℤ → List ℤ → List ℤ → Type 0 = λ v x d e. unsigned_abs (height_change v x d e) ≤ l → unsigned_abs (dot d e) ≤ b → (pos r -ℤ pos (l + b)) ≤ℤ dot v x in
    subst (λ (z : List ℤ). risen z x d e) ev (subst (λ (z : List ℤ). risen (sum p q) z d e) ex (subst (λ (z : List ℤ). risen (sum p q) (sum a c) z e) ed
    (subst (λ (z : List ℤ). risen (sum p q) (sum a c) (difference q p) z) ee (λ change bend. risen_by p q a c S slab r l b least left change bend room))))

-- and it is near the axis
near_by : (p q a c : List ℤ) (S : ℕ) (slab : SlabSize) (r m n : ℕ) → IsUnder (scaled_square S slab.dia) a c r
    → ¬ ExcludedWith slab S (dot_on_cell p q a c) (dot_on_cell a c a c) (dot_on_cell p q p q)
    → dot (moment_change (sum p q) (sum a c) (difference q p) (difference c a)) (moment_change (sum p q) (sum a c) (difference q p) (difference c a)) ≤ℤ pos (m * m)
    → dot (cross (difference q p) (difference c a)) (cross (difference q p) (difference c a)) ≤ℤ pos (n * n)
    → dot (cross (sum p q) (sum a c)) (cross (sum p q) (sum a c)) ≤ℤ pos ((r + (m + n)) * (r + (m + n)))
near_by p q a c S slab r m n under left change bend =
    ⊎_elim (λ near. near) (λ far. absurd (left (inr (inr (inr (beside p q a c (scaled_square S slab.dia) r m n under change bend far))))))
    (over_or (dot (cross (sum p q) (sum a c)) (cross (sum p q) (sum a c))) ((r + (m + n)) * (r + (m + n))))

near_with : (p q a c v x d e : List ℤ) (S : ℕ) (slab : SlabSize) (r m n : ℕ) → sum p q ≡ v → sum a c ≡ x → difference q p ≡ d → difference c a ≡ e
    → IsUnder (scaled_square S slab.dia) a c r → ¬ ExcludedWith slab S (dot_on_cell p q a c) (dot_on_cell a c a c) (dot_on_cell p q p q)
    → dot (moment_change v x d e) (moment_change v x d e) ≤ℤ pos (m * m) → dot (cross d e) (cross d e) ≤ℤ pos (n * n)
    → dot (cross v x) (cross v x) ≤ℤ pos ((r + (m + n)) * (r + (m + n)))
near_with p q a c v x d e S slab r m n ev ex ed ee under left =
    let near : List ℤ → List ℤ → List ℤ → List ℤ → Type 0 = λ v x d e.
    dot (moment_change v x d e) (moment_change v x d e) ≤ℤ pos (m * m) → dot (cross d e) (cross d e) ≤ℤ pos (n * n) → dot (cross v x) (cross v x) ≤ℤ pos ((r + (m + n)) * (r + (m + n))) in
    subst (λ (z : List ℤ). near z x d e) ev (subst (λ (z : List ℤ). near (sum p q) z d e) ex (subst (λ (z : List ℤ). near (sum p q) (sum a c) z e) ed
    (subst (λ (z : List ℤ). near (sum p q) (sum a c) (difference q p) z) ee (near_by p q a c S slab r m n under left))))

-- the numbers of a step
pub rise_is : (scale S : ℕ) (begin g rise : ℤ) → scale ≡ 2 * S → pos 0 ≤ℤ begin → pos 0 ≤ℤ g → rise ≡ (pos scale *ℤ begin) *ℤ g → rise ≡ pos (2 * S * unsigned_abs begin * unsigned_abs g)
rise_is scale S (pos b) (pos g) rise e hb hg is = is ∙ ap (λ (t : ℕ). (pos t *ℤ pos b) *ℤ pos g) e ∙ whole S b g where
  whole : (S b g : ℕ) → (pos (2 * S) *ℤ pos b) *ℤ pos g ≡ pos (2 * S * b * g)
  whole S b g = omega (arith, ints)
rise_is scale S (negsuc b) g rise e hb hg is = absurd (omega (arith, ints, hb))
rise_is scale S (pos b) (negsuc g) rise e hb hg is = absurd (omega (arith, ints, hg))

pub roomy : (height_slack rise : ℤ) (n r : ℕ) → height_slack ≡ pos n → rise ≡ pos r → (pos 2 *ℤ height_slack) <ℤ rise → 2 * n < r
roomy height_slack rise n r e f h = omega (arith, ints, e, f, h)

none_below : (u height height_slack rise : ℤ) (n r : ℕ) → height_slack ≡ pos n → rise ≡ pos r → height ≡ rise -ℤ height_slack → (pos r -ℤ pos n) ≤ℤ u → u <ℤ height → ⊥
none_below u height height_slack rise n r e f is high low = omega (arith, ints, e, f, is, high, low)

square_as : (moment z : ℤ) (n : ℕ) → moment ≡ pos n → z ≤ℤ pos (n * n) → z ≤ℤ (moment *ℤ moment)
square_as moment z n e h = subst (λ (y : ℤ). z ≤ℤ (y *ℤ y)) (sym e) (omega (arith, ints, h))

length_as : (across : ℤ) (z n : ℕ) → across ≡ pos n → z ≤ n → pos z ≤ℤ across
length_as across z n e h = omega (arith, ints, e, h)

pub on_step : (interval : SweepInterval) (m : SweepOf) (k S : ℕ) (slabs : List SlabSize) (p : List ℤ) (band : Band) (begin widest height_slack g rise : ℤ) (side far : List ℤ)
    → IsSweepInterval interval m k S → IsStepAt begin widest slabs → is_unexcluded_between slabs m p k (k + 1) S ≡ true → IsNearer (middle_offset m p k S) far
    → IsHeightSlack height_slack interval far → IsGrown band.moment interval widest far → IsSpread band.across side interval widest far → IsShortest g interval.axis interval.axis_change
    → pos 0 ≤ℤ begin → rise ≡ (pos interval.scale *ℤ begin) *ℤ g → (pos 2 *ℤ height_slack) <ℤ rise → band.height ≡ rise -ℤ height_slack
    → IsOnBand band side (middle_offset m p k S) interval.axis
on_step interval m k S slabs p band begin widest height_slack g rise side far of stepped left near l w x short some is room height =
    let one = some_left slabs m p k (k + 1) S left in
    let P = offset_at m p (pos k) (pos S) in let Q = offset_at m p (pos (k + 1)) (pos S) in let A = axis_at m (pos k) (pos S) in let C = axis_at m (pos (k + 1)) (pos S) in
    let v = middle_offset m p k S in
    let ev = offsets_sum m p k S in let ex = axes_sum m k S ∙ sym of.axis in let ed = offsets_step m p k S ∙ sym of.offset_change in let ee = axes_step m k S ∙ sym of.axis_change in
    let r = 2 * S * unsigned_abs begin * unsigned_abs g in
    let reached : rise ≡ pos r = rise_is interval.scale S begin g rise of.scale some short.some is in
    ⊎_elim
    (λ high.
    let risen = risen_with P Q A C v interval.axis interval.offset_change interval.axis_change S one.slab r l.v l.b ev ex ed ee (at_least S one.slab.lo begin g A C interval.axis interval.axis_change ex ee short some high) one.left
    (roomy height_slack rise (l.v + l.b) r l.total_is reached room) (l.change v near) l.bend in
    let none : dot v interval.axis <ℤ band.height → ⊥ = none_below (dot v interval.axis) band.height height_slack rise (l.v + l.b) r l.total_is reached height risen in
    record { about = λ below. absurd (none below); across = λ below. absurd (none below) })
    (λ narrow.
    let under : (r : ℕ) → (((pos interval.scale *ℤ widest) *ℤ (pos interval.scale *ℤ widest)) *ℤ interval.longest) ≤ℤ pos (r * r) → IsUnder (scaled_square S one.slab.dia) A C r = λ r wide. record {
      some = square_not_negative (pos S *ℤ one.slab.dia);
      first = under_of interval.scale S one.slab.dia widest interval.longest (dot A A) (pos (r * r)) of.scale narrow.0 narrow.1 (dot_natural A) of.first wide;
      last = under_of interval.scale S one.slab.dia widest interval.longest (dot C C) (pos (r * r)) of.scale narrow.0 narrow.1 (dot_natural C) of.last wide;
    } in
    record {
      about = λ below.
          square_as band.moment (dot (cross v interval.axis) (cross v interval.axis)) (w.r + (w.m + w.n)) w.total_is
          (near_with P Q A C v interval.axis interval.offset_change interval.axis_change S one.slab w.r w.m w.n ev ex ed ee (under w.r w.wide) one.left (w.change v near) w.bend);
      across = λ below.
          length_as band.across (unsigned_abs (dot side (cross v interval.axis))) (x.t + (x.q + x.s)) x.across_is
          (along_with P Q A C v interval.axis interval.offset_change interval.axis_change side S one.slab x.r x.e x.m x.n x.t x.q x.s ev ex ed ee (under x.r x.wide) one.left
          record { root = x.root; spare = x.spare; change = x.change v near; bend = x.bend; side_change = x.side_change v near; side_bend = x.side_bend });
    })
    (stepped one.slab one.among)

pub on_band : (interval : SweepInterval) (m : SweepOf) (k S : ℕ) (slabs : List SlabSize) (p : List ℤ) (band : Band) (begin widest height_slack g rise moment across : ℤ) (side far : List ℤ)
    → IsSweepInterval interval m k S → IsStepAt begin widest slabs → is_unexcluded_between slabs m p k (k + 1) S ≡ true → IsNearer (middle_offset m p k S) far
    → IsHeightSlack height_slack interval far → IsGrown moment interval widest far → IsSpread across side interval widest far → IsShortest g interval.axis interval.axis_change
    → pos 0 ≤ℤ begin → rise ≡ (pos interval.scale *ℤ begin) *ℤ g → (pos 2 *ℤ height_slack) <ℤ rise
    → band.height ≡ rise -ℤ height_slack → band.moment ≡ moment → band.across ≡ across
    → IsOnBand band side (offset_from (pos interval.scale) interval.tip p) interval.axis
on_band interval m k S slabs p band begin widest height_slack g rise moment across side far of stepped left near l w x short some is room height moment_is across_is =
    subst (λ (v : List ℤ). IsOnBand band side v interval.axis) (sym (offset_is interval m k S p of))
    (on_step interval m k S slabs p band begin widest height_slack g rise side far of stepped left near l (subst (λ (z : ℤ). IsGrown z interval widest far) (sym moment_is) w)
    (subst (λ (z : ℤ). IsSpread z side interval widest far) (sym across_is) x) short some is room height)

-- the numbers of a band, from those that all bands share
pub half_is : (x longest long half : ℤ) → half ≡ x *ℤ long → longest ≤ℤ (long *ℤ long) → ((x *ℤ x) *ℤ longest) ≤ℤ (half *ℤ half)
half_is x longest long half e h =
    let more : (longest *ℤ (x *ℤ x)) ≤ℤ ((long *ℤ long) *ℤ (x *ℤ x)) = product_mono (x *ℤ x) longest (long *ℤ long) (square_not_negative x) h in
    let first : longest *ℤ (x *ℤ x) ≡ (x *ℤ x) *ℤ longest = ring (x ∷ longest ∷ []) (mul (var 1) (mul (var 0) (var 0))) (mul (mul (var 0) (var 0)) (var 1)) refl in
    let second : (long *ℤ long) *ℤ (x *ℤ x) ≡ (x *ℤ long) *ℤ (x *ℤ long) =
    ring (x ∷ long ∷ []) (mul (mul (var 1) (var 1)) (mul (var 0) (var 0))) (mul (mul (var 0) (var 1)) (mul (var 0) (var 1))) refl in
    subst (λ (z : ℤ). ((x *ℤ x) *ℤ longest) ≤ℤ (z *ℤ z)) (sym e) (subst (λ (z : ℤ). z ≤ℤ ((x *ℤ long) *ℤ (x *ℤ long))) first (subst (λ (z : ℤ). (longest *ℤ (x *ℤ x)) ≤ℤ z) second more))

pub scaled_small : (scale : ℕ) (x : ℤ) → scale ≤ 128 → unsigned_abs x ≤ scale * place_limit → unsigned_abs x ≤ 128 * place_limit
scaled_small scale x h k = omega (arith, h, k)

pub length_some : (x y : ℤ) → pos 0 ≤ℤ x → pos 0 ≤ℤ y → pos 0 ≤ℤ (x *ℤ y)
length_some (pos m) (pos n) h k = omega (arith, ints)
length_some (negsuc m) y h k = absurd (omega (arith, ints, h))
length_some (pos m) (negsuc n) h k = absurd (omega (arith, ints, k))

pub scaled_some : (scale : ℕ) (y x : ℤ) → x ≡ pos scale *ℤ y → pos 0 ≤ℤ y → pos 0 ≤ℤ x
scaled_some scale y x e h = subst (λ (z : ℤ). pos 0 ≤ℤ z) (sym e) (length_some (pos scale) y (omega (arith, ints)) h)

pub grown_at : (band_terms : BandTerms) (interval : SweepInterval) (widest half total : ℤ) (side far : List ℤ) → AreBandTermsOf band_terms interval side far → IsHalfWidth half widest interval
    → total ≡ half +ℤ (band_terms.change +ℤ band_terms.bent) → pos 0 ≤ℤ half → pos 0 ≤ℤ band_terms.change → pos 0 ≤ℤ band_terms.bent → IsGrown total interval widest far
grown_at band_terms interval widest half total side far of wide is some some_change some_bent = record {
  r = unsigned_abs half;
  m = unsigned_abs band_terms.change;
  n = unsigned_abs band_terms.bent;
  total_is = sizes_of half band_terms.change band_terms.bent total is some some_change some_bent;
  wide = subst (λ (z : ℤ). (((pos interval.scale *ℤ widest) *ℤ (pos interval.scale *ℤ widest)) *ℤ interval.longest) ≤ℤ z) (sym (square_of_abs half)) wide;
  change = λ v nearer.
      subst (λ (z : ℤ). dot (moment_change v interval.axis interval.offset_change interval.axis_change) (moment_change v interval.axis interval.offset_change interval.axis_change) ≤ℤ z) (sym (square_of_abs band_terms.change)) (of.change v nearer);
  bend = subst (λ (z : ℤ). dot (cross interval.offset_change interval.axis_change) (cross interval.offset_change interval.axis_change) ≤ℤ z) (sym (square_of_abs band_terms.bent)) of.bend;
}

-- what the root of a band's product is of
pub record IsRooted (reach half : ℤ) (band_terms : BandTerms) : Type 0 where
  pub some : pos 0 ≤ℤ reach
  pub root : (band_terms.square *ℤ (half *ℤ half +ℤ band_terms.third)) ≤ℤ (reach *ℤ reach)

pub spread_at : (band_terms : BandTerms) (interval : SweepInterval) (widest half reach across : ℤ) (side far : List ℤ) → AreBandTermsOf band_terms interval side far → IsHalfWidth half widest interval
    → across ≡ reach +ℤ band_terms.side_slack → IsRooted reach half band_terms → pos 0 ≤ℤ band_terms.change → pos 0 ≤ℤ band_terms.bent → pos 0 ≤ℤ band_terms.third → IsSpread across side interval widest far
spread_at band_terms interval widest half reach across side far of wide is rooted some_change some_bent some_third =
    spread_by across half band_terms.change band_terms.bent band_terms.third reach band_terms.side_slack interval widest side far record {
      across_is = is;
      change_some = some_change;
      bent_some = some_bent;
      third_some = some_third;
      reach_some = rooted.some;
      wide = wide;
      changes = of.change;
      bends = of.bend;
      thirds = of.third;
      root = subst (λ (z : ℤ). (z *ℤ (half *ℤ half +ℤ band_terms.third)) ≤ℤ (reach *ℤ reach)) of.square_is rooted.root;
      side_slacks = of.side_slack;
    }

-- the same numbers are of the same terms
pub record IsMadeOf (band_terms : BandTerms) (height_slack shortest longest change bent square third side_slack : ℤ) : Type 0 where
  pub height_slack_is : band_terms.height_slack ≡ height_slack
  pub shortest_is : band_terms.shortest ≡ shortest
  pub longest_is : band_terms.longest ≡ longest
  pub change_is : band_terms.change ≡ change
  pub bent_is : band_terms.bent ≡ bent
  pub square_is : band_terms.square ≡ square
  pub third_is : band_terms.third ≡ third
  pub side_slack_is : band_terms.side_slack ≡ side_slack

pub band_terms_as : (band_terms : BandTerms) (height_slack shortest longest change bent square third side_slack : ℤ) (interval : SweepInterval) (side far : List ℤ) → IsMadeOf band_terms height_slack shortest longest change bent square third side_slack
    → IsHeightSlack height_slack interval far → IsShortest shortest interval.axis interval.axis_change → interval.longest ≤ℤ (longest *ℤ longest)
    → ((v : List ℤ) → IsNearer v far → dot (moment_change v interval.axis interval.offset_change interval.axis_change) (moment_change v interval.axis interval.offset_change interval.axis_change) ≤ℤ (change *ℤ change))
    → dot (cross interval.offset_change interval.axis_change) (cross interval.offset_change interval.axis_change) ≤ℤ (bent *ℤ bent) → square ≡ dot side side
    → ((change +ℤ (bent +ℤ bent)) *ℤ (change +ℤ (bent +ℤ bent))) ≤ℤ (pos 3 *ℤ third) → IsSideSlack side_slack side interval far → AreBandTermsOf band_terms interval side far
band_terms_as band_terms height_slack shortest longest change bent square third side_slack interval side far made l s g m b q t y = record {
  height_slack = subst (λ (z : ℤ). IsHeightSlack z interval far) (sym made.height_slack_is) l;
  shortest = subst (λ (z : ℤ). IsShortest z interval.axis interval.axis_change) (sym made.shortest_is) s;
  long = subst (λ (z : ℤ). interval.longest ≤ℤ (z *ℤ z)) (sym made.longest_is) g;
  change = λ v nearer.
      subst (λ (z : ℤ). dot (moment_change v interval.axis interval.offset_change interval.axis_change) (moment_change v interval.axis interval.offset_change interval.axis_change) ≤ℤ (z *ℤ z)) (sym made.change_is) (m v nearer);
  bend = subst (λ (z : ℤ). dot (cross interval.offset_change interval.axis_change) (cross interval.offset_change interval.axis_change) ≤ℤ (z *ℤ z)) (sym made.bent_is) b;
  square_is = made.square_is ∙ q;
  third =
      subst (λ (z : ℤ). ((z +ℤ (band_terms.bent +ℤ band_terms.bent)) *ℤ (z +ℤ (band_terms.bent +ℤ band_terms.bent))) ≤ℤ (pos 3 *ℤ band_terms.third)) (sym made.change_is)
      (subst (λ (z : ℤ). ((change +ℤ (z +ℤ z)) *ℤ (change +ℤ (z +ℤ z))) ≤ℤ (pos 3 *ℤ band_terms.third)) (sym made.bent_is)
      (subst (λ (z : ℤ). ((change +ℤ (bent +ℤ bent)) *ℤ (change +ℤ (bent +ℤ bent))) ≤ℤ (pos 3 *ℤ z)) (sym made.third_is) t));
  side_slack = subst (λ (z : ℤ). IsSideSlack z side interval far) (sym made.side_slack_is) y;
}
