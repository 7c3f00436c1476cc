-- The boxes of moves, one box and one move more at a time.
use Rattle.std.proofs.Common.{◌≡◌, ◌∙◌, ℕ, ◌+◌, ◌-◌, ◌<◌, ◌≤◌, ◌≢◌, ◌⊎◌, List, [], ◌∷◌, ◌++◌, ⊎_elim, inl, inr, length, take, slice_index, get_or, arith, ap, refl, subst, sym}
use Rattle.std.proofs.lemmas.Bool.{cases_lt}
use Rattle.std.proofs.lemmas.List.{get_or_append_left, get_or_default, length-append, take-append-le, take_all}
use Rattle.std.proofs.lemmas.Option.{get_or_from_slice_get}
use Rattle.std.proofs.Math.Seq.{get_or-append_seam}
use Rattle.ray_grid.specs.Grids.{GridSize}
use Rattle.ray_grid.specs.declared.ray.Ray.{Ray}
use Rattle.ray_grid.specs.Lattice.{IsRay, point_of, points_of}
use Rattle.sweep_boxes.specs.declared.point_box.PointBox.{PointBox}
use Rattle.sweep_boxes.specs.Boxes.{IsInBox}
use Rattle.sweep_boxes.specs.Covers.{IsInSome}
use Rattle.job_model.specs.Tasks.{JobMove}
use Rattle.strip_plan.specs.declared.index_box.IndexBox.{IndexBox}
use Rattle.strip_plan.specs.Boxed.{AreHeld, ArePushed, Covers, HasBoxes, IsHeld, IsInOneOf}
use Rattle.strip_plan.specs.IndexBoxes.{AreBoxesOf, HasPoint, IsBoxOf, IsIndexed}
use Rattle.strip_plan.proofs.Places.{longer, same_at}

-- what is in one of the boxes up to a place and there too is in one of those before, or in that one
pub before_or_at : (boxes : List IndexBox) (start place : ℕ) (ray : Ray) (l : ℕ) → IsInOneOf boxes start (place + 1) ray l
    → (IsInOneOf boxes start place ray l) ⊎ ((d : IndexBox) → HasPoint (get_or boxes place d) ray l)
before_or_at boxes start place ray l is =
    ⊎_elim (λ less. inl (record { place = is.place; after = is.after; before = less; has = is.has }))
    (λ most.
    let before = is.before in
    let e : is.place ≡ place = omega (arith, before, most) in
    inr (subst (λ (k : ℕ). (d : IndexBox) → HasPoint (get_or boxes k d) ray l) e is.has)) (cases_lt is.place place)

-- in none of no boxes
pub in_none : (boxes : List IndexBox) (start : ℕ) (ray : Ray) (l : ℕ) → ¬ IsInOneOf boxes start start ray l
in_none boxes start ray l is = let after = is.after in let before = is.before in omega (arith, after, before)

-- in one of those up to a place further on
pub up_to : (boxes : List IndexBox) (start end place : ℕ) (ray : Ray) (l : ℕ) → end ≤ place → IsInOneOf boxes start end ray l → IsInOneOf boxes start place ray l
up_to boxes start end place ray l le is = record {
  place = is.place;
  after = is.after;
  before = let before = is.before in omega (arith, before, le);
  has = is.has;
}

still_in : (boxes more : List IndexBox) (start end : ℕ) (ray : Ray) (l : ℕ) → take (length boxes) more ≡ boxes → end ≤ length boxes → IsInOneOf boxes start end ray l
    → IsInOneOf more start end ray l
still_in boxes more start end ray l kept most is = record {
  place = is.place;
  after = is.after;
  before = is.before;
  has = λ d. subst (λ (b : IndexBox). HasPoint b ray l) (sym (same_at boxes more is.place d kept (let b = is.before in omega (arith, b, most)))) (is.has d);
}

-- no boxes, of no moves
of_none : (grid : GridSize) (slabs depth : ℕ) (moves : List JobMove) → HasBoxes grid slabs depth moves [] [] (0 ∷ []) 0
of_none grid slabs depth moves = record {
  as_many = refl;
  many = omega arith;
  within = λ n l. let e : n ≡ 0 = omega (arith, l) in subst (λ (k : ℕ). slice_index (0 ∷ []) k ≤ 0) (sym e) (omega arith);
  last = refl;
  hulls_fit = λ n d l. absurd (omega (arith, l));
  boxes_fit = λ n d l. absurd (omega (arith, l));
  each = λ n move d ray x l at is. absurd (omega (arith, l));
}

pub no_boxes : (grid : GridSize) (slabs depth : ℕ) (moves : List JobMove) (hulls boxes : List IndexBox) (starts : List ℕ) → hulls ≡ [] → boxes ≡ []
    → starts ≡ 0 ∷ [] → HasBoxes grid slabs depth moves hulls boxes starts 0
no_boxes grid slabs depth moves hulls boxes starts no_hulls none first =
    subst (λ (xs : List IndexBox). HasBoxes grid slabs depth moves xs boxes starts 0) (sym no_hulls)
    (subst (λ (xs : List IndexBox). HasBoxes grid slabs depth moves [] xs starts 0) (sym none)
    (subst (λ (xs : List ℕ). HasBoxes grid slabs depth moves [] [] xs 0) (sym first) (of_none grid slabs depth moves)))

-- one box more
one_box : (grid : GridSize) (boxes : List IndexBox) (box : IndexBox) → AreBoxesOf grid boxes → IsBoxOf grid box → AreBoxesOf grid (boxes ++ box ∷ [])
one_box grid boxes box fit is n d l =
    ⊎_elim (λ less. subst (IsBoxOf grid) (sym (get_or_append_left boxes (box ∷ []) d n less)) (fit n d less))
    (λ most.
    let e : n ≡ length boxes = omega (arith, l, most, length-append boxes (box ∷ [])) in
    subst (IsBoxOf grid) (sym (ap (λ k. get_or (boxes ++ box ∷ []) k d) e ∙ get_or-append_seam boxes box [] d)) is) (cases_lt n (length boxes))

-- a box is pushed after the others
pub one_pushed : (grid : GridSize) (held : List PointBox) (old boxes : List IndexBox) (box : IndexBox) (n : ℕ) (e : PointBox) → ArePushed grid held old boxes n → n < length held
    → IsIndexed grid (get_or held n e) box → ArePushed grid held old (boxes ++ box ∷ []) (n + 1)
one_pushed grid held old boxes box n e before within is =
    let long = before.many in record {
      kept = take-append-le (length old) boxes (box ∷ []) (omega (arith, long)) ∙ before.kept;
      many = omega (arith, length-append boxes (box ∷ []), long);
      each = λ k p d l.
          ⊎_elim
          (λ less.
          subst (IsIndexed grid (get_or held k p)) (sym (get_or_append_left boxes (box ∷ []) d (length old + k) (omega (arith, less, long)))) (before.each k p d less))
          (λ most.
          let same : k ≡ n = omega (arith, l, most) in
          let place : length old + k ≡ length boxes = omega (arith, same, long) in
          let there : get_or held k p ≡ get_or held n e = ap (λ i. get_or held i p) same ∙ get_or_default held n p e within in
          subst (IsIndexed grid (get_or held k p)) (sym (ap (λ i. get_or (boxes ++ box ∷ []) i d) place ∙ get_or-append_seam boxes box [] d))
          (subst (λ (q : PointBox). IsIndexed grid q box) (sym there) is))
          (cases_lt k n);
    }

pub none_pushed : (grid : GridSize) (held : List PointBox) (boxes : List IndexBox) → ArePushed grid held boxes boxes 0
none_pushed grid held boxes = record {
  kept = take_all (length boxes) boxes (omega arith);
  many = omega arith;
  each = λ n p d l. absurd (omega (arith, l));
}

-- what is pushed onto boxes of the grid are boxes of the grid
pub pushed_fit : (grid : GridSize) (held : List PointBox) (old new : List IndexBox) (count : ℕ) → ArePushed grid held old new count → AreBoxesOf grid old
    → AreBoxesOf grid new
pushed_fit grid held old new count are fit n d l =
    let many = are.many in
    ⊎_elim (λ less. subst (IsBoxOf grid) (sym (same_at old new n d are.kept less)) (fit n d less))
    (λ most.
    let place : length old + (n - length old) ≡ n = omega (arith, most) in
    subst (λ (k : ℕ). IsBoxOf grid (get_or new k d)) place (are.each (n - length old) (record { low = []; high = [] }) d (omega (arith, l, most, many))).on_grid)
    (cases_lt n (length old))

-- a point of the lattice in one of the boxes is in one of those that are pushed
pub pushed_has : (grid : GridSize) (held : List PointBox) (old new : List IndexBox) (ray : Ray) (l : ℕ) → ArePushed grid held old new (length held) → IsRay grid ray
    → l < points_of grid ray.family → IsInSome held 0 (point_of grid ray l) → IsInOneOf new (length old) (length new) ray l
pushed_has grid held old new ray l are on lt is =
    let many = are.many in let within = is.within in record {
      place = length old + is.place;
      after = omega arith;
      before = omega (arith, many, within);
      has = λ d. (are.each is.place (record { low = []; high = [] }) d within).has ray l on lt (is.inside (record { low = []; high = [] }));
    }

-- the box that joins those from a place on, where that is the first after the others
pub hull_has : (hull : IndexBox) (old new boxes : List IndexBox) (start : ℕ) → boxes ≡ new → start ≡ length old
    → ((ray : Ray) (l : ℕ) → IsInOneOf boxes start (length boxes) ray l → HasPoint hull ray l)
    → (ray : Ray) (l : ℕ) → IsInOneOf new (length old) (length new) ray l → HasPoint hull ray l
hull_has hull old new boxes start same first has =
    subst (λ (xs : List IndexBox). (ray : Ray) (l : ℕ) → IsInOneOf xs (length old) (length xs) ray l → HasPoint hull ray l) same
    (subst (λ (k : ℕ). (ray : Ray) (l : ℕ) → IsInOneOf boxes k (length boxes) ray l → HasPoint hull ray l) first has)

-- several boxes stay after the others, a single one does not
pub several_held : (grid : GridSize) (held : List PointBox) (hull : IndexBox) (old new : List IndexBox) → ArePushed grid held old new (length held) → AreBoxesOf grid old
    → IsBoxOf grid hull → ((ray : Ray) (l : ℕ) → IsInOneOf new (length old) (length new) ray l → HasPoint hull ray l) → AreHeld grid held hull old new
several_held grid held hull old new are fit fits has = record {
  kept = are.kept;
  hull_fits = fits;
  fit = pushed_fit grid held old new (length held) are fit;
  holds = λ ray l on lt is. let here = pushed_has grid held old new ray l are on lt is in record { in_hull = has ray l here; in_one = λ some. here };
}

pub one_held : (grid : GridSize) (held : List PointBox) (hull : IndexBox) (old new left : List IndexBox) → ArePushed grid held old new (length held) → AreBoxesOf grid old
    → IsBoxOf grid hull → ((ray : Ray) (l : ℕ) → IsInOneOf new (length old) (length new) ray l → HasPoint hull ray l) → left ≡ old → AreHeld grid held hull old left
one_held grid held hull old new left are fit fits has same =
    subst (AreHeld grid held hull old) (sym same)
    (record {
      kept = take_all (length old) old (omega arith);
      hull_fits = fits;
      fit = fit;
      holds = λ ray l on lt is. record { in_hull = has ray l (pushed_has grid held old new ray l are on lt is); in_one = λ some. absurd (some refl) };
    })

-- one move more, by its boxes in a region that has the whole lattice
pub more_boxes : (grid : GridSize) (slabs depth : ℕ) (moves : List JobMove) (hulls boxes more : List IndexBox) (starts : List ℕ) (count : ℕ) (next : JobMove) (region : PointBox)
    (held : List PointBox) (hull : IndexBox) (end : ℕ) → HasBoxes grid slabs depth moves hulls boxes starts count → end ≡ length more → next ≡ get_or moves count next
    → ((ray : Ray) (l : ℕ) → IsRay grid ray → l < points_of grid ray.family → IsInBox region (point_of grid ray l))
    → Covers held region (record { cutter = next.cutter; slabs = slabs }) next.sweep depth → AreHeld grid held hull boxes more
    → HasBoxes grid slabs depth moves (hulls ++ hull ∷ []) more (starts ++ end ∷ []) (count + 1)
more_boxes grid slabs depth moves hulls boxes more starts count next region held hull end has ends read holds covers are =
    let many = has.many in
    let as_many = has.as_many in
    let grown = longer boxes more are.kept in
    let early : (n : ℕ) → n < count + 1 → slice_index (starts ++ end ∷ []) n ≡ slice_index starts n =
    λ n l. get_or_append_left starts (end ∷ []) 0 n (omega (arith, l, many)) in
    let late : (n : ℕ) → n ≡ count + 1 → slice_index (starts ++ end ∷ []) n ≡ end =
    λ n e. ap (λ i. get_or (starts ++ end ∷ []) i 0) (let q : n ≡ length starts = omega (arith, e, many) in q) ∙ get_or-append_seam starts end [] 0 in
    record {
      as_many = omega (arith, length-append hulls (hull ∷ []), as_many);
      many = omega (arith, length-append starts (end ∷ []), many);
      within = λ n l.
          ⊎_elim (λ less. let w = has.within n less in let e = early n less in omega (arith, w, e, grown))
          (λ most. let e = late n (omega (arith, l, most)) in omega (arith, e, ends)) (cases_lt n (count + 1));
      last = late (count + 1) refl ∙ ends;
      hulls_fit = one_box grid hulls hull has.hulls_fit are.hull_fits;
      boxes_fit = are.fit;
      each = λ n move d ray x l at is.
          ⊎_elim
          (λ less.
          let first = early n (omega (arith, less)) in let second = early (n + 1) (omega (arith, less)) in
          let here = has.each n move d ray x less at is in
          let own = get_or_append_left hulls (hull ∷ []) d n (omega (arith, less, as_many)) in
          let still = λ (some : slice_index starts n ≢ slice_index starts (n + 1)).
          still_in boxes more (slice_index starts n) (slice_index starts (n + 1)) ray x are.kept (has.within (n + 1) (omega (arith, less))) (here.in_one some) in
          subst (λ (b : IndexBox). IsHeld b more (slice_index (starts ++ end ∷ []) n) (slice_index (starts ++ end ∷ []) (n + 1)) ray x) (sym own)
          (subst (λ (k : ℕ). IsHeld (get_or hulls n d) more k (slice_index (starts ++ end ∷ []) (n + 1)) ray x) (sym first)
          (subst (λ (k : ℕ). IsHeld (get_or hulls n d) more (slice_index starts n) k ray x) (sym second) (record { in_hull = here.in_hull; in_one = still }))))
          (λ most.
          let e : n ≡ count = omega (arith, l, most) in
          let same : next ≡ move = read ∙ ap (λ i. get_or moves i next) (sym e) ∙ get_or_from_slice_get moves n move next at in
          let first : slice_index (starts ++ end ∷ []) n ≡ length boxes = early n l ∙ ap (λ i. slice_index starts i) e ∙ has.last in
          let second : slice_index (starts ++ end ∷ []) (n + 1) ≡ length more = late (n + 1) (omega (arith, e)) ∙ ends in
          let own : get_or (hulls ++ hull ∷ []) n d ≡ hull = ap (λ k. get_or (hulls ++ hull ∷ []) k d) (let q : n ≡ length hulls = omega (arith, e, as_many) in q) ∙ get_or-append_seam hulls hull [] d in
          let mine = subst (λ (m : JobMove). Covers held region (record { cutter = m.cutter; slabs = slabs }) m.sweep depth) same covers in
          let here = are.holds ray x is.on_grid is.index (mine (point_of grid ray x) (holds ray x is.on_grid is.index) is.possible) in
          subst (λ (b : IndexBox). IsHeld b more (slice_index (starts ++ end ∷ []) n) (slice_index (starts ++ end ∷ []) (n + 1)) ray x) (sym own)
          (subst (λ (k : ℕ). IsHeld hull more k (slice_index (starts ++ end ∷ []) (n + 1)) ray x) (sym first)
          (subst (λ (k : ℕ). IsHeld hull more (length boxes) k ray x) (sym second) here)))
          (cases_lt n count);
    }
