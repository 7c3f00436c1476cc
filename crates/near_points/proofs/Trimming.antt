-- The points of a range, and those of them that a band leaves out.
use Rattle.std.proofs.Common.{◌≡◌, ◌⊎◌, Bool, true, false, not, ◌&&◌, ℕ, ◌+◌, ◌-◌, ◌<◌, ◌≤◌, ℤ, pos, ◌-ℤ◌, ◌*ℤ◌, ◌≤ℤ◌, ◌<ℤ◌, int_le, int_lt, leb, ltb, arith, refl, sym, ap, ap₂, ⊎_elim, ◌∙◌, FitsSigned, to_z, of_z}
use Rattle.std.proofs.lemmas.Int.{ints, to_z-of_z}
use Rattle.std.proofs.lemmas.Bool.{and_parts, cases_lt, le-leb, le-ltb, lt-leb, lt-ltb}
use mir.Syntax.{w64}
use borrow.Author.Tests.{leb-true, ltb-true}
use Rattle.vf_spans.specs.Members.{in_range}
use Rattle.sweep_boxes.specs.declared.band.Band.{Band}
use Rattle.space.proofs.Tests.{decides_le}
use Rattle.near_points.specs.Trimmed.{is_within}
use Rattle.near_points.proofs.Bits.{opposite_reckoned}
use Rattle.near_points.proofs.Told.{above_false, first_false, second_false}

-- no index lies in a range that ends where it begins, or before
pub in_none_from : (x l m : ℕ) → m ≤ l → in_range x (l, m) ≡ false
in_none_from x l m le =
    ⊎_elim (λ (before : x < l). first_false (leb l x) (ltb x m) (lt-leb l x before)) (λ (on : l ≤ x). second_false (leb l x) (ltb x m) (le-ltb x m (omega (arith, on, le)))) (cases_lt x l)

pub in_none : (x l : ℕ) → in_range x (l, l) ≡ false
in_none x l = in_none_from x l l (omega arith)

-- a range by the bits of a word that starts at an index
pub in_range_on : (first b l m : ℕ) → first ≤ l → first ≤ m → (leb (l - first) b && ltb b (m - first)) ≡ in_range (first + b) (l, m)
in_range_on first b l m from to = ap₂ (λ u v. u && v) (low (cases_lt b (l - first))) (high (cases_lt b (m - first))) where
  low : (b < l - first) ⊎ (l - first ≤ b) → leb (l - first) b ≡ leb l (first + b)
  low = ⊎_elim (λ (h : b < l - first). lt-leb (l - first) b h ∙ sym (lt-leb l (first + b) (omega (arith, h, from)))) (λ (h : l - first ≤ b). le-leb (l - first) b h ∙ sym (le-leb l (first + b) (omega (arith, h, from))))

  high : (b < m - first) ⊎ (m - first ≤ b) → ltb b (m - first) ≡ ltb (first + b) m
  high = ⊎_elim (λ (h : b < m - first). lt-ltb b (m - first) h ∙ sym (lt-ltb (first + b) m (omega (arith, h, to)))) (λ (h : m - first ≤ b). le-ltb b (m - first) h ∙ sym (le-ltb (first + b) m (omega (arith, h, to))))

not_false : (x : Bool) → x ≡ false → true ≡ not x
not_false x h = ap not (sym h)

-- the test of a band at a point that is too far to a side for it, or else by the square of the moment
pub beyond_left : (band : Band) (side width : ℤ) → side <ℤ (pos 0 -ℤ band.across) → true ≡ not (is_within band side width)
beyond_left band side width h =
    let w = int_le width (band.moment *ℤ band.moment) in let left = int_le (pos 0 -ℤ band.across) side in let right = int_le side band.across in
    not_false (is_within band side width) (second_false w (left && right) (first_false left right (above_false (pos 0 -ℤ band.across) side h)))

pub beyond_right : (band : Band) (side width : ℤ) → band.across <ℤ side → true ≡ not (is_within band side width)
beyond_right band side width h =
    let w = int_le width (band.moment *ℤ band.moment) in let left = int_le (pos 0 -ℤ band.across) side in let right = int_le side band.across in
    not_false (is_within band side width) (second_false w (left && right) (second_false left right (above_false side band.across h)))

yes_right : (x y : Bool) → y ≡ true → x ≡ (x && y)
yes_right true y h = sym h
yes_right false y h = refl

yes_both : (x y : Bool) → x ≡ true → y ≡ true → (x && y) ≡ true
yes_both x y h k = ap (λ z. z && y) h ∙ k

turned_round : (x y : ℤ) → int_lt x y ≡ not (int_le y x)
turned_round x y = grind (arith, ints)

pub beyond_about : (band : Band) (side width : ℤ) → (pos 0 -ℤ band.across) ≤ℤ side → side ≤ℤ band.across
    → int_lt (band.moment *ℤ band.moment) width ≡ not (is_within band side width)
beyond_about band side width from to =
    let w = int_le width (band.moment *ℤ band.moment) in let left = int_le (pos 0 -ℤ band.across) side in let right = int_le side band.across in
    turned_round (band.moment *ℤ band.moment) width
    ∙ ap not (yes_right w (left && right) (yes_both left right ((decides_le (pos 0 -ℤ band.across) side).1 from) ((decides_le side band.across).1 to)))

pub within_by_parts : (band : Band) (side width : ℤ) → width ≤ℤ (band.moment *ℤ band.moment) → (pos 0 -ℤ band.across) ≤ℤ side
    → side ≤ℤ band.across → is_within band side width ≡ true
within_by_parts band side width about from to =
    yes_both (int_le width (band.moment *ℤ band.moment)) (int_le (pos 0 -ℤ band.across) side && int_le side band.across)
    ((decides_le width (band.moment *ℤ band.moment)).1 about)
    (yes_both (int_le (pos 0 -ℤ band.across) side) (int_le side band.across)
    ((decides_le (pos 0 -ℤ band.across) side).1 from) ((decides_le side band.across).1 to))

-- tests by what they say
pub not_less : (x y : ℤ) → int_lt x y ≡ false → y ≤ℤ x
not_less x y h = grind (arith, ints)

pub not_yes : (w r : Bool) → r ≡ not w → r ≡ true → w ≡ false
not_yes true r e t = sym t ∙ e
not_yes false r e t = refl

pub in_range_ends : (x l m : ℕ) → in_range x (l, m) ≡ true → (l ≤ x) × (x < m)
in_range_ends x l m h = let parts = and_parts (leb l x) (ltb x m) h in (leb-true l x parts.0, ltb-true x m parts.1)

pub in_range_by : (x l m : ℕ) → l ≤ x → x < m → in_range x (l, m) ≡ true
in_range_by x l m from to = ap₂ (λ u v. u && v) (le-leb l x from) (lt-ltb x m to)

-- what the code finds of a side, in machine words, is true of it
pub left_told : (band : Band) (side : ℤ) → FitsSigned w64 side → FitsSigned w64 band.across
    → int_lt (to_z w64 (of_z w64 side)) (to_z w64 (of_z w64 (pos 0 -ℤ to_z w64 (of_z w64 band.across))))
    ≡ int_lt side (pos 0 -ℤ band.across)
left_told band side fits across =
    ap₂ int_lt (to_z-of_z w64 side fits) (opposite_reckoned band.across across band.across_some).value

pub right_told : (band : Band) (side : ℤ) → FitsSigned w64 side → FitsSigned w64 band.across
    → int_lt (to_z w64 (of_z w64 band.across)) (to_z w64 (of_z w64 side)) ≡ int_lt band.across side
right_told band side fits across = ap₂ int_lt (to_z-of_z w64 band.across across) (to_z-of_z w64 side fits)
