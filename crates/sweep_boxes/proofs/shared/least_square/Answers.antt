use Rattle.std.proofs.Common.{◌≡◌, ◌≤◌, ◌*◌, ◌^◌, ◌≤ℤ◌, ◌+ℤ◌, ◌-ℤ◌, ◌*ℤ◌, ◌<◌, ℕ, ℤ, pos, to_z, of_z, unsigned_abs, FitsSigned, arith}
use Rattle.std.proofs.lemmas.Int.{ints, to_z-of_z}
use lib.Signed.{mag}
use mir.Syntax.{w128}
use borrow.Author.Differences.{abs_is}
use Rattle.space.specs.Vectors.{difference, dot, sum}
use Rattle.sweep_boxes.proofs.Shortest.{difference_square, sum_square}
use Rattle.space.proofs.Words.{fits_of, kept, kept_at_most, kept_small}
use Rattle.sweep_boxes.proofs.Words.{product_small}
use Rattle.sweep_boxes.proofs.shared.least_square.Goals as goal

-- the numbers are small
whole_fits : (x y s : ℤ) (d : ℕ) → unsigned_abs x ≤ 27 * 10 ^ 16 → unsigned_abs y ≤ 27 * 10 ^ 16 → s ≡ pos d → d ≤ 27 * 10 ^ 16
    → FitsSigned w128 (x +ℤ y) × FitsSigned w128 (s +ℤ s) × FitsSigned w128 (x -ℤ y) × FitsSigned w128 ((x +ℤ y) -ℤ (s +ℤ s)) × (unsigned_abs (x -ℤ y) ≤ 10 ^ 18)
whole_fits x y s d h k e l = (
  omega (arith, ints, h, k, abs_is x, abs_is y),
  omega (arith, ints, e, l),
  omega (arith, ints, h, k, abs_is x, abs_is y),
  omega (arith, ints, h, k, e, l, abs_is x, abs_is y),
  omega (arith, ints, h, k, abs_is x, abs_is y, abs_is (x -ℤ y)),
)

both_fit : (x y : ℤ) → unsigned_abs x ≤ 27 * 10 ^ 16 → unsigned_abs y ≤ 27 * 10 ^ 16 → FitsSigned w128 (x +ℤ y) × FitsSigned w128 (x -ℤ y)
both_fit x y h k = (omega (arith, ints, h, k, abs_is x, abs_is y), omega (arith, ints, h, k, abs_is x, abs_is y))

twice_fits : (s : ℤ) (d : ℕ) → s ≡ pos d → d ≤ 27 * 10 ^ 16 → FitsSigned w128 (s +ℤ s)
twice_fits s d e l = omega (arith, ints, e, l)

pub dot-along-requires : goal.dot-along-requires
dot-along-requires c = record { p = c.args.interval.now.axis_within; a = c.args.interval.now.axis_within }

pub dot-turned-requires : goal.dot-turned-requires
dot-turned-requires c = record { p = c.args.interval.now.axis_change_within; a = c.args.interval.now.axis_change_within }

pub dot-requires : goal.dot-requires
dot-requires c = record { p = c.args.interval.now.axis_within; a = c.args.interval.now.axis_change_within }

pub distance-swing-requires : goal.distance-swing-requires
distance-swing-requires c = kept_small c.dot.result _ c.dot.type_inv (product_small (unsigned_abs c.dot.result) c.dot.ensures.small)

pub overflow_add-along : goal.overflow_add-along
overflow_add-along c =
    let x = c.dot-along in let y = c.dot-turned in let a = fits_of x.result x.type_inv in let b = fits_of y.result y.type_inv in
    simp to_z-of_z (both_fit x.result y.result x.ensures.small y.ensures.small).0

pub overflow_sub-along : goal.overflow_sub-along
overflow_sub-along c =
    let x = c.dot-along in let y = c.dot-turned in let a = fits_of x.result x.type_inv in let b = fits_of y.result y.type_inv in
    simp to_z-of_z (both_fit x.result y.result x.ensures.small y.ensures.small).1

pub overflow_add-swing : goal.overflow_add-swing
overflow_add-swing c =
    let d = c.dot in let swing = c.distance-swing in let f = fits_of d.result d.type_inv in let g = fits_of swing.result swing.type_inv in
    let is : swing.result ≡ pos (unsigned_abs d.result) = simp to_z-of_z at swing.ensures in
    simp to_z-of_z (twice_fits swing.result (unsigned_abs d.result) is d.ensures.small)

pub returns-clause-small : goal.returns-clause-small
returns-clause-small c = kept_at_most c.lesser.result _ c.lesser.type_inv c.lesser.ensures.small

-- the numbers as words, and what they read as
abbrev square_sum : ℤ → ℤ → ℤ → ℤ
square_sum x y s =
    to_z w128 (of_z w128 (to_z w128 (of_z w128 x) +ℤ to_z w128 (of_z w128 y)))
    -ℤ to_z w128 (of_z w128 (to_z w128 (of_z w128 s) +ℤ to_z w128 (of_z w128 s)))

abbrev square_change : ℤ → ℤ → ℤ
square_change x y = to_z w128 (of_z w128 x) -ℤ to_z w128 (of_z w128 y)

squares_read : (x y s d : ℤ) → mag x < 2 ^ 127 → mag y < 2 ^ 127 → mag s < 2 ^ 127 → mag d < 2 ^ 127
    → unsigned_abs x ≤ 27 * 10 ^ 16 → unsigned_abs y ≤ 27 * 10 ^ 16 → unsigned_abs d ≤ 27 * 10 ^ 16
    → s ≡ pos (unsigned_abs (to_z w128 (of_z w128 d)))
    → record {
      swing : s ≡ pos (unsigned_abs d);
      fits : FitsSigned w128 (square_sum x y s);
      small : unsigned_abs (to_z w128 (of_z w128 (square_change x y))) ≤ 10 ^ 18;
      sum : (r : ℤ) → r ≤ℤ to_z w128 (of_z w128 (square_sum x y s)) → r ≤ℤ ((x +ℤ y) -ℤ (s +ℤ s));
      change : (r : ℤ) → r ≤ℤ to_z w128 (of_z w128 (square_change x y)) → r ≤ℤ (x -ℤ y);
    }
squares_read x y s d f g e t h k l is =
    let a = fits_of x f in let b = fits_of y g in let c = fits_of s e in let o = fits_of d t in
    let swing : s ≡ pos (unsigned_abs d) = simp to_z-of_z at is in
    let w = whole_fits x y s (unsigned_abs d) h k swing l in
    let w0 = w.0 in let w1 = w.1 in let w2 = w.2 in let w3 = w.3 in
    record {
      swing = swing;
      fits = simp to_z-of_z w3;
      small = simp to_z-of_z w.4;
      sum = λ r below. simp to_z-of_z at below;
      change = λ r below. simp to_z-of_z at below;
    }

pub overflow_sub-along-2 : goal.overflow_sub-along-2
overflow_sub-along-2 c =
    let x = c.dot-along in let y = c.dot-turned in let d = c.dot in let s = c.distance-swing in
    let read = squares_read x.result y.result s.result d.result x.type_inv y.type_inv s.type_inv d.type_inv
    x.ensures.small y.ensures.small d.ensures.small s.ensures in
    read.fits

pub lesser-requires : goal.lesser-requires
lesser-requires c =
    let x = c.dot-along in let y = c.dot-turned in let d = c.dot in let s = c.distance-swing in
    let read = squares_read x.result y.result s.result d.result x.type_inv y.type_inv s.type_inv d.type_inv
    x.ensures.small y.ensures.small d.ensures.small s.ensures in
    read.small

less_first : (r a b s d x y z t : ℤ) → a ≡ x → b ≡ y → d ≡ z → s ≡ pos (unsigned_abs d) → t ≡ (x +ℤ y) -ℤ pos 2 *ℤ z → r ≤ℤ ((a +ℤ b) -ℤ (s +ℤ s)) → r ≤ℤ t
less_first r a b s d x y z t ea eb ed e f h = omega (arith, ints, ea, eb, ed, e, f, h, abs_is d)

less_last : (r a b s d x y z t : ℤ) → a ≡ x → b ≡ y → d ≡ z → s ≡ pos (unsigned_abs d) → t ≡ (x +ℤ y) +ℤ pos 2 *ℤ z → r ≤ℤ ((a +ℤ b) -ℤ (s +ℤ s)) → r ≤ℤ t
less_last r a b s d x y z t ea eb ed e f h = omega (arith, ints, ea, eb, ed, e, f, h, abs_is d)

less_middle : (r a b x y : ℤ) → a ≡ x → b ≡ y → r ≤ℤ (a -ℤ b) → r ≤ℤ (x -ℤ y)
less_middle r a b x y ea eb h = omega (arith, ints, ea, eb, h)

pub returns-clause-first : goal.returns-clause-first
returns-clause-first c =
    let x = c.dot-along in let y = c.dot-turned in let d = c.dot in let s = c.distance-swing in
    let read = squares_read x.result y.result s.result d.result x.type_inv y.type_inv s.type_inv d.type_inv
    x.ensures.small y.ensures.small d.ensures.small s.ensures in
    let a = c.args.interval.now.axis in let t = c.args.interval.now.axis_change in let r = c.lesser in
    let less = less_first r.result x.result y.result s.result d.result (dot a a) (dot t t) (dot a t) (dot (difference a t) (difference a t))
    x.ensures.value y.ensures.value d.ensures.value read.swing (difference_square a t) (read.sum r.result r.ensures.second) in
    kept (λ (z : ℤ). z ≤ℤ dot (difference a t) (difference a t)) r.result r.type_inv less

pub returns-clause-last : goal.returns-clause-last
returns-clause-last c =
    let x = c.dot-along in let y = c.dot-turned in let d = c.dot in let s = c.distance-swing in
    let read = squares_read x.result y.result s.result d.result x.type_inv y.type_inv s.type_inv d.type_inv
    x.ensures.small y.ensures.small d.ensures.small s.ensures in
    let a = c.args.interval.now.axis in let t = c.args.interval.now.axis_change in let r = c.lesser in
    let less = less_last r.result x.result y.result s.result d.result (dot a a) (dot t t) (dot a t) (dot (sum a t) (sum a t))
    x.ensures.value y.ensures.value d.ensures.value read.swing (sum_square a t) (read.sum r.result r.ensures.second) in
    kept (λ (z : ℤ). z ≤ℤ dot (sum a t) (sum a t)) r.result r.type_inv less

pub returns-clause-middle : goal.returns-clause-middle
returns-clause-middle c =
    let x = c.dot-along in let y = c.dot-turned in let d = c.dot in let s = c.distance-swing in
    let read = squares_read x.result y.result s.result d.result x.type_inv y.type_inv s.type_inv d.type_inv
    x.ensures.small y.ensures.small d.ensures.small s.ensures in
    let a = c.args.interval.now.axis in let t = c.args.interval.now.axis_change in let r = c.lesser in
    let low = read.change r.result r.ensures.first in
    let less = less_middle r.result x.result y.result (dot a a) (dot t t) x.ensures.value y.ensures.value low in
    kept (λ (z : ℤ). z ≤ℤ (dot a a -ℤ dot t t)) r.result r.type_inv less
