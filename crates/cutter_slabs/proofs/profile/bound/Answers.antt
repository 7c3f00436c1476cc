use Rattle.std.proofs.Common.{◌≡◌, ◌≤◌, ◌<◌, ◌+◌, ◌*◌, ◌/◌, ◌^◌, ℕ, arith}
use Rattle.std.proofs.Math.Nat.{div-lt_iff_lt-mul, mul-le-mul}
use borrow.Author.Rules.{Fits-under}
use mir.Syntax.{w32, w64}
use Rattle.cutter_slabs.proofs.profile.bound.Goals as goal

square_some : (n k : ℕ) → n ≡ k → 0 < k → 0 < n * n
square_some n k e some = let one : 1 * 1 ≤ n * n = mul-le-mul (first n k e some) (first n k e some) in omega (arith, one) where
  first : (n k : ℕ) → n ≡ k → 0 < k → 1 ≤ n
  first n k e some = omega (arith, e, some)

square_few : (n k : ℕ) → n ≡ k → k ≤ 256 → n * n < 2 ^ 17
square_few n k e few = let most : n * n ≤ 256 * 256 = mul-le-mul (last n k e few) (last n k e few) in omega (arith, most) where
  last : (n k : ℕ) → n ≡ k → k ≤ 256 → n ≤ 256
  last n k e few = omega (arith, e, few)

product_few : (r x z : ℕ) → r ≡ x → x ≤ 100000 → z < 2 ^ 17 → r * z < 2 ^ 40
product_few r x z e few small = let most : r * z ≤ 100000 * 2 ^ 17 = mul-le-mul (radius r x e few) (part z small) in omega (arith, most) where
  radius : (r x : ℕ) → r ≡ x → x ≤ 100000 → r ≤ 100000
  radius r x e few = omega (arith, e, few)

  part : (z : ℕ) → z < 2 ^ 17 → z ≤ 2 ^ 17
  part z h = omega (arith, h)

-- a part of a number is no greater
part_below : (r x j k n m : ℕ) → r ≡ x → j ≡ k → n ≡ m → 0 < m → k ≤ m → r * (j * j) / (n * n) ≤ x
part_below r x j k n m e f g some within =
    let less : r * (j * j) ≤ r * (n * n) = mul-le-mul (same r) (mul-le-mul (inner j k n m f g within) (inner j k n m f g within)) in
    let below : r * (j * j) < (r + 1) * (n * n) = omega (arith, less, square_some n m g some) in
    let under : r * (j * j) / (n * n) < r + 1 = (div-lt_iff_lt-mul {k = n * n} {x = r * (j * j)} {y = r + 1} (square_some n m g some)).1 below in
    omega (arith, under, e) where
      same : (r : ℕ) → r ≤ r
      same r = omega arith

      inner : (j k n m : ℕ) → j ≡ k → n ≡ m → k ≤ m → j ≤ n
      inner j k n m f g within = omega (arith, f, g, within)

j_few : (k n : ℕ) → k ≤ n → n ≤ 256 → k ≤ 256
j_few k n h l = omega (arith, h, l)

under_all : (z x : ℕ) → z ≤ x → x ≤ 100000 → z < 2 ^ 17
under_all z x h k = omega (arith, h, k)

pub nonzero_div-result : goal.nonzero_div-result
nonzero_div-result c = square_some c.from-n.result c.args.n c.from-n.ensures c.requires.some

pub overflow_mul-result : goal.overflow_mul-result
overflow_mul-result c =
    Fits-under w64 (c.from-j.result * c.from-j.result) (2 ^ 17) (square_few c.from-j.result c.args.j c.from-j.ensures (j_few c.args.j c.args.n c.requires.within c.requires.few)) tt

pub overflow_mul-result-2 : goal.overflow_mul-result-2
overflow_mul-result-2 c =
    Fits-under w64 (c.from.result * (c.from-j.result * c.from-j.result)) (2 ^ 40)
    (product_few c.from.result c.args.radius (c.from-j.result * c.from-j.result) c.from.ensures c.requires.radius
    (square_few c.from-j.result c.args.j c.from-j.ensures (j_few c.args.j c.args.n c.requires.within c.requires.few))) tt

pub overflow_mul-result-3 : goal.overflow_mul-result-3
overflow_mul-result-3 c = Fits-under w64 (c.from-n.result * c.from-n.result) (2 ^ 17) (square_few c.from-n.result c.args.n c.from-n.ensures c.requires.few) tt

pub overflow_cast-result : goal.overflow_cast-result
overflow_cast-result c =
    Fits-under w32 (c.from.result * (c.from-j.result * c.from-j.result) / (c.from-n.result * c.from-n.result)) (2 ^ 17)
    (under_all _ c.args.radius
    (part_below c.from.result c.args.radius c.from-j.result c.args.j c.from-n.result c.args.n c.from.ensures c.from-j.ensures c.from-n.ensures c.requires.some c.requires.within) c.requires.radius) tt

pub returns-clause-below : goal.returns-clause-below
returns-clause-below c =
    part_below c.from.result c.args.radius c.from-j.result c.args.j c.from-n.result c.args.n c.from.ensures c.from-j.ensures c.from-n.ensures c.requires.some c.requires.within
