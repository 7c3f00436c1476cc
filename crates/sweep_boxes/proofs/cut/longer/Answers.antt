use Rattle.std.proofs.Common.{◌≡◌, true, false, ◌≤◌, ◌≤ℤ◌, ◌*◌, ℤ, pos, to_z, of_z, unsigned_abs, arith}
use Rattle.std.specs.Int.Signed.{lt_z}
use Rattle.std.proofs.lemmas.Int.{ints}
use borrow.Author.Differences.{abs_is}
use mir.Syntax.{w128}
use Rattle.space.specs.Vectors.{dot}
use Rattle.space.proofs.Naturals.{dot_natural}
use Rattle.space.specs.Ranges.{vector_limit}
use Rattle.space.proofs.Words.{kept_small, read_as}
use Rattle.sweep_boxes.proofs.cut.longer.Goals as goal

last_by : (f l x y : ℤ) → f ≡ x → l ≡ y → lt_z f l ≡ true → pos 0 ≤ℤ y → unsigned_abs l ≤ 3 * (vector_limit * vector_limit)
    → (x ≤ℤ l) × (y ≤ℤ l) × (pos 0 ≤ℤ l) × (l ≤ℤ pos (3 * (vector_limit * vector_limit)))
last_by f l x y e g t some h = (omega (arith, ints, e, t), omega (arith, ints, g), omega (arith, ints, g, some), omega (arith, ints, h, abs_is l))

first_by : (f l x y : ℤ) → f ≡ x → l ≡ y → lt_z f l ≡ false → pos 0 ≤ℤ x → unsigned_abs f ≤ 3 * (vector_limit * vector_limit)
    → (x ≤ℤ f) × (y ≤ℤ f) × (pos 0 ≤ℤ f) × (f ≤ℤ pos (3 * (vector_limit * vector_limit)))
first_by f l x y e g t some h = (omega (arith, ints, e), omega (arith, ints, g, t), omega (arith, ints, e, some), omega (arith, ints, h, abs_is f))

pub dot-first-requires : goal.dot-first-requires
dot-first-requires c = record { p = c.requires.first; a = c.requires.first }

pub dot-last-requires : goal.dot-last-requires
dot-last-requires c = record { p = c.requires.last; a = c.requires.last }

pub returns-then-first-last : goal.returns-then-first-last
returns-then-first-last c =
    let f = c.dot-first in let l = c.dot-last in let a = c.args.first.now in let b = c.args.last.now in
    let by = last_by (to_z w128 (of_z w128 f.result)) (to_z w128 (of_z w128 l.result)) (dot a a) (dot b b) (read_as f.result (dot a a) f.type_inv f.ensures.value) (read_as l.result (dot b b) l.type_inv l.ensures.value)
    c.if-first-last.true (dot_natural b) (kept_small l.result _ l.type_inv l.ensures.small) in
    record { first = by.0; last = by.1; some = by.2; small = by.3 }

pub returns-else-first-last : goal.returns-else-first-last
returns-else-first-last c =
    let f = c.dot-first in let l = c.dot-last in let a = c.args.first.now in let b = c.args.last.now in
    let by = first_by (to_z w128 (of_z w128 f.result)) (to_z w128 (of_z w128 l.result)) (dot a a) (dot b b) (read_as f.result (dot a a) f.type_inv f.ensures.value) (read_as l.result (dot b b) l.type_inv l.ensures.value)
    c.if-first-last.false (dot_natural a) (kept_small f.result _ f.type_inv f.ensures.small) in
    record { first = by.0; last = by.1; some = by.2; small = by.3 }
