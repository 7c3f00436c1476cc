use Rattle.std.proofs.Common.{◌≤◌, ◌≤ℤ◌, ◌+ℤ◌, ◌-ℤ◌, ℤ, pos, to_z, of_z, unsigned_abs, FitsSigned, arith, subst, sym}
use Rattle.std.proofs.lemmas.Int.{to_z-of_z}
use mir.Syntax.{w32}
use Rattle.space.specs.Vectors.{at}
use Rattle.sweep_boxes.proofs.Boxed.{near_end, near_start}
use Rattle.space.proofs.Words.{fits32, small32_in}
use Rattle.sweep_boxes.proofs.Words.{kept_place, place_fits}
use Rattle.sweep_boxes.proofs.clip.clip_along.Goals as goal

kept_coordinate : (z : ℤ) → unsigned_abs z ≤ 1000000 → unsigned_abs (to_z w32 (of_z w32 z)) ≤ 1000000
kept_coordinate z h = small32_in z 1000000 (place_fits z (omega (arith, h))) h

-- what is known of two ends along an axis
coordinates : (x y : ℤ) → unsigned_abs x ≤ 1000000 → unsigned_abs y ≤ 1000000
    → record { a : unsigned_abs (to_z w32 (of_z w32 x)) ≤ 1000000; b : unsigned_abs (to_z w32 (of_z w32 y)) ≤ 1000000 }
coordinates x y h k = record { a = kept_coordinate x h; b = kept_coordinate y k }

some_kept : (reach : ℤ) → FitsSigned w32 reach → pos 0 ≤ℤ reach → pos 0 ≤ℤ to_z w32 (of_z w32 reach)
some_kept reach fits some = subst (λ (z : ℤ). pos 0 ≤ℤ z) (sym (to_z-of_z w32 reach fits)) some

coordinates_fit : (x y : ℤ) → unsigned_abs x ≤ 1000000 → unsigned_abs y ≤ 1000000 → FitsSigned w32 x × FitsSigned w32 y
coordinates_fit x y h k = (place_fits x (omega (arith, h)), place_fits y (omega (arith, k)))

pub lesser-first-requires : goal.lesser-first-requires
lesser-first-requires c = coordinates (at c.args.from.now c.args.i) (at c.args.to.now c.args.i) c.requires.from c.requires.to

pub greater-last-requires : goal.greater-last-requires
greater-last-requires c = coordinates (at c.args.from.now c.args.i) (at c.args.to.now c.args.i) c.requires.from c.requires.to

pub start_after-requires : goal.start_after-requires
start_after-requires c = record {
  start = kept_place (at c.args.region.now.low c.args.i) c.requires.low;
  first = kept_coordinate c.lesser-first.result c.lesser-first.ensures.small;
  reach = small32_in c.args.reach _ c.ranges.reach c.requires.reach;
  some = some_kept c.args.reach c.ranges.reach c.requires.some;
}

pub end_before-requires : goal.end_before-requires
end_before-requires c = record {
  end = kept_place (at c.args.region.now.high c.args.i) c.requires.high;
  last = kept_coordinate c.greater-last.result c.greater-last.ensures.small;
  reach = small32_in c.args.reach _ c.ranges.reach c.requires.reach;
  some = some_kept c.args.reach c.ranges.reach c.requires.some;
}

pub returns-clause-least : goal.returns-clause-least
returns-clause-least c =
    let low = place_fits (at c.args.region.now.low c.args.i) c.requires.low in let s = fits32 c.start_after.result c.start_after.type_inv in
    let least : at c.args.region.now.low c.args.i ≤ℤ c.start_after.result = simp to_z-of_z at c.start_after.ensures.least in
    simp to_z-of_z least

pub returns-clause-most : goal.returns-clause-most
returns-clause-most c =
    let high = place_fits (at c.args.region.now.high c.args.i) c.requires.high in let s = fits32 c.end_before.result c.end_before.type_inv in
    let most : c.end_before.result ≤ℤ at c.args.region.now.high c.args.i = simp to_z-of_z at c.end_before.ensures.most in
    simp to_z-of_z most

pub returns-clause-low_small : goal.returns-clause-low_small
returns-clause-low_small c = kept_place c.start_after.result c.start_after.ensures.small

pub returns-clause-high_small : goal.returns-clause-high_small
returns-clause-high_small c = kept_place c.end_before.result c.end_before.ensures.small

pub returns-clause-first : goal.returns-clause-first
returns-clause-first c z after near =
    let low = at c.args.region.now.low c.args.i in let from = at c.args.from.now c.args.i in let to = at c.args.to.now c.args.i in
    let end = c.lesser-first in let place = c.start_after in
    let r = c.ranges.reach in
    let f = place_fits low c.requires.low in let (g, h) = coordinates_fit from to c.requires.from c.requires.to in
    let e = fits32 end.result end.type_inv in let p = fits32 place.result place.type_inv in
    let value : (z : ℤ) → low ≤ℤ z → (end.result -ℤ c.args.reach) ≤ℤ z → place.result ≤ℤ z = simp to_z-of_z at place.ensures.value in
    let first = simp to_z-of_z at end.ensures.first in let second = simp to_z-of_z at end.ensures.second in
    simp to_z-of_z (value z after (near_start c.args.reach from to z end.result first second near))

pub returns-clause-last : goal.returns-clause-last
returns-clause-last c z before near =
    let high = at c.args.region.now.high c.args.i in let from = at c.args.from.now c.args.i in let to = at c.args.to.now c.args.i in
    let end = c.greater-last in let place = c.end_before in
    let r = c.ranges.reach in
    let f = place_fits high c.requires.high in let (g, h) = coordinates_fit from to c.requires.from c.requires.to in
    let e = fits32 end.result end.type_inv in let p = fits32 place.result place.type_inv in
    let value : (z : ℤ) → z ≤ℤ high → z ≤ℤ (end.result +ℤ c.args.reach) → z ≤ℤ place.result = simp to_z-of_z at place.ensures.value in
    let first = simp to_z-of_z at end.ensures.first in let second = simp to_z-of_z at end.ensures.second in
    simp to_z-of_z (value z before (near_end c.args.reach from to z end.result first second near))
