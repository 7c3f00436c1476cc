-- How much a cone widens, by the bounds of its angle's tangent.
use Rattle.std.proofs.Common.{◌≡◌, ℕ, ◌+◌, ◌*◌, ◌/◌, ◌≤◌, ◌==◌, nat_le, true, List, [], ◌∷◌, find, Some, arith, refl, sym, subst}
use Rattle.std.specs.Option.{option_map_or}
use Rattle.std.specs.List.{list_all}
use Rattle.std.proofs.Math.Nat.{div-mul-le_self, mul-le-mul_left, mul-le-mul_right}
use Rattle.std.proofs.lemmas.Bool.{and_parts, cond_both, leb-true}
use Rattle.space.specs.declared.flank.Flank.{Flank}
use Rattle.space.specs.Flanks.{flanks, least_widening, lower_tangent, most_widening, top_of, upper_tangent}

in_order : (degrees : ℕ) (table : List Flank) → list_all (λ f. nat_le f.lower f.upper) table ≡ true
    → option_map_or (λ f. f.lower) (find (λ f. f.degrees == degrees) table) 0 ≤ option_map_or (λ f. f.upper) (find (λ f. f.degrees == degrees) table) 0
in_order degrees [] h = omega arith
in_order degrees (f ∷ table) h =
    let both = and_parts (nat_le f.lower f.upper) (list_all (λ g. nat_le g.lower g.upper) table) h in
    cond_both (f.degrees == degrees) (Some f) (find (λ g. g.degrees == degrees) table)
    (λ found. option_map_or (λ g. g.lower) found 0 ≤ option_map_or (λ g. g.upper) found 0)
    (λ _. leb-true f.lower f.upper both.0) (λ _. in_order degrees table both.1)

-- the lower bound of a tangent is at most the upper one
pub tangents : (degrees : ℕ) → lower_tangent degrees ≤ upper_tangent degrees
tangents degrees = in_order degrees flanks refl

-- the widening is at most, or at least, the height times the tangent
pub least_within : (degrees x : ℕ) → least_widening degrees x * 1000000 ≤ x * lower_tangent degrees
least_within degrees x = div-mul-le_self (x * lower_tangent degrees) 1000000

pub most_reaches : (degrees x : ℕ) → x * upper_tangent degrees ≤ most_widening degrees x * 1000000
most_reaches degrees x = let w = x * upper_tangent degrees in omega arith

-- the widening rises with the height, and the least is at most the most
rounded : (a b : ℕ) → a ≤ b → (a + 999999) / 1000000 ≤ (b + 999999) / 1000000
rounded a b h = omega arith

pub most_rises : (degrees x y : ℕ) → x ≤ y → most_widening degrees x ≤ most_widening degrees y
most_rises degrees x y h = rounded (x * upper_tangent degrees) (y * upper_tangent degrees) (mul-le-mul_right (upper_tangent degrees) h)

between : (a b : ℕ) → a ≤ b → a / 1000000 ≤ (b + 999999) / 1000000
between a b h = omega arith

pub least_most : (degrees x : ℕ) → least_widening degrees x ≤ most_widening degrees x
least_most degrees x = between (x * lower_tangent degrees) (x * upper_tangent degrees) (mul-le-mul_left x (tangents degrees))

-- an upright flank does not widen
none : (z : ℕ) → z ≡ 0 → (z + 999999) / 1000000 ≡ 0
none z e = subst (λ k. (k + 999999) / 1000000 ≡ 0) (sym e) refl

pub upright_top : (d h : ℕ) → top_of d h 0 ≡ d
upright_top d h = let e = none (h * upper_tangent 0) (omega arith) in omega arith
