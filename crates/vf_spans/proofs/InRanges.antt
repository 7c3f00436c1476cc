-- The indices of a set are those of its ranges.
use Rattle.std.proofs.Common.{◌≡◌, ℕ, suc, ◌+◌, ◌-◌, ◌<◌, ◌≤◌, List, [], ◌∷◌, Bool, true, false, leb, ltb, eqb, ◌&&◌, ◌||◌, Some, None, arith, refl, sym, ap, ap₂, ◌∙◌}
use Rattle.std.specs.List.{list_any}
use Rattle.std.proofs.lemmas.Bool.Decides.{nat_tests}
use native.Mathlib.Decide.{dec_le}
use mathlib.Core.Logic.{dite}
use Rattle.vf_spans.specs.Members.{has, in_range, ranges_from, ranges_of}

-- the index is among the flags that begin at another one
abbrev among : ℕ → List Bool → ℕ → Bool
among at flags i = leb at i && has flags (i - at)

and_false : (b : Bool) → (b && false) ≡ false
and_false true = refl
and_false false = refl

before : (b : Bool) (at i : ℕ) (flags : List Bool) → i < at → among at (b ∷ flags) i ≡ ((eqb i at && b) || among (at + 1) flags i)
before b at i flags lt =
    let x : leb at i ≡ false = grind (arith, nat_tests) in let y : leb (at + 1) i ≡ false = grind (arith, nat_tests) in let z : eqb i at ≡ false = grind (arith, nat_tests) in
    ap (λ t. t && has (b ∷ flags) (i - at)) x ∙ sym (ap₂ (λ s t. (s && b) || (t && has flags (i - (at + 1)))) z y)

here : (b : Bool) (at i : ℕ) (flags : List Bool) → i ≡ at → among at (b ∷ flags) i ≡ ((eqb i at && b) || among (at + 1) flags i)
here true at i flags e =
    let x : leb at i ≡ true = grind (arith, nat_tests) in let z : eqb i at ≡ true = grind (arith, nat_tests) in let first : i - at ≡ 0 = omega arith in
    ap₂ (λ t k. t && has (true ∷ flags) k) x first ∙ sym (ap (λ s. (s && true) || among (at + 1) flags i) z)
here false at i flags e =
    let x : leb at i ≡ true = grind (arith, nat_tests) in let y : leb (at + 1) i ≡ false = grind (arith, nat_tests) in let first : i - at ≡ 0 = omega arith in
    ap₂ (λ t k. t && has (false ∷ flags) k) x first ∙ sym (ap₂ (λ s t. s || (t && has flags (i - (at + 1)))) (and_false (eqb i at)) y)

later : (b : Bool) (at i : ℕ) (flags : List Bool) → at < i → among at (b ∷ flags) i ≡ ((eqb i at && b) || among (at + 1) flags i)
later b at i flags lt =
    let x : leb at i ≡ true = grind (arith, nat_tests) in let y : leb (at + 1) i ≡ true = grind (arith, nat_tests) in let z : eqb i at ≡ false = grind (arith, nat_tests) in
    let next : i - at ≡ suc (i - (at + 1)) = omega arith in
    ap₂ (λ t k. t && has (b ∷ flags) k) x next ∙ sym (ap₂ (λ s t. (s && b) || (t && has flags (i - (at + 1)))) z y)

-- one flag and the rest
among_cons : (b : Bool) (at i : ℕ) (flags : List Bool) → among at (b ∷ flags) i ≡ ((eqb i at && b) || among (at + 1) flags i)
among_cons b at i flags =
    dite (dec_le (at + 1) i) (λ past. later b at i flags (omega arith))
    (λ no. dite (dec_le at i) (λ at_it. here b at i flags (omega arith)) (λ ahead. before b at i flags (omega arith)))

-- the index is in one of the ranges of the flags from an index on, outside a range and within one
record InRanges (flags : List Bool) : Type 0 where
  outside : (at i : ℕ) → list_any (in_range i) (ranges_from at None flags) ≡ among at flags i
  within : (at first i : ℕ) → first ≤ at → list_any (in_range i) (ranges_from at (Some first) flags) ≡ ((leb first i && ltb i at) || among at flags i)

-- a range that goes on, and one that ends
grown : (at first i : ℕ) (rest : Bool) → first ≤ at → ((leb first i && ltb i (at + 1)) || rest) ≡ ((leb first i && ltb i at) || ((eqb i at && true) || rest))
grown at first i rest le = grind (arith, nat_tests)

begun : (at i : ℕ) (rest : Bool) → ((leb at i && ltb i (at + 1)) || rest) ≡ ((eqb i at && true) || rest)
begun at i rest = grind (arith, nat_tests)

in_ranges : (flags : List Bool) → InRanges flags
in_ranges [] = record {
  outside = λ at i. sym (and_false (leb at i));
  within = λ at first i le. ap (λ t. (leb first i && ltb i at) || t) (sym (and_false (leb at i)));
}
in_ranges (true ∷ flags) =
    let rest = in_ranges flags in record {
      outside = λ at i. rest.within (at + 1) at i (omega arith) ∙ begun at i (among (at + 1) flags i) ∙ sym (among_cons true at i flags);
      within = λ at first i le.
          rest.within (at + 1) first i (omega arith) ∙ grown at first i (among (at + 1) flags i) le
          ∙ ap (λ t. (leb first i && ltb i at) || t) (sym (among_cons true at i flags));
    }
in_ranges (false ∷ flags) =
    let rest = in_ranges flags in
    let none = λ (at i : ℕ). ap (λ t. t || among (at + 1) flags i) (sym (and_false (eqb i at))) in record {
      outside = λ at i. rest.outside (at + 1) i ∙ none at i ∙ sym (among_cons false at i flags);
      within = λ at first i le. ap (λ t. (leb first i && ltb i at) || t) (rest.outside (at + 1) i ∙ none at i ∙ sym (among_cons false at i flags));
    }

zero_among : (flags : List Bool) (i : ℕ) → among 0 flags i ≡ has flags i
zero_among flags i =
    let x : leb 0 i ≡ true = grind (arith, nat_tests) in let k : i - 0 ≡ i = omega arith in
    ap₂ (λ t n. t && has flags n) x k

pub members : (flags : List Bool) (i : ℕ) → has flags i ≡ list_any (in_range i) (ranges_of flags)
members flags i = sym ((in_ranges flags).outside 0 i ∙ zero_among flags i)
