use Rattle.std.proofs.Common.{◌≡◌, ℕ, ◌<◌, ◌≤◌, ◌⊎◌, inl, inr, Bool, true, false, ◌||◌, max, min, take, arith, refl, sym, ap, ◌∙◌, ⊎_elim}
use Rattle.std.specs.List.{list_any}
use Rattle.std.proofs.lemmas.Bool.Decides.{nat_tests}
use Rattle.std.proofs.lemmas.List.{take_all}
use Rattle.vf_spans.specs.Members.{in_range, ranges_of}
use Rattle.vf_spans.proofs.WordRanges.{range_more}
use Rattle.ray_words.proofs.range_word.extent.Goals as goal

either : (x y : Bool) → (x || y) ≡ true → (x ≡ true) ⊎ (y ≡ true)
either true y e = inl refl
either false y e = inr e

-- an index of the range so far, or of the next range, is one of both together
wider : (lo hi low high i : ℕ) → low ≤ lo → hi ≤ high → (lo ≤ i) × (i < hi) → (low ≤ i) × (i < high)
wider lo hi low high i first last at = (omega (arith, first, at.0), omega (arith, last, at.1))

inside : (from to i : ℕ) → in_range i (from, to) ≡ true → (from ≤ i) × (i < to)
inside from to i there = (grind (arith, nat_tests), grind (arith, nat_tests))

pub loop-r-preserved : goal.loop-r-preserved
loop-r-preserved c = λ i more.
    let lo = c.loop-r.lo in let hi = c.loop-r.hi in let low = c.min-lo.result in let high = c.max-hi.result in
    let from = c.range-from.result.0 in let to = c.range-from.result.1 in
    let low_is : low ≡ min lo from = omega (arith, c.min-lo.ensures) in
    let high_is : high ≡ max hi to = omega (arith, c.max-hi.ensures) in
    ⊎_elim
    (λ (before : list_any (in_range i) (take c.loop-r.r (ranges_of c.args.set.now)) ≡ true).
    wider lo hi low high i (omega (arith, low_is)) (omega (arith, high_is)) (c.loop-r.invariant i before))
    (λ (here : in_range i c.range-from.result ≡ true).
    wider from to low high i (omega (arith, low_is)) (omega (arith, high_is)) (inside from to i here))
    (either _ _ (sym (range_more c.args.set.now c.loop-r.r i c.range-from.result (omega arith) c.range-from.ensures.range) ∙ more))

pub returns : goal.returns
returns c = λ i there.
    c.loop-r.invariant i
    (ap (list_any (in_range i)) (take_all c.loop-r.r (ranges_of c.args.set.now) (omega (arith, c.ranges-r-end.ensures.count)))
    ∙ sym (c.ranges-r-end.ensures.members i) ∙ there)
