use Rattle.std.proofs.Common.{◌≡◌, ◌∷◌, ◌∙◌, ap, rules}
use Rattle.cert_lines.specs.Words.{words_after}
use Rattle.stock_file.specs.RayLines.{bounds_in}
use Rattle.stock_file.specs.declared.line.Ranges.{Ranges}
use Rattle.stock_file.proofs.TakenLemmas.{none_below, none_read, pair_read, ranges_judged, two_bounds}
use Rattle.stock_file.proofs.line.read_bounds.Goals as goal

pub loop-lo-init : goal.loop-lo-init
loop-lo-init c = record {
  judged = none_read c.args.is_due c.args.points c.new.result (bounds_in (words_after c.args.text.now)) c.new.ensures.bound c.new.ensures.empty;
  below = λ i is. none_below c.new.result 0 i (c.new.ensures.empty i) is;
}

pub loop-lo-preserved : goal.loop-lo-preserved
loop-lo-preserved c =
    let after = c.in-Some-split_next.after.now in
    let lo = c.in-Some-read_plain.lo in
    let hi = c.in-Some-read_plain-2.hi in
    let first : words_after c.loop-lo.rest.now ≡ c.in-Some.lo.now ∷ words_after c.in-Some.after.now = search rules in
    let second : words_after c.in-Some.after.now ≡ c.in-Some-split_next.hi.now ∷ words_after after = search rules in
    record {
      judged = ap (λ (ranges : Ranges). ranges_judged ranges (bounds_in (words_after after))) c.in-Ok.ensures.added
          ∙ pair_read c.loop-lo.ranges lo hi (bounds_in (words_after after))
          ∙ ap (ranges_judged c.loop-lo.ranges)
          (two_bounds (words_after c.loop-lo.rest.now) (words_after c.in-Some.after.now) (words_after after) c.in-Some.lo.now c.in-Some-split_next.hi.now lo hi first second
          c.in-Some-read_plain.ensures.number c.in-Some-read_plain-2.ensures.number)
          ∙ c.loop-lo.invariant.judged;
      below = c.in-Ok.ensures.below;
    }
