use Rattle.std.proofs.Common.{◌-◌, ◌<◌, ◌≤◌, length, arith, sym, ◌∙◌}
use Rattle.std.proofs.lemmas.List.Sorted.{list_any-IsPermutation}
use Rattle.cert_boxes.specs.Rows.{is_throughout}
use Rattle.cert_boxes.proofs.Gathered.{gathered_back, gathered_front, passed_more, swapped_back, swapped_front}
use Rattle.cert_boxes.proofs.cover.gather.Goals as goal

pub loop-front-preserved-then-is_throughout : goal.loop-front-preserved-then-is_throughout
loop-front-preserved-then-is_throughout c =
    let at = c.loop-front in let test = is_throughout c.args.from c.args.to in
    let low : at.front < length at.spans = omega (arith, c.loop-front-test.true, at.invariant.within) in record {
      order = omega (arith, c.loop-front-test.true);
      within = at.invariant.within;
      passed = passed_more test at.spans at.front _ low (sym c.is_throughout.ensures ∙ c.if-is_throughout.true) at.invariant.passed;
      failed = at.invariant.failed;
      alike = at.invariant.alike;
    }

pub loop-front-preserved : goal.loop-front-preserved
loop-front-preserved c =
    let at = c.loop-front in let test = is_throughout c.args.from c.args.to in let back = at.back - 1 in
    let order : at.front ≤ back = omega (arith, c.loop-front-test.true) in
    let low : back < length at.spans = omega (arith, c.loop-front-test.true, at.invariant.within) in record {
      order = order;
      within = omega (arith, low, c.swap.ensures.len);
      passed = swapped_front test at.spans c.swap.new.self at.front back c.swap.ensures.after order low at.invariant.passed;
      failed =
          swapped_back test at.spans c.swap.new.self at.front back _ c.swap.ensures.after order low (sym c.is_throughout.ensures ∙ c.if-is_throughout.false)
          (λ k d after within. at.invariant.failed k d (omega (arith, c.loop-front-test.true, after)) within);
      alike = λ t. sym (list_any-IsPermutation t at.spans c.swap.new.self c.swap.ensures.permutation) ∙ at.invariant.alike t;
    }

pub returns-clause-front : goal.returns-clause-front
returns-clause-front c =
    let at = c.loop-front in let test = is_throughout c.args.from c.args.to in
    gathered_front test at.spans c.args.spans.now at.front at.invariant.alike at.invariant.passed (λ k d after within. at.invariant.failed k d (omega (arith, c.loop-front-test.false, after)) within)

pub returns-clause-back : goal.returns-clause-back
returns-clause-back c =
    let at = c.loop-front in let test = is_throughout c.args.from c.args.to in
    gathered_back test at.spans c.args.spans.now at.front at.invariant.alike at.invariant.passed (λ k d after within. at.invariant.failed k d (omega (arith, c.loop-front-test.false, after)) within)
