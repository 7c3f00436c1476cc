use Rattle.std.proofs.Common.{◌++◌, ◌∷◌, [], subst, sym, ap, ◌∙◌, ◌≡◌, Err, rules}
use Rattle.cl_records.proofs.ValueLemmas.{ReadsOn, ReadsOn-end, ReadsOn-all, ReadsOn-range, ReadsOn-syntax, ReadsOn-value, ends}
use Rattle.cl_records.proofs.values.read_values.Goals as goal
use Rattle.cl_records.proofs.values.read_values.Goals.{in-Ok, in-Err-Range}

pub returns-in_default-clause-values : goal.returns-in_default-clause-values
returns-in_default-clause-values c =
    let same = ReadsOn-end c.args.unit c.args.kinds.now c.args.parameters c.loop-kind.kind-index c.loop-kind.values c.loop-kind.in_range c.loop-kind.left c.in_default.ensures.0 c.loop-kind.invariant in
    ends c.in_range_or_refused.result c.loop-kind.values c.loop-kind.in_range _ same c.in_range_or_refused.ensures

pub returns-in-Err-Syntax-clause-values : goal.returns-in-Err-Syntax-clause-values
returns-in-Err-Syntax-clause-values c =
    let so_far = subst (ReadsOn c.args.unit c.args.kinds.now c.args.parameters c.loop-kind.kind-index c.loop-kind.values c.loop-kind.in_range) c.in-Some.ensures c.loop-kind.invariant in
    ReadsOn-syntax c.args.unit c.args.kinds.now c.args.parameters c.loop-kind.kind-index _ c.loop-kind.values c.loop-kind.in_range c.in-Some.text.now c.next.new.self c.loop-kind-test.true
    (sym c.read_value.ensures.value ∙ c.in-Err-Syntax.is ∙ ap Err c.in-Err-Syntax.field-0-is) so_far

pub returns-clause-values : goal.returns-clause-values
returns-clause-values c =
    let same = ReadsOn-all c.args.unit c.args.kinds.now c.args.parameters c.loop-kind.kind-index c.loop-kind.values c.loop-kind.in_range c.loop-kind.left c.loop-kind-test.false c.loop-kind.invariant in
    ends c.in_range_or_refused-2.result c.loop-kind.values c.loop-kind.in_range _ same c.in_range_or_refused-2.ensures

pub loop-kind-preserved : goal.loop-kind-preserved
loop-kind-preserved c =
    let unit = c.args.unit in
    let kinds = c.args.kinds.now in
    let parameters = c.args.parameters in
    let i = c.loop-kind.kind-index in
    let values = c.loop-kind.values in
    let in_range = c.loop-kind.in_range in
    let text = c.in-Some.text.now in
    let left = c.next.new.self in
    let so_far : ReadsOn unit kinds parameters i values in_range (text ∷ left) = subst (ReadsOn unit kinds parameters i values in_range) c.in-Some.ensures c.loop-kind.invariant in
    elim c.match-read_value.branch [
      | in-Ok w ↦
          let pushed : w.push.new.self ≡ values ++ w.in-Ok.value ∷ [] = search rules in
          rw (w.values-is, w.in_range-is, pushed) (ReadsOn-value unit kinds parameters i _ values in_range text left w.in-Ok.value c.loop-kind-test.true (sym c.read_value.ensures.value ∙ w.in-Ok.is) w.in-Ok.ensures.kind so_far)
      | in-Err-Range w ↦
          rw (w.values-is, w.in_range-is, w.push-in-Err-Range.ensures) (ReadsOn-range unit kinds parameters i _ values in_range text left c.loop-kind-test.true (sym c.read_value.ensures.value ∙ w.in-Err-Range.is ∙ ap Err w.in-Err-Range.field-0-is) so_far)
    ]
