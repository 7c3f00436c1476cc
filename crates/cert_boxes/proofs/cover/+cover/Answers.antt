use Rattle.std.proofs.Common.{◌+◌, ◌/◌, ◌^◌, ◌<◌, length, arith, ap, refl, sym, ◌∙◌}
use Rattle.std.specs.List.{list_any}
use Rattle.std.proofs.lemmas.Bool.{eqb-true}
use Rattle.cert_boxes.proofs.Covers.{cover_alone, cover_joined, cover_nothing, cover_some, cover_whole, early_fits, late_fits}
use Rattle.cert_boxes.proofs.Gathered.{parts_alike}
use Rattle.cert_boxes.proofs.cover.+cover.Goals as goal

pub cover_by-returns-then-is_empty-clause-exact : goal.cover_by-returns-then-is_empty-clause-exact
cover_by-returns-then-is_empty-clause-exact t c = λ l low.
    c.new.ensures.empty l
    ∙ sym (cover_nothing c.args.spans.now l c.args.from c.args.halvings (eqb-true (length c.args.spans.now) 0 (sym c.is_empty.ensures ∙ c.if-is_empty.true)))

pub cover_by-returns-then-is_empty-2-clause-exact : goal.cover_by-returns-then-is_empty-2-clause-exact
cover_by-returns-then-is_empty-2-clause-exact t c = λ l low.
    let cut = c.split_at_mut-all in let many = c.cells_of-many.result in
    cover_alone c.args.spans.now cut.result.0.now cut.result.1.now l c.args.from c.args.halvings (c.args.from + many) many c.in_ok-whole.whole c.cells_of-many.ensures.cells refl
    (λ test. ap (list_any test) cut.ensures.front ∙ c.gather-count.ensures.front test) (λ test. ap (list_any test) cut.ensures.back ∙ c.gather-count.ensures.back test)
    (eqb-true (length cut.result.1.now) 0 (sym c.is_empty-2.ensures ∙ c.if-is_empty-2.true)) (c.in_ok-whole.ensures.exact l low)

pub cover_by-returns-then-halvings-eq0-clause-exact : goal.cover_by-returns-then-halvings-eq0-clause-exact
cover_by-returns-then-halvings-eq0-clause-exact t c = λ l low.
    let cut = c.split_at_mut-all in let many = c.cells_of-many.result in
    cover_whole c.args.spans.now cut.result.0.now l c.args.from c.args.halvings (c.args.from + many) many c.in_ok-whole.whole c.if-halvings-eq0.true c.cells_of-many.ensures.cells refl
    (λ test. ap (list_any test) cut.ensures.front ∙ c.gather-count.ensures.front test) (c.in_ok-whole.ensures.exact l low)

pub cover_by-cover_of-requires : goal.cover_by-cover_of-requires
cover_by-cover_of-requires t c =
    let some : 0 < c.args.halvings = omega (arith, c.if-halvings-eq0.false) in let few = c.requires.halvings in
    (omega arith, (omega arith, early_fits c.args.halvings c.args.from some c.requires.within))

pub cover_by-cover_of-requires-2 : goal.cover_by-cover_of-requires-2
cover_by-cover_of-requires-2 t c =
    let some : 0 < c.args.halvings = omega (arith, c.if-halvings-eq0.false) in let few = c.requires.halvings in
    (omega arith, (omega arith, late_fits c.args.halvings c.args.from c.cells_of-many.result some c.cells_of-many.ensures.cells c.requires.within))

pub cover_by-returns-clause-exact : goal.cover_by-returns-clause-exact
cover_by-returns-clause-exact t c = λ l low.
    let cut = c.split_at_mut-all in let many = c.cells_of-many.result in
    let some : 0 < c.args.halvings = omega (arith, c.if-halvings-eq0.false) in
    cover_joined c.args.spans.now cut.result.0.now cut.result.1.now c.cover_of.new.spans l c.args.from c.args.halvings (c.args.from + many / 2) (c.args.from + many) many
    c.in_ok-set.set c.in_ok-whole.whole c.in_ok-both.both c.in_ok-first.first c.in_ok-last.last some c.cells_of-many.ensures.cells refl refl
    (λ test. ap (list_any test) cut.ensures.front ∙ c.gather-count.ensures.front test) (λ test. ap (list_any test) cut.ensures.back ∙ c.gather-count.ensures.back test)
    c.in_ok-first.ensures.alike (c.in_ok-set.ensures.union l) (c.in_ok-both.ensures.meet l) (c.in_ok-whole.ensures.exact l low) (c.in_ok-first.ensures.exact l low) (c.in_ok-last.ensures.exact l low)

pub cover_by-returns-clause-alike : goal.cover_by-returns-clause-alike
cover_by-returns-clause-alike t c = λ test.
    let cut = c.split_at_mut-all in
    parts_alike cut.result.0.now c.cover_of-2.new.spans c.gather-count.new.spans c.args.spans.now c.gather-count.result
    (λ t. c.in_ok-last.ensures.alike t ∙ c.in_ok-first.ensures.alike t ∙ ap (list_any t) cut.ensures.back) cut.ensures.front c.gather-count.ensures.alike test

pub cover_of-returns-clause-exact : goal.cover_of-returns-clause-exact
cover_of-returns-clause-exact t c = λ l low.
    let cut = c.split_at_mut-some in
    c.in_ok-set.ensures.exact l low
    ∙ cover_some c.args.spans.now cut.result.0.now l c.args.from (c.args.from + c.cells_of.result) (2 ^ c.args.halvings) (ap (λ n. c.args.from + n) c.cells_of.ensures.cells)
    (λ test. ap (list_any test) cut.ensures.front ∙ c.gather-count.ensures.front test)
