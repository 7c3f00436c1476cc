use Rattle.std.proofs.Common.{ap, ◌∙◌, to_z, of_z}
use Rattle.std.specs.Int.{int_shr}
use Rattle.std.proofs.lemmas.Int.{to_z-of_z}
use mir.Syntax.{w128}
use Rattle.width_bisect.specs.Halved.{middle4}
use Rattle.width_bisect.proofs.Kept.{itself, sum}
use Rattle.width_bisect.proofs.Shifting.{middle4_fits}
use Rattle.width_bisect.proofs.halves.middle4.Goals as goal

pub overflow_add-result : goal.overflow_add-result
overflow_add-result c =
    let f = middle4_fits c.args.a c.args.b c.args.c c.args.d c.args.e c.requires.a c.requires.b c.requires.c c.requires.d c.requires.e in
    (sum w128 _ _ _ _ (itself w128 c.args.a c.ranges.a) (itself w128 c.args.b c.ranges.b) f.two).fits

pub overflow_add-result-2 : goal.overflow_add-result-2
overflow_add-result-2 c =
    let f = middle4_fits c.args.a c.args.b c.args.c c.args.d c.args.e c.requires.a c.requires.b c.requires.c c.requires.d c.requires.e in
    let two = sum w128 _ _ _ _ (itself w128 c.args.a c.ranges.a) (itself w128 c.args.b c.ranges.b) f.two in
    (sum w128 _ _ _ _ two (itself w128 c.args.c c.ranges.c) f.three).fits

pub overflow_add-result-3 : goal.overflow_add-result-3
overflow_add-result-3 c =
    let f = middle4_fits c.args.a c.args.b c.args.c c.args.d c.args.e c.requires.a c.requires.b c.requires.c c.requires.d c.requires.e in
    let two = sum w128 _ _ _ _ (itself w128 c.args.a c.ranges.a) (itself w128 c.args.b c.ranges.b) f.two in
    let three = sum w128 _ _ _ _ two (itself w128 c.args.c c.ranges.c) f.three in
    (sum w128 _ _ _ _ three (itself w128 c.args.d c.ranges.d) f.four).fits

pub overflow_add-result-4 : goal.overflow_add-result-4
overflow_add-result-4 c =
    let f = middle4_fits c.args.a c.args.b c.args.c c.args.d c.args.e c.requires.a c.requires.b c.requires.c c.requires.d c.requires.e in
    let two = sum w128 _ _ _ _ (itself w128 c.args.a c.ranges.a) (itself w128 c.args.b c.ranges.b) f.two in
    let three = sum w128 _ _ _ _ two (itself w128 c.args.c c.ranges.c) f.three in
    let four = sum w128 _ _ _ _ three (itself w128 c.args.d c.ranges.d) f.four in
    (sum w128 _ _ _ _ four (itself w128 c.args.e c.ranges.e) f.whole).fits

pub returns : goal.returns
returns c =
    let f = middle4_fits c.args.a c.args.b c.args.c c.args.d c.args.e c.requires.a c.requires.b c.requires.c c.requires.d c.requires.e in
    let two = sum w128 _ _ _ _ (itself w128 c.args.a c.ranges.a) (itself w128 c.args.b c.ranges.b) f.two in
    let three = sum w128 _ _ _ _ two (itself w128 c.args.c c.ranges.c) f.three in
    let four = sum w128 _ _ _ _ three (itself w128 c.args.d c.ranges.d) f.four in
    let whole = sum w128 _ _ _ _ four (itself w128 c.args.e c.ranges.e) f.whole in
    ap (λ z. to_z w128 (of_z w128 (int_shr z 4))) whole.value
    ∙ to_z-of_z w128 (middle4 c.args.a c.args.b c.args.c c.args.d c.args.e) f.middle
