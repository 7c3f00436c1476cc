use Rattle.std.proofs.Common.{refl}
use Rattle.std.proofs.lemmas.Int.{to_z-of_z}
use mir.Syntax.{w128}
use Rattle.width_bisect.proofs.Kept.{itself, multiple, sum}
use Rattle.width_bisect.proofs.Shifting.{fourth4_fits}
use Rattle.width_bisect.proofs.halves.fourth4.Goals as goal

pub overflow_mul-result : goal.overflow_mul-result
overflow_mul-result c =
    let f = fourth4_fits c.args.a c.args.b c.args.c c.args.d c.requires.a c.requires.b c.requires.c c.requires.d in
    (multiple w128 4 _ _ (itself w128 c.args.a c.ranges.a) f.first).fits

pub overflow_mul-result-2 : goal.overflow_mul-result-2
overflow_mul-result-2 c =
    let f = fourth4_fits c.args.a c.args.b c.args.c c.args.d c.requires.a c.requires.b c.requires.c c.requires.d in
    (multiple w128 3 _ _ (itself w128 c.args.b c.ranges.b) f.second).fits

pub overflow_mul-result-3 : goal.overflow_mul-result-3
overflow_mul-result-3 c =
    let f = fourth4_fits c.args.a c.args.b c.args.c c.args.d c.requires.a c.requires.b c.requires.c c.requires.d in
    (multiple w128 2 _ _ (itself w128 c.args.c c.ranges.c) f.third).fits

pub overflow_add-result : goal.overflow_add-result
overflow_add-result c =
    let f = fourth4_fits c.args.a c.args.b c.args.c c.args.d c.requires.a c.requires.b c.requires.c c.requires.d in
    let first = multiple w128 4 _ _ (itself w128 c.args.a c.ranges.a) f.first in
    let second = multiple w128 3 _ _ (itself w128 c.args.b c.ranges.b) f.second in
    (sum w128 _ _ _ _ first second f.two).fits

pub overflow_add-result-2 : goal.overflow_add-result-2
overflow_add-result-2 c =
    let f = fourth4_fits c.args.a c.args.b c.args.c c.args.d c.requires.a c.requires.b c.requires.c c.requires.d in
    let first = multiple w128 4 _ _ (itself w128 c.args.a c.ranges.a) f.first in
    let second = multiple w128 3 _ _ (itself w128 c.args.b c.ranges.b) f.second in
    let third = multiple w128 2 _ _ (itself w128 c.args.c c.ranges.c) f.third in
    (sum w128 _ _ _ _ (sum w128 _ _ _ _ first second f.two) third f.three).fits

pub overflow_add-result-3 : goal.overflow_add-result-3
overflow_add-result-3 c =
    let f = fourth4_fits c.args.a c.args.b c.args.c c.args.d c.requires.a c.requires.b c.requires.c c.requires.d in
    let a = c.ranges.a in let b = c.ranges.b in let third' = c.ranges.c in let last = c.ranges.d in
    let first = f.first in let second = f.second in let third = f.third in let two = f.two in let three = f.three in
    simp to_z-of_z f.whole

pub returns : goal.returns
returns c =
    let f = fourth4_fits c.args.a c.args.b c.args.c c.args.d c.requires.a c.requires.b c.requires.c c.requires.d in
    let a = c.ranges.a in let b = c.ranges.b in let third' = c.ranges.c in let last = c.ranges.d in
    let first = f.first in let second = f.second in let third = f.third in let two = f.two in let three = f.three in let whole = f.whole in let fourth = f.fourth in
    simp to_z-of_z refl
