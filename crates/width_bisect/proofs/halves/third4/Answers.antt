use Rattle.std.proofs.Common.{refl}
use Rattle.std.proofs.lemmas.Int.{to_z-of_z}
use mir.Syntax.{w128}
use Rattle.width_bisect.proofs.Kept.{itself, multiple, sum}
use Rattle.width_bisect.proofs.Shifting.{third4_fits}
use Rattle.width_bisect.proofs.halves.third4.Goals as goal

pub overflow_mul-result : goal.overflow_mul-result
overflow_mul-result c =
    let f = third4_fits c.args.a c.args.b c.args.c c.requires.a c.requires.b c.requires.c in
    (multiple w128 6 _ _ (itself w128 c.args.a c.ranges.a) f.first).fits

pub overflow_mul-result-2 : goal.overflow_mul-result-2
overflow_mul-result-2 c =
    let f = third4_fits c.args.a c.args.b c.args.c c.requires.a c.requires.b c.requires.c in
    (multiple w128 3 _ _ (itself w128 c.args.b c.ranges.b) f.second).fits

pub overflow_add-result : goal.overflow_add-result
overflow_add-result c =
    let f = third4_fits c.args.a c.args.b c.args.c c.requires.a c.requires.b c.requires.c in
    let first = multiple w128 6 _ _ (itself w128 c.args.a c.ranges.a) f.first in
    let second = multiple w128 3 _ _ (itself w128 c.args.b c.ranges.b) f.second in
    (sum w128 _ _ _ _ first second f.two).fits

pub overflow_add-result-2 : goal.overflow_add-result-2
overflow_add-result-2 c =
    let f = third4_fits c.args.a c.args.b c.args.c c.requires.a c.requires.b c.requires.c in
    let first = multiple w128 6 _ _ (itself w128 c.args.a c.ranges.a) f.first in
    let second = multiple w128 3 _ _ (itself w128 c.args.b c.ranges.b) f.second in
    (sum w128 _ _ _ _ (sum w128 _ _ _ _ first second f.two) (itself w128 c.args.c c.ranges.c) f.whole).fits

pub returns : goal.returns
returns c =
    let f = third4_fits c.args.a c.args.b c.args.c c.requires.a c.requires.b c.requires.c in
    let a = c.ranges.a in let b = c.ranges.b in let last = c.ranges.c in
    let first = f.first in let second = f.second in let two = f.two in let whole = f.whole in let third = f.third in
    simp to_z-of_z refl
