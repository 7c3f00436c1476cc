use Rattle.std.proofs.Common.{FitsSigned, rules}
use Rattle.std.proofs.lemmas.Int.{to_z-of_z}
use mir.Syntax.{w64}
use Rattle.space.specs.Vectors.{at}
use Rattle.width_bisect.proofs.Fitting.{axis_form_fits, raised_fits, raised_is}
use Rattle.width_bisect.proofs.Kept.{itself, multiple, sum}
use Rattle.width_bisect.proofs.stretch.Stretch.raised.Goals as goal

pub overflow_mul-result : goal.overflow_mul-result
overflow_mul-result c =
    let n = c.args.self.now.n in let small = c.args.self.now.n_small in let fits = axis_form_fits n small in
    let f = raised_fits (at n 0) (at n 1) (at n 2) small.first small.middle small.last in
    (multiple w64 2 _ _ (itself w64 (at n 0) fits.first) f.first).fits

pub overflow_add-result : goal.overflow_add-result
overflow_add-result c =
    let n = c.args.self.now.n in let small = c.args.self.now.n_small in let fits = axis_form_fits n small in
    let f = raised_fits (at n 0) (at n 1) (at n 2) small.first small.middle small.last in
    (sum w64 _ _ _ _ (multiple w64 2 _ _ (itself w64 (at n 0) fits.first) f.first) (itself w64 (at n 1) fits.middle) f.second).fits

pub overflow_mul-result-2 : goal.overflow_mul-result-2
overflow_mul-result-2 c =
    let n = c.args.self.now.n in let small = c.args.self.now.n_small in let fits = axis_form_fits n small in
    let f = raised_fits (at n 0) (at n 1) (at n 2) small.first small.middle small.last in
    (multiple w64 2 _ _ (itself w64 (at n 1) fits.middle) f.twice).fits

pub overflow_add-result-2 : goal.overflow_add-result-2
overflow_add-result-2 c =
    let n = c.args.self.now.n in let small = c.args.self.now.n_small in let fits = axis_form_fits n small in
    let f = raised_fits (at n 0) (at n 1) (at n 2) small.first small.middle small.last in
    (sum w64 _ _ _ _ (itself w64 (at n 0) fits.first) (multiple w64 2 _ _ (itself w64 (at n 1) fits.middle) f.twice) f.two).fits

pub overflow_add-result-3 : goal.overflow_add-result-3
overflow_add-result-3 c =
    let n = c.args.self.now.n in let small = c.args.self.now.n_small in let fits = axis_form_fits n small in
    let f = raised_fits (at n 0) (at n 1) (at n 2) small.first small.middle small.last in
    let two = sum w64 _ _ _ _ (itself w64 (at n 0) fits.first) (multiple w64 2 _ _ (itself w64 (at n 1) fits.middle) f.twice) f.two in
    (sum w64 _ _ _ _ two (itself w64 (at n 2) fits.last) f.middle).fits

pub overflow_mul-result-3 : goal.overflow_mul-result-3
overflow_mul-result-3 c =
    let n = c.args.self.now.n in let small = c.args.self.now.n_small in let fits = axis_form_fits n small in
    let f = raised_fits (at n 0) (at n 1) (at n 2) small.first small.middle small.last in
    (multiple w64 2 _ _ (itself w64 (at n 2) fits.last) f.last).fits

pub overflow_add-result-4 : goal.overflow_add-result-4
overflow_add-result-4 c =
    let n = c.args.self.now.n in let small = c.args.self.now.n_small in let fits = axis_form_fits n small in
    let f = raised_fits (at n 0) (at n 1) (at n 2) small.first small.middle small.last in
    (sum w64 _ _ _ _ (itself w64 (at n 1) fits.middle) (multiple w64 2 _ _ (itself w64 (at n 2) fits.last) f.last) f.fourth).fits

pub returns : goal.returns
returns c =
    let n = c.args.self.now.n in let small = c.args.self.now.n_small in
    let f = raised_fits (at n 0) (at n 1) (at n 2) small.first small.middle small.last in
    let a : FitsSigned w64 (at n 0) = search rules in let b : FitsSigned w64 (at n 1) = search rules in let d : FitsSigned w64 (at n 2) = search rules in
    let first = f.first in let second = f.second in let twice = f.twice in let two = f.two in let middle = f.middle in let last = f.last in let fourth = f.fourth in
    simp to_z-of_z (raised_is n)
