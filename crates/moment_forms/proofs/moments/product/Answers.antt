use Rattle.std.proofs.Common.{◌∙◌, ◌*◌}
use mir.Syntax.{w64, w128}
use Rattle.space.specs.Vectors.{at}
use Rattle.space.proofs.Reread.{back_of, small_back}
use Rattle.moment_forms.specs.Sizes.{moments_limit}
use Rattle.moment_forms.proofs.Fits.{square_by, square_fits, squares_fit, three_same, turn_fits}
use Rattle.moment_forms.proofs.moments.product.Goals as goal

pub square-requires : goal.square-requires
square-requires c =
    let x = c.args.x.now in let y = c.args.y.now in
    record { x = small_back w64 (at x 0) moments_limit turn_fits c.requires.x.0; y = small_back w64 (at y 0) moments_limit turn_fits c.requires.y.0 }

pub square-requires-2 : goal.square-requires-2
square-requires-2 c =
    let x = c.args.x.now in let y = c.args.y.now in
    record { x = small_back w64 (at x 1) moments_limit turn_fits c.requires.x.1; y = small_back w64 (at y 1) moments_limit turn_fits c.requires.y.1 }

pub square-requires-3 : goal.square-requires-3
square-requires-3 c =
    let x = c.args.x.now in let y = c.args.y.now in
    record { x = small_back w64 (at x 2) moments_limit turn_fits c.requires.x.2; y = small_back w64 (at y 2) moments_limit turn_fits c.requires.y.2 }

pub add_squares-requires : goal.add_squares-requires
add_squares-requires c =
    let n = moments_limit * moments_limit in record {
      x = small_back w128 c.square.result n square_fits c.square.ensures.small;
      y = small_back w128 c.square-2.result n square_fits c.square-2.ensures.small;
      z = small_back w128 c.square-3.result n square_fits c.square-3.ensures.small;
    }

pub returns-clause-value : goal.returns-clause-value
returns-clause-value c =
    let x = c.args.x.now in let y = c.args.y.now in let hx = c.requires.x in let hy = c.requires.y in
    let p = c.square in let q = c.square-2 in let r = c.square-3 in
    back_of w128 c.add_squares.result (3 * (moments_limit * moments_limit)) squares_fit c.add_squares.ensures.small ∙ c.add_squares.ensures.value
    ∙ three_same _ _ _ _ _ _ (square_by p.result (at x 0) (at y 0) p.ensures.small hx.0 hy.0 p.ensures.value)
    (square_by q.result (at x 1) (at y 1) q.ensures.small hx.1 hy.1 q.ensures.value) (square_by r.result (at x 2) (at y 2) r.ensures.small hx.2 hy.2 r.ensures.value)

pub returns-clause-small : goal.returns-clause-small
returns-clause-small c = small_back w128 c.add_squares.result (3 * (moments_limit * moments_limit)) squares_fit c.add_squares.ensures.small
