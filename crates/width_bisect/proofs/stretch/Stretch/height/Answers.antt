use Rattle.std.proofs.Common.{◌∙◌}
use Rattle.space.specs.Vectors.{at}
use Rattle.width_bisect.proofs.Doubled.{product_kept, sum_kept, twice_kept}
use Rattle.width_bisect.proofs.Fitting.{height_fits, height_form_fits, height_is}
use Rattle.width_bisect.proofs.Same.{same5}
use Rattle.width_bisect.proofs.stretch.Stretch.height.Goals as goal

pub overflow_mul-result : goal.overflow_mul-result
overflow_mul-result c =
    let u = c.args.self.now.u in let small = c.args.self.now.u_small in let g = height_form_fits u small in
    let f = height_fits (at u 0) (at u 1) (at u 2) small.first small.middle small.last in
    let p = c.product-2 in (twice_kept p.result (at u 0) (at u 1) record { sfits = p.type_inv } g.first g.middle p.ensures f.second).fits

pub overflow_mul-result-2 : goal.overflow_mul-result-2
overflow_mul-result-2 c =
    let u = c.args.self.now.u in let small = c.args.self.now.u_small in let g = height_form_fits u small in
    let f = height_fits (at u 0) (at u 1) (at u 2) small.first small.middle small.last in
    let p = c.product-3 in (twice_kept p.result (at u 0) (at u 2) record { sfits = p.type_inv } g.first g.last p.ensures f.ends).fits

pub overflow_add-result : goal.overflow_add-result
overflow_add-result c =
    let u = c.args.self.now.u in let small = c.args.self.now.u_small in let g = height_form_fits u small in
    let f = height_fits (at u 0) (at u 1) (at u 2) small.first small.middle small.last in
    let p = c.product-3 in let q = c.product-4 in
    let ends = twice_kept p.result (at u 0) (at u 2) record { sfits = p.type_inv } g.first g.last p.ensures f.ends in
    (sum_kept _ _ q.result (at u 1) ends record { sfits = q.type_inv } g.middle q.ensures f.middle).fits

pub overflow_mul-result-3 : goal.overflow_mul-result-3
overflow_mul-result-3 c =
    let u = c.args.self.now.u in let small = c.args.self.now.u_small in let g = height_form_fits u small in
    let f = height_fits (at u 0) (at u 1) (at u 2) small.first small.middle small.last in
    let p = c.product-5 in (twice_kept p.result (at u 1) (at u 2) record { sfits = p.type_inv } g.middle g.last p.ensures f.fourth).fits

pub returns : goal.returns
returns c =
    let u = c.args.self.now.u in let small = c.args.self.now.u_small in let g = height_form_fits u small in
    let f = height_fits (at u 0) (at u 1) (at u 2) small.first small.middle small.last in
    let p = c.product in let q = c.product-2 in let r = c.product-3 in let s = c.product-4 in let t = c.product-5 in let v = c.product-6 in
    let square = product_kept p.result (at u 0) (at u 0) record { sfits = p.type_inv } g.first g.first p.ensures in
    let second = twice_kept q.result (at u 0) (at u 1) record { sfits = q.type_inv } g.first g.middle q.ensures f.second in
    let ends = twice_kept r.result (at u 0) (at u 2) record { sfits = r.type_inv } g.first g.last r.ensures f.ends in
    let middle = sum_kept _ _ s.result (at u 1) ends record { sfits = s.type_inv } g.middle s.ensures f.middle in
    let fourth = twice_kept t.result (at u 1) (at u 2) record { sfits = t.type_inv } g.middle g.last t.ensures f.fourth in
    let last = product_kept v.result (at u 2) (at u 2) record { sfits = v.type_inv } g.last g.last v.ensures in
    same5 _ _ _ _ _ _ _ _ _ _ square second.value middle.value fourth.value last ∙ height_is u
