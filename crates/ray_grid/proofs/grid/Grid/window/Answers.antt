use Rattle.std.proofs.Common.{◌≡◌, rules, w32, FitsSigned}
use Rattle.std.proofs.lemmas.Int.{to_z-of_z}
use Rattle.space.specs.Vectors.{at}
use Rattle.space.specs.Reach.{is_near}
use Rattle.ray_grid.proofs.Windows.{window_is, none_first, none_second, told_near, told_far}
use Rattle.ray_grid.proofs.grid.Grid.window.Goals as goal

pub returns-then-not-holds-clause-exact : goal.returns-then-not-holds-clause-exact
returns-then-not-holds-clause-exact c =
    let a = c.first_axis-first.result in
    let reach_fits = c.ranges.reach in
    let fits : FitsSigned w32 c.node.result = search rules in
    let test : c.holds.result ≡ is_near c.args.reach (at c.args.from a) (at c.args.to a) c.node.result = simp to_z-of_z at c.holds.ensures in
    λ l.
    none_first c.args.self.now c.args.ray.now.family c.args.ray.now.i c.args.ray.now.j c.args.from c.args.to c.args.reach a l c.first_axis-first.ensures.axis
    (told_far c.holds.result (at c.args.from a) (at c.args.to a) c.args.reach c.node.result _ test c.node.ensures.value c.if-not-holds.true)

pub returns-then-not-holds-2-clause-exact : goal.returns-then-not-holds-2-clause-exact
returns-then-not-holds-2-clause-exact c =
    let b = c.second_axis-second.result in
    let reach_fits = c.ranges.reach in
    let fits : FitsSigned w32 c.node-2.result = search rules in
    let test : c.holds-2.result ≡ is_near c.args.reach (at c.args.from b) (at c.args.to b) c.node-2.result = simp to_z-of_z at c.holds-2.ensures in
    λ l.
    none_second c.args.self.now c.args.ray.now.family c.args.ray.now.i c.args.ray.now.j c.args.from c.args.to c.args.reach b l c.second_axis-second.ensures.axis
    (told_far c.holds-2.result (at c.args.from b) (at c.args.to b) c.args.reach c.node-2.result _ test c.node-2.ensures.value c.if-not-holds-2.true)

pub returns-clause-exact : goal.returns-clause-exact
returns-clause-exact c =
    let a = c.first_axis-first.result in
    let b = c.second_axis-second.result in
    let reach_fits = c.ranges.reach in
    let fits : FitsSigned w32 c.node.result = search rules in
    let fits_2 : FitsSigned w32 c.node-2.result = search rules in
    let first : c.holds.result ≡ is_near c.args.reach (at c.args.from a) (at c.args.to a) c.node.result = simp to_z-of_z at c.holds.ensures in
    let second : c.holds-2.result ≡ is_near c.args.reach (at c.args.from b) (at c.args.to b) c.node-2.result = simp to_z-of_z at c.holds-2.ensures in
    λ l.
    window_is c.args.self.now c.args.ray.now.family c.args.ray.now.i c.args.ray.now.j c.args.from c.args.to c.args.reach a b c.points_within.result.0 c.points_within.result.1 l
    c.first_axis-first.ensures.axis c.second_axis-second.ensures.axis
    (told_near c.holds.result (at c.args.from a) (at c.args.to a) c.args.reach c.node.result _ first c.node.ensures.value c.if-not-holds.false)
    (told_near c.holds-2.result (at c.args.from b) (at c.args.to b) c.args.reach c.node-2.result _ second c.node-2.ensures.value c.if-not-holds-2.false)
    (simp to_z-of_z at (c.points_within.ensures.exact l))
