use Rattle.std.proofs.Common.{◌≡◌, ◌∙◌, ap, length, arith, rules, w32, FitsSigned}
use Rattle.std.proofs.lemmas.Int.{to_z-of_z}
use Rattle.space.specs.Vectors.{at}
use Rattle.ray_grid.specs.Lattice.{nodes_of}
use Rattle.space.specs.Reach.{is_near}
use Rattle.ray_grid.proofs.Rows.{length-strip}
use Rattle.ray_grid.proofs.Windows.{strip_is, strip_far, strip_beside, told_near, told_far}
use Rattle.ray_grid.proofs.grid.Grid.strip_window.Goals as goal

pub returns-then-not-holds-clause-exact : goal.returns-then-not-holds-clause-exact
returns-then-not-holds-clause-exact c =
    let a = c.first_axis-first.result in
    let reach_fits = c.ranges.reach in
    let fits : FitsSigned w32 c.node.result = search rules in
    let test : c.holds.result ≡ is_near c.args.reach (at c.args.from a) (at c.args.to a) c.node.result = simp to_z-of_z at c.holds.ensures in
    λ n.
    strip_far c.args.self.now c.args.strip c.row-family.result.0 c.row-family.result.1 c.args.from c.args.to c.args.reach a n c.row-family.ensures.rays c.first_axis-first.ensures.axis
    (told_far c.holds.result (at c.args.from a) (at c.args.to a) c.args.reach c.node.result _ test c.node.ensures.value c.if-not-holds.true)

pub returns-then-start-end-clause-exact : goal.returns-then-start-end-clause-exact
returns-then-start-end-clause-exact c =
    let reach_fits = c.ranges.reach in
    λ n.
    strip_beside c.args.self.now c.args.strip c.row-family.result.0 c.row-family.result.1 c.args.from c.args.to c.args.reach c.points_within-start.result.0 c.points_within-start.result.1 n
    c.row-family.ensures.rays (λ l. simp to_z-of_z at (c.points_within-start.ensures.exact l)) c.if-start-end.true

pub returns-clause-within : goal.returns-clause-within
returns-clause-within c =
    let size = ap length c.row-family.ensures.rays ∙ length-strip c.args.self.now c.row-family.result.0 c.row-family.result.1 in
    let count = ap (nodes_of c.args.self.now) c.second_axis.ensures.axis in
    let within = c.nodes_within.ensures.within in
    omega arith

pub returns-clause-exact : goal.returns-clause-exact
returns-clause-exact c =
    let a = c.first_axis-first.result in
    let reach_fits = c.ranges.reach in
    let fits : FitsSigned w32 c.node.result = search rules in
    let test : c.holds.result ≡ is_near c.args.reach (at c.args.from a) (at c.args.to a) c.node.result = simp to_z-of_z at c.holds.ensures in
    λ n.
    strip_is c.args.self.now c.args.strip c.row-family.result.0 c.row-family.result.1 c.args.from c.args.to c.args.reach a c.second_axis.result c.points_within-start.result.0 c.points_within-start.result.1
    c.nodes_within.result.0 c.nodes_within.result.1 n c.row-family.ensures.rays c.first_axis-first.ensures.axis c.second_axis.ensures.axis
    (told_near c.holds.result (at c.args.from a) (at c.args.to a) c.args.reach c.node.result _ test c.node.ensures.value c.if-not-holds.false)
    (λ l. simp to_z-of_z at (c.points_within-start.ensures.exact l)) c.points_within-start.ensures.order c.if-start-end.false (simp to_z-of_z at (c.nodes_within.ensures.exact n))
