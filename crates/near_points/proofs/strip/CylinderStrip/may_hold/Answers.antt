use Rattle.std.proofs.Common.{◌≡◌, ◌-◌, true, false, not, ⊎_elim, arith, ap}
use Rattle.std.proofs.lemmas.Bool.{cases_Bool}
use Rattle.near_points.specs.Rays.{cylinder_ray_at}
use Rattle.near_points.proofs.Holding.{point_holds}
use Rattle.near_points.proofs.Trimming.{in_range_ends}
use Rattle.near_points.proofs.Turning.{first_fits_on, ready_on}
use Rattle.near_points.proofs.strip.CylinderStrip.may_hold.Goals as goal

pub moved-start-requires : goal.moved-start-requires
moved-start-requires c =
    let i = c.self.inside in first_fits_on i.start i.across i.step i.test _ _ c.args.j c.self.view_is c.self.invariant c.requires.node

pub are_all_beyond-requires : goal.are_all_beyond-requires
are_all_beyond-requires c =
    let i = c.self.inside in let range = c.args.range in
    let ready =
    ready_on i.start i.across c.moved-start.result i.step i.test _ c.args.self.now c.args.j c.self.view_is c.self.invariant c.requires.node
    c.moved-start.ensures in
    record {
      from = ready.fits range.0 (omega (arith, c.requires.some, c.requires.on_ray));
      to = ready.fits (range.1 - 1) (omega (arith, c.requires.some, c.requires.on_ray));
    }

pub returns : goal.returns
returns c = λ l there held.
    let i = c.self.inside in let first = c.moved-start.result in
    let r = cylinder_ray_at c.args.self.now c.args.j in let all = c.are_all_beyond in
    let ready =
    ready_on i.start i.across first i.step i.test _ c.args.self.now c.args.j c.self.view_is c.self.invariant c.requires.node
    c.moved-start.ensures in
    let within = in_range_ends l c.args.range.0 c.args.range.1 there in
    let yes = point_holds first i.step i.test r l ready (omega (arith, within.1, c.requires.on_ray)) held in
    ⊎_elim
    (λ (beyond : all.result ≡ true). let no = all.ensures beyond l within.0 (omega (arith, within.1)) in absurd (cc))
    (λ (some : all.result ≡ false). ap not some) (cases_Bool all.result)
