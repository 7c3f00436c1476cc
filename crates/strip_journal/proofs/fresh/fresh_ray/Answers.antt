use Rattle.std.proofs.Common.{◌≡◌, ℕ, false, Bool, List, length, ap, sym, ◌∙◌, subst}
use Rattle.vf_spans.specs.Members.{has}
use Rattle.ray_grid.specs.Grids.{GridSize}
use Rattle.ray_grid.specs.declared.ray.Ray.{Ray}
use Rattle.ray_grid.specs.Lattice.{IsRay, points_of}
use Rattle.ray_shapes.specs.declared.solid.Solid.{Solid}
use Rattle.ray_shapes.specs.Sets.{HoldsPointsOf, in_solid}
use Rattle.ray_shapes.proofs.Kept.{gives_own}
use Rattle.dexel_rays.specs.Sets.{HaveBound}
use Rattle.ray_words.specs.Rays.{KeptSets}
use Rattle.strip_journal.specs.Fresh.{IsFreshRay}
use Rattle.strip_journal.proofs.fresh.fresh_ray.Goals as goal

is_fresh : (grid : GridSize) (ray : Ray) (stock part fixture : Solid) (xs ys zs : List Bool) (r : KeptSets)
    → HoldsPointsOf grid ray (in_solid stock grid) xs → HoldsPointsOf grid ray (in_solid part grid) ys → HoldsPointsOf grid ray (in_solid fixture grid) zs
    → r.sets.stock ≡ xs → r.sets.part ≡ ys → r.sets.fixture ≡ zs → HaveBound (length xs) r.sets
    → ((i : ℕ) → has r.sets.sure i ≡ false) → ((i : ℕ) → has r.sets.possible i ≡ false) → IsFreshRay grid ray stock part fixture r
is_fresh grid ray stock part fixture xs ys zs r x y z is is_part is_fixture bound sure possible = record {
  bound = subst (λ n. HaveBound n r.sets) x.bound bound;
  stock_is = λ l low. ap (λ (s : List Bool). has s l) is ∙ x.points l low;
  part_is = λ l low. ap (λ (s : List Bool). has s l) is_part ∙ y.points l low;
  fixture_is = λ l low. ap (λ (s : List Bool). has s l) is_fixture ∙ z.points l low;
  sure = sure;
  possible = possible;
}

pub returns : goal.returns
returns g c =
    let ray = c.args.ray.now in
    let e = c.new.ensures in
    is_fresh c.args.stock.now.grid ray c.args.stock.now.solid.value c.args.part.now.solid.value c.args.fixture.now.solid.value _ _ _ c.new.result
    c.in_ok-stock.ensures
    (subst (λ (grid : GridSize). HoldsPointsOf grid ray (in_solid c.args.part.now.solid.value grid) c.in_ok-part.part) c.requires.part.kept_for c.in_ok-part.ensures)
    (subst (λ (grid : GridSize). HoldsPointsOf grid ray (in_solid c.args.fixture.now.solid.value grid) c.in_ok-fixture.fixture) c.requires.fixture.kept_for c.in_ok-fixture.ensures)
    e.stock e.part e.fixture e.bound e.sure e.possible

pub new-requires-clause-part : goal.new-requires-clause-part
new-requires-clause-part g c =
    c.in_ok-part.ensures.bound ∙ ap (λ (grid : GridSize). points_of grid c.args.ray.now.family) c.requires.part.kept_for ∙ sym c.in_ok-stock.ensures.bound

pub new-requires-clause-fixture : goal.new-requires-clause-fixture
new-requires-clause-fixture g c =
    c.in_ok-fixture.ensures.bound ∙ ap (λ (grid : GridSize). points_of grid c.args.ray.now.family) c.requires.fixture.kept_for ∙ sym c.in_ok-stock.ensures.bound

pub fill-requires-clause-gives : goal.fill-requires-clause-gives
fill-requires-clause-gives g c = c.requires.stock

pub fill-requires-2-clause-gives : goal.fill-requires-2-clause-gives
fill-requires-2-clause-gives g c = gives_own g.B.Fn c.args.stock.now.grid c.args.part.now c.requires.part

pub fill-requires-2-clause-ray : goal.fill-requires-2-clause-ray
fill-requires-2-clause-ray g c = subst (λ (grid : GridSize). IsRay grid c.args.ray.now) (sym c.requires.part.kept_for) c.requires.ray

pub fill-requires-3-clause-gives : goal.fill-requires-3-clause-gives
fill-requires-3-clause-gives g c = gives_own g.C.Fn c.args.stock.now.grid c.args.fixture.now c.requires.fixture

pub fill-requires-3-clause-ray : goal.fill-requires-3-clause-ray
fill-requires-3-clause-ray g c = subst (λ (grid : GridSize). IsRay grid c.args.ray.now) (sym c.requires.fixture.kept_for) c.requires.ray
