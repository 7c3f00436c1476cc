use Rattle.std.proofs.Common.{subst, sym}
use Rattle.dexel_rays.specs.Sets.{HaveBound}
use Rattle.ray_words.specs.Rays.{KeptSets}
use Rattle.ray_words.proofs.Marks.{have_bound}
use Rattle.ray_words.proofs.word_ray.WordRay.bound.Goals as goal

pub returns-clause-all : goal.returns-clause-all
returns-clause-all c =
    subst (λ (r : KeptSets). HaveBound c.bound.result r.sets) c.self.view_is
    (have_bound c.self.inside.stock c.self.inside.part c.self.inside.fixture c.self.inside.first c.self.inside.words.items c.bound.result
    (sym c.bound.ensures) c.self.invariant.part_bound c.self.invariant.fixture_bound)
