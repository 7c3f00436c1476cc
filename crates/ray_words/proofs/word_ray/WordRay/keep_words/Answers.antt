use Rattle.std.proofs.Common.{ap, ◌∙◌}
use Rattle.ray_words.specs.Rays.{KeptSets}
use Rattle.ray_words.proofs.Keeping.{longer_ray, longer_sets, made_longer}
use Rattle.ray_words.proofs.word_ray.WordRay.keep_words.Goals as goal

pub invariant_of-self : goal.invariant_of-self
invariant_of-self c =
    let i = c.self.inside in
    longer_ray i.stock i.part i.fixture i.first i.words.items c.stretch-first.result.0 c.in_ok-words.words.items c.self.invariant
    (made_longer c.args.self.now i.stock i.part i.fixture i.first i.words.items c.args.lo c.args.hi c.stretch-first.result
    c.in_ok-words.words.items c.self.view_is c.stretch-first.ensures c.requires.some c.in_ok-words.ensures.count
    c.in_ok-words.ensures.bits)

pub returns-clause-sets : goal.returns-clause-sets
returns-clause-sets c =
    let i = c.self.inside in
    longer_sets i.stock i.part i.fixture i.first i.words.items c.stretch-first.result.0 c.in_ok-words.words.items
    (made_longer c.args.self.now i.stock i.part i.fixture i.first i.words.items c.args.lo c.args.hi c.stretch-first.result
    c.in_ok-words.words.items c.self.view_is c.stretch-first.ensures c.requires.some c.in_ok-words.ensures.count c.in_ok-words.ensures.bits)
    ∙ ap (λ (r : KeptSets). r.sets) c.self.view_is
