use Rattle.std.proofs.Common.{◌-◌, ◌&&◌, not}
use Rattle.ray_words.proofs.WrittenRays.{written_ray, taken_word, taken_sets}
use Rattle.ray_words.proofs.word_ray.WordRay.remove_delta.Goals as goal

pub invariant_of-self : goal.invariant_of-self
invariant_of-self c =
    let i = c.self.inside in
    written_ray (λ p q. p && not q) i.stock i.part i.fixture i.first i.words.items c.args.n (c.args.n - i.first)
    c.without.result c.args.delta.now c.self.invariant
    (taken_word c.args.self.now i.stock i.part i.fixture i.first i.words.items c.args.n c.index.result.now
    c.without.result c.args.delta.now c.self.view_is c.requires.kept c.index.ensures c.without.ensures.without)

pub returns-clause-taken : goal.returns-clause-taken
returns-clause-taken c =
    let i = c.self.inside in
    taken_sets c.args.self.now i.stock i.part i.fixture i.first i.words.items c.args.n (c.args.n - i.first)
    c.without.result c.args.delta.now c.self.view_is
    (taken_word c.args.self.now i.stock i.part i.fixture i.first i.words.items c.args.n c.index.result.now
    c.without.result c.args.delta.now c.self.view_is c.requires.kept c.index.ensures c.without.ensures.without)
