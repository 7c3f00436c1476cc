use Rattle.std.proofs.Common.{◌-◌, ◌||◌}
use Rattle.ray_words.proofs.WrittenRays.{given_sets, given_word, written_ray}
use Rattle.ray_words.proofs.word_ray.WordRay.add_delta.Goals as goal

pub invariant_of-self : goal.invariant_of-self
invariant_of-self c =
    let i = c.self.inside in
    written_ray (λ p q. p || q) i.stock i.part i.fixture i.first i.words.items c.args.n (c.args.n - i.first)
    c.with.result c.args.delta.now c.self.invariant
    (given_word c.args.self.now i.stock i.part i.fixture i.first i.words.items c.args.n c.index.result.now c.with.result
    c.args.delta.now c.self.view_is c.requires.kept c.index.ensures c.requires.sure c.requires.possible c.with.ensures)

pub returns-clause-given : goal.returns-clause-given
returns-clause-given c =
    let i = c.self.inside in
    given_sets c.args.self.now i.stock i.part i.fixture i.first i.words.items c.args.n (c.args.n - i.first)
    c.with.result c.args.delta.now c.self.view_is
    (given_word c.args.self.now i.stock i.part i.fixture i.first i.words.items c.args.n c.index.result.now c.with.result
    c.args.delta.now c.self.view_is c.requires.kept c.index.ensures c.requires.sure c.requires.possible c.with.ensures)
