use Rattle.ray_words.proofs.Keeping.{fresh_word}
use Rattle.ray_words.proofs.word_ray.WordRay.unmarked.Goals as goal

pub returns : goal.returns
returns c =
    let i = c.self.inside in
    fresh_word c.args.self.now i.stock i.part i.fixture i.first i.words.items c.args.n
    c.word_of.result c.word_of-2.result c.word_of-3.result c.self.view_is
    c.word_of.ensures c.word_of-2.ensures c.word_of-3.ensures c.requires
