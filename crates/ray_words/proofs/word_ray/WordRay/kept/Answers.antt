use Rattle.std.proofs.Common.{arith, subst}
use Rattle.ray_words.specs.Rays.{KeptSets}
use Rattle.ray_words.specs.Kept.{IsUnmarked}
use Rattle.ray_words.proofs.Marks.{is_unmarked, word_at-before, word_at-past}
use Rattle.ray_words.proofs.word_ray.WordRay.kept.Goals as goal

pub returns-then-n-self : goal.returns-then-n-self
returns-then-n-self c =
    subst (λ (r : KeptSets). IsUnmarked r.sets c.args.n) c.self.view_is
    (is_unmarked c.self.inside.stock c.self.inside.part c.self.inside.fixture c.self.inside.first c.self.inside.words.items c.args.n
    (word_at-before c.self.inside.first c.self.inside.words.items c.args.n (omega arith)))

pub returns-else-at-len : goal.returns-else-at-len
returns-else-at-len c =
    subst (λ (r : KeptSets). IsUnmarked r.sets c.args.n) c.self.view_is
    (is_unmarked c.self.inside.stock c.self.inside.part c.self.inside.fixture c.self.inside.first c.self.inside.words.items c.args.n
    (word_at-past c.self.inside.first c.self.inside.words.items c.args.n (omega arith)))
