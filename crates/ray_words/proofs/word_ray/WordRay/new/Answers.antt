use Rattle.std.proofs.Common.{refl, ap, length}
use Rattle.ray_words.proofs.Marks.{have_bound, no_marks}
use Rattle.ray_words.proofs.word_ray.WordRay.new.Goals as goal

pub returns-clause-sure : goal.returns-clause-sure
returns-clause-sure c = λ i. no_marks (λ w. w.sure) (length c.args.stock) 0 c.new.result.items i refl (ap length c.new.ensures.items)

pub returns-clause-possible : goal.returns-clause-possible
returns-clause-possible c =
    λ i. no_marks (λ w. w.possible) (length c.args.stock) 0 c.new.result.items i refl (ap length c.new.ensures.items)

pub returns-clause-bound : goal.returns-clause-bound
returns-clause-bound c =
    have_bound c.args.stock c.args.part c.args.fixture 0 c.new.result.items (length c.args.stock) refl c.requires.part c.requires.fixture
