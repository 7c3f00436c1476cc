-- The bodies stay, and a stretch of no words marks no index.
use Rattle.std.proofs.Common.{ap, length, refl, subst}
use Rattle.ray_words.specs.Kept.{sets_of}
use Rattle.ray_words.specs.Rays.{IsCleared, KeptSets}
use Rattle.ray_words.proofs.Marks.{have_bound, no_marks}
use Rattle.ray_words.proofs.word_ray.WordRay.clear.Goals as goal

pub returns-clause-cleared : goal.returns-clause-cleared
returns-clause-cleared c =
    let i = c.self.inside in
    let words = c.clear.new.self.items in
    let none = ap length c.clear.ensures.items in
    subst (λ (r : KeptSets). IsCleared r.sets (sets_of i.stock i.part i.fixture 0 words)) c.self.view_is (record {
      stock = refl;
      part = refl;
      fixture = refl;
      sure = λ k. no_marks (λ w. w.sure) (length i.stock) 0 words k refl none;
      possible = λ k. no_marks (λ w. w.possible) (length i.stock) 0 words k refl none;
      bound =
          have_bound i.stock i.part i.fixture 0 words (length i.stock) refl c.self.invariant.part_bound c.self.invariant.fixture_bound;
    })
