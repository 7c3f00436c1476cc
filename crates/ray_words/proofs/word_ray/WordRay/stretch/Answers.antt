-- A stretch that grows begins no later than the words that are kept, and ends with the ray at the latest.
use Rattle.std.proofs.Common.{◌≡◌, ◌+◌, ℕ, ◌≤◌, length, min, arith, ap}
use Rattle.vf_spans.specs.Words.{words_below}
use Rattle.ray_words.specs.Kept.{IsStretch}
use Rattle.ray_words.specs.Rays.{KeptSets}
use Rattle.ray_words.proofs.word_ray.WordRay.stretch.Goals as goal
use Rattle.ray_words.proofs.word_ray.WordRay.stretch.Goals.{then-first-lo, else-first-lo}

-- an end that is no less than what is wanted and what is kept is capped by the ray's own
capped : (r : KeptSets) (lo hi from end wide words to : ℕ) → (from ≤ lo) × (from ≤ r.first) → hi ≤ wide → end ≤ hi
    → hi ≤ words_below (length r.sets.stock) → end ≡ r.first + r.count → words ≡ words_below (length r.sets.stock) → to ≡ min wide words
    → IsStretch r lo hi (from, to)
capped r lo hi from end wide words to start more less within end_is words_is to_is = record {
  from = start.0;
  to = omega (arith, to_is);
  within = omega (arith, to_is);
  kept_from = λ _. start.1;
  kept_to = λ _. omega (arith, to_is);
}

pub returns-else-hi-end : goal.returns-else-hi-end
returns-else-hi-end c =
    let to = c.min-to.ensures in
    let view = c.self.view_is in
    let first = ap (λ (r : KeptSets). r.first) view in
    let words : c.div_ceil-words.result ≡ words_below (length c.args.self.now.sets.stock) =
    omega (arith, c.div_ceil-words.ensures, c.bound.ensures, ap (λ (r : KeptSets). length r.sets.stock) view) in
    let start : (c.if-first-lo.from ≤ c.args.lo) × (c.if-first-lo.from ≤ c.args.self.now.first) =
    elim c.if-first-lo.branch [ then-first-lo w ↦ (omega arith, omega arith) | else-first-lo w ↦ (omega arith, omega arith) ] in
    let wide : c.args.hi ≤ c.saturating_add.result = omega (arith, c.saturating_add.ensures) in
    capped c.args.self.now c.args.lo c.args.hi c.if-first-lo.from c.end-end.result c.saturating_add.result c.div_ceil-words.result c.min-to.result
    start wide (omega arith) c.requires.within c.end-end.ensures.end words to

pub returns-then-hi-end : goal.returns-then-hi-end
returns-then-hi-end c =
    let first = ap (λ (r : KeptSets). r.first) c.self.view_is in
    let start : (c.if-first-lo.from ≤ c.args.lo) × (c.if-first-lo.from ≤ c.args.self.now.first) =
    elim c.if-first-lo.branch [ then-first-lo w ↦ (omega arith, omega arith) | else-first-lo w ↦ (omega arith, omega arith) ] in
    record {
      from = start.0;
      to = c.if-hi-end.true;
      within = c.end-end.ensures.within;
      kept_from = λ _. start.1;
      kept_to = λ _. omega (arith, c.end-end.ensures.end);
    }
