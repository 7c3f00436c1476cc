-- The ray that is written has the sets of the one that was read, so its range stays settled.
use Rattle.std.proofs.Common.{◌≡◌, ℕ, ◌<◌, ◌≤◌, List, get_or, set, length, ap, sym, ◌∙◌, subst}
use Rattle.std.specs.Prelude.{OnOk}
use Rattle.std.proofs.lemmas.List.{get_or_read}
use Rattle.dexel_rays.specs.Sets.{Sets}
use Rattle.ray_words.specs.Rays.{HasNoneWanted, IsKept, KeptSets}
use Rattle.ray_words.specs.Rows.{kept_at}
use Rattle.ray_words.proofs.SettledRays.{kept_set, no_ray, settled_set}
use Rattle.ray_words.proofs.strip_rays.StripRays.keep_words.Goals as goal

-- the rays are seen as a list, which has the same length
low : (rays seen : List KeptSets) (n : ℕ) → rays ≡ seen → n < length seen → n < length rays
low rays seen n is lt = subst (λ (l : List KeptSets). n < length l) (sym is) lt

-- the ray that was read is the one that is seen, and the one that was written is read afterwards
before : (rays seen : List KeptSets) (n : ℕ) (ray : KeptSets) → rays ≡ seen → n < length seen → ray ≡ get_or rays n ray → ray ≡ kept_at seen n
before rays seen n ray is lt read = get_or_read rays n ray (low rays seen n is lt) read no_ray ∙ ap (λ (l : List KeptSets). kept_at l n) is

after : (rays seen : List KeptSets) (n : ℕ) (ray : KeptSets) → rays ≡ seen → n < length seen → kept_at (set rays n ray) n ≡ ray
after rays seen n ray is lt = kept_set rays n ray (low rays seen n is lt)

pub invariant_of-self : goal.invariant_of-self
invariant_of-self c =
    let i = c.self.inside in
    let there = low i.rays.items c.args.self.now c.args.n c.self.view_is c.requires.n in
    let read = get_or_read i.rays.items c.args.n c.index_mut.result.now there c.index_mut.ensures.value no_ray in
    settled_set i.rays.items i.settled.items c.args.n c.keep_words.new.self c.self.invariant there
    (λ range. subst (λ (d : Sets). HasNoneWanted d (get_or i.settled.items c.args.n range))
    (sym (c.keep_words.ensures.sets ∙ ap (λ (r : KeptSets). r.sets) read)) (c.self.invariant.none c.args.n range there))

pub returns-clause-others : goal.returns-clause-others
returns-clause-others c =
    let written = after c.self.inside.rays.items c.args.self.now c.args.n c.keep_words.new.self c.self.view_is c.requires.n in
    λ i. set (c.self.view_is i) c.args.n (sym written i)

pub returns-clause-sets : goal.returns-clause-sets
returns-clause-sets c =
    let rays = c.self.inside.rays.items in
    let read = before rays c.args.self.now c.args.n c.index_mut.result.now c.self.view_is c.requires.n c.index_mut.ensures.value in
    let written = after rays c.args.self.now c.args.n c.keep_words.new.self c.self.view_is c.requires.n in
    ap (λ (r : KeptSets). r.sets) written ∙ c.keep_words.ensures.sets ∙ ap (λ (r : KeptSets). r.sets) read

pub returns-clause-kept : goal.returns-clause-kept
returns-clause-kept c =
    let written = after c.self.inside.rays.items c.args.self.now c.args.n c.keep_words.new.self c.self.view_is c.requires.n in
    subst (λ (r : KeptSets). OnOk c.keep_words.result ((word : ℕ) → c.args.lo ≤ word → word < c.args.hi → IsKept r word)) (sym written)
    c.keep_words.ensures.kept

pub returns-clause-still : goal.returns-clause-still
returns-clause-still c =
    let rays = c.self.inside.rays.items in
    let read = before rays c.args.self.now c.args.n c.index_mut.result.now c.self.view_is c.requires.n c.index_mut.ensures.value in
    let written = after rays c.args.self.now c.args.n c.keep_words.new.self c.self.view_is c.requires.n in
    subst (λ (r : KeptSets). OnOk c.keep_words.result ((word : ℕ) → IsKept (kept_at c.args.self.now c.args.n) word → IsKept r word)) (sym written)
    (subst (λ (r : KeptSets). OnOk c.keep_words.result ((word : ℕ) → IsKept r word → IsKept c.keep_words.new.self word)) read c.keep_words.ensures.still)
