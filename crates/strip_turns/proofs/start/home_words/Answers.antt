use Rattle.std.proofs.Common.{◌≡◌, ◌<◌, ◌≤◌, length, arith, refl, sym, ap, ◌∙◌}
use Rattle.std.proofs.lemmas.Option.{slice_get_read}
use Rattle.job_model.specs.Tasks.{PlanOf}
use Rattle.ray_grid.specs.Strips.{strips_of}
use Rattle.strip_turns.proofs.HomeWords.{none_home, none_within, home_more, within_more, all_home, all_within}
use Rattle.strip_turns.proofs.start.home_words.Goals as goal

pub loop-strip-init : goal.loop-strip-init
loop-strip-init c =
    let strips = c.args.strips.now.items in
    let count : c.strips-count.result ≡ length strips =
    c.strips-count.ensures ∙ ap (λ g. length (strips_of g)) c.grid.ensures ∙ sym c.requires.many in (
      none_home strips c.in_ok-words.words.items _ (c.in_ok-words.ensures.items_if_clones_equal (λ y same. same)) (omega arith),
      none_within (length c.args.plan.now.edits) strips,
    )

pub loop-strip-preserved : goal.loop-strip-preserved
loop-strip-preserved c =
    let strips = c.args.strips.now.items in
    let k = c.loop-strip.strip in
    let s = c.index.result.now in
    let count : c.strips-count.result ≡ length strips =
    c.strips-count.ensures ∙ ap (λ g. length (strips_of g)) c.grid.ensures ∙ sym c.requires.many in
    let lt : k < length strips = omega (arith, c.loop-strip-test.true) in
    let at = slice_get_read strips (length strips) k s refl lt c.index.ensures in
    let done = c.done-done.ensures.done in
    let home = c.home_word.ensures in
    let edits : length s.job.plan.edits ≡ length c.args.plan.now.edits = ap (λ (p : PlanOf). length p.edits) (c.requires.plans k s at) in
    let within = c.done-done.ensures.within in (
      home_more strips k c.loop-strip.words.items s _ _ c.loop-strip.invariant.0 lt at c.word_at.ensures (omega arith),
      within_more (length c.args.plan.now.edits) strips k s c.loop-strip.invariant.1 at (omega arith),
    )

pub index-requires : goal.index-requires
index-requires c =
    let count : c.strips-count.result ≡ length c.args.strips.now.items =
    c.strips-count.ensures ∙ ap (λ g. length (strips_of g)) c.grid.ensures ∙ sym c.requires.many in omega (arith, c.loop-strip-test.true)

pub home_word-requires : goal.home_word-requires
home_word-requires c =
    let strips = c.args.strips.now.items in
    let k = c.loop-strip.strip in
    let s = c.index.result.now in
    let count : c.strips-count.result ≡ length strips =
    c.strips-count.ensures ∙ ap (λ g. length (strips_of g)) c.grid.ensures ∙ sym c.requires.many in
    let lt : k < length strips = omega (arith, c.loop-strip-test.true) in
    let at = slice_get_read strips (length strips) k s refl lt c.index.ensures in
    let edits : length s.job.plan.edits ≡ length c.args.plan.now.edits = ap (λ (p : PlanOf). length p.edits) (c.requires.plans k s at) in
    omega (arith, c.done-done.ensures.done, c.done-done.ensures.within, c.edits-edits.ensures.count, c.edits-edits.ensures.few)

pub index_mut-requires : goal.index_mut-requires
index_mut-requires c =
    let count : c.strips-count.result ≡ length c.args.strips.now.items =
    c.strips-count.ensures ∙ ap (λ g. length (strips_of g)) c.grid.ensures ∙ sym c.requires.many in
    let many = c.loop-strip.invariant.0.many in
    let at = c.word_at.ensures in omega (arith, c.loop-strip-test.true)

pub returns-clause-home : goal.returns-clause-home
returns-clause-home c =
    let strips = c.args.strips.now.items in
    let count : c.strips-count.result ≡ length strips =
    c.strips-count.ensures ∙ ap (λ g. length (strips_of g)) c.grid.ensures ∙ sym c.requires.many in
    let le : length strips ≤ c.loop-strip.strip = omega (arith, c.loop-strip-test.false) in
    all_home strips c.loop-strip.strip c.loop-strip.words.items c.loop-strip.invariant.0 le

pub returns-clause-within : goal.returns-clause-within
returns-clause-within c =
    let strips = c.args.strips.now.items in
    let count : c.strips-count.result ≡ length strips =
    c.strips-count.ensures ∙ ap (λ g. length (strips_of g)) c.grid.ensures ∙ sym c.requires.many in
    let le : length strips ≤ c.loop-strip.strip = omega (arith, c.loop-strip-test.false) in
    all_within (length c.args.plan.now.edits) strips c.loop-strip.strip c.loop-strip.invariant.1 le
