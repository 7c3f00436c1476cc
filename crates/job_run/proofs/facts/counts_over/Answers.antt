use Rattle.std.proofs.Common.{◌≡◌, ◌+◌, ◌<◌, ◌≤◌, All, List, length, replicate, rules, arith, sym, ap, ◌∙◌, subst}
use Rattle.std.proofs.lemmas.List.{take_at}
use Rattle.job_counts.specs.declared.counts.Counts.{Counts}
use Rattle.job_counts.specs.Counts.{AreWithin, no_counts}
use Rattle.strip_journal.specs.Strips.{AddsFound, most_before}
use Rattle.job_run.specs.Founds.{HaveFound, first_points}
use Rattle.job_run.proofs.Counted.{found_added, found_all, found_none, found_room, left_many}
use Rattle.job_run.proofs.facts.counts_over.Goals as goal

pub loop-strip-init : goal.loop-strip-init
loop-strip-init c = λ job are.
    let made : c.in_ok-counts.counts.items ≡ replicate c.args.left c.none.result = search rules in
    let none : replicate c.args.left c.none.result ≡ replicate c.args.left no_counts = ap (replicate c.args.left) c.none.ensures in
    subst (HaveFound job (first_points job.plan.grid 0)) (sym (made ∙ none)) (found_none job c.args.left c.args.strips.now are)

pub add_found-requires-clause-many : goal.add_found-requires-clause-many
add_found-requires-clause-many c =
    let strips = c.args.strips.now in
    let k = c.loop-strip.strip-index in
    let lt : k < length strips = search rules in
    ap length c.as_mut_slice.ensures.value
    ∙ left_many c.requires.job c.args.left strips k c.strip-item.result c.loop-strip.counts.items c.requires.so lt c.strip-item.is
    (c.loop-strip.invariant c.requires.job c.requires.so)

pub add_found-requires-clause-room : goal.add_found-requires-clause-room
add_found-requires-clause-room c =
    let strips = c.args.strips.now in
    let k = c.loop-strip.strip-index in
    let lt : k < length strips = search rules in
    subst (All (AreWithin most_before)) (sym c.as_mut_slice.ensures.value)
    (found_room c.requires.job c.args.left strips k c.loop-strip.counts.items c.requires.so lt
    (c.loop-strip.invariant c.requires.job c.requires.so))

pub loop-strip-preserved : goal.loop-strip-preserved
loop-strip-preserved c = λ job are.
    let strips = c.args.strips.now in
    let k = c.loop-strip.strip-index in
    let lt : k < length strips = search rules in
    let before : List Counts = c.loop-strip.counts.items in
    let after : List Counts = c.add_found.new.counts in
    let adds : AddsFound c.strip-item.result before after =
    subst (λ (l : List Counts). AddsFound c.strip-item.result l after) c.as_mut_slice.ensures.value c.add_found.ensures in
    let s = c.strip-item in
    let found = c.loop-strip.invariant job are in
    let more = found_added job c.args.left strips k s.result before after are lt s.is found adds in
    let long : length after ≡ c.loop-strip.counts.len = omega (arith, adds.many, c.loop-strip.counts.ok.0) in
    subst (HaveFound job (first_points job.plan.grid (k + 1))) (sym (take_at after _ c.loop-strip.counts.len long)) more

pub returns : goal.returns
returns c = λ job are.
    let all : length c.args.strips.now ≤ c.loop-strip.strip-index = search rules in
    found_all job c.args.left c.args.strips.now c.loop-strip.strip-index c.loop-strip.counts.items are all (c.loop-strip.invariant job are)
