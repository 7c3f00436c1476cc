use Rattle.std.proofs.Common.{◌<◌, ◌≤◌, length, rules, ◌∙◌}
use Rattle.job_counts.specs.Totals.{plus_totals}
use Rattle.job_run.proofs.Counted.{totals_added, totals_all, totals_room}
use Rattle.job_run.proofs.facts.last_totals.Goals as goal

pub plus-totals-requires : goal.plus-totals-requires
plus-totals-requires c =
    let strips = c.args.strips.now in
    let k = c.loop-strip.strip-index in
    let s = c.strip-item.result in
    let totals = c.loop-strip.totals in
    let counts = c.counts_at.result in
    let job = c.requires.job in
    let last = c.requires.so in
    let lt : k < length strips = search rules in
    totals_room job.plan job strips k (plus_totals totals counts) last.strips_are lt
    (totals_added job.plan job strips k c.args.edits s totals counts last.strips_are lt c.strip-item.is last.many
    (c.loop-strip.invariant job last) c.counts_at.ensures)

pub loop-strip-preserved : goal.loop-strip-preserved
loop-strip-preserved c = λ job last.
    let strips = c.args.strips.now in
    let k = c.loop-strip.strip-index in
    let s = c.strip-item.result in
    let totals = c.loop-strip.totals in
    let counts = c.counts_at.result in
    let lt : k < length strips = search rules in
    c.plus-totals.ensures
    ∙ totals_added job.plan job strips k c.args.edits s totals counts last.strips_are lt c.strip-item.is last.many
    (c.loop-strip.invariant job last) c.counts_at.ensures

pub returns : goal.returns
returns c = λ job last.
    let all : length c.args.strips.now ≤ c.loop-strip.strip-index = search rules in
    totals_all job.plan job c.args.strips.now c.loop-strip.strip-index c.loop-strip.totals last.strips_are all
    (c.loop-strip.invariant job last)
