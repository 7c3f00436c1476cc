use Rattle.std.proofs.Common.{◌<◌, ◌≤◌, length, arith, rules}
use Rattle.job_run.proofs.Leftovers.{all_strips, one_more_strip, strip_fits}
use Rattle.job_run.proofs.remaining.remaining_sets.Goals as goal

pub push_strip-requires-clause-grid : goal.push_strip-requires-clause-grid
push_strip-requires-clause-grid c =
    let low : c.loop-strip.strip-index < length c.args.strips.now = search rules in
    (strip_fits c.requires.job c.args.grid.now c.args.strips.now c.loop-strip.strip-index c.strip-item.result c.requires.so low c.strip-item.is).0

pub push_strip-requires-clause-strip : goal.push_strip-requires-clause-strip
push_strip-requires-clause-strip c =
    let low : c.loop-strip.strip-index < length c.args.strips.now = search rules in
    (strip_fits c.requires.job c.args.grid.now c.args.strips.now c.loop-strip.strip-index c.strip-item.result c.requires.so low c.strip-item.is).1

pub loop-strip-preserved : goal.loop-strip-preserved
loop-strip-preserved c = λ job are.
    let low : c.loop-strip.strip-index < length c.args.strips.now = search rules in
    one_more_strip job c.args.grid.now c.args.strips.now c.loop-strip.strip-index c.strip-item.result c.loop-strip.sets.items c.push_strip.new.sets.items
    are low c.strip-item.is (c.loop-strip.invariant job are) c.in_ok-push_strip.ensures

pub returns : goal.returns
returns c = λ job are.
    let all : length c.args.strips.now ≤ c.loop-strip.strip-index = search rules in
    all_strips job c.args.grid.now c.args.strips.now c.loop-strip.strip-index c.loop-strip.sets.items are all (c.loop-strip.invariant job are)
