-- A failed read is the first that failed, and a read that takes nothing ends the file.
use Rattle.std.proofs.Common.{arith, ap, ◌∙◌, length-take}
use Rattle.vf_io.specs.Causes.{one_more_failure}
use Rattle.vf_io.proofs.ReadLemmas.{HasRead-whole, HasRead-ended, HasRead-longer, HasRead-more, allows-then}
use Rattle.vf_io.proofs.whole_file.read_open.Goals as goal

pub returns-in_default-clause-failed : goal.returns-in_default-clause-failed
returns-in_default-clause-failed g c = λ _. omega (arith, c.in_default.ensures.cause.failed)

pub returns-in_default-clause-failure : goal.returns-in_default-clause-failure
returns-in_default-clause-failure g c = λ _. c.in_default.ensures.failure ∙ ap one_more_failure c.loop-count.invariant.calm

pub returns-in_default-clause-closed : goal.returns-in_default-clause-closed
returns-in_default-clause-closed g c = λ _. c.in_default.ensures.closed

pub returns-in_default-clause-files : goal.returns-in_default-clause-files
returns-in_default-clause-files g c = c.in_default.ensures.files ∙ c.loop-count.invariant.files

pub returns-in_default-clause-allows : goal.returns-in_default-clause-allows
returns-in_default-clause-allows g c = λ name. allows-then (c.loop-count.invariant.allows name) (c.in_default.ensures.allows name)

pub returns-then-count-eq0-clause-bytes : goal.returns-then-count-eq0-clause-bytes
returns-then-count-eq0-clause-bytes g c = HasRead-whole _ _ _ _ _ _ c.if-count-eq0.true c.loop-count.invariant.read (c.in-Ok.ensures.bytes c.loop-count.invariant.opened)

pub returns-then-count-eq0-clause-to_the_end : goal.returns-then-count-eq0-clause-to_the_end
returns-then-count-eq0-clause-to_the_end g c = HasRead-ended _ _ _ _ _ _ c.if-count-eq0.true c.loop-count.invariant.read (c.in-Ok.ensures.bytes c.loop-count.invariant.opened)

pub returns-then-count-eq0-clause-calm : goal.returns-then-count-eq0-clause-calm
returns-then-count-eq0-clause-calm g c = λ _. c.in-Ok.ensures.calm ∙ c.loop-count.invariant.calm

pub returns-then-count-eq0-clause-files : goal.returns-then-count-eq0-clause-files
returns-then-count-eq0-clause-files g c = c.in-Ok.ensures.files ∙ c.loop-count.invariant.files

pub returns-then-count-eq0-clause-allows : goal.returns-then-count-eq0-clause-allows
returns-then-count-eq0-clause-allows g c = λ name. allows-then (c.loop-count.invariant.allows name) (c.in-Ok.ensures.allows name)

pub returns-then-count-limit-clause-too_long : goal.returns-then-count-limit-clause-too_long
returns-then-count-limit-clause-too_long g c = λ _. HasRead-longer _ _ _ _ _ c.in-Ok.count c.args.limit (omega arith) c.loop-count.invariant.read (c.in-Ok.ensures.bytes c.loop-count.invariant.opened)

pub returns-then-count-limit-clause-calm : goal.returns-then-count-limit-clause-calm
returns-then-count-limit-clause-calm g c = λ _. c.in-Ok.ensures.calm ∙ c.loop-count.invariant.calm

pub returns-then-count-limit-clause-files : goal.returns-then-count-limit-clause-files
returns-then-count-limit-clause-files g c = c.in-Ok.ensures.files ∙ c.loop-count.invariant.files

pub returns-then-count-limit-clause-allows : goal.returns-then-count-limit-clause-allows
returns-then-count-limit-clause-allows g c = λ name. allows-then (c.loop-count.invariant.allows name) (c.in-Ok.ensures.allows name)

pub returns-then-is_err-clause-calm : goal.returns-then-is_err-clause-calm
returns-then-is_err-clause-calm g c = λ _. c.in-Ok.ensures.calm ∙ c.loop-count.invariant.calm

pub returns-then-is_err-clause-files : goal.returns-then-is_err-clause-files
returns-then-is_err-clause-files g c = c.in-Ok.ensures.files ∙ c.loop-count.invariant.files

pub returns-then-is_err-clause-allows : goal.returns-then-is_err-clause-allows
returns-then-is_err-clause-allows g c = λ name. allows-then (c.loop-count.invariant.allows name) (c.in-Ok.ensures.allows name)

pub loop-count-preserved : goal.loop-count-preserved
loop-count-preserved g c =
    let items = rw c.if-is_err.ensures.negation at c.extend_from_slice.ensures.items in
    let len = rw c.if-is_err.ensures.negation at c.extend_from_slice.ensures.len in
    let taken = length-take c.in-Ok.count c.next.new.buffer in
    let bound = c.in-Ok.ensures.bound in
    let reads = c.in-Ok.ensures.reads in
    record {
      opened = c.in-Ok.ensures.stays_open ∙ c.loop-count.invariant.opened;
      read = rw items (HasRead-more _ _ _ _ _ _ c.loop-count.invariant.read (c.in-Ok.ensures.bytes c.loop-count.invariant.opened));
      within = omega arith;
      later = omega (arith, c.in-Ok.ensures.cause.later);
      calm = c.in-Ok.ensures.calm ∙ c.loop-count.invariant.calm;
      files = c.in-Ok.ensures.files ∙ c.loop-count.invariant.files;
      reads = omega arith;
      allows = λ name. allows-then (c.loop-count.invariant.allows name) (c.in-Ok.ensures.allows name);
    }
