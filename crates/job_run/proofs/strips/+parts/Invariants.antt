use Rattle.std.proofs.Common.{◌+◌, ◌*◌}
use Rattle.job_run.proofs.strips.+parts.Given as goal

abbrev pub decreases-strips_in_parts : goal.decreases-strips_in_parts
decreases-strips_in_parts g l = 2 * l.parts

abbrev pub decreases-back : goal.decreases-back
decreases-back g l = 2 * l.others + 1
