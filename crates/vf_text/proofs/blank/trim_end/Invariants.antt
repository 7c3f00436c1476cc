use Rattle.std.proofs.Common.{◌≡◌, ◌≤◌, length}
use Rattle.vf_text.specs.Blanks.{without_last_blanks}
use Rattle.vf_text.proofs.blank.trim_end.Given as goal

abbrev pub invariant-loop-last : goal.invariant-loop-last
invariant-loop-last l = record { same : without_last_blanks l.rest ≡ without_last_blanks l.text; short : length l.rest ≤ length l.text }

abbrev pub decreases-loop-last : goal.decreases-loop-last
decreases-loop-last l = length l.rest
