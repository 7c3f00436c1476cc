use Rattle.std.proofs.Common.{length}
use Rattle.strip_turns.specs.Starts.{AreHome, AreWithin}
use Rattle.strip_turns.proofs.start.home_words.Given as goal

abbrev pub invariant-loop-strip : goal.invariant-loop-strip
invariant-loop-strip l = AreHome l.strips.items l.strip l.words.items × AreWithin (length l.plan.edits) l.strips.items l.strip
