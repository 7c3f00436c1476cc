use Rattle.std.proofs.Common.{◌≡◌, ◌+◌, ◌≤◌, length}
use Rattle.cl_lines.specs.Texts.{most_bytes}
use Rattle.cl_moves.specs.Fold.{IsFold}
use Rattle.cl_moves.specs.Program.{folded, program_of}
use Rattle.cl_moves.proofs.program.read_program.Given as goal

-- what is left folds into the program, the tool's state is sound, and the records left are few enough to be counted
abbrev pub invariant-loop-fold : goal.invariant-loop-fold
invariant-loop-fold l = record {
  program : folded l.records l.fold ≡ program_of l.bytes;
  sound : IsFold l.fold;
  few : l.fold.passed + length l.records ≤ most_bytes;
}

abbrev pub decreases-loop-fold : goal.decreases-loop-fold
decreases-loop-fold l = length l.records
