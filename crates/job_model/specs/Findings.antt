-- What a move finds over points, by the moves before it.
use Rattle.std.specs.Prelude.{List}
use Rattle.ray_grid.specs.Points.{LatticePoint}
use Rattle.dexel_rays.specs.Findings.{Seen, findings}
use Rattle.job_counts.specs.declared.counts.Counts.{Counts}
use Rattle.job_model.specs.Points.{is_fixture, is_part, is_possible, is_stock, is_sure, some_possible, some_sure}
use Rattle.job_model.specs.Tasks.{Job, JobMove}

-- what is known of a point at a move, by the moves before it
abbrev pub seen : Job → List JobMove → JobMove → LatticePoint → Seen
seen job ahead move point = record {
  stock = is_stock job point;
  part = is_part job point;
  fixture = is_fixture job point;
  sure_before = some_sure job.plan ahead point;
  possible_before = some_possible job.plan ahead point;
  sure = is_sure job.plan move point;
  possible = is_possible job.plan move point;
  rapid = move.rapid;
}

-- what a move finds over these points
abbrev pub found_over : Job → List LatticePoint → List JobMove → JobMove → Counts
found_over job points ahead move = findings (seen job ahead move) points
