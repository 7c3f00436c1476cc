-- A move that is asked for by its number, and a certificate that is to be judged for it.
use Rattle.std.specs.Prelude.{◌≡◌, ℕ, ◌-◌, nat_lt, List, length, Option, Some, None, Result, Ok, Err, slice_get, if◌then◌else◌}
use Rattle.cert_lines.specs.Limits.{most_cert_bytes}
use Rattle.cert_lines.specs.Reading.{cert_of}
use Rattle.cert_lines.specs.declared.cert.Cert.{Cert}
use Rattle.cert_lines.specs.declared.fault.CertFault.{CertFault}
use Rattle.cl_moves.specs.declared.moves.Move.{Move}
use Rattle.cl_moves.specs.declared.program.Program.{Program}
use Rattle.edit_plan.specs.Edits.{applied_moves}
use Rattle.edit_plan.specs.Script.{whole_of_moves}
use Rattle.ray_grid.specs.Grids.{GridSize}
use Rattle.job_model.specs.Tasks.{JobMove}
use Rattle.job_report.specs.Tasks.{Task}
use Rattle.input_faults.specs.declared.fault.Fault.{Fault}
use Rattle.input_faults.specs.declared.fault.Fault.TheVariants as faults
use Rattle.input_faults.specs.declared.fault.Input.TheVariants as inputs
use Rattle.setup_file.specs.declared.setup.Setup.{Setup}
use Rattle.job_inputs.specs.Inputs.{◌>>=◌, bytes_within}
use Rattle.job_inputs.specs.Tasks.{job_move, task_behind, task_by, task_of, task_with}

-- a move, the task that it is a move of, and its number, counted from 1
pub record AskedMove : Type 0 where
  pub task : Task
  pub number : ℕ
  pub asked : JobMove

-- the item with a number, where they are counted from 1
abbrev pub numbered_move : {A : Type 0} → ℕ → List A → Option A
numbered_move number moves = if nat_lt 0 number then slice_get moves (number - 1) else None

-- the move that was found, or that none has this number
abbrev pub move_or_fault : Task → ℕ → Option JobMove → Result AskedMove Fault
move_or_fault task number (Some move) = Ok (record { task = task; number = number; asked = move })
move_or_fault task number None = Err (faults.MoveRange number (length task.job.plan.moves))

abbrev pub move_asked : ℕ → Task → Result AskedMove Fault
move_asked number task = move_or_fault task number (numbered_move number task.job.plan.moves)

-- a move of a program with the cutter that it is made with, and the task of the program and a setup without a script
abbrev pub asked_by : Program → Setup → ℕ → Move → AskedMove
asked_by program setup number move = record {
  task = task_by program setup None (whole_of_moves (length program.moves));
  number = number;
  asked = job_move setup.tool move;
}

-- the move has its number in its task, of which each move is applied once in order
pub record IsNumbered (asked : AskedMove) : Type 0 where
  pub numbered : numbered_move asked.number asked.task.job.plan.moves ≡ Some asked.asked
  pub whole : asked.task.job.plan.edits ≡ applied_moves 0 (length asked.task.job.plan.moves)

-- the move with a number of a program that is made by a setup, or the first fault: a cutter that is too low comes first
abbrev pub asked_among : Program → Setup → ℕ → Result AskedMove Fault
asked_among program setup number = task_with program setup None None >>= move_asked number

-- the same of a program and the bytes of a setup
abbrev pub asked_behind : Program → List ℕ → ℕ → Result AskedMove Fault
asked_behind program setup number = task_behind program setup None None >>= move_asked number

-- the same of the bytes of both files
abbrev pub asked_move_of : List ℕ → List ℕ → ℕ → Result AskedMove Fault
asked_move_of file setup number = task_of file setup None None >>= move_asked number

-- a certificate, or the fault that its text is refused with
abbrev pub cert_or_fault : Result Cert CertFault → Result Cert Fault
cert_or_fault (Ok cert) = Ok cert
cert_or_fault (Err fault) = Err (faults.Cert fault)

-- the certificate that the bytes of a file stand for over a grid, unless they are too many
abbrev pub cert_read_of : GridSize → List ℕ → Result Cert Fault
cert_read_of grid bytes = bytes_within inputs.Cert most_cert_bytes bytes >>= (λ text. cert_or_fault (cert_of grid text))

-- a move, and the certificate that is to be judged for it
pub record AskedCert : Type 0 where
  pub asked : AskedMove
  pub cert : Cert

-- the certificate of a file for a move, over the grid of its task
abbrev pub cert_for : List ℕ → AskedMove → Result AskedCert Fault
cert_for bytes asked = cert_read_of asked.task.job.plan.grid bytes >>= (λ cert. Ok (record { asked = asked; cert = cert }))

-- the move that is asked for and the certificate: a fault of the move comes first
abbrev pub asked_cert_of : List ℕ → List ℕ → ℕ → List ℕ → Result AskedCert Fault
asked_cert_of file setup number bytes = asked_move_of file setup number >>= cert_for bytes
