-- When the lines of a certificate cover a point: they name it at all times. The times of a move are 1,024 finest cells, 2^10, and
-- cell k of level q has 2^(10-q) of them.
use Rattle.std.specs.Prelude.{ℕ, ◌+◌, ◌-◌, ◌*◌, ◌^◌, Bool, ◌&&◌, nat_le, nat_lt, List, pos}
use Rattle.std.specs.List.{list_all, list_any, range_with_len}
use Rattle.space.specs.Reach.{is_in_reach}
use Rattle.cutter_slabs.specs.Stacks.{reach_of}
use Rattle.ray_grid.specs.Points.{LatticePoint}
use Rattle.cert_lines.specs.Spelling.{is_same_ray}
use Rattle.cert_lines.specs.declared.cell.CertCell.{CertCell}
use Rattle.cert_boxes.specs.Tasks.{CertTask, is_guarded}

-- how many finest cells there are, and how many cell k of level q has
abbrev pub finest_cells : ℕ
finest_cells = 1024

abbrev pub finest_in : ℕ → ℕ
finest_in q = 2 ^ (10 - q)

-- the e-th finest cell is one of those of the line's cell
abbrev pub is_during : ℕ → CertCell → Bool
is_during e cell = nat_le (cell.k * finest_in cell.q) e && nat_lt e (cell.k * finest_in cell.q + finest_in cell.q)

-- the index is one of the line's
abbrev pub is_among : ℕ → CertCell → Bool
is_among l cell = nat_le cell.a l && nat_lt l cell.b

-- the line names the point at the e-th finest cell
abbrev pub names : LatticePoint → ℕ → CertCell → Bool
names point e cell = is_same_ray cell.ray point.ray && (is_among point.l cell && is_during e cell)

-- at each finest cell some line names the point
abbrev pub is_covered : List CertCell → LatticePoint → Bool
is_covered cells point = list_all (λ e. list_any (names point e) cells) (range_with_len 0 finest_cells)

-- a point of the part or of the fixtures that is in reach of the move's cutter has to be covered
abbrev pub wants_cover : CertTask → LatticePoint → Bool
wants_cover task point =
    is_in_reach (pos (reach_of task.cutter)) task.sweep.from task.sweep.to point.position && is_guarded task point
