use Rattle.std.proofs.Common.{◌≡◌, not, drop}
use Rattle.std.specs.List.{find}
use Rattle.cert_boxes.specs.Holding.{are_slabs_excluded}
use Rattle.cert_boxes.proofs.boxes.first_standing.Given as goal

abbrev pub invariant-loop-cell : goal.invariant-loop-cell
invariant-loop-cell l =
    find (λ cell. not (are_slabs_excluded l.sweep l.grid l.slabs cell)) (drop l.cell-index l.cells)
    ≡ find (λ cell. not (are_slabs_excluded l.sweep l.grid l.slabs cell)) l.cells
