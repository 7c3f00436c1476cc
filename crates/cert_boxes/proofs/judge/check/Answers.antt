-- The verdict is the one that is due: the line and the point that were found are the first ones of the certificate.
use Rattle.std.proofs.Common.{◌≡◌, List, Some, None, true, refl, subst, sym}
use Rattle.std.specs.List.{list_all}
use Rattle.ray_grid.specs.Points.{lattice_of}
use Rattle.cert_lines.specs.Certificates.{is_cell_on}
use Rattle.cert_lines.specs.declared.cell.CertCell.{CertCell}
use Rattle.cert_boxes.specs.Search.{IsFirstPlace}
use Rattle.cert_boxes.specs.Tasks.{cert_task}
use Rattle.cert_boxes.specs.Verdicts.{first_line, first_point}
use Rattle.cert_boxes.proofs.JudgeLemmas.{accepted, line_due, missed, none_stands, point_due, stands, untouched_by}
use Rattle.cert_boxes.proofs.judge.check.Goals as goal

pub first_standing-standing-requires : goal.first_standing-standing-requires
first_standing-standing-requires g c =
    record { rising = c.outer.ensures.rising; cells = subst (λ (cells : List CertCell). list_all (is_cell_on c.args.grid.now) cells ≡ true) (sym c.as_slice-cells.ensures) c.requires.ranges.cells }

pub returns-in-Some-clause-verdict : goal.returns-in-Some-clause-verdict
returns-in-Some-clause-verdict g c =
    let task = cert_task c.args.sweep.now c.args.cutter c.args.grid.now c.args.part.now.solid.value c.args.fixture.now.solid.value in
    stands (first_line task c.args.cert.now) (first_point task c.args.cert.now) c.in-Some.line
    (line_due c.args.sweep.now c.args.grid.now c.as_slice-cells.result.now c.args.cert.now.cells (Some c.in-Some.line) c.outer.ensures.stack
    c.in_ok-stacks.ensures.cutter c.in_ok-stacks.ensures.slabs c.as_slice-cells.ensures c.in-Some.ensures)

pub returns-in-Some-missed-clause-verdict : goal.returns-in-Some-missed-clause-verdict
returns-in-Some-missed-clause-verdict g c =
    let task = cert_task c.args.sweep.now c.args.cutter c.args.grid.now c.args.part.now.solid.value c.args.fixture.now.solid.value in
    let ray = c.in-Some-missed.ray in let l = c.in-Some-missed.l in
    missed (first_line task c.args.cert.now) (first_point task c.args.cert.now) c.args.grid.now ray l
    (none_stands (first_line task c.args.cert.now)
    (line_due c.args.sweep.now c.args.grid.now c.as_slice-cells.result.now c.args.cert.now.cells None c.outer.ensures.stack
    c.in_ok-stacks.ensures.cutter c.in_ok-stacks.ensures.slabs c.as_slice-cells.ensures c.in-None.ensures))
    (point_due c.args.sweep.now c.in_ok-stacks.stacks.cutter c.args.cutter c.args.part.now.grid c.args.grid.now c.args.part.now.solid.value c.args.fixture.now.solid.value
    c.as_slice-cells.result.now c.args.cert.now.cells c.in_ok-rows.rows.items c.as_mut_slice.result.now (Some (ray, l))
    c.requires.part.kept_for c.in_ok-stacks.ensures.cutter c.as_slice-cells.ensures c.as_mut_slice.ensures.value c.in_ok-rows.ensures c.requires.ranges.cells
    (subst (IsFirstPlace (cert_task c.args.sweep.now c.in_ok-stacks.stacks.cutter c.args.part.now.grid c.args.part.now.solid.value c.args.fixture.now.solid.value)
    c.as_mut_slice.result.now (lattice_of c.args.part.now.grid)) c.in-Some-missed.is c.in_ok-missed.ensures))

pub returns-clause-verdict : goal.returns-clause-verdict
returns-clause-verdict g c =
    let task = cert_task c.args.sweep.now c.args.cutter c.args.grid.now c.args.part.now.solid.value c.args.fixture.now.solid.value in
    accepted (first_line task c.args.cert.now) (first_point task c.args.cert.now)
    (none_stands (first_line task c.args.cert.now)
    (line_due c.args.sweep.now c.args.grid.now c.as_slice-cells.result.now c.args.cert.now.cells None c.outer.ensures.stack
    c.in_ok-stacks.ensures.cutter c.in_ok-stacks.ensures.slabs c.as_slice-cells.ensures c.in-None.ensures))
    (point_due c.args.sweep.now c.in_ok-stacks.stacks.cutter c.args.cutter c.args.part.now.grid c.args.grid.now c.args.part.now.solid.value c.args.fixture.now.solid.value
    c.as_slice-cells.result.now c.args.cert.now.cells c.in_ok-rows.rows.items c.as_mut_slice.result.now None
    c.requires.part.kept_for c.in_ok-stacks.ensures.cutter c.as_slice-cells.ensures c.as_mut_slice.ensures.value c.in_ok-rows.ensures c.requires.ranges.cells
    (subst (IsFirstPlace (cert_task c.args.sweep.now c.in_ok-stacks.stacks.cutter c.args.part.now.grid c.args.part.now.solid.value c.args.fixture.now.solid.value)
    c.as_mut_slice.result.now (lattice_of c.args.part.now.grid)) c.in-None-missed.is c.in_ok-missed.ensures))

pub returns-clause-untouched : goal.returns-clause-untouched
returns-clause-untouched g c = λ same.
    untouched_by c.args.sweep.now c.in_ok-stacks.stacks.cutter c.args.cutter c.in_ok-stacks.stacks.slabs c.args.cert.now.slabs
    c.in_ok-stacks.ensures.cutter c.in_ok-stacks.ensures.slabs c.acceptance_law.ensures
    c.args.grid.now c.args.part.now.solid.value c.args.fixture.now.solid.value c.args.cert.now refl c.requires.ranges (sym (returns-clause-verdict g c))
