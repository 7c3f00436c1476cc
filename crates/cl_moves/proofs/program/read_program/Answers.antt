-- The records that come fold into the program, and the tool's state stays sound.
use Rattle.std.proofs.Common.{◌∙◌, All, IfSome, Ok, Option, ap, arith, subst, sym, ℕ}
use Rattle.std.proofs.lemmas.Result.{IfOk-from_err}
use Rattle.cl_lines.specs.Texts.{texts_of}
use Rattle.cl_lines.specs.declared.number.Unit.TheVariants.{Mm}
use Rattle.cl_records.specs.Ranges.{IsRecord}
use Rattle.cl_records.specs.Records.{records_of}
use Rattle.cl_records.specs.declared.statement.Record.{Record}
use Rattle.cl_moves.specs.Moves.{IsMove}
use Rattle.cl_moves.specs.Program.{folded}
use Rattle.cl_moves.specs.declared.program.Program.{Program}
use Rattle.cl_moves.proofs.PassedLemmas.{all_folded, came, folded_on, next_shorter, none_passed, passed_grows}
use Rattle.cl_moves.proofs.program.read_program.Goals as goal

pub loop-fold-init : goal.loop-fold-init
loop-fold-init c =
    let none = none_passed c.in-Ok.fold c.in-Ok.ensures.start in
    record {
      program = ap (λ records. folded records c.in-Ok.fold) c.new-records.ensures.records ∙ ap (folded (records_of Mm (texts_of c.args.bytes.now))) c.in-Ok.ensures.start;
      sound = c.in-Ok.ensures.sound;
      few = omega (arith, none);
    }

pub loop-fold-preserved : goal.loop-fold-preserved
loop-fold-preserved c =
    let old = c.loop-fold.records in
    let new = c.next_record.new.self in
    let first : ℕ × Record = (c.in-Some.line, c.in-Some.statement) in
    let grown = passed_grows c.in-Some.line c.in-Some.statement c.loop-fold.fold c.apply.new.self c.in_ok-apply.ensures.step in
    let next = came old new c.in_ok-line.field-0 first c.in_ok-line.ensures.next c.in-Some.is in
    let shorter = next_shorter old new first next in
    let on = folded_on old new first c.loop-fold.fold c.apply.new.self next c.in_ok-apply.ensures.step in
    record { program = on ∙ c.loop-fold.invariant.program; sound = c.in_ok-apply.ensures.sound; few = omega (arith, grown, shorter) }

pub loop-fold-smaller : goal.loop-fold-smaller
loop-fold-smaller c =
    let old = c.loop-fold.records in
    let new = c.next_record.new.self in
    let first : ℕ × Record = (c.in-Some.line, c.in-Some.statement) in
    omega (arith, next_shorter old new first (came old new c.in_ok-line.field-0 first c.in_ok-line.ensures.next c.in-Some.is))

pub apply-requires-clause-sound : goal.apply-requires-clause-sound
apply-requires-clause-sound c = c.loop-fold.invariant.sound

pub apply-requires-clause-ranges : goal.apply-requires-clause-ranges
apply-requires-clause-ranges c =
    subst (λ (item : Option (ℕ × Record)). IfSome item (λ r. IsRecord r.1)) c.in-Some.is c.in_ok-line.ensures.ranges

pub apply-requires-clause-room : goal.apply-requires-clause-room
apply-requires-clause-room c = omega (arith, c.loop-fold.invariant.few)

pub returns-in_err-line-clause-moves : goal.returns-in_err-line-clause-moves
returns-in_err-line-clause-moves c = IfOk-from_err c.from_residual.result (λ (p : Program). All IsMove p.moves) c.from_residual.ensures.0

pub returns-in_err-apply-clause-moves : goal.returns-in_err-apply-clause-moves
returns-in_err-apply-clause-moves c =
    IfOk-from_err c.from_residual-in_err-apply.result (λ (p : Program). All IsMove p.moves) c.from_residual-in_err-apply.ensures.0

pub returns-clause-program : goal.returns-clause-program
returns-clause-program c =
    sym c.loop-fold.invariant.program
    ∙ all_folded c.loop-fold.records c.next_record.new.self c.in_ok-line.field-0 c.loop-fold.fold c.in_ok-line.ensures.next c.in_default-2.is
    ∙ ap Ok (sym c.finish.ensures)

pub returns-clause-moves : goal.returns-clause-moves
returns-clause-moves c = subst (λ (p : Program). All IsMove p.moves) (sym c.finish.ensures) c.loop-fold.invariant.sound.moves
