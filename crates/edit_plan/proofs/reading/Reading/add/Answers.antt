-- Undoing and probing are what their own functions make of the script, once it is known which statement the line is.
use Rattle.edit_plan.proofs.reading.Reading.add.Goals as goal

pub returns-in-UndoTimes : goal.returns-in-UndoTimes
returns-in-UndoTimes c = rw c.in-UndoTimes.is c.undo.ensures

pub returns-else-not-has_point : goal.returns-else-not-has_point
returns-else-not-has_point c = rw (c.in-ProbePoint.is, ← c.has_point.ensures.test, c.if-not-has_point.false) c.query.ensures
