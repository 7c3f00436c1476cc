-- What a closed board holds once a crew has worked on it.
use Rattle.std.proofs.Common.{◌≡◌, ℕ, List, Some, length, arith}
use Rattle.std.specs.List.{slice_get}
use Rattle.std.proofs.lemmas.Option.{slice_get_within}
use Rattle.ray_grid.specs.Strips.{strips_of}
use Rattle.edit_plan.specs.declared.query.Query.{Query}
use Rattle.job_counts.specs.declared.totals.Answer.{Answer}
use Rattle.strip_journal.specs.Strips.{StripOf}
use Rattle.strip_turns.specs.declared.view.BoardStart.{BoardStart}
use Rattle.strip_turns.specs.declared.view.View.{View}
use Rattle.strip_turns.specs.Cards.{last}
use Rattle.strip_turns.specs.Closed.{AreBoardStrips}
use Rattle.worker_gate.specs.Crew.{Answered}

-- each strip is at the last version
pub all_done : (c : BoardStart) (qs : List Query) (n : ℕ) (answers : List Answer) (v w : View) (strips : List StripOf)
    → Answered c qs n answers v w → AreBoardStrips c w strips → length c.strips ≡ length (strips_of c.plan.grid)
    → (k : ℕ) (s : StripOf) → slice_get strips k ≡ Some s → s.done ≡ last c
all_done c qs n answers v w strips crew given all k s at =
    let inside = slice_get_within strips k s at in
    let many = given.many in
    let is = given.each k s at in
    let seen = crew.crew.seen k (omega arith) in
    let newer = is.seen in
    let within = is.of_case.within in omega arith
