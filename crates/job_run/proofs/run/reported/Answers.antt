-- What is taken from the strips of a job that is done is what the definitions say of it.
use Rattle.std.proofs.Common.{◌≡◌, ◌∙◌, length, map, ap}
use Rattle.std.proofs.lemmas.List.{length-map}
use Rattle.job_report.specs.Facts.{are_answered}
use Rattle.job_report.specs.Report.{answered}
use Rattle.turn_core.specs.World.{answer_of}
use Rattle.job_run.specs.Asked.{asked_with}
use Rattle.job_run.proofs.Asked.{all_answered, asked_is}
use Rattle.job_run.proofs.Brought.{last_from, up_from}
use Rattle.job_run.proofs.run.reported.Goals as goal

pub found_moves-requires : goal.found_moves-requires
found_moves-requires c =
    let job = c.requires.job in
    let is = c.requires.so in
    record { job = job; so = up_from job _ _ _ _ c.deref.ensures.value c.deref-2.ensures.value is.brought.told is.brought.strips_are }

pub last_totals-totals-requires : goal.last_totals-totals-requires
last_totals-totals-requires c =
    let job = c.requires.job in
    let is = c.requires.so in
    record { job = job; so = last_from job _ _ _ c.deref-3.ensures.value is.edits is.brought.strips_are }

pub answered-requires : goal.answered-requires
answered-requires c = ap length (c.deref-4.ensures.value ∙ c.requires.so.answers) ∙ length-map c.args.queries.now (answer_of c.requires.job)

pub returns-clause-facts : goal.returns-clause-facts
returns-clause-facts c job is =
    let queries = c.args.queries.now in
    let up = up_from job _ _ _ _ c.deref.ensures.value c.deref-2.ensures.value is.brought.told is.brought.strips_are in
    let last = last_from job _ _ _ c.deref-3.ensures.value is.edits is.brought.strips_are in
    let told = c.deref-4.ensures.value ∙ is.answers in
    let pairs : c.in_ok-answers.answers.items ≡ map (answered job) queries =
    c.in_ok-answers.ensures ∙ ap (asked_with queries) told ∙ asked_is job queries in
    λ i. record {
      moves = is.moves i;
      passed = c.args.passed;
      left = c.in_ok-left.ensures job up i;
      answers = pairs i;
      totals = c.last_totals-totals.ensures job last i;
    }

pub returns-clause-answered : goal.returns-clause-answered
returns-clause-answered c =
    let job = c.requires.job in
    let queries = c.args.queries.now in
    let told = c.deref-4.ensures.value ∙ c.requires.so.answers in
    let pairs : c.in_ok-answers.answers.items ≡ map (answered job) queries =
    c.in_ok-answers.ensures ∙ ap (asked_with queries) told ∙ asked_is job queries in
    ap are_answered pairs ∙ all_answered job queries
