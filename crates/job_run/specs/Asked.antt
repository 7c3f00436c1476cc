-- Questions with their answers.
use Rattle.std.specs.Prelude.{List, [], ◌∷◌}
use Rattle.edit_plan.specs.declared.query.Ask.{Ask}
use Rattle.edit_plan.specs.declared.query.Query.{Query}
use Rattle.job_counts.specs.declared.totals.Answer.{Answer}

-- each question with the answer at its place
abbrev pub asked_with : List Query → List Answer → List (Ask × Answer)
asked_with (query ∷ queries) (answer ∷ answers) = (query.ask, answer) ∷ asked_with queries answers
asked_with _ _ = []
