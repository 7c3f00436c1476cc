use Rattle.std.proofs.Common.{◌≡◌, ◌∙◌, Err, ap, true, false}
use Rattle.job_inputs.proofs.input.read_input.Goals as goal

pub returns-in-Err-Failed-clause-read : goal.returns-in-Err-Failed-clause-read
returns-in-Err-Failed-clause-read g c = record {
  kept = c.read_all.ensures.files;
  rose = λ _. c.read_all.ensures.failed (c.in-Err-Failed.is ∙ ap (λ end. Err end) c.in-Err-Failed.field-0-is);
  one = λ _. c.read_all.ensures.failure (c.in-Err-Failed.is ∙ ap (λ end. Err end) c.in-Err-Failed.field-0-is);
  calm = λ none. let e : true ≡ false = none in cc;
}
