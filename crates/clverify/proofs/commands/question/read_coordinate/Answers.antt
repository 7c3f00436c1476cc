use Rattle.std.proofs.Common.{◌≡◌, ℕ, ℤ, List, Option, IfSome, ap, subst, sym, unsigned_abs, ◌≤◌, ◌∙◌}
use Rattle.std.specs.Result.{result_ok}
use Rattle.space.specs.Ranges.{metre}
use Rattle.clverify.specs.Commands.Questions.{coordinate_of}
use Rattle.clverify.proofs.Shapes.{coordinate_near}
use Rattle.clverify.proofs.commands.question.read_coordinate.Goals as goal

pub returns-clause-near : goal.returns-clause-near
returns-clause-near c =
    let read : c.ok.result ≡ coordinate_of c.args.word.now =
    c.ok.ensures.value ∙ ap (λ r. result_ok r) c.read_length.ensures.length ∙ ap (λ (word : List ℕ). coordinate_of word) c.as_bytes.ensures.value in
    subst (λ (z : Option ℤ). IfSome z (λ z. unsigned_abs z ≤ metre)) (sym read) (coordinate_near c.args.word.now)
