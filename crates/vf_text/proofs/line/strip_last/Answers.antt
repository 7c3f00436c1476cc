use Rattle.std.proofs.Common.{◌∙◌, ◌++◌, ◌∷◌, [], cond, sym, ap, eq-eqb, ne_eqb}
use Rattle.vf_text.specs.Lines.{without_last}
use Rattle.vf_text.proofs.LineLemmas.{without_last-push}
use Rattle.vf_text.proofs.line.strip_last.Goals as goal

pub returns-in-Some-clause-bytes : goal.returns-in-Some-clause-bytes
returns-in-Some-clause-bytes c =
    let front = c.in-Some.front.now in
    let last = c.in-Some.last.now in
    sym (ap (λ b. without_last c.args.end b) c.in-Some.ensures.cases.0 ∙ without_last-push c.args.end front last ∙ ap (λ b. cond b front (front ++ last ∷ [])) (eq-eqb last c.args.end c.if-last-end.true))

pub returns-in_default-clause-bytes : goal.returns-in_default-clause-bytes
returns-in_default-clause-bytes c =
    let front = c.in-Some.front.now in
    let last = c.in-Some.last.now in
    sym (ap (λ b. without_last c.args.end b) c.in-Some.ensures.cases.0 ∙ without_last-push c.args.end front last ∙ ap (λ b. cond b front (front ++ last ∷ [])) (ne_eqb last c.args.end c.if-last-end.false) ∙ sym c.in-Some.ensures.cases.0)
