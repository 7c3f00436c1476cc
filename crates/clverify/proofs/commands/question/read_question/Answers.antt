-- A question is asked where all its parts are: what is made of them is what the words stand for.
use Rattle.std.proofs.Common.{Some, None, refl, string_bytes, sym, ◌∙◌}
use Rattle.clverify.proofs.Shapes.{of_parts, question_in, too_few_for_a_question}
use Rattle.clverify.proofs.commands.question.read_question.Goals as goal

pub returns-in_default-clause-question : goal.returns-in_default-clause-question
returns-in_default-clause-question c = sym (too_few_for_a_question string_bytes c.args.words.now c.in_default.len_below)

pub returns-in_err-read_point-clause-question : goal.returns-in_err-read_point-clause-question
returns-in_err-read_point-clause-question c =
    c.from_residual.ensures ∙ of_parts None _ _ _ _ _ (sym c.in_err-read_point.was ∙ c.read_point.ensures.point) refl refl
    ∙ question_in string_bytes c.args.words.now c.x-item.result c.y-item.result c.z-item.result c.name-item.result c.depth-item.result c.deref.result.now c.deref-2.result.now c.deref-3.result.now (string_bytes c.name-item.result) (string_bytes c.depth-item.result)
    c.in-len5-up.len_at_least c.x-item.is c.y-item.is c.z-item.is c.name-item.is c.depth-item.is c.deref.ensures c.deref-2.ensures c.deref-3.ensures refl refl

pub returns-in_err-read_depth-clause-question : goal.returns-in_err-read_depth-clause-question
returns-in_err-read_depth-clause-question c =
    c.from_residual-in_err-read_depth.ensures ∙ of_parts (Some c.in_ok-read_point.field-0) _ None _ _ _ (sym c.in_ok-read_point.was ∙ c.read_point.ensures.point)
    (sym c.in_err-read_depth.was ∙ c.read_depth.ensures.depth) refl
    ∙ question_in string_bytes c.args.words.now c.x-item.result c.y-item.result c.z-item.result c.name-item.result c.depth-item.result c.deref.result.now c.deref-2.result.now c.deref-3.result.now c.deref-4.result.now c.deref-5.result.now
    c.in-len5-up.len_at_least c.x-item.is c.y-item.is c.z-item.is c.name-item.is c.depth-item.is c.deref.ensures c.deref-2.ensures c.deref-3.ensures c.deref-4.ensures c.deref-5.ensures

pub returns-in_err-read_slabs-clause-question : goal.returns-in_err-read_slabs-clause-question
returns-in_err-read_slabs-clause-question c =
    c.from_residual-in_err-read_slabs.ensures ∙ of_parts (Some c.in_ok-read_point.field-0) _ (Some c.in_ok-read_depth.field-0) _ None _
    (sym c.in_ok-read_point.was ∙ c.read_point.ensures.point) (sym c.in_ok-read_depth.was ∙ c.read_depth.ensures.depth)
    (sym c.in_err-read_slabs.was ∙ c.read_slabs.ensures.slabs)
    ∙ question_in string_bytes c.args.words.now c.x-item.result c.y-item.result c.z-item.result c.name-item.result c.depth-item.result c.deref.result.now c.deref-2.result.now c.deref-3.result.now c.deref-4.result.now c.deref-5.result.now
    c.in-len5-up.len_at_least c.x-item.is c.y-item.is c.z-item.is c.name-item.is c.depth-item.is c.deref.ensures c.deref-2.ensures c.deref-3.ensures c.deref-4.ensures c.deref-5.ensures

pub returns-clause-question : goal.returns-clause-question
returns-clause-question c =
    of_parts (Some c.in_ok-read_point.field-0) _ (Some c.in_ok-read_depth.field-0) _ (Some c.in_ok-read_slabs.field-0) _
    (sym c.in_ok-read_point.was ∙ c.read_point.ensures.point) (sym c.in_ok-read_depth.was ∙ c.read_depth.ensures.depth)
    (sym c.in_ok-read_slabs.was ∙ c.read_slabs.ensures.slabs)
    ∙ question_in string_bytes c.args.words.now c.x-item.result c.y-item.result c.z-item.result c.name-item.result c.depth-item.result c.deref.result.now c.deref-2.result.now c.deref-3.result.now c.deref-4.result.now c.deref-5.result.now
    c.in-len5-up.len_at_least c.x-item.is c.y-item.is c.z-item.is c.name-item.is c.depth-item.is c.deref.ensures c.deref-2.ensures c.deref-3.ensures c.deref-4.ensures c.deref-5.ensures
