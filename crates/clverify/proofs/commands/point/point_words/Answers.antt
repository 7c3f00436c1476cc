-- What the words after the name of the file ask is what they all ask.
use Rattle.std.proofs.Common.{ap, string_bytes, sym, ◌∙◌, map, option_map}
use Rattle.clverify.specs.Asked.{command_seen}
use Rattle.clverify.specs.Commands.{mark_moves}
use Rattle.clverify.proofs.Words.{asks_marks, behind, has_name, headed}
use Rattle.clverify.proofs.commands.point.point_words.Goals as goal

pub returns-clause-command : goal.returns-clause-command
returns-clause-command c =
    let words = headed string_bytes c.args.words.now c.file-item.result c.as_str.result.now c.in-len1-up.len_at_least c.file-item.is c.as_str.ensures.value in
    ap (option_map (mark_moves c.as_str.result.now)) (sym c.in_ok-read_question.was)
    ∙ asks_marks (map string_bytes c.args.words.now) c.as_str.result.now (map string_bytes (behind c.args.words.now)) c.read_question.result words (has_name c.file-item.result c.as_str.result.now c.as_str.ensures.value c.if-is_empty.ensures) c.read_question.ensures.question

pub returns-in_err-read_question-clause-command : goal.returns-in_err-read_question-clause-command
returns-in_err-read_question-clause-command c =
    let words = headed string_bytes c.args.words.now c.file-item.result c.as_str.result.now c.in-len1-up.len_at_least c.file-item.is c.as_str.ensures.value in
    ap (option_map command_seen) c.from_residual.ensures ∙ ap (option_map (mark_moves c.as_str.result.now)) (sym c.in_err-read_question.was)
    ∙ asks_marks (map string_bytes c.args.words.now) c.as_str.result.now (map string_bytes (behind c.args.words.now)) c.read_question.result words (has_name c.file-item.result c.as_str.result.now c.as_str.ensures.value c.if-is_empty.ensures) c.read_question.ensures.question
