use Rattle.std.proofs.Common.{ap, codes, ◌∙◌}
use Rattle.clap.specs.Simple.{App, app_of, app_of_fields, with_rule}
use Rattle.call_words.specs.Command.{option, place, verify_command}
use Rattle.call_words.proofs.Commands.{command_as, headless}
use Rattle.call_words.proofs.command.verify_command.Goals as goal

pub returns : goal.returns
returns c =
    let bare = ap app_of_fields c.no_binary_name-bare.ensures ∙ ap headless c.new.ensures.app in
    let file = c.in_ok-with_place.ensures ∙ ap (λ (a : App). with_rule a (place (codes "CL"))) bare in
    let setup = c.in_ok-placed.ensures ∙ ap (λ (a : App). with_rule a (place (codes "SETUP"))) file in
    let script = c.in_ok-scripted.ensures ∙ ap (λ (a : App). with_rule a (option (codes "script"))) setup in
    let workers = c.in_ok-with_option.ensures ∙ ap (λ (a : App). with_rule a (option (codes "workers"))) script in
    command_as c.with_option-3.result (with_rule (app_of c.in_ok-with_option.field-0) (option (codes "stock"))) verify_command c.with_option-3.ensures
    (ap (λ (a : App). with_rule a (option (codes "stock"))) workers)
