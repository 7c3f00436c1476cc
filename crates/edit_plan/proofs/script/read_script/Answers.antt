use Rattle.std.proofs.Common.{◌≡◌, Ok, rules}
use Rattle.edit_plan.specs.Script.{behind_edition, edition_of, no_script, script_of}
use Rattle.edit_plan.specs.Words.{worded_lines}
use Rattle.edit_plan.proofs.SoundLemmas.{no_script-sound, script_from-sound}
use Rattle.edit_plan.proofs.script.read_script.Goals as goal

pub returns-clause-sound : goal.returns-clause-sound
returns-clause-sound c =
    let lines = worded_lines c.args.bytes.now in
    let made : script_of c.args.moves c.args.grid.now c.args.bytes.now ≡ Ok c.finish.result = search rules in
    script_from-sound c.args.moves c.args.grid.now (edition_of lines) (behind_edition lines) no_script c.finish.result (no_script-sound c.args.moves c.args.grid.now) made
