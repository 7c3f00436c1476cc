use Rattle.std.proofs.Common.{Some, None, map, string_bytes, subst}
use Rattle.std.specs.FinMap as finite
use Rattle.vf_io.specs.Memory.{FileList}
use Rattle.clverify.specs.Commands.{command_of}
use Rattle.clverify.specs.Due.{due}
use Rattle.clverify.specs.Headline.{IsComplete}
use Rattle.clverify.specs.Truth.{TellsTruth}
use Rattle.clverify.proofs.Unread.{none_rose}
use Rattle.clverify.proofs.verdict.verdict_of.Goals as goal

pub returns-clause-complete : goal.returns-clause-complete
returns-clause-complete g c =
    subst (λ (files : FileList). IsComplete c.run.result (due (Some (finite.from_entries files)) (command_of (map string_bytes c.args.words.now))) None None)
    c.new-shelf.ensures.files (c.run.ensures.complete none_rose none_rose)

pub returns-clause-sound : goal.returns-clause-sound
returns-clause-sound g c =
    subst (λ (files : FileList). TellsTruth c.run.result (Some (finite.from_entries files)) (command_of (map string_bytes c.args.words.now)) None None)
    c.new-shelf.ensures.files c.run.ensures.sound
