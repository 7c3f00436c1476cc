use Rattle.std.proofs.Common.{Some, ap, sym, ◌∙◌, map, string_bytes}
use denote.Enum.Bare.{same_false}
use Rattle.clap.specs.Faults.{is_simple_and_free}
use Rattle.clap.specs.Simple.{app_of}
use Rattle.clap.specs.contracts.error.kind.ErrorKind.{the_type}
use Rattle.clap.specs.declared.error.kind.ErrorKind.TheVariants.{OutOfMemory}
use Rattle.call_words.proofs.Commands.{found-is_values, no_values, verify-is_free}
use Rattle.call_words.proofs.command.read_values.Goals as goal

pub returns-in-Ok-try_get_matches_from : goal.returns-in-Ok-try_get_matches_from
returns-in-Ok-try_get_matches_from c =
    let same = c.in-Ok.ensures in
    let parse = c.in-Ok-try_get_matches_from.ensures in
    let matches = c.in-Ok-try_get_matches_from.matches in
    let words = map string_bytes c.args.words.now in
    ap Some c.found_values.ensures
    ∙ sym (found-is_values _ matches words same parse.matches (parse.kinds (ap is_simple_and_free same ∙ verify-is_free)))

pub returns : goal.returns
returns c =
    let same = c.in-Ok.ensures in
    let fault = c.in-Err.ensures.kinds (ap is_simple_and_free same ∙ verify-is_free) in
    no_values (app_of c.in-Ok.command) (map string_bytes c.args.words.now) c.in-Err.error same fault
    (λ memory. same_false the_type c.kind.result OutOfMemory (sym c.eq.ensures ∙ c.if-eq.false) (c.kind.ensures ∙ memory))
