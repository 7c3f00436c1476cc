-- What a parse by the command of `verify` says of its words.
use Rattle.std.proofs.Common.{◌≡◌, ◌∙◌, [], ◌∷◌, length, Bool, IfOk, Result, Some, None, codes, true, false, arith, refl, subst, sym, ap, ⊎_elim, if◌then◌else◌}
use Rattle.std.proofs.lemmas.Bool.{ne_eqb}
use Rattle.clap.specs.Faults.{fault_of, is_simple_and_free}
use Rattle.clap.specs.Kinds.{HasKind, IsAmong, Kinds}
use Rattle.clap.specs.Matches.{first_value, found_of}
use Rattle.clap.specs.Simple.{App, HasMatchesOf, app_of, is_simple, matches_of, on_top}
use Rattle.clap.specs.Values.{kind_of}
use Rattle.clap.specs.Walk.{is_empty, rows_of}
use Rattle.clap.specs.declared.builder.command.Command.{Command}
use Rattle.clap.specs.declared.error.Error.{Error}
use Rattle.clap.specs.declared.error.kind.ErrorKind.{ErrorKind}
use Rattle.clap.specs.declared.error.kind.ErrorKind.TheVariants.{OutOfMemory}
use Rattle.clap.specs.declared.parser.matches.ArgMatches.{ArgMatches}
use Rattle.clap.specs.declared.parser.matches.Found.{Found}
use Rattle.clap.proofs.OnLiterals.{clap_on_literals}
use Rattle.clap.proofs.WalkLemmas.{first_value-rows}
use Rattle.call_words.specs.Command.{Values, values_in, values_of, verify_command}
use Rattle.call_words.specs.Words.{Words}

-- the parser says exactly what it makes of words by this command
pub verify-is_simple : is_simple verify_command ≡ true
unfolding clap_on_literals
verify-is_simple = refl

pub verify-is_free : is_simple_and_free verify_command ≡ true
unfolding clap_on_literals
verify-is_free = refl

-- a command whose words come without its own name
abbrev pub headless : App → App
headless = on_top (λ top. record top { no_binary_name = true })

-- a command is made of the one that it adds to
pub command_as : {E : Type 0} (made : Result Command E) (a b : App) → IfOk made (λ command. app_of command ≡ a) → a ≡ b
    → IfOk made (λ command. app_of command ≡ b)
command_as made a b h e = subst (λ (x : App). IfOk made (λ command. app_of command ≡ x)) e h

-- the values of the five that were found
pub found-in_rows : (found : Found) (values : Values) → values.file ≡ first_value found (codes "CL") → values.setup ≡ first_value found (codes "SETUP")
    → values.script ≡ first_value found (codes "script") → values.workers ≡ first_value found (codes "workers")
    → values.stock ≡ first_value found (codes "stock") → values ≡ values_in (rows_of found)
found-in_rows found values is_file is_setup is_script is_workers is_stock =
    let file = is_file ∙ first_value-rows found (codes "CL") in
    let setup = is_setup ∙ first_value-rows found (codes "SETUP") in
    let script = is_script ∙ first_value-rows found (codes "script") in
    let workers = is_workers ∙ first_value-rows found (codes "workers") in
    let stock = is_stock ∙ first_value-rows found (codes "stock") in
    λ i. record { file = file i; setup = setup i; script = script i; workers = workers i; stock = stock i }

-- no fault, so there are values
values_without_fault : (kinds : Kinds) (values : Values) → kinds ≡ [] → (if is_empty kinds then Some values else None) ≡ Some values
values_without_fault [] values e = refl
values_without_fault (kind ∷ kinds) values e = cc

-- what was found by the command is what the words give
pub found-is_values : (app : App) (matches : ArgMatches) (words : Words) → app ≡ verify_command → HasMatchesOf app words matches → fault_of app words ≡ []
    → values_of words ≡ Some (values_in (rows_of (found_of matches)))
found-is_values app matches words same has none =
    let faultless : fault_of verify_command words ≡ [] = ap (λ a. fault_of a words) (sym same) ∙ none in
    let rows : rows_of (found_of matches) ≡ matches_of verify_command words =
    (has (ap is_simple same ∙ verify-is_simple)).0 ∙ ap (λ a. matches_of a words) same in
    values_without_fault (fault_of verify_command words) (values_in (matches_of verify_command words)) faultless
    ∙ ap Some (sym (ap values_in rows))

not_empty : (kind : ErrorKind) (rest : Kinds) → is_empty (kind ∷ rest) ≡ false
not_empty kind rest = ne_eqb (length (kind ∷ rest)) 0 (λ e. omega (arith, e))

-- where a fault is reported of the words there are no values
values_with_fault : (kinds : Kinds) (kind : ErrorKind) (values : Values) → IsAmong kind kinds → None ≡ (if is_empty kinds then Some values else None)
values_with_fault [] kind values h = absurd h
values_with_fault (first ∷ rest) kind values h = sym (ap (λ (b : Bool). if b then Some values else None) (not_empty first rest))

pub no_values : (app : App) (words : Words) (error : Error) → app ≡ verify_command → HasKind (fault_of app words) error → (kind_of error ≡ OutOfMemory → ⊥)
    → None ≡ values_of words
no_values app words error same has other =
    ⊎_elim (λ (memory : kind_of error ≡ OutOfMemory). absurd (other memory))
    (λ (among : IsAmong (kind_of error) (fault_of app words)).
    values_with_fault (fault_of verify_command words) (kind_of error) (values_in (matches_of verify_command words))
    (subst (λ (a : App). IsAmong (kind_of error) (fault_of a words)) same among)) has
