-- What was left of the file when it was opened is the whole of it.
use Rattle.std.proofs.Common.{◌≡◌, ◌∙◌, ℕ, List, Option, Some, None, IfSome, Result, Ok, Err, OnOk, is_ok, true, [], length, ◌<◌, ap}
use Rattle.std.proofs.lemmas.Result.{IfOk-weaker}
use Rattle.vf_io.specs.Causes.{one_more_failure}
use Rattle.vf_io.specs.Files.{Files, bytes_of}
use Rattle.vf_io.proofs.ReadLemmas.{allows-then}
use Rattle.vf_io.proofs.whole_file.read_all.Goals as goal

opened : {T E P : Type 0} (result : Result T E) → is_ok result ≡ true → OnOk result P → P
opened (Ok done) ok holds = holds
opened (Err end) ok holds = absurd (cc)

of_whole : (P : List ℕ → Type 0) (files : Option Files) (rest : Option (List ℕ)) (name : List ℕ) → IfSome files (λ told. rest ≡ Some (bytes_of told name)) → IfSome rest P → IfSome files (λ told. P (bytes_of told name))
of_whole P None rest name is holds = tt
of_whole P (Some told) rest name is holds = rw is at holds

pub returns-clause-bytes : goal.returns-clause-bytes
returns-clause-bytes g c =
    let rest = opened c.open.result c.if-is_err.ensures.negation c.open.ensures.rest in
    IfOk-weaker c.read_open.result _ _ (λ v left. of_whole (λ bytes. v.items ≡ bytes) _ (g.S.Shelf.rest c.open.new.self) c.args.name.now rest left) c.read_open.ensures.bytes

pub returns-clause-to_the_end : goal.returns-clause-to_the_end
returns-clause-to_the_end g c =
    let rest = opened c.open.result c.if-is_err.ensures.negation c.open.ensures.rest in
    IfOk-weaker c.read_open.result _ _ (λ v left. of_whole (λ _. g.S.Shelf.rest c.read_open.new.shelf ≡ Some []) _ (g.S.Shelf.rest c.open.new.self) c.args.name.now rest left) c.read_open.ensures.to_the_end

pub returns-clause-too_long : goal.returns-clause-too_long
returns-clause-too_long g c = λ long.
    let rest = opened c.open.result c.if-is_err.ensures.negation c.open.ensures.rest in
    of_whole (λ bytes. c.args.limit < length bytes) _ (g.S.Shelf.rest c.open.new.self) c.args.name.now rest (c.read_open.ensures.too_long long)

pub returns-clause-calm : goal.returns-clause-calm
returns-clause-calm g c = λ calm. c.read_open.ensures.calm calm ∙ opened c.open.result c.if-is_err.ensures.negation c.open.ensures.calm

pub returns-clause-failure : goal.returns-clause-failure
returns-clause-failure g c = λ failed. c.read_open.ensures.failure failed ∙ ap one_more_failure (opened c.open.result c.if-is_err.ensures.negation c.open.ensures.calm)

pub returns-clause-closed : goal.returns-clause-closed
returns-clause-closed g c = c.read_open.ensures.closed

pub returns-clause-files : goal.returns-clause-files
returns-clause-files g c = c.read_open.ensures.files ∙ c.open.ensures.files

pub returns-clause-allows : goal.returns-clause-allows
returns-clause-allows g c = λ name. allows-then (c.open.ensures.allows name) (c.read_open.ensures.allows name)
