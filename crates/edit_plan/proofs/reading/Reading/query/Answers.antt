-- The query is put after the others with the number of the edits so far as its version.
use Rattle.std.proofs.Common.{◌≡◌, [], ◌∷◌, ◌++◌, true, length, nat_lt, refl, rules}
use Rattle.edit_plan.specs.Limits.{most_queries}
use Rattle.edit_plan.proofs.reading.Reading.query.Goals as goal

pub returns : goal.returns
returns c =
    let queries = c.self.inside.queries in
    let few : nat_lt (length queries) most_queries ≡ true = search rules in
    let pushed : c.push.new.self ≡ queries ++ record { version = length c.self.inside.edits; ask = c.args.ask } ∷ [] = search rules in
    rw (← c.self.view_is, few, pushed) refl
