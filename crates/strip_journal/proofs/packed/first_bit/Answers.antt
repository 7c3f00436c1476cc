use Rattle.std.proofs.Common.{rules, ◌^◌, ◌<◌}
use Rattle.strip_journal.proofs.Multiples.{zeros_less, zeros_most}
use Rattle.strip_journal.proofs.packed.first_bit.Goals as goal

pub returns-clause-sure : goal.returns-clause-sure
returns-clause-sure c = zeros_less c.args.change.now.sure c.min-2.result (search rules) (search rules)

pub returns-clause-possible : goal.returns-clause-possible
returns-clause-possible c = zeros_less c.args.change.now.possible c.min-2.result (search rules) (search rules)

pub returns-clause-last : goal.returns-clause-last
returns-clause-last c q le no_sure no_possible =
    let change = c.args.change.now in
    let few : change.sure < 2 ^ 64 = search rules in
    let few_possible : change.possible < 2 ^ 64 = search rules in
    let sure = zeros_most change.sure q few le no_sure in
    let possible = zeros_most change.possible q few_possible le no_possible in
    search (rules, le, sure, possible)
