use Rattle.std.proofs.Common.{rules, ◌≡◌, ℕ, ◌+◌, ◌*◌, ◌/◌, ◌%◌, ◌^◌, ◌<◌, ◌∙◌, arith, ap}
use Rattle.strip_marks.specs.declared.change.WordChange.{WordChange}
use Rattle.strip_journal.specs.Packed.{IsClose}
use Rattle.strip_journal.proofs.Multiples.{close_fits, comes_back}
use Rattle.strip_journal.proofs.packed.PackedChange.of_change.Goals as goal

-- a change by its parts
abbrev given : ℕ → ℕ → ℕ → ℕ → WordChange
given ray word sure possible = record { ray = ray; word = word; sure = sure; possible = possible }

pub returns-in_err-sure-clause-none : goal.returns-in_err-sure-clause-none
returns-in_err-sure-clause-none c =
    let change = c.args.change.now in
    let few : change.sure < 2 ^ 64 = search rules in
    let few_possible : change.possible < 2 ^ 64 = search rules in
    let no : IsClose change → ⊥ = λ close. (let fits = (close_fits change c.first_bit-by.result few few_possible c.first_bit-by.ensures.last close).0 in search (rules, fits)) in
    search (rules, no)

pub returns-in_err-possible-clause-none : goal.returns-in_err-possible-clause-none
returns-in_err-possible-clause-none c =
    let change = c.args.change.now in
    let few : change.sure < 2 ^ 64 = search rules in
    let few_possible : change.possible < 2 ^ 64 = search rules in
    let no : IsClose change → ⊥ = λ close. (let fits = (close_fits change c.first_bit-by.result few few_possible c.first_bit-by.ensures.last close).1 in search (rules, fits)) in
    search (rules, no)

pub returns-clause-packed : goal.returns-clause-packed
returns-clause-packed c =
    let change = c.args.change.now in
    let by = c.first_bit-by.result in
    let le = c.first_bit-by.ensures.most in
    let few : change.sure < 2 ^ 64 = search rules in
    let few_possible : change.possible < 2 ^ 64 = search rules in
    let sure_is : c.in_ok-sure.sure ≡ change.sure / 2 ^ by = search rules in
    let possible_is : c.in_ok-possible.possible ≡ change.possible / 2 ^ by = search rules in
    let sure = comes_back change.sure change.word by c.in_ok-sure.sure le few c.first_bit-by.ensures.sure sure_is in
    let possible = comes_back change.possible change.word by c.in_ok-possible.possible le few_possible c.first_bit-by.ensures.possible possible_is in
    let word : (change.word * 64 + by) / 64 ≡ change.word = omega (arith, le) in
    let first : change.word * 64 + by < 4294967295 = search (rules, le) in
    let low_sure = c.in_ok-sure.sure * 2 ^ ((change.word * 64 + by) % 64) % 2 ^ 64 in
    let low_possible = c.in_ok-possible.possible * 2 ^ ((change.word * 64 + by) % 64) % 2 ^ 64 in (
      first,
      ap (λ w. given change.ray w low_sure low_possible) word ∙ ap (λ s. given change.ray change.word s low_possible) sure
          ∙ ap (given change.ray change.word change.sure) possible,
    )
