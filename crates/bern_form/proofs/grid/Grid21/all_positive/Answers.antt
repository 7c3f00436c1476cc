use Rattle.std.proofs.Common.{◌≡◌, length, rules, arith, sym, ◌∙◌}
use Rattle.bern_form.proofs.Squares.{HasRows, tested_positive21}
use Rattle.bern_form.proofs.grid.Grid21.all_positive.Goals as goal

pub returns-clause-square : goal.returns-clause-square
returns-clause-square c = λ yes x y v w time place.
    let rows = c.args.self.now.c in
    let n : length rows ≡ 3 = search rules in
    let has : HasRows 3 2 rows = record { rows = omega arith; long = λ k l. let e = c.each_row_above.ensures.width yes k (omega arith) in omega (arith, e) } in
    tested_positive21 rows x y v w has (sym c.each_row_above.ensures.exact ∙ yes) time place
