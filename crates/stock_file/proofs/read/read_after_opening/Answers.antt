use Rattle.std.proofs.Common.{◌≡◌, ◌∙◌, Some, sym, ap, subst}
use Rattle.std.proofs.lemmas.Option.{cond_some}
use Rattle.vf_io.specs.Pieces.{pieces_of}
use Rattle.ray_grid.specs.Grids.{GridSize}
use Rattle.stock_file.specs.Ends.{EndsStock}
use Rattle.stock_file.specs.GridNumbers.{numbers_of}
use Rattle.stock_file.specs.GridTests.{grid_named, is_grid}
use Rattle.stock_file.specs.Reading.{stock_after_opening, stock_from}
use Rattle.stock_file.specs.Saved.{Saved, no_sets}
use Rattle.stock_file.specs.declared.fault.StockEnd.{StockEnd}
use Rattle.stock_file.proofs.ReadLemmas.{answers_as, grid_refused, grid_taken, named_numbers, not_some}
use Rattle.stock_file.proofs.read.read_after_opening.Goals as goal

pub returns-in_default-grid_of : goal.returns-in_default-grid_of
returns-in_default-grid_of c =
    let piece = c.split_line.result.0.now in
    let after = pieces_of c.split_line.result.1.now in
    let grid = numbers_of c.in-Some.numbers in
    let named : grid_named piece ≡ Some grid = named_numbers piece c.read_grid_line.result c.in-Some.numbers c.read_grid_line.ensures c.in-Some.is in
    subst (λ (end : StockEnd). EndsStock (stock_after_opening (pieces_of c.args.rest.now)) end) (sym c.refused-in_default-grid_of.ensures)
    (grid_refused (pieces_of c.args.rest.now) after piece grid c.split_line.ensures.first named
    (not_some (is_grid grid) grid (sym c.grid_of.ensures ∙ c.in_default-grid_of.is)))

pub returns : goal.returns
returns c =
    let piece = c.split_line.result.0.now in
    let after = pieces_of c.split_line.result.1.now in
    let grid = numbers_of c.in-Some.numbers in
    let named : grid_named piece ≡ Some grid = named_numbers piece c.read_grid_line.result c.in-Some.numbers c.read_grid_line.ensures c.in-Some.is in
    let (test, same) = cond_some (is_grid grid) grid c.in-Some-grid_of.grid (sym c.grid_of.ensures ∙ c.in-Some-grid_of.is) in
    let start : stock_from c.in-Ok.stock.grid 3 0 after c.in-Ok.stock.sets ≡ stock_after_opening (pieces_of c.args.rest.now) =
    ap (λ (stock : Saved). stock_from stock.grid 3 0 after stock.sets) c.in-Ok.ensures
    ∙ ap (λ (g : GridSize). stock_from g 3 0 after (no_sets g)) (sym same)
    ∙ sym (grid_taken (pieces_of c.args.rest.now) after piece grid c.split_line.ensures.first named test) in
    answers_as (stock_from c.in-Ok.stock.grid 3 0 after c.in-Ok.stock.sets) (stock_after_opening (pieces_of c.args.rest.now)) c.read_rays.result start c.read_rays.ensures
