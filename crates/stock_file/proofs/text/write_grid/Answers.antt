use Rattle.std.proofs.Common.{◌≡◌, ◌++◌, ℕ, List, ap, ◌∙◌, subst}
use Rattle.std.specs.Prelude.{OnOk}
use Rattle.vf_text.specs.Pages.{numbers}
use Rattle.ray_grid.specs.Grids.{GridSize}
use Rattle.stock_file.specs.Spelling.{counts_spelt}
use Rattle.stock_file.proofs.WalkLemmas.{grid_written}
use Rattle.stock_file.proofs.text.write_grid.Goals as goal

pub returns : goal.returns
returns c =
    let axes = c.has_three_axes.ensures in
    subst (λ (text : List ℕ). OnOk c.end_line.result (c.end_line.new.self ≡ text))
    (grid_written c.args.grid.now c.args.page.now c.text.new.self c.point.new.self c.write_steps.new.page c.write_counts.new.page axes.origin axes.counts
    c.in_ok-text.ensures
    (c.in_ok-point.ensures ∙ ap (λ (g : GridSize). c.text.new.self ++ numbers g.origin) c.grid.view_is)
    c.in_ok-write_steps.ensures
    (c.in_ok-write_counts.ensures ∙ ap (λ (g : GridSize). c.write_steps.new.page ++ counts_spelt g.counts) c.grid.view_is))
    c.end_line.ensures
