use Rattle.std.proofs.Common.{sym, subst}
use Rattle.ray_shapes.specs.Sets.{AreSetsOver}
use Rattle.stock_file.proofs.SetLemmas.{no_sets_over}
use Rattle.stock_file.proofs.stock.SavedStock.new.Goals as goal

pub invariant_of-result : goal.invariant_of-result
invariant_of-result c = subst (AreSetsOver c.args.grid) (sym c.in_ok-rays.ensures) (no_sets_over c.args.grid)
