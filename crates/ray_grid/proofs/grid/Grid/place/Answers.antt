use Rattle.std.proofs.Common.{◌<◌, ℕ, length, slice_get, sym, ap, ◌∙◌, subst}
use Rattle.ray_grid.specs.Strips.{strips_of, strip_at}
use Rattle.ray_grid.proofs.Rows.{number_in, strip_there, ray_in, only_place}
use Rattle.ray_grid.proofs.grid.Grid.place.Goals as goal

pub returns-clause-strip : goal.returns-clause-strip
returns-clause-strip c = subst (λ (n : ℕ). n < length (strips_of c.args.self.now)) (sym c.strip_number.ensures) (number_in c.args.self.now c.args.ray.now.family c.args.ray.now.i c.requires.first)

pub returns-clause-there : goal.returns-clause-there
returns-clause-there c =
    ap (λ n. slice_get (strip_at c.args.self.now n) c.args.ray.now.j) c.strip_number.ensures
    ∙ ap (λ z. slice_get z c.args.ray.now.j) (strip_there c.args.self.now c.args.ray.now.family c.args.ray.now.i c.requires.first)
    ∙ ray_in c.args.self.now c.args.ray.now.family c.args.ray.now.i c.args.ray.now.j c.requires.second

pub returns-clause-only : goal.returns-clause-only
returns-clause-only c = λ strip n is. let place = only_place c.args.self.now c.args.ray.now strip n is in (place.0 ∙ sym c.strip_number.ensures, place.1)
