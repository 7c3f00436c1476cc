-- What the first and the last sample of a move take of n are its outer coefficients.
use Rattle.std.proofs.Common.{◌≡◌, ◌^◌, ◌∙◌, ℕ, ℤ, FitsSigned, ap, of_z, to_z}
use Rattle.std.proofs.lemmas.Int.{to_z-of_z}
use mir.Syntax.{w64}
use Rattle.space.specs.Vectors.{at}
use Rattle.bern_form.specs.Between.{n_between}
use Rattle.wanted_marks.specs.declared.ready_move.ReadyMove.{ReadyMove}
use Rattle.wanted_marks.specs.Rays.{MoveOf}
use Rattle.wanted_marks.specs.Ready.{IsReadyMove}

pub kept_square : (z : ℤ) (ready : ReadyMove) (v : MoveOf) (i : ℕ) → IsReadyMove ready v → FitsSigned w64 z → z ≡ at ready.axis_forms.n.c i
    → to_z w64 (of_z w64 z) ≡ at (n_between v.sweep 0 (2 ^ v.depth) (2 ^ v.depth)) i
kept_square z ready v i is f e =
    to_z-of_z w64 z f ∙ e ∙ ap (λ l. at l i) is.axis_forms.n_is ∙ ap (λ k. at (n_between v.sweep 0 k k) i) is.scale_is
