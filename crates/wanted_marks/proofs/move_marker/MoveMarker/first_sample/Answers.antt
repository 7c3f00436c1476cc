use Rattle.std.proofs.Common.{FitsSigned, ap, subst, ◌∙◌}
use Rattle.std.proofs.lemmas.Int.{to_z-of_z}
use mir.Syntax.{w64, w128}
use Rattle.space.specs.Vectors.{at}
use Rattle.wanted_marks.specs.Ready.{IsReadyMove}
use Rattle.wanted_marks.proofs.Sampling.{kept_square}
use Rattle.wanted_marks.proofs.move_marker.MoveMarker.first_sample.Goals as goal

pub returns-clause-first : goal.returns-clause-first
returns-clause-first c = λ p forms.
    let s = c.self.inside in let v = c.args.self.now in
    let ready = subst (IsReadyMove s.ready.now) c.self.view_is c.self.invariant in
    let f0 : FitsSigned w64 c.first_height.result = record { sfits = c.first_height.type_inv } in
    let f1 : FitsSigned w64 c.first_square.result = record { sfits = c.first_square.type_inv } in
    let f2 : FitsSigned w128 c.first_width.result = record { sfits = c.first_width.type_inv } in
    record {
      scale_is = ready.scale_is;
      u_is = to_z-of_z w64 c.first_height.result f0 ∙ c.first_height.ensures ∙ ap (λ l. at l 0) forms.height;
      n_is = kept_square c.first_square.result s.ready.now v 0 ready f1 c.first_square.ensures;
      width_is = to_z-of_z w128 c.first_width.result f2 ∙ c.first_width.ensures ∙ ap (λ l. at l 0) forms.width;
    }

pub returns-clause-at_first : goal.returns-clause-at_first
returns-clause-at_first c =
    let ready = subst (IsReadyMove c.self.inside.ready.now) c.self.view_is c.self.invariant in
    let f : FitsSigned w64 c.first_square.result = record { sfits = c.first_square.type_inv } in
    record {
      scale_is = ready.scale_is;
      n_is = kept_square c.first_square.result c.self.inside.ready.now c.args.self.now 0 ready f c.first_square.ensures;
    }
