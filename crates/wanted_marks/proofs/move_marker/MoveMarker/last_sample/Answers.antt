use Rattle.std.proofs.Common.{FitsSigned, ap, subst, ◌∙◌}
use Rattle.std.proofs.lemmas.Int.{to_z-of_z}
use mir.Syntax.{w64, w128}
use Rattle.space.specs.Vectors.{at}
use Rattle.wanted_marks.specs.Ready.{IsReadyMove}
use Rattle.wanted_marks.proofs.Sampling.{kept_square}
use Rattle.wanted_marks.proofs.move_marker.MoveMarker.last_sample.Goals as goal

pub returns-clause-last : goal.returns-clause-last
returns-clause-last c = λ p forms.
    let s = c.self.inside in let v = c.args.self.now in
    let ready = subst (IsReadyMove s.ready.now) c.self.view_is c.self.invariant in
    let f0 : FitsSigned w64 c.last_height.result = record { sfits = c.last_height.type_inv } in
    let f1 : FitsSigned w64 c.last_square.result = record { sfits = c.last_square.type_inv } in
    let f2 : FitsSigned w128 c.last_width.result = record { sfits = c.last_width.type_inv } in
    record {
      scale_is = ready.scale_is;
      u_is = to_z-of_z w64 c.last_height.result f0 ∙ c.last_height.ensures ∙ ap (λ l. at l 2) forms.height;
      n_is = kept_square c.last_square.result s.ready.now v 2 ready f1 c.last_square.ensures;
      width_is = to_z-of_z w128 c.last_width.result f2 ∙ c.last_width.ensures ∙ ap (λ l. at l 4) forms.width;
    }

pub returns-clause-at_last : goal.returns-clause-at_last
returns-clause-at_last c =
    let ready = subst (IsReadyMove c.self.inside.ready.now) c.self.view_is c.self.invariant in
    let f : FitsSigned w64 c.last_square.result = record { sfits = c.last_square.type_inv } in
    record {
      scale_is = ready.scale_is;
      n_is = kept_square c.last_square.result c.self.inside.ready.now c.args.self.now 2 ready f c.last_square.ensures;
    }
