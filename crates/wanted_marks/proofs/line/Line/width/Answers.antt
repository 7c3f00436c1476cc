use Rattle.std.proofs.Common.{FitsSigned, rules, ◌∙◌}
use Rattle.std.proofs.lemmas.Int.{to_z-of_z}
use mir.Syntax.{w128}
use Rattle.space.specs.Vectors.{at}
use Rattle.wanted_marks.proofs.line.Line.width.Goals as goal

pub quadratic-requires : goal.quadratic-requires
quadratic-requires c =
    let s = c.args.self.now in let k = c.args.k in
    let f0 : FitsSigned w128 (at s.constant.c k) = search rules in
    let f1 : FitsSigned w128 (at s.first.c k) = search rules in
    let f2 : FitsSigned w128 (at s.second.c k) = search rules in
    simp to_z-of_z c.requires.small

pub returns : goal.returns
returns c =
    let s = c.args.self.now in let k = c.args.k in
    let f0 : FitsSigned w128 (at s.constant.c k) = search rules in
    let f1 : FitsSigned w128 (at s.first.c k) = search rules in
    let f2 : FitsSigned w128 (at s.second.c k) = search rules in
    let f : FitsSigned w128 c.quadratic.result = record { sfits = c.quadratic.type_inv } in
    to_z-of_z w128 c.quadratic.result f ∙ (simp to_z-of_z at c.quadratic.ensures)
