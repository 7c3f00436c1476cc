use Rattle.std.proofs.Common.{ℤ, inl, inr, refl, subst, sym}
use Rattle.std.proofs.lemmas.Int.{to_z-of_z}
use mir.Syntax.{w64}
use Rattle.ray_runs.specs.Missed.{AreBeside, AreBesideAt}
use Rattle.ray_runs.proofs.missed.are_missed.Goals as goal

pub returns-then-are_behind : goal.returns-then-are_behind
returns-then-are_behind c = λ yes. inl (c.if-are_behind.ensures refl)

pub returns : goal.returns
returns c = λ yes.
    let s = c.args.start.now in let e = c.args.end.now in
    inr
    (subst (λ (f : ℤ). AreBeside f s.first.offset e.first.offset s.last.offset e.last.offset s.first.axis e.first.axis) (to_z-of_z w64 c.args.square c.ranges.square)
    (c.are_beside.ensures yes))

pub are_beside-requires-clause-start : goal.are_beside-requires-clause-start
are_beside-requires-clause-start c = λ yes.
    let s = c.args.start.now in
    subst (λ (f : ℤ). AreBesideAt f s.first_moment s.last_moment s.first.axis) (sym (to_z-of_z w64 c.args.square c.ranges.square)) (c.requires.start yes)

pub are_beside-requires-clause-end : goal.are_beside-requires-clause-end
are_beside-requires-clause-end c = λ yes.
    let e = c.args.end.now in
    subst (λ (f : ℤ). AreBesideAt f e.first_moment e.last_moment e.first.axis) (sym (to_z-of_z w64 c.args.square c.ranges.square)) (c.requires.end yes)
