use Rattle.std.proofs.Common.{◌≡◌, ℕ, ◌<◌, List, ℤ, subst, sym, ◌∙◌}
use Rattle.std.proofs.lemmas.Int.{to_z-of_z}
use mir.Syntax.{w64}
use Rattle.space.specs.Vectors.{at}
use Rattle.ray_runs.specs.Missed.{AreAbove, AreBesideAt}
use Rattle.moment_forms.specs.Moments.{vector_product}
use Rattle.ray_runs.proofs.StretchTests.{beside_of}
use Rattle.ray_runs.proofs.missed.are_beside.Goals as goal

moments_at : (f : ℤ) (a x y x' y' : List ℤ) → x' ≡ x → y' ≡ y → AreBesideAt f x y a → AreBesideAt f x' y' a
moments_at f a x y x' y' ex ey h = subst (λ (z : List ℤ). AreBesideAt f z y' a) (sym ex) (subst (λ (z : List ℤ). AreBesideAt f x z a) (sym ey) h)

pub returns : goal.returns
returns c = λ yes.
    let s = c.args.start.now in let e = c.args.end.now in let f = c.args.square in let same = to_z-of_z w64 f c.ranges.square in
    let x = c.joining-x.result in let y = c.joining-y.result in let ex = c.joining-x.ensures in let ey = c.joining-y.ensures in let r = c.raised.result in
    let amid = subst (λ (g : ℤ). (i : ℕ) → 0 < i → i < 4 → AreAbove g (at r i) (at (vector_product x.start x.middle x.end x.start x.middle x.end) i)
    (at (vector_product x.start x.middle x.end y.start y.middle y.end) i) (at (vector_product y.start y.middle y.end y.start y.middle y.end) i)) same (c.are_beside_amid.ensures yes) in
    beside_of f s.first.offset e.first.offset s.last.offset e.last.offset s.first.axis e.first.axis x.start x.middle x.end y.start y.middle y.end r c.raised.ensures
    (ex.start ∙ s.first_is) ex.middle (ex.end ∙ e.first_is) (ey.start ∙ s.last_is) ey.middle (ey.end ∙ e.last_is)
    (moments_at f s.first.axis s.first_moment s.last_moment x.start y.start ex.start ey.start (c.requires.start c.if-not-start.false))
    (moments_at f e.first.axis e.first_moment e.last_moment x.end y.end ex.end ey.end (c.requires.end c.if-not-end.false)) amid
