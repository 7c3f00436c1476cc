-- The part of a line in one plane more of a body, and the sides of a box.
use Rattle.std.proofs.Common.{◌≡◌, ◌∙◌, ℕ, ◌+◌, ◌<◌, ◌≤◌, ℤ, List, Bool, true, false, ◌&&◌, length, take, get_or, arith, ap, ap₂, refl, subst, sym}
use Rattle.std.proofs.lemmas.List.{get_or_default}
use Rattle.std.proofs.lemmas.List.Folds.{list_all_more}
use Rattle.ray_grid.specs.Selects.{Selects}
use Rattle.ray_shapes.specs.declared.half_line.IndexRange.{IndexRange}
use Rattle.ray_shapes.specs.declared.line.Line.{Line}
use Rattle.ray_shapes.specs.declared.plane.Plane.{Plane}
use Rattle.std.specs.Prelude.{IsTrue}
use Rattle.ray_shapes.specs.BodyParts.{IsPartOf, IsPlaneAt}
use Rattle.ray_shapes.specs.OnLine.{point_on}
use Rattle.ray_shapes.specs.Planes.{IsSide, in_body, plane_holds}

both_of : (a b : Bool) → (a && b) ≡ true → (a ≡ true) × (b ≡ true)
both_of true b h = (refl, h)
both_of false b h = absurd (cc)

holds_same : (planes : List Plane) (n : ℕ) (plane e : Plane) (point : List ℤ) → IsPlaneAt planes n plane
    → plane_holds (get_or planes n e) point ≡ plane_holds plane point
holds_same planes n plane e point there =
    λ i. plane_holds (record { a = there.a e i; b = there.b e i; c = there.c e i; d = there.d e i }) point

-- one plane more
pub one_more : (planes : List Plane) (n : ℕ) (plane : Plane) (line : Line) (part next : IndexRange) → IsPlaneAt planes n plane → IsPartOf planes line n part
    → next.lo ≤ next.hi → next.hi ≤ part.hi
    → Selects next.lo next.hi (λ l. (part.lo ≤ l) × (l < part.hi) × IsTrue (plane_holds plane (point_on line l)))
    → IsPartOf planes line (n + 1) next
one_more planes n plane line part next there is order within exact = record {
  order = order;
  within = let low = is.within in omega (arith, within, low);
  exact = λ l.
      let point = point_on line l in
      let both : in_body (take (n + 1) planes) point ≡ (in_body (take n planes) point && plane_holds plane point) =
      list_all_more (λ p. plane_holds p point) planes n plane there.within
      ∙ ap (λ b. in_body (take n planes) point && b) (holds_same planes n plane plane point there) in (
        λ p. let q = (exact l).0 p in let r = (is.exact l).0 (q.0, q.1) in (r.0, both ∙ ap₂ (λ a b. a && b) r.1 q.2),
        λ p.
            let held = both_of (in_body (take n planes) point) (plane_holds plane point) (sym both ∙ p.1) in
            let q = (is.exact l).1 (p.0, held.0) in
            (exact l).1 (q.0, q.1, held.1),
      );
}

-- a plane with the coefficients and the limit of the one that is there
pub side_at : (planes : List Plane) (n : ℕ) (e : Plane) (a b c : ℤ) (plane : Plane) → plane ≡ record { a = a; b = b; c = c; d = (get_or planes n e).d }
    → n < length planes → ((d : Plane) → IsSide a b c (get_or planes n d)) → IsPlaneAt planes n plane
side_at planes n e a b c plane same lt is =
    subst (IsPlaneAt planes n) (sym same)
    (record {
      within = lt;
      a = λ f. (is f).0;
      b = λ f. (is f).1;
      c = λ f. (is f).2;
      d = λ f. ap (λ (p : Plane). p.d) (get_or_default planes n f e lt);
    })

-- what is in a place, whatever is read past the end
pub plane_at : (planes : List Plane) (n : ℕ) (e : Plane) → n < length planes → IsPlaneAt planes n (get_or planes n e)
plane_at planes n e lt = record {
  within = lt;
  a = λ f. ap (λ (p : Plane). p.a) (get_or_default planes n f e lt);
  b = λ f. ap (λ (p : Plane). p.b) (get_or_default planes n f e lt);
  c = λ f. ap (λ (p : Plane). p.c) (get_or_default planes n f e lt);
  d = λ f. ap (λ (p : Plane). p.d) (get_or_default planes n f e lt);
}
