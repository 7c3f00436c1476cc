-- The planes are those of the body, and all of them where the sides of the box come last.
use Rattle.std.proofs.Common.{◌↔◌, ◌∙◌, ◌<◌, ◌≤◌, IsTrue, List, length, arith, subst, sym}
use Rattle.std.proofs.lemmas.List.{take_all}
use Rattle.ray_shapes.specs.declared.plane.Plane.{Plane}
use Rattle.ray_shapes.specs.Lines.{position}
use Rattle.ray_shapes.specs.Planes.{EndsInBox, in_body}
use Rattle.ray_shapes.proofs.fill.body_part.Goals as goal

pub returns-then-not-is_boxed : goal.returns-then-not-is_boxed
returns-then-not-is_boxed c =
    let line = c.args.line.now in let part = c.part_in.result in
    record {
      order = c.part_in.ensures.order;
      within = c.part_in.ensures.within;
      exact = λ l.
          subst (λ (planes : List Plane). ((part.lo ≤ l) × (l < part.hi)) ↔ ((l < line.points) × IsTrue (in_body planes (position line.family line.first line.step l))))
          c.planes-planes.ensures (c.part_in.ensures.exact l);
    }

pub slice_bounds-part_in-count : goal.slice_bounds-part_in-count
slice_bounds-part_in-count c =
    let sides = c.is_boxed.ensures c.if-not-is_boxed.false in subst (λ (planes : List Plane). 6 ≤ length planes) (sym c.planes-planes.ensures) sides.many

pub part_in_box-requires : goal.part_in_box-requires
part_in_box-requires c = record {
  sides = subst EndsInBox (sym c.planes-planes.ensures) (c.is_boxed.ensures c.if-not-is_boxed.false);
  part = record { order = c.part_in-part.ensures.order; within = c.part_in-part.ensures.within; exact = c.part_in-part.ensures.exact };
}

pub returns : goal.returns
returns c =
    let line = c.args.line.now in let part = c.part_in_box.result in let planes = c.planes-planes.result.now in
    record {
      order = c.part_in_box.ensures.order;
      within = c.part_in_box.ensures.within;
      exact = λ l.
          subst (λ (ps : List Plane). ((part.lo ≤ l) × (l < part.hi)) ↔ ((l < line.points) × IsTrue (in_body ps (position line.family line.first line.step l))))
          (take_all (length planes) planes (omega arith) ∙ c.planes-planes.ensures) (c.part_in_box.ensures.exact l);
    }
