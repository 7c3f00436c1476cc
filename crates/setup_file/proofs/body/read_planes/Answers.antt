use Rattle.std.proofs.Common.{◌≡◌, ◌+◌, ◌≤◌, Ok, [], ◌∷◌, ◌++◌, length, map, drop, sym, ap, ◌∙◌, arith, rules}
use Rattle.std.proofs.lemmas.Grind.{common_steps}
use Rattle.std.proofs.lemmas.List.{length-map, length_push}
use Rattle.std.proofs.lemmas.List.Elements.{All-push, All-same}
use Rattle.toml.specs.View.{view}
use Rattle.setup_file.specs.Bodies.{plane_of, planes_of}
use Rattle.setup_file.specs.Sound.{IsPlane}
use Rattle.setup_file.proofs.BodyLists.{planes-counted, planes-miscounted}
use Rattle.setup_file.proofs.Listed.{each-done, each-more, each-stops, view_drop}
use Rattle.setup_file.proofs.body.read_planes.Goals as goal

pub returns-in-Err-clause-refused : goal.returns-in-Err-clause-refused
returns-in-Err-clause-refused c =
    planes-miscounted c.args.key (view c.args.value.now) c.in-Some.values.now.items c.in-Err.fault c.in-Some.ensures c.in-Err.ensures.count

pub returns-in-Err-read_plane-clause-refused : goal.returns-in-Err-read_plane-clause-refused
returns-in-Err-read_plane-clause-refused c =
    let key = c.args.key in
    let items = c.deref-item-items.result.now in
    let i = c.loop-item.item-index in
    let due = planes-counted key (view c.args.value.now) c.in-Some.values.now.items items c.in_default-as_many.field-0 c.in-Some.ensures c.in_default-as_many.ensures.count c.deref-item-items.ensures.value in
    each-stops (plane_of key) (planes_of key (view c.args.value.now)) (drop i (map view items)) (drop (i + 1) (map view items)) (view c.item-item.result) c.loop-item.planes.items c.in-Err-read_plane.fault
    (due ∙ c.loop-item.invariant.so_far) (view_drop items i c.item-item.result c.loop-item-test.true c.item-item.is) (sym c.in-Err-read_plane.ensures.plane)

pub loop-item-preserved : goal.loop-item-preserved
loop-item-preserved c =
    let key = c.args.key in
    let items = c.deref-item-items.result.now in
    let i = c.loop-item.item-index in
    let before = c.loop-item.planes.items in
    let pushed : c.push.new.self.items ≡ c.loop-item.planes.items ++ c.in-Ok.plane ∷ [] = first_of (search rules, grind (arith, common_steps)) in
    let more = each-more (plane_of key) _ (drop i (map view items)) (drop (i + 1) (map view items)) (view c.item-item.result) before c.in-Ok.plane
    c.loop-item.invariant.so_far (view_drop items i c.item-item.result c.loop-item-test.true c.item-item.is) (sym c.in-Ok.ensures.plane) in
    record {
      so_far = rw pushed more;
      many = ap length pushed ∙ length_push before c.in-Ok.plane ∙ ap (λ n. n + 1) c.loop-item.invariant.many;
      in_range = All-same IsPlane _ _ pushed (All-push IsPlane before c.in-Ok.plane c.loop-item.invariant.in_range c.in-Ok.ensures.ranges);
    }

pub returns-clause-ok : goal.returns-clause-ok
returns-clause-ok c =
    let key = c.args.key in
    let items = c.deref-item-items.result.now in
    let i = c.loop-item.item-index in
    let due = planes-counted key (view c.args.value.now) c.in-Some.values.now.items items c.in_default-as_many.field-0 c.in-Some.ensures c.in_default-as_many.ensures.count c.deref-item-items.ensures.value in
    let over : length (map view items) ≤ i = omega (arith, c.loop-item-test.false, length-map items view) in
    each-done (plane_of key) (planes_of key (view c.args.value.now)) (map view items) i c.loop-item.planes.items (due ∙ c.loop-item.invariant.so_far) over ∙ ap Ok (sym c.new.ensures)
