use Rattle.std.proofs.Common.{◌≡◌, ◌+◌, ◌≤◌, Ok, true, false, is_some, [], ◌∷◌, ◌++◌, length, map, drop, sym, ap, ◌∙◌, arith, rules}
use Rattle.std.proofs.lemmas.Grind.{common_steps}
use Rattle.std.proofs.lemmas.List.{length-map, length_push}
use Rattle.std.proofs.lemmas.List.Elements.{All-push, All-same}
use Rattle.toml.specs.Data.{as_table}
use Rattle.toml.specs.View.{view}
use Rattle.setup_file.specs.Bodies.{bodies_of, body_of}
use Rattle.setup_file.specs.Reads.{all_of}
use Rattle.setup_file.specs.Sound.{IsBody}
use Rattle.setup_file.proofs.BodyLists.{bodies-counted, bodies-miscounted, bodies-untabled, each-ends}
use Rattle.setup_file.proofs.Listed.{each-done, each-more, view_drop}
use Rattle.setup_file.proofs.bodies.read_bodies.Goals as goal

pub returns-then-not-are_tables-clause-refused : goal.returns-then-not-are_tables-clause-refused
returns-then-not-are_tables-clause-refused c =
    let other : is_some (all_of as_table (map view c.in-Some.values.now.items)) ≡ false = first_of (search rules, grind (arith, common_steps)) in
    bodies-untabled c.args.list.now (view c.args.value.now) c.in-Some.values.now.items c.in-Some.ensures other

pub returns-in-Err-clause-refused : goal.returns-in-Err-clause-refused
returns-in-Err-clause-refused c =
    let tabled : is_some (all_of as_table (map view c.in-Some.values.now.items)) ≡ true = first_of (search rules, grind (arith, common_steps)) in
    bodies-miscounted c.args.list.now (view c.args.value.now) c.in-Some.values.now.items c.in-Err.fault c.in-Some.ensures tabled c.in-Err.ensures.count

pub returns-in-Err-read_body-clause-refused : goal.returns-in-Err-read_body-clause-refused
returns-in-Err-read_body-clause-refused c =
    let list = c.args.list.now in
    let items = c.deref-item-items.result.now in
    let i = c.loop-item.item-index in
    let tabled : is_some (all_of as_table (map view c.in-Some.values.now.items)) ≡ true = first_of (search rules, grind (arith, common_steps)) in
    let due = bodies-counted list (view c.args.value.now) c.in-Some.values.now.items items c.in_default-as_many.field-0 c.in-Some.ensures tabled c.in_default-as_many.ensures.count c.deref-item-items.ensures.value in
    each-ends (body_of list) (bodies_of list (view c.args.value.now)) (drop i (map view items)) (drop (i + 1) (map view items)) (view c.item-item.result) c.loop-item.bodies.items c.in-Err-read_body.end
    (due ∙ c.loop-item.invariant.so_far) (view_drop items i c.item-item.result c.loop-item-test.true c.item-item.is) c.in-Err-read_body.ensures.refused

pub loop-item-preserved : goal.loop-item-preserved
loop-item-preserved c =
    let list = c.args.list.now in
    let items = c.deref-item-items.result.now in
    let i = c.loop-item.item-index in
    let before = c.loop-item.bodies.items in
    let pushed : c.push.new.self.items ≡ c.loop-item.bodies.items ++ c.in-Ok.body ∷ [] = first_of (search rules, grind (arith, common_steps)) in
    let more = each-more (body_of list) _ (drop i (map view items)) (drop (i + 1) (map view items)) (view c.item-item.result) before c.in-Ok.body
    c.loop-item.invariant.so_far (view_drop items i c.item-item.result c.loop-item-test.true c.item-item.is) c.in-Ok.ensures.ok in
    record {
      so_far = rw pushed more;
      many = ap length pushed ∙ length_push before c.in-Ok.body ∙ ap (λ n. n + 1) c.loop-item.invariant.many;
      in_range = All-same IsBody _ _ pushed (All-push IsBody before c.in-Ok.body c.loop-item.invariant.in_range c.in-Ok.ensures.valid);
    }

pub returns-clause-ok : goal.returns-clause-ok
returns-clause-ok c =
    let list = c.args.list.now in
    let items = c.deref-item-items.result.now in
    let i = c.loop-item.item-index in
    let tabled : is_some (all_of as_table (map view c.in-Some.values.now.items)) ≡ true = first_of (search rules, grind (arith, common_steps)) in
    let due = bodies-counted list (view c.args.value.now) c.in-Some.values.now.items items c.in_default-as_many.field-0 c.in-Some.ensures tabled c.in_default-as_many.ensures.count c.deref-item-items.ensures.value in
    let over : length (map view items) ≤ i = omega (arith, c.loop-item-test.false, length-map items view) in
    each-done (body_of list) (bodies_of list (view c.args.value.now)) (map view items) i c.loop-item.bodies.items (due ∙ c.loop-item.invariant.so_far) over ∙ ap Ok (sym c.new.ensures)
