use Rattle.std.proofs.Common.{◌≡◌, ◌+◌, ◌<◌, ◌≤◌, Some, length, map, take, drop, sym, ap, ◌∙◌, arith, rules, w64, FitsSigned}
use Rattle.std.proofs.lemmas.Int.{to_z-of_z}
use Rattle.std.proofs.lemmas.List.{length-map, take_all, take_more_set}
use Rattle.std.proofs.Math.ListN.{length-set}
use Rattle.toml.specs.Data.{as_integer}
use Rattle.setup_file.specs.Reads.{all_of}
use Rattle.setup_file.proofs.Listed.{all_of-done, all_of-more, all_of-stops, numbers_among-other, numbers_among-same, numbers_in-list, view_drop}
use Rattle.toml.specs.View.{view}
use Rattle.setup_file.proofs.read.numbers_in.Goals as goal

pub returns-then-len : goal.returns-then-len
returns-then-len g c =
    sym (numbers_in-list g.row.N (view c.args.value.now) c.in-Some.values.now.items c.in-Some.ensures
    ∙ numbers_among-other g.row.N c.in-Some.values.now.items (λ same. omega (arith, c.if-len.true, c.len.ensures, same)))

pub returns-in_default-as_integer : goal.returns-in_default-as_integer
returns-in_default-as_integer g c =
    let items = c.in-Some.values.now.items in
    let i = c.loop-i.i in
    let same : length items ≡ g.row.N = omega (arith, c.if-len.false, c.len.ensures) in
    let lt : i < length items = omega (arith, c.loop-i-test.true) in
    let cut = view_drop items i c.index.result.now lt c.index.ensures in
    let other = sym c.as_integer.ensures ∙ c.in_default-as_integer.is in
    sym (numbers_in-list g.row.N (view c.args.value.now) items c.in-Some.ensures ∙ numbers_among-same g.row.N items same
    ∙ all_of-stops as_integer (all_of as_integer (map view items)) (drop i (map view items)) (drop (i + 1) (map view items)) (view c.index.result.now) (take i c.loop-i.numbers) c.loop-i.invariant.so_far cut other)

pub loop-i-preserved : goal.loop-i-preserved
loop-i-preserved g c =
    let items = c.in-Some.values.now.items in
    let i = c.loop-i.i in
    let numbers = c.loop-i.numbers in
    let number = c.in-Some-as_integer.number in
    let fits : FitsSigned w64 number = search rules in
    let same : length items ≡ g.row.N = omega (arith, c.if-len.false, c.len.ensures) in
    let lt : i < length items = omega (arith, c.loop-i-test.true) in
    let room : i < length numbers = omega (arith, c.loop-i.invariant.whole) in
    let cut = view_drop items i c.index.result.now lt c.index.ensures in
    let more = all_of-more as_integer (all_of as_integer (map view items)) (drop i (map view items)) (drop (i + 1) (map view items)) (view c.index.result.now) (take i numbers) number c.loop-i.invariant.so_far cut (sym c.in-Some-as_integer.ensures) in
    record {
      whole = length-set numbers i _ ∙ c.loop-i.invariant.whole;
      so_far = rw (to_z-of_z w64 number fits, take_more_set numbers i number room) more;
    }

pub returns : goal.returns
returns g c =
    let items = c.in-Some.values.now.items in
    let i = c.loop-i.i in
    let same : length items ≡ g.row.N = omega (arith, c.if-len.false, c.len.ensures) in
    let over : length (map view items) ≤ i = omega (arith, c.loop-i-test.false, length-map items view) in
    let done = all_of-done as_integer (all_of as_integer (map view items)) (map view items) i (take i c.loop-i.numbers) c.loop-i.invariant.so_far over in
    let all : take i c.loop-i.numbers ≡ c.loop-i.numbers = take_all i c.loop-i.numbers (omega (arith, c.loop-i-test.false, c.loop-i.invariant.whole)) in
    sym (numbers_in-list g.row.N (view c.args.value.now) items c.in-Some.ensures ∙ numbers_among-same g.row.N items same ∙ done ∙ ap Some all)
