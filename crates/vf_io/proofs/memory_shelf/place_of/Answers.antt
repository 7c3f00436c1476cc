use Rattle.std.proofs.Common.{◌≡◌, ◌∙◌, Some, length, string_bytes, refl, ap, sym, false, true}
use Rattle.std.specs.List.{slice_get}
use Rattle.std.specs.Option.{option_map}
use Rattle.std.proofs.lemmas.Option.{slice_get-map, slice_get_read}
use Rattle.std.specs.Str.{bytes_eq}
use Rattle.std.proofs.lemmas.List.{length-map}
use Rattle.vf_io.proofs.FindLemmas.{find-at, find-more, same_name-is}
use Rattle.vf_io.proofs.memory_shelf.place_of.Goals as goal

pub returns-then-eq : goal.returns-then-eq
returns-then-eq c =
    let file = c.index-files-place.result in
    let read : slice_get c.args.files.now c.loop-place.place ≡ Some file = slice_get_read c.args.files.now (length c.args.files.now) c.loop-place.place file refl c.loop-place-test.true c.index-files-place.is in
    let here = slice_get-map (λ f. (string_bytes f.0, f.1.items)) c.args.files.now c.loop-place.place ∙ ap (λ o. option_map (λ f. (string_bytes f.0, f.1.items)) o) read in
    let same = same_name-is (string_bytes file.0) c.args.name.now true (c.if-eq.ensures ∙ ap (λ a. bytes_eq a c.args.name.now) c.as_str.ensures.value) in
    record {
      within = rw length-map c.loop-place-test.true;
      first = find-at _ _ _ _ c.loop-place.invariant here same ∙ sym (ap (λ o. option_map (λ f. f.1) o) here);
    }

pub loop-place-preserved : goal.loop-place-preserved
loop-place-preserved c =
    let file = c.index-files-place.result in
    let read : slice_get c.args.files.now c.loop-place.place ≡ Some file = slice_get_read c.args.files.now (length c.args.files.now) c.loop-place.place file refl c.loop-place-test.true c.index-files-place.is in
    let here = slice_get-map (λ f. (string_bytes f.0, f.1.items)) c.args.files.now c.loop-place.place ∙ ap (λ o. option_map (λ f. (string_bytes f.0, f.1.items)) o) read in
    let other = same_name-is (string_bytes file.0) c.args.name.now false (c.if-eq.ensures ∙ ap (λ a. bytes_eq a c.args.name.now) c.as_str.ensures.value) in
    find-more _ _ _ _ c.loop-place.invariant here other
