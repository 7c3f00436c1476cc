use Rattle.std.proofs.Common.{◌≡◌, ◌*◌, ◌/◌, ◌≤◌, List, length, arith, sym, ap, ◌∙◌, subst}
use Rattle.std.specs.List.{All}
use Rattle.std.proofs.lemmas.List.{set-get_or}
use Rattle.vf_spans.specs.Words.{words_below}
use Rattle.dexel_rays.specs.Sets.{Sets}
use Rattle.ray_words.specs.Rays.{KeptSets}
use Rattle.ray_words.specs.Rows.{kept_at}
use Rattle.wanted_marks.specs.Rays.{is_possible_at, is_sure_at}
use Rattle.strip_marks.specs.declared.change.WordChange.{WordChange}
use Rattle.strip_marks.specs.Marks.{sets_of}
use Rattle.strip_marks.specs.RayMarks.{AreWordsMarked, HaveWordsBelow, IsAtKept}
use Rattle.strip_marks.specs.Words.{AreSetsOf}
use Rattle.strip_marks.proofs.Lists.{tail_of, tail_within, words_ascend}
use Rattle.strip_marks.proofs.MoreRays.{no_sets}
use Rattle.strip_marks.proofs.WholeRays.{ray_marked}
use Rattle.strip_marks.proofs.ray.mark_strip_ray.Goals as goal

pub returns-in_err-mark_words-clause-others : goal.returns-in_err-mark_words-clause-others
returns-in_err-mark_words-clause-others c = sym (set-get_or c.args.rays.now c.args.n no_sets)

pub offset_bounds-as_slice-start : goal.offset_bounds-as_slice-start
offset_bounds-as_slice-start c =
    let h = c.in_ok-mark_words.ensures in
    let before = c.args.marked.now.changes in
    let le = tail_within before.items c.mark_words.new.marked.changes.items h.added c.as_slice.result.now c.len-start.result h.joined
    c.as_slice.ensures.value (c.len-start.ensures ∙ before.ok.0) in
    let slice_fits = c.as_slice.type_inv in
    omega arith

pub slice_bounds-keep_changed-start : goal.slice_bounds-keep_changed-start
slice_bounds-keep_changed-start c =
    let h = c.in_ok-mark_words.ensures in
    let before = c.args.marked.now.changes in
    tail_within before.items c.mark_words.new.marked.changes.items h.added c.as_slice.result.now c.len-start.result h.joined
    c.as_slice.ensures.value (c.len-start.ensures ∙ before.ok.0)

pub slice_bounds-keep_changed-count : goal.slice_bounds-keep_changed-count
slice_bounds-keep_changed-count c =
    let h = c.in_ok-mark_words.ensures in
    let before = c.args.marked.now.changes in
    tail_within before.items c.mark_words.new.marked.changes.items h.added c.as_slice.result.now c.len-start.result h.joined
    c.as_slice.ensures.value (c.len-start.ensures ∙ before.ok.0)

pub keep_changed-requires-clause-words : goal.keep_changed-requires-clause-words
keep_changed-requires-clause-words c =
    let a = c.args in
    let h = c.in_ok-mark_words.ensures in
    let most = words_below (length (sets_of a.rays.now a.n).stock) in
    subst (λ (l : List WordChange). HaveWordsBelow most l)
    (sym (tail_of a.marked.now.changes.items c.mark_words.new.marked.changes.items h.added c.as_slice.result.now c.len-start.result h.joined
    c.as_slice.ensures.value (c.len-start.ensures ∙ a.marked.now.changes.ok.0)))
    (words_ascend (length c.ray-ray.result.now.sets.stock) a.n (a.window.0 / 64) (words_below a.window.1) most h.added h.holds.each
    h.holds.order (omega (arith, c.requires.window.within, c.requires.ray.bound.stock)))

pub returns-clause-marked : goal.returns-clause-marked
returns-clause-marked c =
    let a = c.args in
    let r = a.marker.now in
    let h = c.in_ok-mark_words.ensures in
    let after = kept_at c.keep_changed.new.rays a.n in
    let same = c.in_ok-keep_changed.ensures.same.sets in
    let own : c.ray-ray.result.now.sets ≡ sets_of a.rays.now a.n = ap (λ (k : KeptSets). k.sets) c.ray-ray.ensures in
    let lo = a.window.0 / 64 in
    let hi = words_below a.window.1 in
    let kept = subst (λ (l : List WordChange). All (IsAtKept after) l)
    (tail_of a.marked.now.changes.items c.mark_words.new.marked.changes.items h.added c.as_slice.result.now c.len-start.result h.joined
    c.as_slice.ensures.value (c.len-start.ensures ∙ a.marked.now.changes.ok.0))
    c.in_ok-keep_changed.ensures.kept in
    let sets = subst (λ (d : Sets). AreSetsOf r d) (sym same) c.requires.ray in
    let marked = subst (λ (d : Sets). AreWordsMarked d (is_sure_at r) (is_possible_at r) a.rapid a.n lo hi h.added h.found)
    (own ∙ sym same) h.holds in
    let from : 64 * lo ≤ a.window.0 = omega arith in
    let to : a.window.1 ≤ 64 * hi = omega arith in
    let order : lo ≤ hi = omega (arith, c.requires.window.order) in
    record {
      added = h.added;
      found = h.found;
      joined = h.joined;
      summed = h.summed;
      holds = ray_marked r after a.rapid a.n a.window.0 a.window.1
          lo hi h.added h.found sets c.requires.window from to order marked
          kept (omega (arith, sets.bound.stock, c.requires.ray.bound.stock, c.bound-bound.ensures.points, ap (λ (d : Sets). length d.stock) own));
    }
