use Rattle.std.proofs.Common.{◌≡◌, ◌+◌, ◌*◌, ◌^◌, ◌<◌, ◌∙◌, get_or, arith, sym, ap₂}
use Rattle.vf_spans.specs.Members.{count_below}
use Rattle.vf_spans.specs.Words.{in_words}
use Rattle.vf_spans.proofs.WordFlags.{in_words-at}
use Rattle.vf_spans.proofs.WordCounts.{more_word, count_small}
use Rattle.vf_spans.proofs.word_list.count_flags.Goals as goal

pub overflow_add-total : goal.overflow_add-total
overflow_add-total c =
    let fits : get_or c.args.a.now c.loop-n.n 0 < 2 ^ 64 = (c.type_inv.a c.loop-n.n).fits in
    let more = more_word (in_words c.args.a.now) c.loop-n.n (get_or c.args.a.now c.loop-n.n 0) fits (λ k lt. sym (in_words-at c.args.a.now c.loop-n.n k lt)) in
    let small = count_small (64 * (c.loop-n.n + 1)) (in_words c.args.a.now) in
    let so_far : c.loop-n.total ≡ count_below (64 * c.loop-n.n) (in_words c.args.a.now) = c.loop-n.invariant in
    omega arith

pub loop-n-preserved : goal.loop-n-preserved
loop-n-preserved c =
    let fits : get_or c.args.a.now c.loop-n.n 0 < 2 ^ 64 = (c.type_inv.a c.loop-n.n).fits in
    let more = more_word (in_words c.args.a.now) c.loop-n.n (get_or c.args.a.now c.loop-n.n 0) fits (λ k lt. sym (in_words-at c.args.a.now c.loop-n.n k lt)) in
    ap₂ (λ s t. s + t) c.loop-n.invariant c.from-total.ensures ∙ sym more
