use Rattle.std.proofs.Common.{◌≡◌, ◌∙◌, sym, arith, length}
use Rattle.vf_spans.specs.Members.{has, count_below}
use Rattle.vf_spans.proofs.WordCounts.{counted_words, count_small, count_of_flags}
use Rattle.vf_spans.proofs.words.Words.count.Goals as goal

pub overflow_cast-result : goal.overflow_cast-result
overflow_cast-result c =
    let few : c.count_flags.result ≡ count_below (length c.args.self.now) (has c.args.self.now) =
    counted_words c.count_flags.result c.as_slice.result.now c.args.self.now _ (has c.args.self.now) c.count_flags.ensures c.as_slice.ensures.words c.as_slice.ensures.flags
    c.as_slice.ensures.words.within in
    let small = count_small (length c.args.self.now) (has c.args.self.now) in
    let fits = c.as_slice.ensures.fits in
    omega arith

pub returns : goal.returns
returns c =
    counted_words c.count_flags.result c.as_slice.result.now c.args.self.now _ (has c.args.self.now) c.count_flags.ensures c.as_slice.ensures.words c.as_slice.ensures.flags
    c.as_slice.ensures.words.within ∙ sym (count_of_flags c.args.self.now)
