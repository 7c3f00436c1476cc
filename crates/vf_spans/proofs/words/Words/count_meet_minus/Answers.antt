use Rattle.std.proofs.Common.{◌≡◌, ◌&&◌, not, ap, ap₂, arith, length}
use Rattle.vf_spans.specs.Members.{has, count_below}
use Rattle.vf_spans.specs.Words.{in_words}
use Rattle.vf_spans.proofs.WordCounts.{counted_words, count_small}
use Rattle.vf_spans.proofs.words.Words.count_meet_minus.Goals as goal

pub overflow_cast-result : goal.overflow_cast-result
overflow_cast-result c =
    let few : c.count_flags_meet_minus.result ≡ count_below (length c.args.self.now) (λ i. has c.args.self.now i && (has c.args.second.now i && not (has c.args.third.now i))) =
    counted_words c.count_flags_meet_minus.result c.as_slice.result.now c.args.self.now _ (λ i. has c.args.self.now i && (has c.args.second.now i && not (has c.args.third.now i))) c.count_flags_meet_minus.ensures c.as_slice.ensures.words (λ i. ap₂ (λ p q. p && q) (c.as_slice.ensures.flags i) (ap₂ (λ p q. p && not q) (c.as_slice-2.ensures.flags i) (c.as_slice-3.ensures.flags i)))
    (λ i le. ap (λ p. p && (in_words c.as_slice-2.result.now i && not (in_words c.as_slice-3.result.now i))) (c.as_slice.ensures.words.within i le)) in
    let small = count_small (length c.args.self.now) (λ i. has c.args.self.now i && (has c.args.second.now i && not (has c.args.third.now i))) in
    let fits = c.as_slice.ensures.fits in
    omega arith

pub returns : goal.returns
returns c =
    counted_words c.count_flags_meet_minus.result c.as_slice.result.now c.args.self.now _ (λ i. has c.args.self.now i && (has c.args.second.now i && not (has c.args.third.now i))) c.count_flags_meet_minus.ensures c.as_slice.ensures.words (λ i. ap₂ (λ p q. p && q) (c.as_slice.ensures.flags i) (ap₂ (λ p q. p && not q) (c.as_slice-2.ensures.flags i) (c.as_slice-3.ensures.flags i)))
    (λ i le. ap (λ p. p && (in_words c.as_slice-2.result.now i && not (in_words c.as_slice-3.result.now i))) (c.as_slice.ensures.words.within i le))
