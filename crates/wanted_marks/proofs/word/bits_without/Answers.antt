use Rattle.std.proofs.Common.{◌<◌, ◌-◌, ◌^◌, ◌&&◌, ap, arith, ◌∙◌}
use Rattle.vf_spans.specs.Words.{has_bit}
use Rattle.vf_spans.proofs.WordBits.{has_bit-and, has_bit-not}
use Rattle.wanted_marks.proofs.word.bits_without.Goals as goal

pub returns : goal.returns
returns c = λ k below.
    let fits : c.args.others < 2 ^ 64 = omega arith in
    has_bit-and c.args.word (2 ^ 64 - 1 - c.args.others) k ∙ ap (λ x. has_bit c.args.word k && x) (has_bit-not c.args.others k fits below)
