use Rattle.std.proofs.Common.{◌≡◌, false, ◌*◌, ◌+◌, ◌&&◌, ap, ap₂, sym, ◌∙◌}
use Rattle.vf_spans.specs.Members.{in_range}
use Rattle.vf_spans.specs.Words.{has_bit}
use Rattle.vf_spans.proofs.WordBits.{has_bit-and, has_bit-zero}
use Rattle.ray_words.specs.Rays.{is_wanted_at}
use Rattle.strip_marks.proofs.word.wanted_in.Goals as goal

pub returns-then-wanted-eq0 : goal.returns-then-wanted-eq0
returns-then-wanted-eq0 c = λ b lt.
    let l = 64 * c.args.word + b in
    let none : is_wanted_at c.args.ray.now.sets l ≡ false =
    sym (c.wanted-wanted.ensures b lt) ∙ ap (λ w. has_bit w b) c.if-wanted-eq0.true ∙ has_bit-zero b in
    has_bit-zero b ∙ sym (ap (λ x. x && in_range l c.args.window) none)

pub returns : goal.returns
returns c = λ b lt.
    has_bit-and c.wanted-wanted.result c.bits_of_range.result b
    ∙ ap₂ (λ x y. x && y) (c.wanted-wanted.ensures b lt) (c.bits_of_range.ensures b lt)
