use Rattle.std.proofs.Common.{◌≡◌, ◌∙◌, ap, arith, replicate}
use Rattle.vf_spans.specs.Words.{in_words}
use Rattle.vf_spans.proofs.WordFlags.{length-words, has-words, are_zeros, in_words-zeros}
use Rattle.vf_spans.proofs.words.Words.new.Goals as goal

pub invariant_of-result : goal.invariant_of-result
invariant_of-result c =
    are_zeros c.args.bound c.div_ceil.result c.in_ok-words.words.items (c.in_ok-words.ensures.items_if_clones_equal (λ y same. same)) (omega arith)

pub returns-clause-bound : goal.returns-clause-bound
returns-clause-bound c = length-words c.args.bound c.in_ok-words.words.items

pub returns-clause-empty : goal.returns-clause-empty
returns-clause-empty c =
    let zeros : c.in_ok-words.words.items ≡ replicate c.div_ceil.result 0 = c.in_ok-words.ensures.items_if_clones_equal (λ y same. same) in
    λ i. has-words c.args.bound c.in_ok-words.words.items i (are_zeros c.args.bound c.div_ceil.result c.in_ok-words.words.items zeros (omega arith))
    ∙ ap (λ z. in_words z i) zeros
    ∙ in_words-zeros c.div_ceil.result i
