use Rattle.std.proofs.Common.{◌≡◌, ◌∙◌, ℕ, List, rules, ap, length, subst, sym}
use Rattle.std.proofs.lemmas.List.{with_items_is}
use Rattle.vf_spans.specs.Members.{has}
use Rattle.vf_spans.specs.Words.{AreWords, flags_of_words, words_below}
use Rattle.vf_spans.proofs.WordFlags.{AreCombined, are_combined, has-words, bound_of_words}
use Rattle.vf_spans.proofs.words.Words.combine.Goals as goal

pub combine_words-requires : goal.combine_words-requires
combine_words-requires c =
    let bound = bound_of_words c.self.inside.bound c.self.inside.words.items c.args.self.now c.self.view_is in
    c.as_slice.ensures.words.size ∙ ap words_below (c.requires ∙ sym bound) ∙ sym c.self.invariant.size ∙ ap length (sym c.as_mut_slice.ensures.value)

pub invariant_of-self : goal.invariant_of-self
invariant_of-self c =
    let size : length c.combine_words.new.words ≡ c.self.inside.words.len = search rules in
    let made : AreCombined c.args.operation c.self.inside.bound c.args.self.now c.args.other.now c.combine_words.new.words =
    are_combined c.args.operation c.self.inside.bound c.self.inside.words.items c.as_mut_slice.result.now c.as_slice.result.now c.combine_words.new.words c.args.self.now c.args.other.now
    c.self.invariant c.self.view_is c.as_mut_slice.ensures.value c.as_slice.ensures.words c.as_slice.ensures.flags c.requires c.combine_words.auto.words c.combine_words.ensures in
    subst (λ (z : List ℕ). AreWords c.self.inside.bound z) (sym (with_items_is c.self.inside.words c.combine_words.new.words size)) made.words

pub returns-clause-combined : goal.returns-clause-combined
returns-clause-combined c =
    let size : length c.combine_words.new.words ≡ c.self.inside.words.len = search rules in
    let made : AreCombined c.args.operation c.self.inside.bound c.args.self.now c.args.other.now c.combine_words.new.words =
    are_combined c.args.operation c.self.inside.bound c.self.inside.words.items c.as_mut_slice.result.now c.as_slice.result.now c.combine_words.new.words c.args.self.now c.args.other.now
    c.self.invariant c.self.view_is c.as_mut_slice.ensures.value c.as_slice.ensures.words c.as_slice.ensures.flags c.requires c.combine_words.auto.words c.combine_words.ensures in
    λ i. ap (λ z. has (flags_of_words c.self.inside.bound z) i) (with_items_is c.self.inside.words c.combine_words.new.words size)
    ∙ has-words c.self.inside.bound c.combine_words.new.words i made.words
    ∙ made.flags i
