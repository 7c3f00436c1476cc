use Rattle.std.proofs.Common.{◌≡◌, ◌∙◌, ℕ, List, rules, ap, length, subst, sym}
use Rattle.std.proofs.lemmas.List.{with_items_is}
use Rattle.vf_spans.specs.Members.{has}
use Rattle.vf_spans.specs.Words.{AreWords, flags_of_words}
use Rattle.vf_spans.proofs.WordFlags.{bound_of_words, has-words, length-words}
use Rattle.vf_spans.proofs.words.Words.clear.Goals as goal

pub invariant_of-self : goal.invariant_of-self
invariant_of-self c =
    let size : length c.clear_words.new.words ≡ c.self.inside.words.len = search rules in
    let words : AreWords c.self.inside.bound c.clear_words.new.words =
    record { size = size ∙ c.self.inside.words.ok.0 ∙ c.self.invariant.size; within = λ i le. c.clear_words.ensures i } in
    subst (λ (z : List ℕ). AreWords c.self.inside.bound z) (sym (with_items_is c.self.inside.words c.clear_words.new.words size)) words

pub returns-clause-bound : goal.returns-clause-bound
returns-clause-bound c = length-words c.self.inside.bound _ ∙ bound_of_words c.self.inside.bound c.self.inside.words.items c.args.self.now c.self.view_is

pub returns-clause-empty : goal.returns-clause-empty
returns-clause-empty c =
    let size : length c.clear_words.new.words ≡ c.self.inside.words.len = search rules in
    let words : AreWords c.self.inside.bound c.clear_words.new.words =
    record { size = size ∙ c.self.inside.words.ok.0 ∙ c.self.invariant.size; within = λ i le. c.clear_words.ensures i } in
    λ i. ap (λ z. has (flags_of_words c.self.inside.bound z) i) (with_items_is c.self.inside.words c.clear_words.new.words size)
    ∙ has-words c.self.inside.bound c.clear_words.new.words i words
    ∙ c.clear_words.ensures i
