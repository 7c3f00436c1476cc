use Rattle.std.proofs.Common.{◌≡◌, ◌<◌, ◌∙◌, ◌/◌, ◌%◌, cond, eqb, arith, rules, ap, length}
use Rattle.std.specs.Vec.{vec_len}
use Rattle.vf_spans.specs.Words.{has_bit}
use Rattle.vf_spans.proofs.WordFlags.{bound_of_words, set_within, has-words, in_words-set, flag_in_words}
use Rattle.vf_spans.proofs.words.Words.set_word.Goals as goal

pub index_mut-requires : goal.index_mut-requires
index_mut-requires c =
    let size : vec_len c.self.inside.words ≡ length c.self.inside.words.items = search rules in
    let all = c.self.invariant.size in
    let bound = bound_of_words c.self.inside.bound c.self.inside.words.items c.args.self.now c.self.view_is in
    omega arith

pub invariant_of-self : goal.invariant_of-self
invariant_of-self c =
    let all = c.self.invariant.size in
    let bound = bound_of_words c.self.inside.bound c.self.inside.words.items c.args.self.now c.self.view_is in
    set_within c.self.inside.bound c.self.inside.words.items c.args.n c.args.word c.self.invariant (omega arith) (λ b lt le. c.requires.within b lt (omega arith))

pub returns-clause-written : goal.returns-clause-written
returns-clause-written c =
    let all = c.self.invariant.size in
    let bound = bound_of_words c.self.inside.bound c.self.inside.words.items c.args.self.now c.self.view_is in
    let there : c.args.n < length c.self.inside.words.items = omega arith in
    λ i. has-words c.self.inside.bound _ i
    (set_within c.self.inside.bound c.self.inside.words.items c.args.n c.args.word c.self.invariant there (λ b lt le. c.requires.within b lt (omega arith)))
    ∙ in_words-set c.self.inside.words.items c.args.n c.args.word i there
    ∙ ap (λ f. cond (eqb (i / 64) c.args.n) (has_bit c.args.word (i % 64)) f) (flag_in_words c.self.inside.bound c.self.inside.words.items c.args.self.now c.self.invariant c.self.view_is i)
