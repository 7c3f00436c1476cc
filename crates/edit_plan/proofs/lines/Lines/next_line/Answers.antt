use Rattle.std.proofs.Common.{◌≡◌, ◌∙◌, length, true, false, length-append, arith, rules, sym, ap}
use Rattle.vf_text.specs.Blanks.{is_blank_text}
use Rattle.vf_text.specs.Lines.{line_of}
use Rattle.edit_plan.specs.Words.{ahead_of_comment}
use Rattle.edit_plan.proofs.WordLemmas.{worded_from-blank, worded_from-some}
use Rattle.edit_plan.proofs.lines.Lines.next_line.Goals as goal

pub returns-then-not-has_only_blanks : goal.returns-then-not-has_only_blanks
returns-then-not-has_only_blanks c =
    let text = c.cut_comment-text.result.now in
    let piece = c.split_short_line.result.0.now in
    let is : text ≡ ahead_of_comment (line_of piece) = search rules in
    let other : is_blank_text text ≡ false = search rules in
    sym c.loop-self.invariant.same
    ∙ worded_from-some c.loop-self.self-inside.number c.loop-self.self-inside.rest.now piece c.split_short_line.result.1.now text c.split_short_line.ensures.first is other

pub loop-self-preserved : goal.loop-self-preserved
loop-self-preserved c =
    let text = c.cut_comment-text.result.now in
    let piece = c.split_short_line.result.0.now in
    let is : text ≡ ahead_of_comment (line_of piece) = search rules in
    let blank : is_blank_text text ≡ true = search rules in
    record {
      same = sym (worded_from-blank c.loop-self.self-inside.number c.loop-self.self-inside.rest.now piece c.split_short_line.result.1.now text c.split_short_line.ensures.first is blank)
          ∙ c.loop-self.invariant.same;
      small = omega (arith, ap length c.split_short_line.ensures.whole, length-append piece c.split_short_line.result.1.now, c.split_short_line.ensures.some, c.loop-self.invariant.small);
    }
